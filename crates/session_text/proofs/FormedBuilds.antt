-- What the words of `clearmake V ..` say has its form.
use Rattle.std.proofs.Common.{◌≡◌, ◌≢◌, ℕ, ◌+◌, ◌≤◌, Bool, true, false, cond, not, Option, Some, None, List, [], ◌∷◌, ◌++◌}
use Rattle.std.proofs.Common.{length, length-append, length-take, length-drop, take, drop, refl, sym, ap, ◌∙◌, arith}
use Rattle.std.specs.Prelude.{Ok, Err, IfOk, IfSome, is_none, ◌&&◌, ◌==◌, codes, map, unwrap_or}
use Rattle.std.specs.List.{AllByRecursion, IsDistinct, list_all, position}
use Rattle.std.specs.Str.{bytes_eq}
use Rattle.std.proofs.lemmas.Slice.Eq.{bytes_eq-Decides}
use Rattle.cc_names.specs.Names.{IsName}
use Rattle.cc_names.specs.Paths.{IsPath}
use Rattle.cc_names.specs.declared.commands.Macro.{Macro}
use Rattle.cc_names.specs.declared.refusals.SessionCause.TheVariants.{BadWord}
use Rattle.session_text.specs.Clearmake.{is_equals, with_macro, Asked, nothing_asked, with_goal, with_asked_macro, with_word}
use Rattle.session_text.specs.Clearmake.{with_one, with_jobs, with_file, asked_behind, is_option, with_option, asked_by}
use Rattle.session_text.specs.Clearmake.{build_of, clearmake, is_macro_byte, is_word_byte}
use Rattle.session_text.specs.Formed.{IsClearmake, IsMacro, macro_name}
use Rattle.session_text.specs.Shapes.{read_first_name, behind_first}
use Rattle.session_text.specs.Words.{Said, path_word, jobs_word, both, says}
use Rattle.session_text.proofs.FormedWords.{both_is, says_is, path_word_is, jobs_word_is, first_name_is}

-- what was asked has the form of what may be asked, with at most so many members in each list
pub record IsAsked (limit count : ℕ) (asked : Asked) : Type 0 where
  pub file : IfSome asked.file IsPath
  pub jobs : IfSome asked.jobs (λ jobs. (1 ≤ jobs) × (jobs ≤ 64))
  pub macros : AllByRecursion (IsMacro limit) asked.macros
  pub distinct : IsDistinct bytes_eq (map macro_name asked.macros)
  pub few_macros : length asked.macros ≤ count
  pub goals : AllByRecursion IsPath asked.goals
  pub few_goals : length asked.goals ≤ count

macro_replaced : (limit : ℕ) (macro : Macro) (macros : List Macro) (name text : List ℕ) (same : Bool) (more : List Macro)
    → IsMacro limit macro → AllByRecursion (IsMacro limit) macros → AllByRecursion (IsMacro limit) more → length text ≤ limit
    → list_all is_word_byte text ≡ true
    → AllByRecursion (IsMacro limit) (cond same (record { name = macro.name; value = text } ∷ macros) (macro ∷ more))
macro_replaced limit macro macros name text true more m ms mores t w = ((m.0, m.1, m.2, t, w), ms)
macro_replaced limit macro macros name text false more m ms mores t w = (m, mores)

macros_with : (limit : ℕ) (macros : List Macro) (name text : List ℕ) → AllByRecursion (IsMacro limit) macros
    → IsMacro limit (record { name = name; value = text }) → AllByRecursion (IsMacro limit) (with_macro macros name text)
macros_with limit [] name text ms m = (m, tt)
macros_with limit (macro ∷ macros) name text ms m =
    macro_replaced limit macro macros name text (bytes_eq name macro.name) (with_macro macros name text) ms.0 ms.1
    (macros_with limit macros name text ms.1 m) m.3 m.4

few_with : (macros : List Macro) (name text : List ℕ) → length (with_macro macros name text) ≤ length macros + 1
few_with [] name text = omega arith
few_with (macro ∷ macros) name text = by (bytes_eq name macro.name) (few_with macros name text)
  where
    by : (same : Bool) → length (with_macro macros name text) ≤ length macros + 1
        → length (cond same (record { name = macro.name; value = text } ∷ macros) (macro ∷ with_macro macros name text))
        ≤ length (macro ∷ macros) + 1
    by true h = omega arith
    by false h = omega arith

differs : (a b : List ℕ) (test : Bool) → bytes_eq b a ≡ test → bytes_eq a b ≡ false → bytes_eq b a ≡ false
differs a b false t h = t
differs a b true t h =
    let same = (bytes_eq-Decides b a).0 t in
    let again = (bytes_eq-Decides a b).1 (sym same) in
    let both : true ≡ false = sym again ∙ h in absurd (cc)

others_with : (x : List ℕ) (macros : List Macro) (name text : List ℕ) → AllByRecursion (λ y. bytes_eq x y ≡ false)
    (map macro_name macros) → bytes_eq x name ≡ false → AllByRecursion (λ y. bytes_eq x y ≡ false)
    (map macro_name (with_macro macros name text))
others_with x [] name text ms h = (h, tt)
others_with x (macro ∷ macros) name text ms h = by (bytes_eq name macro.name) (others_with x macros name text ms.1 h)
  where
    by : (same : Bool) → AllByRecursion (λ y. bytes_eq x y ≡ false) (map macro_name (with_macro macros name text))
        → AllByRecursion (λ y. bytes_eq x y ≡ false) (map macro_name (cond same (record { name = macro.name; value = text }
        ∷ macros) (macro ∷ with_macro macros name text)))
    by true more = ms
    by false more = (ms.0, more)

distinct_with : (macros : List Macro) (name text : List ℕ) → IsDistinct bytes_eq (map macro_name macros)
    → IsDistinct bytes_eq (map macro_name (with_macro macros name text))
unfolding IsDistinct
distinct_with [] name text d = (tt, tt)
distinct_with (macro ∷ macros) name text d = by (bytes_eq name macro.name) refl (distinct_with macros name text d.1)
  where
    by : (same : Bool) → bytes_eq name macro.name ≡ same → IsDistinct bytes_eq (map macro_name (with_macro macros name text))
        → IsDistinct bytes_eq (map macro_name (cond same (record { name = macro.name; value = text } ∷ macros)
        (macro ∷ with_macro macros name text)))
    by true is more = d
    by false is more = (
      others_with macro.name macros name text d.0 (differs name macro.name (bytes_eq macro.name name) refl is),
      more,
    )

-- the same with more room
wider : (limit count : ℕ) (asked : Asked) → IsAsked limit count asked → IsAsked limit (count + 1) asked
wider limit count asked h = record {
  file = h.file;
  jobs = h.jobs;
  macros = h.macros;
  distinct = h.distinct;
  few_macros = omega (arith, h.few_macros);
  goals = h.goals;
  few_goals = omega (arith, h.few_goals);
}

paths_with : (paths : List (List ℕ)) (path : List ℕ) → AllByRecursion IsPath paths → IsPath path
    → AllByRecursion IsPath (paths ++ path ∷ [])
paths_with [] path ps p = (p, tt)
paths_with (first ∷ paths) path ps p = (ps.0, paths_with paths path ps.1 p)

goal_is : (limit count : ℕ) (asked : Asked) → IsAsked limit count asked → (goal : List ℕ) → IsPath goal
    → IsAsked limit (count + 1) (with_goal asked goal)
goal_is limit count asked h goal p = record {
  file = h.file;
  jobs = h.jobs;
  macros = h.macros;
  distinct = h.distinct;
  few_macros = omega (arith, h.few_macros);
  goals = paths_with asked.goals goal h.goals p;
  few_goals = omega (arith, h.few_goals, length-append asked.goals (goal ∷ []));
}

some_name : (name : List ℕ) → not (length name == 0) ≡ true → name ≢ []
some_name [] h e = cc
some_name (b ∷ bs) h e = let l : length (b ∷ bs) ≡ 0 = ap length e in absurd (omega arith)

definition_is : (limit count : ℕ) (asked : Asked) (name text : List ℕ) → IsAsked limit count asked → length name ≤ limit
    → length text ≤ limit → IfOk (with_asked_macro asked name text) (IsAsked limit (count + 1))
definition_is limit count asked name text h n t = by (not (length name == 0)) (list_all is_macro_byte name)
    (list_all is_word_byte text) refl refl refl
  where
    by : (some letters plain : Bool) → not (length name == 0) ≡ some → list_all is_macro_byte name ≡ letters
        → list_all is_word_byte text ≡ plain → IfOk (cond ((some && letters) && plain)
        (Ok (record asked { macros = with_macro asked.macros name text })) (Err BadWord)) (IsAsked limit (count + 1))
    by false letters plain s l w = tt
    by true false plain s l w = tt
    by true true false s l w = tt
    by true true true s l w = record {
      file = h.file;
      jobs = h.jobs;
      macros = macros_with limit asked.macros name text h.macros (some_name name s, l, n, t, w);
      distinct = distinct_with asked.macros name text h.distinct;
      few_macros = omega (arith, h.few_macros, few_with asked.macros name text);
      goals = h.goals;
      few_goals = omega (arith, h.few_goals);
    }

word_is : (limit count : ℕ) (asked : Asked) (word : List ℕ) (place : Option ℕ) → IsAsked limit count asked → length word ≤ limit
    → IfOk (with_word asked word place) (IsAsked limit (count + 1))
word_is limit count asked word None h w =
    says_is IsPath (IsAsked limit (count + 1)) (with_goal asked) (path_word word) (goal_is limit count asked h)
    (path_word_is word)
word_is limit count asked word (Some place) h w =
    definition_is limit count asked (take place word) (drop (place + 1) word) h
    (omega (arith, length-take place word)) (omega (arith, length-drop (place + 1) word))

one_is : (limit count : ℕ) (asked : Asked) (word : List ℕ) → IsAsked limit count asked → length word ≤ limit
    → IfOk (with_one asked word) (IsAsked limit (count + 1))
one_is limit count asked word h w = by (bytes_eq word (codes "-V")) (bytes_eq word (codes "-u")) (bytes_eq word (codes "-k"))
  where
    more : IsAsked limit (count + 1) asked
    more = wider limit count asked h

    by : (own rebuild keep : Bool) → IfOk (cond own (Ok (record asked { own_only = true }))
        (cond rebuild (Ok (record asked { rebuild = true })) (cond keep (Ok asked)
        (with_word asked word (position is_equals word))))) (IsAsked limit (count + 1))
    by true rebuild keep = record {
      file = more.file;
      jobs = more.jobs;
      macros = more.macros;
      distinct = more.distinct;
      few_macros = more.few_macros;
      goals = more.goals;
      few_goals = more.few_goals;
    }
    by false true keep = record {
      file = more.file;
      jobs = more.jobs;
      macros = more.macros;
      distinct = more.distinct;
      few_macros = more.few_macros;
      goals = more.goals;
      few_goals = more.few_goals;
    }
    by false false true = more
    by false false false = word_is limit count asked word (position is_equals word) h w

jobs_is : (limit count : ℕ) (asked : Asked) (n : List ℕ) → IsAsked limit count asked
    → IfOk (with_jobs asked n) (IsAsked limit (count + 1))
jobs_is limit count asked n h = by (is_none asked.jobs)
  where
    more : IsAsked limit (count + 1) asked
    more = wider limit count asked h

    by : (none : Bool) → IfOk (cond none (says (λ jobs. record asked { jobs = Some jobs }) (jobs_word n)) (Err BadWord))
        (IsAsked limit (count + 1))
    by false = tt
    by true =
        says_is (λ jobs. (1 ≤ jobs) × (jobs ≤ 64)) (IsAsked limit (count + 1)) (λ jobs. record asked { jobs = Some jobs })
        (jobs_word n)
        (λ jobs j. record {
          file = more.file;
          jobs = j;
          macros = more.macros;
          distinct = more.distinct;
          few_macros = more.few_macros;
          goals = more.goals;
          few_goals = more.few_goals;
        })
        (jobs_word_is n)

file_is : (limit count : ℕ) (asked : Asked) (p : List ℕ) → IsAsked limit count asked
    → IfOk (with_file asked p) (IsAsked limit (count + 1))
file_is limit count asked p h = by (is_none asked.file)
  where
    more : IsAsked limit (count + 1) asked
    more = wider limit count asked h

    by : (none : Bool) → IfOk (cond none (says (λ file. record asked { file = Some file }) (path_word p)) (Err BadWord))
        (IsAsked limit (count + 1))
    by false = tt
    by true =
        says_is IsPath (IsAsked limit (count + 1)) (λ file. record asked { file = Some file }) (path_word p)
        (λ file f. record {
          file = f;
          jobs = more.jobs;
          macros = more.macros;
          distinct = more.distinct;
          few_macros = more.few_macros;
          goals = more.goals;
          few_goals = more.few_goals;
        })
        (path_word_is p)

option_is : (limit count : ℕ) (asked : Asked) (word next : List ℕ) → IsAsked limit count asked
    → IfOk (with_option asked word next) (IsAsked limit (count + 1))
option_is limit count asked word next h = by (bytes_eq word (codes "-J"))
  where
    by : (jobs : Bool) → IfOk (cond jobs (with_jobs asked next) (with_file asked next)) (IsAsked limit (count + 1))
    by true = jobs_is limit count asked next h
    by false = file_is limit count asked next h

behind_is : (limit count most : ℕ) (more : Asked → Said Asked) (said : Said Asked)
    → ((asked : Asked) → IsAsked limit count asked → IfOk (more asked) (IsAsked limit most)) → IfOk said (IsAsked limit count)
    → IfOk (asked_behind more said) (IsAsked limit most)
behind_is limit count most more (Ok asked) f h = f asked h
behind_is limit count most more (Err cause) f h = tt

widest : (limit count most : ℕ) (asked : Asked) → count ≤ most → IsAsked limit count asked → IsAsked limit most asked
widest limit count most asked le h = record {
  file = h.file;
  jobs = h.jobs;
  macros = h.macros;
  distinct = h.distinct;
  few_macros = omega (arith, h.few_macros);
  goals = h.goals;
  few_goals = omega (arith, h.few_goals);
}

widest_said : (limit count most : ℕ) (said : Said Asked) → count ≤ most → IfOk said (IsAsked limit count)
    → IfOk said (IsAsked limit most)
widest_said limit count most (Ok asked) le h = widest limit count most asked le h
widest_said limit count most (Err cause) le h = tt

asked_is : (limit count most : ℕ) (words : List (List ℕ)) (asked : Asked) → IsAsked limit count asked
    → AllByRecursion (λ word. length word ≤ limit) words → count + length words ≤ most
    → IfOk (asked_by words asked) (IsAsked limit most)
asked_is limit count most [] asked h ws m = widest limit count most asked (omega arith) h
asked_is limit count most (word ∷ []) asked h ws m = by (is_option word)
  where
    by : (takes : Bool) → IfOk (cond takes (Err BadWord) (with_one asked word)) (IsAsked limit most)
    by true = tt
    by false = widest_said limit (count + 1) most (with_one asked word) (omega arith) (one_is limit count asked word h ws.0)
asked_is limit count most (word ∷ next ∷ words) asked h ws m =
    by (is_option word)
    (λ a b. asked_is limit (count + 1) most words a b ws.1.1 (omega arith))
    (λ a b. asked_is limit (count + 1) most (next ∷ words) a b ws.1 (omega arith))
  where
    by : (takes : Bool) → ((a : Asked) → IsAsked limit (count + 1) a → IfOk (asked_by words a) (IsAsked limit most))
        → ((a : Asked) → IsAsked limit (count + 1) a → IfOk (asked_by (next ∷ words) a) (IsAsked limit most))
        → IfOk (cond takes (asked_behind (asked_by words) (with_option asked word next))
        (asked_behind (asked_by (next ∷ words)) (with_one asked word))) (IsAsked limit most)
    by true two one = behind_is limit (count + 1) most (asked_by words) (with_option asked word next) two
        (option_is limit count asked word next h)
    by false two one = behind_is limit (count + 1) most (asked_by (next ∷ words)) (with_one asked word) one
        (one_is limit count asked word h ws.0)

nothing_is : (limit : ℕ) → IsAsked limit 0 nothing_asked
unfolding IsDistinct
nothing_is limit = record {
  file = tt;
  jobs = tt;
  macros = tt;
  distinct = tt;
  few_macros = omega arith;
  goals = tt;
  few_goals = omega arith;
}

jobs_of : (jobs : Option ℕ) → IfSome jobs (λ n. (1 ≤ n) × (n ≤ 64)) → (1 ≤ unwrap_or jobs 1) × (unwrap_or jobs 1 ≤ 64)
jobs_of None h = (omega arith, omega arith)
jobs_of (Some n) h = h

rest_within : (limit : ℕ) (words : List (List ℕ)) → AllByRecursion (λ word. length word ≤ limit) words
    → AllByRecursion (λ word. length word ≤ limit) (behind_first words)
rest_within limit [] h = tt
rest_within limit (word ∷ words) h = h.1

rest_fewer : (words : List (List ℕ)) → length (behind_first words) ≤ length words
rest_fewer [] = omega arith
rest_fewer (word ∷ words) = omega arith

pub clearmake_is : (limit : ℕ) (words : List (List ℕ)) → length words ≤ limit → AllByRecursion (λ word. length word ≤ limit) words
    → IfOk (clearmake words) (IsClearmake limit)
clearmake_is limit words few within =
    says_is (λ said. IsName said.0 × IsAsked limit limit said.1) (IsClearmake limit) (λ said. build_of said.0 said.1)
    (both (read_first_name words) (asked_by (behind_first words) nothing_asked))
    (λ said h. let jobs = jobs_of said.1.jobs h.1.jobs in (
      h.0,
      h.1.file,
      jobs.0,
      jobs.1,
      ((h.1.few_macros, h.1.macros), h.1.distinct),
      (h.1.few_goals, h.1.goals),
    ))
    (both_is IsName (IsAsked limit limit) (read_first_name words) (asked_by (behind_first words) nothing_asked)
    (first_name_is words)
    (asked_is limit 0 limit (behind_first words) nothing_asked (nothing_is limit) (rest_within limit words within)
    (omega (arith, rest_fewer words, few))))
