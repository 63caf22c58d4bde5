-- A makefile that is being read, line by line.
use Rattle.std.proofs.Common.{◌≡◌, refl, sym, ap, ◌∙◌, subst, ℕ, zero, suc, ◌-◌, arith, Bool, true, false, ◌&&◌, ◌||◌, Option}
use Rattle.std.proofs.Common.{Some, None, Result, Ok, Err, List, [], ◌∷◌, ◌++◌, is_some, fold, OnOk, if◌then◌else◌, slice_get}
use Rattle.std.proofs.Math.Bool.{or-false, or_assoc, or_comm}
use Rattle.std.specs.List.{list_any}
use Rattle.std.specs.Str.{bytes_eq}
use Rattle.std.proofs.lemmas.Slice.Eq.{bytes_eq-Decides}
use Rattle.std.proofs.lemmas.Bool.{or_left}
use Rattle.std.proofs.lemmas.List.Folds.{list_any-append}
use Rattle.cc_names.specs.Answers.{FaultIs}
use Rattle.cc_names.specs.Files.{Files}
use Rattle.cc_names.specs.declared.memory.Or.{Or}
use Rattle.cc_names.specs.declared.memory.Or.TheVariants.{NoMemory, Is}
use Rattle.cc_names.specs.declared.refusals.MakeCause.{MakeCause}
use Rattle.cc_names.specs.declared.refusals.MakeCause.TheVariants.{BadLine, BadMacro, TwoScripts}
use Rattle.cc_names.specs.declared.refusals.MakeError.{MakeError}
use Rattle.make_grammar.specs.Contents.{RuleLine}
use Rattle.make_grammar.specs.Lines.{is_blank_line}
use Rattle.make_grammar.specs.LogicalLines.{logical_lines}
use Rattle.make_grammar.specs.Macros.{is_among, has_bad_dollar}
use Rattle.make_grammar.specs.WordPaths.{with_path_once}
use Rattle.make_text.specs.ReadingSteps.{counted_file, with_newest_line, newest_with}
use Rattle.make_text.specs.Readers.{KeepsScripted, older_of, open_rule, script_tested}
use Rattle.make_grammar.specs.Statements.{Reading, reading_fault, if_no_fault, unless_cause, cause_or, cause_where, has_twice}
use Rattle.make_grammar.specs.Statements.{is_scripted, is_second_script, include_paths, script_line, script_line_of}
use Rattle.make_grammar.specs.Statements.{with_script_line, reading_of_include, read_lines, with_text, within_limits}
use Rattle.make_text.proofs.ExpansionLemmas.{same_bytes}

-- ---- paths among others

pub same_ways : (a b : Bool) → (a ≡ true → b ≡ true) → (b ≡ true → a ≡ true) → a ≡ b
same_ways true b h k = sym (h refl)
same_ways false true h k = k refl
same_ways false false h k = refl

itself : (x : List ℕ) → bytes_eq x x ≡ true
itself x = (bytes_eq-Decides x x).1 refl

pub bytes_eq_swapped : (x y : List ℕ) → bytes_eq x y ≡ bytes_eq y x
bytes_eq_swapped x y =
    same_ways (bytes_eq x y) (bytes_eq y x)
    (λ h. (bytes_eq-Decides y x).1 (sym (same_bytes x y h))) (λ h. (bytes_eq-Decides x y).1 (sym (same_bytes y x h)))

or_swap : (a b c d : Bool) → ((a || b) || (c || d)) ≡ ((a || c) || (b || d))
or_swap true b c d = refl
or_swap false true true d = refl
or_swap false true false d = refl
or_swap false false true d = refl
or_swap false false false d = refl

-- among paths with one after them
pub among_behind : (paths : List (List ℕ)) (path x : List ℕ) → is_among (paths ++ path ∷ []) x
    ≡ (is_among paths x || bytes_eq x path)
among_behind paths path x =
    list_any-append (bytes_eq x) paths (path ∷ []) ∙ ap (λ b. is_among paths x || b) (or-false (bytes_eq x path))

among_there : (t : Bool) (paths : List (List ℕ)) (path x : List ℕ) → is_among paths path ≡ t →
    is_among (if t then paths else paths ++ path ∷ []) x ≡ (is_among paths x || bytes_eq x path)
among_there false paths path x is = among_behind paths path x
among_there true paths path x is =
    same_ways (is_among paths x) (is_among paths x || bytes_eq x path) (λ h. or_left (is_among paths x) (bytes_eq x path) h)
    (λ h. by (is_among paths x) (bytes_eq x path) refl refl h)
  where
    by : (a b : Bool) → is_among paths x ≡ a → bytes_eq x path ≡ b → (a || b) ≡ true → a ≡ true
    by true b k l h = refl
    by false true k l h = sym k ∙ (ap (is_among paths) (same_bytes x path l) ∙ is)
    by false false k l h = h

pub among_with : (paths : List (List ℕ)) (path x : List ℕ) → is_among (with_path_once paths path) x
    ≡ (is_among paths x || bytes_eq x path)
among_with paths path x = among_there (is_among paths path) paths path x refl

-- among paths with others
pub among_all : (paths others : List (List ℕ)) (x : List ℕ) → is_among (fold with_path_once paths others) x
    ≡ (is_among paths x || is_among others x)
among_all paths [] x = sym (or-false (is_among paths x))
among_all paths (other ∷ others) x =
    among_all (with_path_once paths other) others x
    ∙ (ap (λ b. b || is_among others x) (among_with paths other x)
    ∙ or_assoc (is_among paths x) (bytes_eq x other) (is_among others x))

-- ---- a path that is twice there

any_behind : (seen : List (List ℕ)) (path : List ℕ) (paths : List (List ℕ)) →
    list_any (is_among (seen ++ path ∷ [])) paths ≡ (list_any (is_among seen) paths || is_among paths path)
any_behind seen path [] = refl
any_behind seen path (x ∷ paths) =
    ap (λ b. b || list_any (is_among (seen ++ path ∷ [])) paths) (among_behind seen path x
    ∙ ap (λ b. is_among seen x || b) (bytes_eq_swapped x path))
    ∙ (ap (λ b. (is_among seen x || bytes_eq path x) || b) (any_behind seen path paths)
    ∙ or_swap (is_among seen x) (bytes_eq path x) (list_any (is_among seen) paths) (is_among paths path))

-- once a path was seen, and was not before
pub twice_step : (seen : List (List ℕ)) (path : List ℕ) (paths : List (List ℕ)) → is_among seen path ≡ false →
    (list_any (is_among (with_path_once seen path)) paths || has_twice paths)
    ≡ (list_any (is_among seen) (path ∷ paths) || has_twice (path ∷ paths))
twice_step seen path paths new =
    ap (λ (b : Bool). list_any (is_among (if b then seen else seen ++ path ∷ [])) paths || has_twice paths) new
    ∙ (ap (λ b. b || has_twice paths) (any_behind seen path paths)
    ∙ (or_assoc (list_any (is_among seen) paths) (is_among paths path) (has_twice paths)
    ∙ sym (ap (λ b. (b || list_any (is_among seen) paths) || (is_among paths path || has_twice paths)) new)))

pub none_seen : (paths : List (List ℕ)) → (list_any (is_among []) paths || has_twice paths) ≡ has_twice paths
none_seen paths = ap (λ b. b || has_twice paths) (none paths)
  where
    none : (paths : List (List ℕ)) → list_any (is_among []) paths ≡ false
    none [] = refl
    none (path ∷ paths) = none paths

-- ---- targets that have scripts

pub aside : (scripted : List (List ℕ)) (rules : List RuleLine) (rule : RuleLine) (target : List ℕ) → KeepsScripted scripted rules
    →
    slice_get rules 0 ≡ Some rule → is_some rule.script ≡ true → is_among (fold with_path_once scripted rule.targets) target
    ≡ is_scripted rules target
aside scripted [] rule target h at has = absurd (cc)
aside scripted (newest ∷ older) rule target h at has =
    let same : newest ≡ rule = cc in
    among_all scripted rule.targets target
    ∙ (or_comm (is_among scripted target) (is_among rule.targets target)
    ∙ (ap (λ b. is_among rule.targets target || b) (h.scripts target)
    ∙ (ap (λ b. (b && is_among rule.targets target) || is_scripted older target) (sym has)
    ∙ ap (λ (r : RuleLine). (is_some r.script && is_among r.targets target) || is_scripted older target) (sym same))))

pub on_ok : {X E : Type 0} (r : Result X E) (P Q : Type 0) → OnOk r P → (P → Q) → OnOk r Q
on_ok (Ok x) P Q h next = next h
on_ok (Err e) P Q h next = tt

-- ---- what a line leaves

-- where a line makes this or has a fault, what holds of the rule lines of this holds of those that it leaves
pub made_keeps : (left made : Reading) (file : List ℕ) (n : ℕ) (cause : Option MakeCause) (P : List RuleLine → Type 0) →
    unless_cause file n cause made ≡ Ok left → P made.rules → P left.rules
made_keeps left made file n (Some cause) P h holds = absurd (cc)
made_keeps left made file n None P h holds =
    let same : made ≡ left = cc in
    subst (λ (r : Reading). P r.rules) same holds

pub paths_fault : (include : Reading → List ℕ → Result Reading MakeError) (paths : List (List ℕ)) (fault : Or MakeError)
    (read : Result Reading MakeError) → FaultIs fault read → FaultIs fault (include_paths include paths read)
paths_fault include paths NoMemory read h = tt
paths_fault include paths (Is fault) read h = ap (include_paths include paths) h ∙ all paths
  where
    all : (paths : List (List ℕ)) → include_paths include paths (Err fault) ≡ Err fault
    all [] = refl
    all (path ∷ paths) = all paths

pub then_fault : {A E : Type 0} (fault : Or E) (read : Result A E) (next : A → Result A E) → FaultIs fault read
    → FaultIs fault (if_no_fault read next)
then_fault NoMemory read next h = tt
then_fault (Is fault) read next h = ap (λ r. if_no_fault r next) h

-- ---- script lines

-- a line of a script that is more than blanks is tested, and then put below its rule line
script_tests : (file : List ℕ) (n : ℕ) (line : List ℕ) (rule : RuleLine) (older : List RuleLine) (reading : Reading)
    → reading.rules ≡ rule ∷ older →
    script_line_of file n line rule older reading ≡ if_no_fault (script_tested file n line rule older reading)
    (λ r. Ok (with_newest_line line r))
script_tests file n line rule older reading is =
    by (is_second_script rule older) (cause_or (cause_where rule.is_special BadLine) (cause_where (has_bad_dollar line) BadMacro))
  where
    by : (second : Bool) (cause : Option MakeCause) →
        (if second then reading_fault rule.file rule.line TwoScripts
        else unless_cause file n cause (record reading { rules = with_script_line rule line ∷ older }))
        ≡ if_no_fault (if second then reading_fault rule.file rule.line TwoScripts else unless_cause file n cause reading)
        (λ r. Ok (with_newest_line line r))
    by true cause = refl
    by false (Some cause) = refl
    by false None = ap (λ (rules : List RuleLine). Ok (record reading { rules = newest_with line rules })) (sym is)

pub script_line_is : (file : List ℕ) (n : ℕ) (line : List ℕ) (rule : RuleLine) (reading : Reading)
    → Some rule ≡ open_rule reading.takes_script reading.rules → is_blank_line line ≡ false →
    script_line file n line reading.takes_script reading.rules reading
    ≡ if_no_fault (script_tested file n line rule (older_of reading.rules) reading) (λ r. Ok (with_newest_line line r))
script_line_is file n line rule reading open_ blank = by reading.takes_script reading.rules refl open_
  where
    by : (takes : Bool) (rules : List RuleLine) → reading.rules ≡ rules → Some rule ≡ open_rule takes rules →
        script_line file n line takes rules reading ≡ if_no_fault (script_tested file n line rule (older_of rules) reading)
        (λ r. Ok (with_newest_line line r))
    by false rules is h = absurd (cc)
    by true [] is h = absurd (cc)
    by true (newest ∷ older) is h =
        let same : newest ≡ rule = cc in
        ap (λ b. if b then Ok reading else script_line_of file n line newest older reading) blank
        ∙ (script_tests file n line newest older reading is
        ∙ ap (λ (r : RuleLine). if_no_fault (script_tested file n line r older reading) (λ r. Ok (with_newest_line line r))) same)

-- a script line keeps that no script of an older line is the newest's, where its test found so
pub keeps_scripted : (scripted : List (List ℕ)) (reading left : Reading) (file : List ℕ) (n : ℕ) (line : List ℕ)
    (rule : RuleLine) →
    Some rule ≡ open_rule reading.takes_script reading.rules → KeepsScripted scripted reading.rules →
    script_tested file n line rule (older_of reading.rules) reading ≡ Ok reading → left ≡ with_newest_line line reading →
    KeepsScripted scripted left.rules
keeps_scripted scripted reading left file n line rule open_ h tested is =
    subst (λ (r : Reading). KeepsScripted scripted r.rules) (sym is)
    (by reading.takes_script reading.rules open_ h (apart (is_second_script rule (older_of reading.rules)) tested))
  where
    apart : (second : Bool) → (if second then reading_fault rule.file rule.line TwoScripts
        else unless_cause file n (cause_or (cause_where rule.is_special BadLine) (cause_where (has_bad_dollar line) BadMacro))
        reading) ≡ Ok reading → second ≡ false
    apart true h = absurd (cc)
    apart false h = refl

    by : (takes : Bool) (rules : List RuleLine) → Some rule ≡ open_rule takes rules → KeepsScripted scripted rules →
        is_second_script rule (older_of rules) ≡ false →
        KeepsScripted scripted (newest_with line rules)
    by false rules h k second = absurd (cc)
    by true [] h k second = absurd (cc)
    by true (newest ∷ older) h k second =
        let same : newest ≡ rule = cc in
        record { scripts = k.scripts; single = ap (λ (r : RuleLine). is_second_script r older) same ∙ second }

-- ---- included files

-- a file that is there and may be included is read line by line
pub included_is : (files : Files) (left : ℕ) (file : List ℕ) (n : ℕ) (reading next : Reading) (path text : List ℕ)
    → (left ≡ 0 → ⊥) → Some text ≡ files path →
    within_limits file n (counted_file reading) ≡ Ok next →
    reading_of_include files left file n reading path ≡ read_lines (reading_of_include files (left - 1) path) path
    (logical_lines text) next
included_is files zero file n reading next path text some at within = absurd (some refl)
included_is files (suc left) file n reading next path text some at within =
    let one : suc left - 1 ≡ left = omega arith in
    ap (with_text file n (λ text. if_no_fault (within_limits file n (counted_file reading))
    (read_lines (reading_of_include files left path) path (logical_lines text)))) (sym at)
    ∙ (ap (λ (r : Result Reading MakeError). if_no_fault r (read_lines (reading_of_include files left path) path
    (logical_lines text))) within
    ∙ ap (λ k. read_lines (reading_of_include files k path) path (logical_lines text) next) (sym one))
