-- What the line of each command says is of the line's first word and has the form of that command.
use Rattle.std.proofs.Common.{◌≡◌, ℕ, ◌+◌, ◌≤◌, Bool, true, false, cond, List, [], ◌∷◌, ◌++◌, length, refl, sym, subst, arith}
use Rattle.std.specs.Prelude.{Ok, Err, IfOk, IfSome, codes, map}
use Rattle.std.specs.List.{AllByRecursion}
use Rattle.std.specs.Str.{bytes_eq}
use Rattle.std.proofs.lemmas.Slice.Eq.{bytes_eq-Decides}
use Rattle.cc_names.specs.Formed.{IsTypeName, IsBelowRoot}
use Rattle.cc_names.specs.Names.{IsName}
use Rattle.cc_names.specs.Paths.{IsPath, parent_of}
use Rattle.cc_names.specs.declared.commands.Change.{Change}
use Rattle.cc_names.specs.declared.commands.Change.TheVariants as changes
use Rattle.cc_names.specs.declared.commands.Command.{Command}
use Rattle.cc_names.specs.declared.commands.Command.TheVariants as commands
use Rattle.cc_names.specs.declared.commands.Query.{Query}
use Rattle.session_text.specs.CommandWords.{change_word, word_of}
use Rattle.session_text.specs.Commands.{read_mkbranch, moves, read_mv, by_record, read_labels, read_mklabel, read_rmlabel}
use Rattle.session_text.specs.Commands.{read_scrub, read_ls, read_cat, read_diffcr, read_covers, read_mkarrow, read_findmerge}
use Rattle.session_text.specs.Commands.{query_word, IsQuery, Line, Reader, view_table, type_table, query_table, plain, build_on}
use Rattle.session_text.specs.Commands.{types_on, table, said_in, command_of}
use Rattle.session_text.specs.Formed.{IsChange, IsClearmake, IsCommand}
use Rattle.session_text.specs.Shapes.{has_flag, without_flag, read_first_name, behind_first, view, only_type, view_path}
use Rattle.session_text.specs.Shapes.{view_below, maybe_path, type_path, path_type, flag_path, flag_below, fits_beside}
use Rattle.session_text.specs.Words.{Said, IsVersionName, where_so, name_word, age_word, version_word, cat_word, latest_word}
use Rattle.session_text.specs.Words.{both, says}
use Rattle.session_text.proofs.FormedBuilds.{clearmake_is}
use Rattle.session_text.proofs.FormedWords.{both_is, says_is, and_says_is, where_so_is, name_word_is, age_word_is}
use Rattle.session_text.proofs.FormedWords.{version_word_is, cat_word_is, latest_word_is, first_name_is, view_is, only_type_is}
use Rattle.session_text.proofs.FormedWords.{view_path_is, view_below_is, maybe_path_is, type_path_is, path_type_is, flag_path_is}
use Rattle.session_text.proofs.FormedWords.{flag_below_is, beside_is}

-- a change, a query or a command of this word, in its form
abbrev IsChangeOf : ℕ → List ℕ → Change → Type 0
IsChangeOf limit word change = IsChange limit change × (change_word change ≡ word)

abbrev IsQueryOf : List ℕ → Query → Type 0
IsQueryOf word query = IsQuery query × (query_word query ≡ word)

abbrev IsCommandOf : ℕ → List ℕ → Command → Type 0
IsCommandOf limit word command = IsCommand limit command × (word_of command ≡ word)

-- what the words after a word say is of that word
ReadsAs : {X : Type 0} → (List ℕ → X → Type 0) → Reader X → Type 0
ReadsAs P it = (words : List (List ℕ)) → IfOk (it.reads words) (P it.word)

-- what words say has the form of a command, where there are not too many, none is too long and the text is not
IsFormedLine : ℕ → Line → Type 0
IsFormedLine limit line =
    (words : List (List ℕ)) (text : List ℕ) → length words ≤ limit → AllByRecursion (λ word. length word ≤ limit) words
    → length text ≤ limit → IfOk (line.says words text) (IsCommandOf limit line.word)

of_view : {C : Type 0} (P : C → Type 0) (make : List ℕ → C) (words : List (List ℕ)) → ((v : List ℕ) → IsName v → P (make v))
    → IfOk (says make (view words)) P
of_view P make words f = says_is IsName P make (view words) f (view_is words)

of_type : {C : Type 0} (P : C → Type 0) (make : List ℕ → C) (words : List (List ℕ)) → ((v : List ℕ) → IsTypeName v → P (make v))
    → IfOk (says make (only_type words)) P
of_type P make words f = says_is IsTypeName P make (only_type words) f (only_type_is words)

of_path : {C : Type 0} (P : C → Type 0) (make : List ℕ × List ℕ → C) (words : List (List ℕ))
    → ((at : List ℕ × List ℕ) → IsName at.0 × IsPath at.1 → P (make at)) → IfOk (says make (view_path words)) P
of_path P make words f = says_is (λ at. IsName at.0 × IsPath at.1) P make (view_path words) f (view_path_is words)

of_below : {C : Type 0} (P : C → Type 0) (make : List ℕ × List ℕ → C) (words : List (List ℕ))
    → ((at : List ℕ × List ℕ) → IsName at.0 × IsBelowRoot at.1 → P (make at)) → IfOk (says make (view_below words)) P
of_below P make words f = says_is (λ at. IsName at.0 × IsBelowRoot at.1) P make (view_below words) f (view_below_is words)

of_flag_path : {C : Type 0} (P : C → Type 0) (make : List ℕ × Bool × List ℕ → C) (flag : List ℕ) (words : List (List ℕ))
    → ((at : List ℕ × Bool × List ℕ) → IsName at.0 × IsPath at.2 → P (make at)) → IfOk (says make (flag_path flag words)) P
of_flag_path P make flag words f = says_is (λ at. IsName at.0 × IsPath at.2) P make (flag_path flag words) f
    (flag_path_is flag words)

of_flag_below : {C : Type 0} (P : C → Type 0) (make : List ℕ × Bool × List ℕ → C) (flag : List ℕ) (words : List (List ℕ))
    → ((at : List ℕ × Bool × List ℕ) → IsName at.0 × IsBelowRoot at.2 → P (make at)) → IfOk (says make (flag_below flag words)) P
of_flag_below P make flag words f = says_is (λ at. IsName at.0 × IsBelowRoot at.2) P make (flag_below flag words) f
    (flag_below_is flag words)

-- two readings, each of its form, and what is made of them
of_both : {X Y C : Type 0} (R : C → Type 0) (P : X → Type 0) (Q : Y → Type 0) (make : X × Y → C) (x : Said X) (y : Said Y)
    → ((at : X × Y) → P at.0 × Q at.1 → R (make at)) → IfOk x P → IfOk y Q → IfOk (says make (both x y)) R
of_both R P Q make x y f p q = says_is (λ at. P at.0 × Q at.1) R make (both x y) f (both_is P Q x y p q)

mkbranch_is : (limit : ℕ) (words : List (List ℕ)) → IfOk (read_mkbranch words) (IsChangeOf limit (codes "mkbranch"))
mkbranch_is limit words =
    of_both (IsChangeOf limit (codes "mkbranch")) IsName (λ at. IsTypeName at.0 × IsPath at.1) _ (read_first_name words)
    (type_path (without_flag (codes "-nco") (behind_first words)))
    (λ at h. ((h.0, h.1.0, h.1.1), refl)) (first_name_is words)
    (type_path_is (without_flag (codes "-nco") (behind_first words)))

moves_are : (limit : ℕ) (at : (List ℕ × List ℕ) × List ℕ) (fits : Bool) → fits_beside at.0.1 at.1 ≡ fits
    → (IsName at.0.0 × IsBelowRoot at.0.1) × IsName at.1 → IfOk (where_so fits (Ok (changes.Mv at.0.0 at.0.1 at.1)))
    (IsChangeOf limit (codes "mv"))
moves_are limit at true e h = ((h.0.0, h.0.1, h.1, beside_is at.0.1 at.1 (parent_of at.0.1) e), refl)
moves_are limit at false e h = tt

mv_is : (limit : ℕ) (words : List (List ℕ)) → IfOk (read_mv words) (IsChangeOf limit (codes "mv"))
mv_is limit [] = tt
mv_is limit (v ∷ []) = tt
mv_is limit (v ∷ p ∷ []) = tt
mv_is limit (v ∷ p ∷ name ∷ []) =
    and_says_is (λ at. (IsName at.0.0 × IsBelowRoot at.0.1) × IsName at.1) (IsChangeOf limit (codes "mv")) moves
    (both (view_below (v ∷ p ∷ [])) (name_word name))
    (λ at h. moves_are limit at (fits_beside at.0.1 at.1) refl h)
    (both_is (λ at. IsName at.0 × IsBelowRoot at.1) IsName (view_below (v ∷ p ∷ [])) (name_word name) (view_below_is (v ∷ p ∷ []))
    (name_word_is name))
mv_is limit (v ∷ p ∷ name ∷ w ∷ words) = tt

labels_are : (limit : ℕ) (replace config : Bool) (words : List (List ℕ)) (v : List ℕ) → IsName v
    → IfOk (cond config (by_record v replace (without_flag (codes "-config") words))
    (says (λ at. changes.Mklabel v replace at.0 at.1) (type_path words))) (IsChangeOf limit (codes "mklabel"))
labels_are limit replace true words v h =
    says_is (λ at. IsPath at.0 × IsTypeName at.1) (IsChangeOf limit (codes "mklabel"))
    (λ at. changes.MklabelConfig v replace at.0 at.1)
    (path_type (without_flag (codes "-config") words)) (λ at p. ((h, p.0, p.1), refl))
    (path_type_is (without_flag (codes "-config") words))
labels_are limit replace false words v h =
    says_is (λ at. IsTypeName at.0 × IsPath at.1) (IsChangeOf limit (codes "mklabel"))
    (λ at. changes.Mklabel v replace at.0 at.1) (type_path words)
    (λ at p. ((h, p.0, p.1), refl)) (type_path_is words)

mklabel_is : (limit : ℕ) (words : List (List ℕ)) → IfOk (read_mklabel words) (IsChangeOf limit (codes "mklabel"))
mklabel_is limit words =
    let replace = has_flag (codes "-replace") (behind_first words) in
    let behind = without_flag (codes "-replace") (behind_first words) in
    and_says_is IsName (IsChangeOf limit (codes "mklabel")) (read_labels replace behind) (read_first_name words)
    (λ v h. labels_are limit replace (has_flag (codes "-config") behind) behind v h) (first_name_is words)

rmlabel_is : (limit : ℕ) (words : List (List ℕ)) → IfOk (read_rmlabel words) (IsChangeOf limit (codes "rmlabel"))
rmlabel_is limit words =
    of_both (IsChangeOf limit (codes "rmlabel")) IsName (λ at. IsTypeName at.0 × IsPath at.1) _ (read_first_name words)
    (type_path (behind_first words))
    (λ at h. ((h.0, h.1.0, h.1.1), refl)) (first_name_is words) (type_path_is (behind_first words))

scrub_is : (limit : ℕ) (words : List (List ℕ)) → IfOk (read_scrub words) (IsChangeOf limit (codes "scrub"))
scrub_is limit [] = tt
scrub_is limit (age ∷ []) = says_is _ (IsChangeOf limit (codes "scrub")) changes.Scrub (age_word age)
    (λ n h. (h, refl)) (age_word_is age)
scrub_is limit (age ∷ w ∷ words) = tt

ls_is : (words : List (List ℕ)) → IfOk (read_ls words) (IsQueryOf (codes "ls"))
ls_is words =
    of_both (IsQueryOf (codes "ls")) IsName (λ path. IfSome path IsPath) _ (read_first_name words)
    (maybe_path (behind_first words)) (λ at h. (h, refl))
    (first_name_is words) (maybe_path_is (behind_first words))

cat_is : (words : List (List ℕ)) → IfOk (read_cat words) (IsQueryOf (codes "cat"))
cat_is [] = tt
cat_is (v ∷ []) = tt
cat_is (v ∷ p ∷ []) =
    of_both (IsQueryOf (codes "cat")) IsName (λ at. IsPath at.0 × IfSome at.1 IsVersionName) _ (name_word v) (cat_word p)
    (λ at h. ((h.0, h.1.0, h.1.1), refl)) (name_word_is v) (cat_word_is p)
cat_is (v ∷ p ∷ w ∷ words) = tt

diffcr_is : (words : List (List ℕ)) → IfOk (read_diffcr words) (IsQueryOf (codes "diffcr"))
diffcr_is [] = tt
diffcr_is (v ∷ []) = tt
diffcr_is (v ∷ p ∷ words) =
    of_both (IsQueryOf (codes "diffcr")) (λ at. IsName at.0 × IsBelowRoot at.1) (λ at. IsName at.0
    × IsBelowRoot at.1) _ (view_below (v ∷ p ∷ [])) (view_below words)
    (λ at h. ((h.0.0, h.0.1, h.1.0, h.1.1), refl)) (view_below_is (v ∷ p ∷ [])) (view_below_is words)

covers_is : (words : List (List ℕ)) → IfOk (read_covers words) (IsQueryOf (codes "covers"))
covers_is words =
    of_both (IsQueryOf (codes "covers")) IsName (λ at. IsName at.0 × IsPath at.1) _ (read_first_name words)
    (view_path (behind_first words))
    (λ at h. ((h.0, h.1.0, h.1.1), refl)) (first_name_is words) (view_path_is (behind_first words))

mkarrow_is : (limit : ℕ) (words : List (List ℕ)) → IfOk (read_mkarrow words) (IsChangeOf limit (codes "mkarrow"))
mkarrow_is limit [] = tt
mkarrow_is limit (v ∷ []) = tt
mkarrow_is limit (v ∷ p ∷ []) = tt
mkarrow_is limit (v ∷ p ∷ version ∷ []) =
    of_both (IsChangeOf limit (codes "mkarrow")) (λ at. IsName at.0 × IsBelowRoot at.1) IsVersionName _
    (view_below (v ∷ p ∷ [])) (version_word version)
    (λ at h. ((h.0.0, h.0.1, h.1), refl)) (view_below_is (v ∷ p ∷ [])) (version_word_is version)
mkarrow_is limit (v ∷ p ∷ version ∷ w ∷ words) = tt

findmerge_is : (words : List (List ℕ)) → IfOk (read_findmerge words) (IsQueryOf (codes "findmerge"))
findmerge_is [] = tt
findmerge_is (v ∷ []) = tt
findmerge_is (v ∷ p ∷ []) = tt
findmerge_is (v ∷ p ∷ flag ∷ []) = tt
findmerge_is (v ∷ p ∷ flag ∷ latest ∷ []) =
    where_so_is (IsQueryOf (codes "findmerge")) (bytes_eq flag (codes "-fversion")) _
    (of_both (IsQueryOf (codes "findmerge")) (λ at. IsName at.0 × IsPath at.1) IsTypeName _ (view_path (v ∷ p ∷ []))
    (latest_word latest)
    (λ at h. ((h.0.0, h.0.1, h.1), refl)) (view_path_is (v ∷ p ∷ [])) (latest_word_is latest))
findmerge_is (v ∷ p ∷ flag ∷ latest ∷ w ∷ words) = tt

-- the changes of views and elements that take no body
views_are : (limit : ℕ) → AllByRecursion (ReadsAs (IsChangeOf limit)) view_table
unfolding ReadsAs
views_are limit = (
  (λ ws. of_view _ changes.Mkview ws (λ v h. (h, refl))),
  (
    (λ ws. of_view _ _ (without_flag (codes "-force") ws) (λ v h. (h, refl))),
    (
      (λ ws. of_flag_below _ _ (codes "-nco") ws (λ at h. (h, refl))),
      (
        (λ ws. of_flag_below _ _ (codes "-nco") ws (λ at h. (h, refl))),
        (
          (λ ws. of_flag_path _ _ (codes "-unreserved") ws (λ at h. (h, refl))),
          (
            (λ ws. mkbranch_is limit ws),
            (
              (λ ws. of_below _ _ ws (λ at h. (h, refl))),
              (
                (λ ws. of_flag_path _ _ (codes "-identical") ws (λ at h. (h, refl))),
                (
                  (λ ws. of_path _ _ ws (λ at h. (h, refl))),
                  (
                    (λ ws. of_below _ _ ws (λ at h. (h, refl))),
                    (
                      (λ ws. mv_is limit ws),
                      tt,
                    ),
                  ),
                ),
              ),
            ),
          ),
        ),
      ),
    ),
  ),
)

-- the changes of types, labels, arrows and objects
types_are : (limit : ℕ) → AllByRecursion (ReadsAs (IsChangeOf limit)) type_table
unfolding ReadsAs
types_are limit = (
  (λ ws. of_type _ _ ws (λ v h. (h, refl))),
  (
    (λ ws. of_type _ _ ws (λ v h. (h, refl))),
    (
      (λ ws. mklabel_is limit ws),
      (
        (λ ws. rmlabel_is limit ws),
        (
          (λ ws. mkarrow_is limit ws),
          (
            (λ ws. of_below _ _ ws (λ at h. (h, refl))),
            (
              (λ ws. scrub_is limit ws),
              tt,
            ),
          ),
        ),
      ),
    ),
  ),
)

-- the queries
queries_are : AllByRecursion (ReadsAs IsQueryOf) query_table
unfolding ReadsAs
queries_are = (
  (λ ws. of_view _ _ ws (λ v h. (h, refl))),
  (
    (λ ws. of_view _ _ ws (λ v h. (h, refl))),
    (
      (λ ws. ls_is ws),
      (
        (λ ws. cat_is ws),
        (
          (λ ws. of_path _ _ ws (λ at h. (h, refl))),
          (
            (λ ws. of_path _ _ ws (λ at h. (h, refl))),
            (
              (λ ws. of_path _ _ ws (λ at h. (h, refl))),
              (
                (λ ws. of_below _ _ ws (λ at h. (h, refl))),
                (
                  (λ ws. diffcr_is ws),
                  (
                    (λ ws. covers_is ws),
                    (
                      (λ ws. findmerge_is ws),
                      tt,
                    ),
                  ),
                ),
              ),
            ),
          ),
        ),
      ),
    ),
  ),
)

plain_are : {X : Type 0} (limit : ℕ) (P : List ℕ → X → Type 0) (make : X → Command) (rows : List (Reader X)) (lines : List Line)
    → ((word : List ℕ) (x : X) → P word x → IsCommandOf limit word (make x)) → AllByRecursion (ReadsAs P) rows
    → AllByRecursion (IsFormedLine limit) lines → AllByRecursion (IsFormedLine limit) (map (plain make) rows ++ lines)
unfolding ReadsAs IsFormedLine
plain_are limit P make [] lines so are later = later
plain_are limit P make (it ∷ rows) lines so are later = (
  (λ ws t n w l. says_is (P it.word) (IsCommandOf limit it.word) make (it.reads ws) (so it.word) (are.0 ws)),
  plain_are limit P make rows lines so are.1 later,
)

-- each line of the table says commands of its word, in their form
table_is : (limit : ℕ) → AllByRecursion (IsFormedLine limit) table
unfolding IsFormedLine
table_is limit = (
  (λ ws t n w l. says_is (IsChangeOf limit (codes "setcs")) (IsCommandOf limit (codes "setcs")) commands.Change _ (λ change h. h)
      (of_view (IsChangeOf limit (codes "setcs")) (λ v. changes.Setcs v t) ws (λ v h. ((h, l), refl)))),
  (
    (λ ws t n w l. says_is (IsChangeOf limit (codes "save")) (IsCommandOf limit (codes "save")) commands.Change _ (λ change h. h)
        (of_below (IsChangeOf limit (codes "save")) (λ at. changes.Save at.0 at.1 t) ws (λ at h. ((h.0, h.1, l), refl)))),
    plain_are limit (IsChangeOf limit) commands.Change view_table types_on (λ word change h. h) (views_are limit)
        (plain_are limit (IsChangeOf limit) commands.Change type_table build_on (λ word change h. h) (types_are limit) (
          (λ ws t n w l. says_is (IsClearmake limit) (IsCommandOf limit (codes "clearmake")) commands.Build _ (λ asked h. (h, refl))
              (clearmake_is limit ws n w)),
          plain_are limit IsQueryOf commands.Query query_table [] (λ word query h. h) queries_are tt,
        )),
  ),
)

in_table : (limit : ℕ) (lines : List Line) (word : List ℕ) (words : List (List ℕ)) (text : List ℕ)
    → AllByRecursion (IsFormedLine limit) lines → length words ≤ limit → AllByRecursion (λ w. length w ≤ limit) words
    → length text ≤ limit → IfOk (said_in lines word words text) (IsCommandOf limit word)
unfolding IsFormedLine
in_table limit [] word words text h n w l = tt
in_table limit (line ∷ lines) word words text h n w l = by (bytes_eq word line.word) refl (h.0 words text n w l)
    (in_table limit lines word words text h.1 n w l)
  where
    by : (same : Bool) → bytes_eq word line.word ≡ same → IfOk (line.says words text) (IsCommandOf limit line.word)
        → IfOk (said_in lines word words text) (IsCommandOf limit word)
        → IfOk (cond same (line.says words text) (said_in lines word words text)) (IsCommandOf limit word)
    by true e here later =
        subst (λ v. IfOk (line.says words text) (IsCommandOf limit v)) (sym ((bytes_eq-Decides word line.word).0 e)) here
    by false e here later = later

weaker : {X : Type 0} (P Q : X → Type 0) (said : Said X) → ((x : X) → P x → Q x) → IfOk said P → IfOk said Q
weaker P Q (Ok x) so h = so x h
weaker P Q (Err cause) so h = tt

-- the command of a line has its form
pub command_is : (limit : ℕ) (word : List ℕ) (words : List (List ℕ)) (text : List ℕ) → length words ≤ limit
    → AllByRecursion (λ w. length w ≤ limit) words → length text ≤ limit → IfOk (command_of word words text) (IsCommand limit)
command_is limit word words text n w l = weaker (IsCommandOf limit word) (IsCommand limit) (command_of word words text)
    (λ command h. h.0) (in_table limit table word words text (table_is limit) n w l)

-- no word is longer than all together
abbrev total : List (List ℕ) → ℕ
total [] = 0
total (word ∷ words) = length word + total words

within : (limit : ℕ) (words : List (List ℕ)) → total words ≤ limit → AllByRecursion (λ w. length w ≤ limit) words
within limit [] h = tt
within limit (word ∷ words) h = (omega (arith, h), within limit words (omega (arith, h)))

has_word : (limit : ℕ) (word : List ℕ) (words : List (List ℕ)) (text : List ℕ) → length words ≤ limit → total words ≤ limit
    → length text ≤ limit → IfOk (command_of word words text) (λ command. word_of command ≡ word)
has_word limit word words text n w l = weaker (IsCommandOf limit word) (λ command. word_of command ≡ word)
    (command_of word words text) (λ command h. h.1)
    (in_table limit table word words text (table_is limit) n (within limit words w) l)

-- and it has the line's first word
pub command_has_word : (word : List ℕ) (words : List (List ℕ)) (text : List ℕ)
    → IfOk (command_of word words text) (λ command. word_of command ≡ word)
command_has_word word words text =
    has_word (length words + (total words + length text)) word words text (omega arith) (omega arith) (omega arith)
