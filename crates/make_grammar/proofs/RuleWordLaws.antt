-- The words of rule lines that have no fault: few, and paths below the root.
use Rattle.std.proofs.Common.{◌≡◌, refl, subst, ℕ, ◌+◌, ◌<◌, ◌≤◌, ◌^◌, Bool, true, false, not, ◌&&◌, nat_lt, Option, Some}
use Rattle.std.proofs.Common.{None, List, [], ◌∷◌, ◌++◌, length, fold, is_some, if◌then◌else◌, arith}
use Rattle.std.proofs.lemmas.Bool.{ltb-false, not-false, and_parts}
use Rattle.std.proofs.lemmas.List.{length-append}
use Rattle.std.proofs.lemmas.List.Splits.{length-slice_split}
use Rattle.std.proofs.lemmas.List.Sums.{length-filter, count_by-le-length}
use Rattle.std.specs.List.{AllByRecursion, IsDistinct, list_any, list_all, slice_split}
use Rattle.std.specs.Str.{bytes_eq}
use Rattle.cc_names.specs.Cuts.{is_blank, without_empty, words_of}
use Rattle.cc_names.specs.Formed.{IsBelowRoot}
use Rattle.cc_names.specs.declared.commands.Macro.{Macro}
use Rattle.cc_names.specs.declared.refusals.MakeCause.{MakeCause}
use Rattle.cc_names.specs.declared.refusals.MakeCause.TheVariants.{BadPath, LineTooLong, MacroLoop}
use Rattle.cc_names.proofs.Common.{all_of_both}
use Rattle.make_grammar.proofs.ServingLaws.{all_filter, below_root, same_path, once_distinct}
use Rattle.make_grammar.specs.Macros.{Expansion, one_after_other, plain, is_too_long}
use Rattle.make_grammar.specs.WordPaths.{path_below_root, with_path_once}
use Rattle.make_grammar.specs.Statements.{mark_of, before_mark, cause_or, expanded_by, expansion_fault, is_grouped, is_path}
use Rattle.make_grammar.specs.Statements.{is_special, line_words_fault, plain_targets, rule_bytes_fault, rule_expansion}
use Rattle.make_grammar.specs.Statements.{rule_fault, rule_words_fault, cause_where}
use Rattle.make_grammar.specs.declared.rule_lines.RuleWords.{RuleWords}

-- ---- no cause

or_none : (first second : Option MakeCause) → cause_or first second ≡ None → (first ≡ None) × (second ≡ None)
or_none None second h = (refl, h)
or_none (Some cause) second h = absurd (cc)

where_none : (t : Bool) (cause : MakeCause) → cause_where t cause ≡ None → t ≡ false
where_none true cause h = absurd (cc)
where_none false cause h = refl

-- ---- words

without_empty_length : (parts : List (List ℕ)) → length (without_empty parts) ≤ length parts
without_empty_length [] = omega arith
without_empty_length ([] ∷ parts) = let rest = without_empty_length parts in omega (arith, rest)
without_empty_length ((b ∷ bs) ∷ parts) = let rest = without_empty_length parts in omega (arith, rest)

-- no more words than bytes, and one
words_length : (bytes : List ℕ) → length (words_of bytes) ≤ length bytes + 1
words_length bytes =
    let kept = without_empty_length (slice_split is_blank bytes) in
    let parts = length-slice_split is_blank bytes in
    let cuts = count_by-le-length is_blank bytes in
    omega (arith, kept, parts, cuts)

with_path_length : (paths : List (List ℕ)) (path : List ℕ) → length (with_path_once paths path) ≤ length paths + 1
with_path_length paths path = by (list_any (bytes_eq path) paths)
  where
    by : (t : Bool) → length (if t then paths else paths ++ path ∷ []) ≤ length paths + 1
    by true = omega arith
    by false = let longer = length-append paths (path ∷ []) in omega (arith, longer)

fold_length : (paths more : List (List ℕ)) → length (fold with_path_once paths more) ≤ length paths + length more
fold_length paths [] = omega arith
fold_length paths (path ∷ more) =
    let one = with_path_length paths path in
    let rest = fold_length (with_path_once paths path) more in
    omega (arith, one, rest)

-- the targets that are not special are no more than all
pub plain_length : (grouped : Bool) (targets : List (List ℕ)) → length (plain_targets grouped targets) ≤ length targets
plain_length true targets = let kept = fold_length [] targets in omega (arith, kept)
plain_length false targets =
    let kept = length-filter (λ target. not (is_special target)) targets in
    let fewer = count_by-le-length (λ target. not (is_special target)) targets in
    omega (arith, kept, fewer)

-- ---- paths below the root

paths_below : (words : List (List ℕ)) → list_all is_path words ≡ true → AllByRecursion IsBelowRoot words
paths_below [] h = tt
paths_below (word ∷ words) h = (by (path_below_root word) refl here.0, paths_below words here.1)
  where
    here : (is_path word ≡ true) × (list_all is_path words ≡ true)
    here = and_parts (is_path word) (list_all is_path words) h

    by : (o : Option (List ℕ)) → path_below_root word ≡ o → is_some o ≡ true → IsBelowRoot word
    by None is h = absurd (cc)
    by (Some path) is h = subst IsBelowRoot (same_path word path is) (below_root word path is)

-- what holds of paths, and of others, holds of them put together
pub all_joined : (P : List ℕ → Type 0) (paths more : List (List ℕ)) → AllByRecursion P paths → AllByRecursion P more
    → AllByRecursion P (fold with_path_once paths more)
all_joined P paths [] h k = h
all_joined P paths (path ∷ more) h k = all_joined P (with_path_once paths path) more (by (list_any (bytes_eq path) paths)) k.1
  where
    by : (t : Bool) → AllByRecursion P (if t then paths else paths ++ path ∷ [])
    by true = h
    by false = all_of_both P paths (path ∷ []) h (k.0, tt)

pub plain_below : (grouped : Bool) (targets : List (List ℕ)) → AllByRecursion IsBelowRoot targets
    → AllByRecursion IsBelowRoot (plain_targets grouped targets)
plain_below true targets h = all_joined IsBelowRoot [] targets tt h
plain_below false targets h = all_filter IsBelowRoot (λ target. not (is_special target)) targets h

pub plain_once : (grouped : Bool) (targets : List (List ℕ)) → grouped ≡ true → IsDistinct bytes_eq (plain_targets grouped targets)
plain_once true targets is = once_distinct targets
plain_once false targets is = absurd (cc)

-- ---- words without a fault

-- the words of a rule line: fewer than a number of four bytes, and paths below the root
pub record AreWords (words : RuleWords) : Type 0 where
  pub few : length words.targets < 2 ^ 32
  pub targets : AllByRecursion IsBelowRoot words.targets
  pub prerequisites : AllByRecursion IsBelowRoot words.prerequisites

-- an expansion without a fault is within the limit
short_enough : (expansion : Expansion) → expansion_fault expansion ≡ None → length expansion.bytes ≤ 65536
short_enough expansion h = by (is_too_long expansion) refl h
  where
    by : (t : Bool) → nat_lt 65536 (length expansion.bytes) ≡ t → (if t then Some LineTooLong else if expansion.loops then Some
        MacroLoop else None) ≡ None → length expansion.bytes ≤ 65536
    by true test h = absurd (cc)
    by false test h = ltb-false _ _ test

-- the first of two expansions is no longer than both
followed_length : (first next : Expansion) → length first.bytes ≤ length (one_after_other first next).bytes
followed_length first next = let both = length-append first.bytes (if first.loops then [] else next.bytes) in omega (arith, both)

-- so there are few targets
few_targets : (macros : List Macro) (before behind : List ℕ) → expansion_fault (rule_expansion macros before behind) ≡ None
    → length (words_of (expanded_by macros (before_mark before)).bytes) < 2 ^ 32
few_targets macros before behind h =
    let both = short_enough (rule_expansion macros before behind) h in
    let first = followed_length (expanded_by macros (before_mark before))
    (one_after_other (plain (mark_of before)) (expanded_by macros behind)) in
    let words = words_length (expanded_by macros (before_mark before)).bytes in
    omega (arith, both, first, words)

-- words without a fault are paths below the root
words_below : (grouped : Bool) (targets prerequisites : List (List ℕ)) → rule_words_fault grouped targets prerequisites ≡ None
    → AllByRecursion IsBelowRoot targets × AllByRecursion IsBelowRoot prerequisites
words_below grouped targets prerequisites h =
    let paths = or_none (line_words_fault grouped targets prerequisites)
    (cause_where (not (list_all is_path targets && list_all is_path prerequisites)) BadPath) h in
    let all = not-false (list_all is_path targets && list_all is_path prerequisites) (where_none _ BadPath paths.1) in
    let both = and_parts (list_all is_path targets) (list_all is_path prerequisites) all in
    (paths_below targets both.0, paths_below prerequisites both.1)

-- and so are the words of a rule line without a fault
pub words_read : (macros : List Macro) (before behind : List ℕ) → rule_fault macros before behind ≡ None →
    AreWords (record {
      is_group = is_grouped before;
      targets = words_of (expanded_by macros (before_mark before)).bytes;
      prerequisites = words_of (expanded_by macros behind).bytes;
    })
words_read macros before behind h =
    let targets = words_of (expanded_by macros (before_mark before)).bytes in
    let prerequisites = words_of (expanded_by macros behind).bytes in
    let by_words = rule_words_fault (is_grouped before) targets prerequisites in
    let by_expansion = expansion_fault (rule_expansion macros before behind) in
    let later = or_none (rule_bytes_fault before behind) (cause_or by_expansion by_words) h in
    let last = or_none by_expansion by_words later.1 in
    let below = words_below (is_grouped before) targets prerequisites last.1 in
    record { few = few_targets macros before behind last.0; targets = below.0; prerequisites = below.1 }
