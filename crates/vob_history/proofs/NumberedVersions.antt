-- The version of a number on a branch is the one at that place, oldest first.
use Rattle.std.proofs.Common.{◌≡◌, ℕ, zero, suc, ◌==◌, Bool, true, false, cond, List, [], ◌∷◌, ◌++◌, length, reverse, Some, None}
use Rattle.std.proofs.Common.{refl, ap, sym, ◌∙◌, arith}
use Rattle.std.specs.Prelude.{find, option_map, slice_get}
use Rattle.std.proofs.lemmas.Bool.Decides.{nat_tests}
use Rattle.std.proofs.lemmas.List.{length-reverse, reverse-append}
use Rattle.std.proofs.lemmas.Option.{slice_get-map}
use Rattle.cc_names.specs.Versions.{Version, branch_of_change, version_of_number, put_if, row_of_version, version_of_change}
use Rattle.cc_names.specs.Versions.{versions_on}
use Rattle.cc_names.specs.declared.changes.TreeChange.{TreeChange}
use Rattle.base_model.specs.Changes.{tree}
use Rattle.base_model.specs.Rows.{Base}
use Rattle.vob_history.specs.VersionTrees.{rows_on}

-- the last of a list stands where its length was
at_last : {A : Type 0} (xs : List A) (x : A) (n : ℕ) → slice_get (xs ++ x ∷ []) n
    ≡ cond (length xs == n) (Some x) (slice_get xs n)
at_last [] x zero = refl
at_last [] x (suc n) = let apart : (0 == suc n) ≡ false = grind (arith, nat_tests) in sym (ap (λ is. cond is (Some x) None) apart)
at_last (y ∷ ys) x zero = let apart : (suc (length ys) == 0) ≡ false = grind (arith, nat_tests) in
    sym (ap (λ is. cond is (Some x) (Some y)) apart)
at_last (y ∷ ys) x (suc n) =
    let same : (suc (length ys) == suc n) ≡ (length ys == n) = grind (arith, nat_tests) in
    at_last ys x n ∙ sym (ap (λ is. cond is (Some x) (slice_get ys n)) same)

found_at : (changes : List TreeChange) (branch n : ℕ) → find (λ v. v.number == n) (versions_on changes branch)
    ≡ slice_get (reverse (versions_on changes branch)) n
found_at [] branch n = refl
found_at (change ∷ older) branch n = by (branch_of_change change == branch) (found_at older branch n)
  where
    versions : List Version
    versions = versions_on older branch

    by : (test : Bool) → find (λ v. v.number == n) (versions_on older branch) ≡ slice_get (reverse (versions_on older branch)) n →
        find (λ v. v.number == n) (put_if test (version_of_change change (length (versions_on older branch)))
        (versions_on older branch))
        ≡ slice_get (reverse (put_if test (version_of_change change (length (versions_on older branch)))
        (versions_on older branch))) n
    by false before = before
    by true before =
        let rest = versions_on older branch in
        let newest = version_of_change change (length rest) in
        ap (cond (length rest == n) (Some newest)) before
        ∙ ap (λ (count : ℕ). cond (count == n) (Some newest) (slice_get (reverse rest) n)) (sym (length-reverse rest))
        ∙ sym (at_last (reverse rest) newest n)
        ∙ ap (λ (all : List Version). slice_get all n) (sym (reverse-append (newest ∷ []) rest))

pub numbered_at : (b : Base) (branch n : ℕ) → version_of_number (tree b) branch n ≡ slice_get (rows_on b branch) n
numbered_at b branch n =
    ap (option_map row_of_version) (found_at (tree b) branch n)
    ∙ sym (slice_get-map row_of_version (reverse (versions_on (tree b) branch)) n)
