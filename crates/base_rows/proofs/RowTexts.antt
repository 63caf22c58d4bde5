-- Rows by their numbers, and outputs by their targets.
use Rattle.std.proofs.Common.{◌≡◌, ℕ, zero, suc, Bool, true, false, cond, ◌==◌, Option, Some, None, List, [], ◌∷◌}
use Rattle.std.proofs.Common.{◌++◌, length, reverse, refl, ap, sym, subst, ◌∙◌, arith, bytes_eq}
use Rattle.std.specs.List.{AllByRecursion, IsDistinct, slice_get}
use Rattle.std.proofs.lemmas.Bool.Decides.{nat_tests}
use Rattle.std.proofs.lemmas.List.{length-reverse, reverse-append, reverse-reverse}
use Rattle.cc_names.specs.Formed.{Plain}
use Rattle.cc_names.proofs.Common.{bytes_eq_swapped, bytes_equal_themselves, or_first_false, or_second_false}
use Rattle.base_model.specs.Closures.{is_path_among}
use Rattle.base_model.specs.Rows.{Base, size, row_at}
use Rattle.base_model.specs.Texts.{output_at}

-- no number after another is 0
not_zero : (n : ℕ) → (suc n == 0) ≡ false
not_zero n = grind (arith, nat_tests)

not_suc : (n : ℕ) → (0 == suc n) ≡ false
not_suc n = grind (arith, nat_tests)

same_suc : (m n : ℕ) → (suc m == suc n) ≡ (m == n)
same_suc m n = grind (arith, nat_tests)

-- one row more
get_one_more : (rows : Base) (row : Plain) (n : ℕ) → slice_get (rows ++ row ∷ []) n
    ≡ cond (length rows == n) (Some row) (slice_get rows n)
get_one_more [] row zero = refl
get_one_more [] row (suc n) = sym (ap (λ same. cond same (Some row) None) (not_suc n))
get_one_more (first ∷ rows) row zero = sym (ap (λ same. cond same (Some row) (Some first)) (not_zero (length rows)))
get_one_more (first ∷ rows) row (suc n) = get_one_more rows row n ∙ sym
    (ap (λ same. cond same (Some row) (slice_get rows n)) (same_suc (length rows) n))

-- the newest row or an older one
newest_or : (same : Bool) (row : Plain) (older : Option Plain) → elim same [ true ↦ Some row | false ↦ older ]
    ≡ cond same (Some row) older
newest_or true row older = refl
newest_or false row older = refl

at_number : (b : Base) (n : ℕ) → row_at b (suc n) ≡ slice_get (reverse b) n
at_number [] n = refl
at_number (row ∷ older) n =
    newest_or (size older == suc n) row (row_at older (suc n))
    ∙ ap (cond (size older == suc n) (Some row)) (at_number older n)
    ∙ ap (λ same. cond same (Some row) (slice_get (reverse older) n)) (same_suc (length older) n
    ∙ ap (λ l. l == n) (sym (length-reverse older)))
    ∙ sym (get_one_more (reverse older) row n)
    ∙ ap (λ rows. slice_get rows n) (sym (reverse-append (row ∷ []) older))

-- row n + 1 stands at place n
pub row_numbered : (rows : Base) (n : ℕ) → row_at (reverse rows) (suc n) ≡ slice_get rows n
row_numbered rows n = at_number (reverse rows) n ∙ ap (λ all. slice_get all n) (reverse-reverse rows)

-- row 0 is none of the rows
pub no_row : (b : Base) → row_at b 0 ≡ None
no_row [] = refl
no_row (row ∷ older) =
    newest_or (size older == 0) row (row_at older 0) ∙ ap (λ same. cond same (Some row) (row_at older 0))
    (not_zero (length older)) ∙ no_row older

-- where the targets differ, the output of a target is the one at its place
pub output_there : (path : List ℕ) (targets outputs : List (List ℕ)) (place : ℕ) → IsDistinct bytes_eq targets
    → slice_get targets place ≡ Some path → output_at path targets outputs ≡ slice_get outputs place
unfolding IsDistinct
output_there path [] outputs place apart there = absurd (cc)
output_there path (target ∷ targets) [] zero apart there = refl
output_there path (target ∷ targets) [] (suc place) apart there = refl
output_there path (target ∷ targets) (output ∷ outputs) zero apart there =
    let same : target ≡ path = cc in
    ap (λ is. cond is (Some output) (output_at path targets outputs))
    (subst (λ one. bytes_eq one path ≡ true) (sym same) (bytes_equal_themselves path))
output_there path (target ∷ targets) (output ∷ outputs) (suc place) apart there =
    ap (λ is. cond is (Some output) (output_at path targets outputs)) (apart_from targets place apart.0 there)
    ∙ output_there path targets outputs place apart.1 there
  where
    apart_from : (others : List (List ℕ)) (place : ℕ) → AllByRecursion (λ other. bytes_eq target other ≡ false) others
        → slice_get others place ≡ Some path → bytes_eq target path ≡ false
    apart_from [] place apart there = absurd (cc)
    apart_from (other ∷ others) zero apart there =
        let same : other ≡ path = cc in
        subst (λ one. bytes_eq target one ≡ false) same apart.0
    apart_from (other ∷ others) (suc place) apart there = apart_from others place apart.1 there

-- a path that is no target has no output
pub output_of_none : (path : List ℕ) (targets outputs : List (List ℕ)) → is_path_among path targets ≡ false
    → output_at path targets outputs ≡ None
output_of_none path [] outputs none = refl
output_of_none path (target ∷ targets) [] none = refl
output_of_none path (target ∷ targets) (output ∷ outputs) none =
    ap (λ is. cond is (Some output) (output_at path targets outputs))
    (bytes_eq_swapped target path ∙ or_first_false (bytes_eq path target) (is_path_among path targets) none)
    ∙ output_of_none path targets outputs (or_second_false (bytes_eq path target) (is_path_among path targets) none)
