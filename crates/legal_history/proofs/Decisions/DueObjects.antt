-- A scrub lists exactly the objects that are due, in ascending order.
use Rattle.std.proofs.Common.{◌≡◌, refl, ap, sym, subst, ◌∙◌, ℕ, zero, suc, ◌+◌, ◌-◌, ◌<◌, Bool, true, false, ◌||◌, ◌==◌, Option}
use Rattle.std.proofs.Common.{Some, None, Ok, List, [], ◌∷◌, length, get_or, arith}
use Rattle.std.proofs.lemmas.Bool.Decides.{nat_tests}
use Rattle.std.proofs.lemmas.List.{get_or-reverse, length-reverse}
use Rattle.std.proofs.lemmas.List.Sorted.{IsPermutation-reverse, list_any-IsPermutation}
use Rattle.std.specs.Bool.{⊤}
use Rattle.std.specs.List.{list_any}
use Rattle.std.specs.List.Sorted.{IsStrictlyIncreasing}
use Rattle.std.specs.Prelude.{reverse}
use Rattle.cc_names.specs.Formed.{Plain}
use Rattle.cc_names.specs.Versions.{put_if}
use Rattle.cc_names.specs.declared.rows.Deed.{Deed}
use Rattle.cc_names.specs.declared.rows.Deed.TheVariants as deeds
use Rattle.cc_names.proofs.Common.{same_number}
use Rattle.base_model.specs.Rows.{Base, size, row_at}
use Rattle.legal_history.specs.Commands.Decisions.{Scene, Makes}
use Rattle.legal_history.specs.Commands.ObjectLines.{due_objects, due_among, is_due, scrub_of}
use Rattle.legal_history.proofs.Decisions.Passed.{answers_nothing, made_by}
use Rattle.legal_history.specs.Laws.Dues.{due_by, is_due_object}

-- no row has the number that the next one gets
higher_row : (b : Base) (n : ℕ) → size b < suc n → row_at b n ≡ None
higher_row [] n low = refl
higher_row (row ∷ older) n low = let rest = higher_row older n (omega arith) in grind (arith, nat_tests)

-- whether an object is listed among those of some rows
listed_among : (b : Base) (moment age id : ℕ) (rows : Base) → list_any (λ object. object == id) (due_among b moment age rows)
    ≡ due_by b moment age id (row_at rows id)
listed_among b moment age id [] = refl
listed_among b moment age id (row ∷ older) = by (is_due b moment age (size older) row.moment) (size older == id) refl refl
    (listed_among b moment age id older)
  where
    by : (s t : Bool) → is_due b moment age (size older) row.moment ≡ s → (size older == id) ≡ t
        → list_any (λ object. object == id) (due_among b moment age older) ≡ due_by b moment age id (row_at older id) →
        list_any (λ object. object == id) (put_if s (size older) (due_among b moment age older))
        ≡ due_by b moment age id (elim t as (λ x. Option Plain) [ true ↦ Some row | false ↦ row_at older id ])
    by true true is here rest =
        let number = same_number (size older) id here in
        ap (λ t. t || list_any (λ object. object == id) (due_among b moment age older)) here
        ∙ sym (ap (λ n. is_due b moment age n row.moment) (sym number) ∙ is)
    by true false is here rest = ap (λ t. t || list_any (λ object. object == id) (due_among b moment age older)) here ∙ rest
    by false true is here rest =
        let number = same_number (size older) id here in
        rest ∙ ap (due_by b moment age id) (higher_row older id (omega arith))
        ∙ sym (ap (λ n. is_due b moment age n row.moment) (sym number) ∙ is)
    by false false is here rest = rest

some_objects : List ℕ → Deed → List ℕ
some_objects before (deeds.Scrub objects) = objects
some_objects before deed = before

-- the objects of a scrub that was decided
scrubbed_of : (s : Scene) (ids objects : List ℕ) → scrub_of s ids ≡ Ok (Makes (deeds.Scrub objects)) → objects ≡ ids
unfolding some_objects
scrubbed_of s [] objects h = absurd (answers_nothing [] [] (deeds.Scrub objects) h)
scrubbed_of s (id ∷ ids) objects h = ap (some_objects []) (made_by s [] (deeds.Scrub (id ∷ ids)) (deeds.Scrub objects) h).is

pub scrub_lists : (s : Scene) (age : ℕ) (objects : List ℕ) (id : ℕ) → scrub_of s (due_objects s.base s.moment age)
    ≡ Ok (Makes (deeds.Scrub objects)) → list_any (λ object. object == id) objects ≡ is_due_object s.base s.moment age id
scrub_lists s age objects id h =
    ap (list_any (λ object. object == id)) (scrubbed_of s (due_objects s.base s.moment age) objects h)
    ∙ sym (list_any-IsPermutation (λ object. object == id) (due_among s.base s.moment age s.base)
    (reverse (due_among s.base s.moment age s.base)) (IsPermutation-reverse (due_among s.base s.moment age s.base)))
    ∙ listed_among s.base s.moment age id s.base

-- numbers that fall, each below the one before it and the first below this one
abbrev FallsBelow : ℕ → List ℕ → Type 0
FallsBelow n [] = ⊤
FallsBelow n (x ∷ xs) = (x < n) × FallsBelow x xs

falls_wider : (n : ℕ) (xs : List ℕ) → FallsBelow n xs → FallsBelow (suc n) xs
falls_wider n [] h = tt
falls_wider n (x ∷ xs) h = let low : x < n = h.0 in (omega arith, h.1)

falls_with : (due_objects : Bool) (n : ℕ) (xs : List ℕ) → FallsBelow n xs → FallsBelow (suc n) (put_if due_objects n xs)
falls_with true n xs h = (omega arith, h)
falls_with false n xs h = falls_wider n xs h

due_falls : (b : Base) (moment age : ℕ) (rows : Base) → FallsBelow (size rows) (due_among b moment age rows)
due_falls b moment age [] = tt
due_falls b moment age (row ∷ older) = falls_with (is_due b moment age (size older) row.moment) (size older)
    (due_among b moment age older) (due_falls b moment age older)

falls_at : (n : ℕ) (xs : List ℕ) (k : ℕ) → FallsBelow n xs → suc k < length xs → get_or xs (suc k) 0 < get_or xs k 0
falls_at n [] k h low = absurd (omega arith)
falls_at n (x ∷ []) k h low = absurd (omega arith)
falls_at n (x ∷ y ∷ xs) zero h low = h.1.0
falls_at n (x ∷ y ∷ xs) (suc k) h low = falls_at x (y ∷ xs) k h.1 (omega arith)

-- what falls, read from its end, rises
rises_back : (n : ℕ) (xs : List ℕ) → FallsBelow n xs → IsStrictlyIncreasing (reverse xs)
rises_back n xs h k low =
    let within : k + 1 < length xs = subst (λ m. k + 1 < m) (length-reverse xs) low in
    let later : length xs - 1 - k ≡ suc (length xs - 1 - (k + 1)) = omega (arith, within) in
    subst (λ m. m < get_or (reverse xs) (k + 1) 0) (sym (get_or-reverse xs k 0 (omega (arith, within))
    ∙ ap (λ m. get_or xs m 0) later))
    (subst (λ m. get_or xs (suc (length xs - 1 - (k + 1))) 0 < m) (sym (get_or-reverse xs (k + 1) 0 within))
    (falls_at n xs (length xs - 1 - (k + 1)) h (omega (arith, within))))

pub scrub_ascends : (s : Scene) (age : ℕ) (objects : List ℕ) → scrub_of s (due_objects s.base s.moment age)
    ≡ Ok (Makes (deeds.Scrub objects)) → IsStrictlyIncreasing objects
scrub_ascends s age objects h =
    subst IsStrictlyIncreasing (sym (scrubbed_of s (due_objects s.base s.moment age) objects h))
    (rises_back (size s.base) (due_among s.base s.moment age s.base) (due_falls s.base s.moment age s.base))
