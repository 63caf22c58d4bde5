-- Extents that were placed one after the other: how far they reach, and that they may be taken so.
use Rattle.std.proofs.Common.{◌≡◌, ℕ, ◌≤◌, max, Bool, true, false, leb, List, [], ◌∷◌, ◌++◌, length, map, refl, sym, ap}
use Rattle.std.proofs.Common.{◌∙◌, inl, inr, arith}
use Rattle.std.specs.Prelude.{◌&&◌}
use Rattle.std.specs.List.Sorted.{IsPermutation}
use Rattle.std.proofs.lemmas.Bool.{cases_lt, le-leb, leb-true, and_parts, and_from, or_right}
use Rattle.cc_names.specs.declared.rows.Extent.{Extent}
use Rattle.container_store.specs.Extents.{place_behind, are_apart, is_free, end_of, may_take, extent_at, IsFirstFit}
use Rattle.container_store.specs.Placed.{ArePlaced}
use Rattle.container_store.proofs.InOrder.{is_free-append}

-- all is free after the end
pub free_at_end : (taken : List Extent) (place length : ℕ) → end_of taken ≤ place → is_free taken (extent_at place length) ≡ true
free_at_end [] place length le = refl
free_at_end (x ∷ more) place length le =
    let e = extent_at place length in
    let apart = or_right (leb (place_behind e) x.place) (leb (place_behind x) e.place)
    (le-leb (place_behind x) place (omega (arith, le))) in
    and_from (are_apart e x) (is_free more e) apart (free_at_end more place length (omega (arith, le)))

-- so nothing is placed after it
pub placed_within : (taken : List Extent) (length : ℕ) (e : Extent) → IsFirstFit taken length e → e.place ≤ end_of taken
placed_within taken length e fit = elim (cases_lt (end_of taken) e.place) [
  | inl further ↦
      let free = free_at_end taken (end_of taken) length (omega arith) in
      let not_free = fit.first (end_of taken) further in
      absurd (cc)
  | inr within ↦ within
]

pub as_many_placed : (taken : List Extent) (lengths : List ℕ) (es : List Extent) → ArePlaced taken lengths es
    → map (λ (e : Extent). e.length) es ≡ lengths
as_many_placed taken [] [] placed = refl
as_many_placed taken [] (e ∷ more) placed = absurd placed
as_many_placed taken (length ∷ lengths) [] placed = absurd placed
as_many_placed taken (length ∷ lengths) (e ∷ more) placed =
    ap (λ n. n ∷ map (λ (x : Extent). x.length) more) placed.0.long ∙ ap (λ ns. length ∷ ns)
    (as_many_placed (e ∷ taken) lengths more placed.1)

-- they may be added a file that has them
pub placed_may_be_taken : (size : ℕ) (taken : List Extent) (lengths : List ℕ) (es : List Extent) → ArePlaced taken lengths es
    → end_of es ≤ size → may_take size taken es ≡ true
placed_may_be_taken size taken [] [] placed le = refl
placed_may_be_taken size taken [] (e ∷ more) placed le = absurd placed
placed_may_be_taken size taken (length ∷ lengths) [] placed le = absurd placed
placed_may_be_taken size taken (length ∷ lengths) (e ∷ more) placed le =
    let rest = placed_may_be_taken size (e ∷ taken) lengths more placed.1 (omega (arith, le)) in
    and_from (leb (place_behind e) size) (is_free taken e && may_take size (e ∷ taken) more)
    (le-leb (place_behind e) size (omega (arith, le)))
    (and_from (is_free taken e) (may_take size (e ∷ taken) more) placed.0.free rest)

-- what may be added a file may be added a longer one
pub taken_in_longer : (size longer : ℕ) (taken es : List Extent) → size ≤ longer → may_take size taken es ≡ true
    → may_take longer taken es ≡ true
taken_in_longer size longer taken [] le may = refl
taken_in_longer size longer taken (e ∷ more) le may =
    let first = and_parts (leb (place_behind e) size) (is_free taken e && may_take size (e ∷ taken) more) may in
    let then = and_parts (is_free taken e) (may_take size (e ∷ taken) more) first.1 in
    let fits : place_behind e ≤ longer = omega (arith, le, leb-true (place_behind e) size first.0) in
    and_from (leb (place_behind e) longer) (is_free taken e && may_take longer (e ∷ taken) more)
    (le-leb (place_behind e) longer fits)
    (and_from (is_free taken e) (may_take longer (e ∷ taken) more) then.0
    (taken_in_longer size longer (e ∷ taken) more le then.1))

-- and where fewer are taken
pub taken_beside_fewer : (size : ℕ) (taken others es : List Extent) → may_take size (taken ++ others) es ≡ true
    → may_take size taken es ≡ true
taken_beside_fewer size taken others [] may = refl
taken_beside_fewer size taken others (e ∷ more) may =
    let first = and_parts (leb (place_behind e) size) (is_free (taken ++ others) e && may_take size (e ∷ taken ++ others) more)
    may in
    let then = and_parts (is_free (taken ++ others) e) (may_take size (e ∷ taken ++ others) more) first.1 in
    let free = and_parts (is_free taken e) (is_free others e) (sym (is_free-append taken others e) ∙ then.0) in
    and_from (leb (place_behind e) size) (is_free taken e && may_take size (e ∷ taken) more) first.0
    (and_from (is_free taken e) (may_take size (e ∷ taken) more) free.0 (taken_beside_fewer size (e ∷ taken) others more then.1))

-- they end in the file
pub taken_within : (size : ℕ) (taken es : List Extent) → may_take size taken es ≡ true → end_of es ≤ size
taken_within size taken [] may = omega arith
taken_within size taken (e ∷ more) may =
    let first = and_parts (leb (place_behind e) size) (is_free taken e && may_take size (e ∷ taken) more) may in
    let then = and_parts (is_free taken e) (may_take size (e ∷ taken) more) first.1 in
    omega (arith, leb-true (place_behind e) size first.0, taken_within size (e ∷ taken) more then.1)
