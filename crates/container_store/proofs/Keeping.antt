-- What a store keeps where an extent is put in, or taken out.
use Rattle.std.proofs.Common.{◌≡◌, ℕ, suc, ◌+◌, ◌-◌, ◌^◌, ◌<◌, ◌≤◌, max, cond, Result, Ok, List, [], ◌∷◌, ◌++◌, length, get_or}
use Rattle.std.proofs.Common.{take, drop, sym, ap, ◌∙◌, subst, arith}
use Rattle.std.specs.Prelude.{insert, remove, is_ok}
use Rattle.std.proofs.Math.Seq.{take-append_seam, drop-append_seam}
use Rattle.std.proofs.lemmas.List.{take-append-drop, length-take-le}
use Rattle.cc_names.specs.declared.rows.Extent.{Extent}
use Rattle.container_store.specs.Extents.{place_behind, end_of}
use Rattle.container_store.specs.Places.{IsInPlace, last_behind, HasNoLonger, hole_before, FitsAt, IsKept}
use Rattle.container_store.proofs.InOrder.{joined_in_place, lower_in_place, prefix_holes, back_holes, joined_holes, longer_holes}
use Rattle.container_store.proofs.InOrder.{holes_from, end_of-append}
use Rattle.container_store.proofs.Fitting.{prefix_of, rest_of, rest_is, end_is}

-- what a call that succeeded made
pub on_ok : {T E X : Type 0} (result : Result T E) (x : T) (made done old : X) → made ≡ cond (is_ok result) done old
    → result ≡ Ok x → made ≡ done
on_ok {T} {E} result x made done old h is = subst (λ (r : Result T E). made ≡ cond (is_ok r) done old) is h

-- the first hole is a shorter one, further up
higher_holes : (m n from higher : ℕ) (xs : List Extent) → m ≤ n → from ≤ higher → HasNoLonger m from xs → HasNoLonger n higher xs
higher_holes m n from higher [] le up h = tt
higher_holes m n from higher (x ∷ xs) le up h = (omega (arith, h.0), longer_holes m n (place_behind x) xs le h.1)

module _ (xs : List Extent) (at : ℕ) (within : at ≤ length xs) where
  long : length (take at xs) ≡ at
  long = length-take-le at xs within

  seam_take : (ys : List Extent) → take at (take at xs ++ ys) ≡ take at xs
  seam_take ys = subst (λ (n : ℕ). take n (take at xs ++ ys) ≡ take at xs) long (take-append_seam (take at xs) ys)

  seam_drop : (ys : List Extent) → drop at (take at xs ++ ys) ≡ ys
  seam_drop ys = subst (λ (n : ℕ). drop n (take at xs ++ ys) ≡ ys) long (drop-append_seam (take at xs) ys)

  -- the hole at the index, with other extents after it
  hole_at : (ys : List Extent) → hole_before (last_behind 0 (take at (take at xs ++ ys))) (drop at (take at xs ++ ys))
      ≡ hole_before (last_behind 0 (take at xs)) ys
  hole_at ys =
      ap (λ (zs : List Extent). hole_before (last_behind 0 zs) (drop at (take at xs ++ ys))) (seam_take ys)
      ∙ ap (hole_before (last_behind 0 (take at xs))) (seam_drop ys)

module _ (xs : List Extent) (at longest : ℕ) (kept : IsKept xs longest) where
  all_holes : HasNoLonger longest 0 (take at xs ++ drop at xs)
  all_holes = subst (HasNoLonger longest 0) (sym (take-append-drop at xs)) kept.holes

  -- put in: in order, its ends, the hole before it, and what is kept
  pub put_in_place : (e : Extent) → 0 < e.length → FitsAt xs at e → IsInPlace 0 (insert xs at e)
  put_in_place e some fits = joined_in_place 0 (take at xs) (e ∷ drop at xs) (prefix_of xs at kept.in_place) (
    fits.prefix,
    some,
    fits.back,
  )

  pub put_end : (e : Extent) → place_behind e < 2 ^ 64 → end_of (insert xs at e) < 2 ^ 64
  put_end e small =
      let here : end_of (insert xs at e) ≡ max (end_of (take at xs)) (max (place_behind e) (end_of (drop at xs))) =
      end_of-append (take at xs) (e ∷ drop at xs) in
      omega (arith, here, end_is xs at, kept.fits)

  pub put_kept : (e : Extent) (hole : ℕ) → 0 < e.length → place_behind e < 2 ^ 64 → FitsAt xs at e
      → hole ≡ hole_before (last_behind 0 (take at (insert xs at e))) (drop at (insert xs at e))
      → IsKept (insert xs at e) (max longest hole)
  put_kept e hole some small fits is =
      let more = max longest hole in
      let here : hole ≡ e.place - last_behind 0 (take at xs) = is ∙ hole_at xs at fits.within (e ∷ drop at xs) in
      let prefix = longer_holes longest more 0 (take at xs) (omega arith)
      (prefix_holes longest 0 (take at xs) (drop at xs) all_holes) in
      let first : e.place ≤ last_behind 0 (take at xs) + more = omega (arith, here) in
      let back = higher_holes longest more (last_behind 0 (take at xs)) (place_behind e) (drop at xs) (omega arith)
      (omega (arith, fits.prefix))
      (back_holes longest 0 (take at xs) (drop at xs) all_holes) in
      record {
        in_place = put_in_place e some fits;
        fits = put_end e small;
        holes = joined_holes more 0 (take at xs) (e ∷ drop at xs) prefix (first, back);
      }

  -- taken out
  module _ (e : Extent) (within : at < length xs) (is : e ≡ get_or xs at e) where
    pub out_in_place : IsInPlace 0 (remove xs at)
    out_in_place =
        let rest = rest_of xs at e within is kept.in_place in
        joined_in_place 0 (take at xs) (drop (suc at) xs) (prefix_of xs at kept.in_place)
        (lower_in_place (place_behind e) (last_behind 0 (take at xs)) (drop (suc at) xs) (omega (arith, rest.0)) rest.2)

    pub out_end : end_of (remove xs at) < 2 ^ 64
    out_end =
        let whole : end_of (drop at xs) ≡ max (place_behind e) (end_of (drop (suc at) xs)) =
        ap end_of (rest_is xs at e within is) in
        let here : end_of (remove xs at) ≡ max (end_of (take at xs)) (end_of (drop (suc at) xs)) =
        end_of-append (take at xs) (drop (suc at) xs) in
        omega (arith, here, whole, end_is xs at, kept.fits)

    pub out_kept : (hole : ℕ) → hole ≡ hole_before (last_behind 0 (take at (remove xs at))) (drop at (remove xs at))
        → IsKept (remove xs at) (max longest hole)
    out_kept hole is_hole =
        let more = max longest hole in
        let here : hole ≡ hole_before (last_behind 0 (take at xs)) (drop (suc at) xs) = is_hole
        ∙ hole_at xs at (omega arith) (drop (suc at) xs) in
        let prefix = longer_holes longest more 0 (take at xs) (omega arith)
        (prefix_holes longest 0 (take at xs) (drop at xs) all_holes) in
        let old : HasNoLonger longest (last_behind 0 (take at xs)) (e ∷ drop (suc at) xs) =
        subst (HasNoLonger longest (last_behind 0 (take at xs))) (rest_is xs at e within is)
        (back_holes longest 0 (take at xs) (drop at xs) all_holes) in
        let back = holes_from longest more (place_behind e) (last_behind 0 (take at xs)) (drop (suc at) xs) (omega arith)
        (omega (arith, here)) old.1 in
        record {
          in_place = out_in_place;
          fits = out_end;
          holes = joined_holes more 0 (take at xs) (drop (suc at) xs) prefix back;
        }
