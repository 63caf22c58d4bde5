-- The extents with one taken out.
use Rattle.std.proofs.Common.{◌≡◌, ◌+◌, ◌-◌, ◌<◌, ℕ, ◌^◌, List, ◌∷◌, take, drop, sym, ◌∙◌, subst, arith}
use Rattle.std.specs.Prelude.{Contains, remove, vec_len, vec_capacity}
use Rattle.std.specs.List.Sorted.{IsPermutation}
use Rattle.std.proofs.lemmas.List.Sorted.{IsPermutation-remove, IsPermutation-sym}
use Rattle.cc_names.specs.declared.rows.Extent.{Extent}
use Rattle.container_store.specs.Extents.{end_of}
use Rattle.container_store.specs.Places.{IsInPlace, last_behind, hole_before, IsKept}
use Rattle.container_store.specs.Spaces.{Space}
use Rattle.container_store.proofs.Fitting.{found_in}
use Rattle.container_store.proofs.Keeping.{out_in_place, out_end, out_kept}
use Rattle.container_store.proofs.store.Store.free.Goals as goal

pub hole_before-requires-clause-in_place : goal.hole_before-requires-clause-in_place
hole_before-requires-clause-in_place c =
    let xs = c.self.inside.taken.items in
    let at = c.count_extents_below-at.result in
    let e = c.args.extent in
    let taken : Contains xs e = subst (λ (s : Space). Contains s.taken e) (sym c.self.view_is) c.requires in
    let found = found_in c.as_slice.result.now xs at e c.as_slice.ensures.value c.self.invariant.in_place
    c.count_extents_below-at.ensures.below taken in
    subst (IsInPlace 0) (sym (c.as_slice-2.ensures.value ∙ c.remove.ensures.items))
    (out_in_place xs at c.self.inside.longest c.self.invariant e found.0 found.1)

pub hole_before-requires-clause-fits : goal.hole_before-requires-clause-fits
hole_before-requires-clause-fits c =
    let xs = c.self.inside.taken.items in
    let at = c.count_extents_below-at.result in
    let e = c.args.extent in
    let taken : Contains xs e = subst (λ (s : Space). Contains s.taken e) (sym c.self.view_is) c.requires in
    let found = found_in c.as_slice.result.now xs at e c.as_slice.ensures.value c.self.invariant.in_place
    c.count_extents_below-at.ensures.below taken in
    subst (λ (ys : List Extent). end_of ys < 2 ^ 64) (sym (c.as_slice-2.ensures.value ∙ c.remove.ensures.items))
    (out_end xs at c.self.inside.longest c.self.invariant e found.0 found.1)

pub invariant_of-self : goal.invariant_of-self
invariant_of-self c =
    let xs = c.self.inside.taken.items in
    let at = c.count_extents_below-at.result in
    let e = c.args.extent in
    let taken : Contains xs e = subst (λ (s : Space). Contains s.taken e) (sym c.self.view_is) c.requires in
    let found = found_in c.as_slice.result.now xs at e c.as_slice.ensures.value c.self.invariant.in_place
    c.count_extents_below-at.ensures.below taken in
    let hole = c.hole_before.result in
    let is_hole : hole ≡ hole_before (last_behind 0 (take at (remove xs at))) (drop at (remove xs at)) =
    subst (λ (ys : List Extent). hole ≡ hole_before (last_behind 0 (take at ys)) (drop at ys)) (c.as_slice-2.ensures.value
    ∙ c.remove.ensures.items) c.hole_before.ensures in
    subst (λ (ys : List Extent). IsKept ys c.max-self-inside.result) (sym c.remove.ensures.items)
    (subst (λ (m : ℕ). IsKept (remove xs at) m) (sym c.max-self-inside.ensures)
    (out_kept xs at c.self.inside.longest c.self.invariant e found.0 found.1 hole is_hole))

pub returns : goal.returns
returns c =
    let xs = c.self.inside.taken.items in
    let at = c.count_extents_below-at.result in
    let e = c.args.extent in
    let taken : Contains xs e = subst (λ (s : Space). Contains s.taken e) (sym c.self.view_is) c.requires in
    let found = found_in c.as_slice.result.now xs at e c.as_slice.ensures.value c.self.invariant.in_place
    c.count_extents_below-at.ensures.below taken in
    let old = c.self.inside.taken in
    let new = c.remove.new.self in
    let ok = old.ok in
    let long : vec_len new + 1 ≡ vec_len old = c.remove.ensures.len in
    let same : vec_capacity new ≡ vec_capacity old = c.remove.ensures.capacity in
    record {
      taken = subst (λ (s : Space). IsPermutation (e ∷ new.items) s.taken) c.self.view_is
          (subst (λ (ys : List Extent). IsPermutation (e ∷ ys) xs) (sym c.remove.ensures.items)
          (IsPermutation-sym xs (e ∷ remove xs at) (IsPermutation-remove xs at e found.0 found.1)));
      room = subst (λ (s : Space). s.room + 1 ≡ vec_capacity new - vec_len new) c.self.view_is (omega (arith, ok.1));
    }
