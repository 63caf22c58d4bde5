-- The extents with one more put in.
use Rattle.std.proofs.Common.{◌≡◌, ◌+◌, ◌-◌, ◌<◌, ℕ, ◌^◌, List, ◌∷◌, take, drop, sym, ◌∙◌, subst, arith}
use Rattle.std.specs.Prelude.{insert, vec_len, vec_capacity}
use Rattle.std.specs.List.Sorted.{IsPermutation}
use Rattle.std.proofs.lemmas.List.Sorted.{IsPermutation-insert}
use Rattle.cc_names.specs.declared.rows.Extent.{Extent}
use Rattle.container_store.specs.Extents.{end_of}
use Rattle.container_store.specs.Places.{IsInPlace, last_behind, hole_before, FitsAt, IsKept}
use Rattle.container_store.specs.Spaces.{Space}
use Rattle.container_store.proofs.Keeping.{on_ok, put_in_place, put_end, put_kept}
use Rattle.container_store.proofs.store.Store.put_in.Goals as goal

pub hole_before-requires-clause-in_place : goal.hole_before-requires-clause-in_place
hole_before-requires-clause-in_place c =
    let xs = c.self.inside.taken.items in
    let at = c.args.at in
    let e = c.args.extent in
    let fits : FitsAt xs at e = subst (λ (s : Space). FitsAt s.taken at e) (sym c.self.view_is) c.requires.fits in
    let is : c.insert.new.self.items ≡ insert xs at e = on_ok c.insert.result c.unwrap.result c.insert.new.self.items
    (insert xs at e) xs c.insert.ensures.items c.unwrap.ensures in
    subst (IsInPlace 0) (sym (c.as_slice.ensures.value ∙ is)) (put_in_place xs at c.self.inside.longest c.self.invariant e
    c.requires.some fits)

pub hole_before-requires-clause-fits : goal.hole_before-requires-clause-fits
hole_before-requires-clause-fits c =
    let xs = c.self.inside.taken.items in
    let at = c.args.at in
    let e = c.args.extent in
    let is : c.insert.new.self.items ≡ insert xs at e = on_ok c.insert.result c.unwrap.result c.insert.new.self.items
    (insert xs at e) xs c.insert.ensures.items c.unwrap.ensures in
    subst (λ (ys : List Extent). end_of ys < 2 ^ 64) (sym (c.as_slice.ensures.value ∙ is))
    (put_end xs at c.self.inside.longest c.self.invariant e c.requires.small)

pub invariant_of-self : goal.invariant_of-self
invariant_of-self c =
    let xs = c.self.inside.taken.items in
    let at = c.args.at in
    let e = c.args.extent in
    let fits : FitsAt xs at e = subst (λ (s : Space). FitsAt s.taken at e) (sym c.self.view_is) c.requires.fits in
    let is : c.insert.new.self.items ≡ insert xs at e = on_ok c.insert.result c.unwrap.result c.insert.new.self.items
    (insert xs at e) xs c.insert.ensures.items c.unwrap.ensures in
    let hole = c.hole_before.result in
    let is_hole : hole ≡ hole_before (last_behind 0 (take at (insert xs at e))) (drop at (insert xs at e)) =
    subst (λ (ys : List Extent). hole ≡ hole_before (last_behind 0 (take at ys)) (drop at ys)) (c.as_slice.ensures.value
    ∙ is) c.hole_before.ensures in
    subst (λ (ys : List Extent). IsKept ys c.max-self-inside.result) (sym is)
    (subst (λ (m : ℕ). IsKept (insert xs at e) m) (sym c.max-self-inside.ensures)
    (put_kept xs at c.self.inside.longest c.self.invariant e hole c.requires.some c.requires.small fits is_hole))

pub returns : goal.returns
returns c =
    let xs = c.self.inside.taken.items in
    let at = c.args.at in
    let e = c.args.extent in
    let is : c.insert.new.self.items ≡ insert xs at e = on_ok c.insert.result c.unwrap.result c.insert.new.self.items
    (insert xs at e) xs c.insert.ensures.items c.unwrap.ensures in
    let old = c.self.inside.taken in
    let new = c.insert.new.self in
    let room : 0 < vec_capacity old - vec_len old = subst (λ (s : Space). 0 < s.room) (sym c.self.view_is) c.requires.room in
    let long : vec_len new ≡ vec_len old + 1 = on_ok c.insert.result c.unwrap.result (vec_len new) (vec_len old + 1) (vec_len old)
    c.insert.ensures.len c.unwrap.ensures in
    let block = c.insert.ensures.in_place (omega arith) in
    let same : vec_capacity new ≡ vec_capacity old = block.1.0 in
    record {
      taken = subst (λ (s : Space). IsPermutation (e ∷ s.taken) new.items) c.self.view_is
          (subst (λ (ys : List Extent). IsPermutation (e ∷ xs) ys) (sym is) (IsPermutation-insert xs at e));
      room = subst (λ (s : Space). (vec_capacity new - vec_len new) + 1 ≡ s.room) c.self.view_is (omega arith);
    }
