-- The extent that was found is the one that was asked for, or that one is not taken.
use Rattle.std.proofs.Common.{◌≡◌, ◌<◌, List, length, get_or, sym, subst}
use Rattle.std.specs.Prelude.{IsTrue, Contains}
use Rattle.std.proofs.lemmas.Bool.{ltb-true}
use Rattle.cc_names.specs.declared.rows.Extent.{Extent}
use Rattle.container_store.specs.Spaces.{Space}
use Rattle.container_store.proofs.Fitting.{taken_as_found}
use Rattle.container_store.proofs.store.Store.is_taken.Goals as goal

pub returns-in-Some : goal.returns-in-Some
returns-in-Some c =
    let slice = c.as_slice-2.result.now in
    let xs = c.self.inside.taken.items in
    let at = c.count_extents_below-at.result in
    let e = c.args.extent in
    let found = c.in-Some.found.now in
    let there : at < length slice = ltb-true at (length slice) (sym c.in-Some.ensures.lookup.0) in
    let within : at < length xs = subst (λ (ys : List Extent). at < length ys) c.as_slice-2.ensures.value there in
    let here : found ≡ get_or xs at found = subst (λ (ys : List Extent). found ≡ get_or ys at found) c.as_slice-2.ensures.value
    c.in-Some.ensures.lookup.1 in
    subst (λ (s : Space). (IsTrue c.eq.result → Contains s.taken e) × (Contains s.taken e → IsTrue c.eq.result)) c.self.view_is
    (taken_as_found c.as_slice.result.now xs at e found c.eq.result c.as_slice.ensures.value c.self.invariant.in_place
    c.count_extents_below-at.ensures.below within here c.eq.ensures)
