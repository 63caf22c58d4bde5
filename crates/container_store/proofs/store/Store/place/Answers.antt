-- The place that was found is the first, and its end fits.
use Rattle.std.proofs.Common.{◌≡◌, ℕ, List, take, sym, ap, ◌∙◌, subst, arith}
use Rattle.cc_names.specs.declared.rows.Extent.{Extent}
use Rattle.container_store.specs.Extents.{end_of, extent_at, IsFirstFit}
use Rattle.container_store.specs.Places.{IsInPlace, last_behind}
use Rattle.container_store.specs.Spaces.{Space}
use Rattle.container_store.proofs.Fitting.{last_within}
use Rattle.container_store.proofs.Walking.{first_fit}
use Rattle.container_store.proofs.store.Store.place.Goals as goal

pub put_in-requires-clause-small : goal.put_in-requires-clause-small
put_in-requires-clause-small c =
    let ys = c.as_slice.result.now in
    let ends : end_of ys ≡ end_of c.args.self.now.taken =
    ap end_of c.as_slice.ensures.value ∙ ap (λ (s : Space). end_of s.taken) (c.self.view_is ∙ c.first_fit-at.ensures.kept) in
    omega (arith, last_within ys c.first_fit-at.result, ends, c.last_behind-place.ensures, c.requires.small)

pub returns-clause-first : goal.returns-clause-first
returns-clause-first c =
    let xs = c.args.self.now.taken in
    let at = c.first_fit-at.result in
    let same = c.self.view_is ∙ c.first_fit-at.ensures.kept in
    let h : IsInPlace 0 xs = subst (λ (s : Space). IsInPlace 0 s.taken) same c.self.invariant.in_place in
    let is_place : c.last_behind-place.result ≡ last_behind 0 (take at xs) =
    c.last_behind-place.ensures ∙ ap (λ (ys : List Extent). last_behind 0 (take at ys)) c.as_slice.ensures.value
    ∙ ap (λ (s : Space). last_behind 0 (take at s.taken)) same in
    subst (λ (p : ℕ). IsFirstFit xs c.args.length (extent_at p c.args.length)) (sym is_place)
    (first_fit xs at c.args.length h c.first_fit-at.ensures.first)
