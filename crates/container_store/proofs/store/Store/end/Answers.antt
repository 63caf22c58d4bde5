-- The last extent ends where they all end.
use Rattle.std.proofs.Common.{◌≡◌, ℕ, List, length, take, ap, ◌∙◌, subst, arith}
use Rattle.cc_names.specs.declared.rows.Extent.{Extent}
use Rattle.container_store.specs.Extents.{end_of}
use Rattle.container_store.specs.Places.{last_behind}
use Rattle.container_store.specs.Spaces.{Space}
use Rattle.container_store.proofs.Walking.{last_is_end}
use Rattle.container_store.proofs.store.Store.end.Goals as goal

pub returns : goal.returns
returns c =
    let xs = c.self.inside.taken.items in
    let ok = c.self.inside.taken.ok in
    let all : c.len.result ≡ length xs = omega (arith, c.len.ensures, ok.0) in
    subst (λ (s : Space). c.last_behind.result ≡ end_of s.taken) c.self.view_is
    (c.last_behind.ensures ∙ ap (λ (ys : List Extent). last_behind 0 (take c.len.result ys)) c.as_slice.ensures.value
    ∙ ap (λ (n : ℕ). last_behind 0 (take n xs)) all ∙ last_is_end xs c.self.invariant.in_place)
