-- Where no hole is long enough, the place is after the last extent.
use Rattle.std.proofs.Common.{◌≡◌, ℕ, length, subst, arith}
use Rattle.container_store.specs.Spaces.{Space}
use Rattle.container_store.specs.Walks.{IsFirstAt}
use Rattle.container_store.proofs.Walking.{walk_missed}
use Rattle.container_store.proofs.store.Store.first_fit.Goals as goal

pub returns-then-self-length-clause-first : goal.returns-then-self-length-clause-first
returns-then-self-length-clause-first c =
    let xs = c.self.inside.taken.items in
    let ok = c.self.inside.taken.ok in
    let all : length xs ≡ c.len.result = omega (arith, c.len.ensures, ok.0) in
    let here = walk_missed xs c.self.inside.longest c.args.length c.self.invariant.holes c.if-self-length.true in
    subst (λ (s : Space). IsFirstAt s.taken c.args.length c.len.result) c.self.view_is
    (subst (λ (k : ℕ). IsFirstAt xs c.args.length k) all here)
