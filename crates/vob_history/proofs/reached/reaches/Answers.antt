-- A walk back comes to the source, or to all that reach the target.
use Rattle.std.proofs.Common.{◌≡◌, ℕ, ◌+◌, ◌-◌, Option, Some, None, MatchOption, List, [], ◌++◌, take, refl, ap, ◌∙◌}
use Rattle.std.specs.Option.{option_to_list}
use Rattle.vob_history.specs.declared.reached.Walk.{Walk}
use Rattle.vob_history.proofs.WalksBack.{begun, found, gone_back, not_found, one_less}
use Rattle.vob_history.proofs.reached.reaches.Goals as goal

pub loop-version-init : goal.loop-version-init
loop-version-init c =
    let empty : Walk = record { seen = c.new.result; left = c.new-2.result } in
    begun c.args.rows.now c.args.source c.args.target empty c.take.new.self c.new.ensures.empty c.new-2.ensures.items
    c.new.ensures.ordered c.in_ok-take.ensures

pub loop-version-smaller : goal.loop-version-smaller
loop-version-smaller c =
    let popped : Walk = record { seen = c.loop-version.walk.seen; left = c.pop.new.self } in
    one_less c.args.rows.now c.args.source c.args.target c.in-Some.version c.loop-version.walk popped c.loop-version.invariant
    refl c.in-Some.ensures.items c.if-version-source.false c.go_on.new.self c.in_ok-go_on.ensures c.are_base.ensures

pub loop-version-preserved : goal.loop-version-preserved
loop-version-preserved c =
    let popped : Walk = record { seen = c.loop-version.walk.seen; left = c.pop.new.self } in
    gone_back c.args.rows.now c.args.source c.args.target c.in-Some.version c.loop-version.walk popped c.loop-version.invariant
    refl c.in-Some.ensures.items c.if-version-source.false c.go_on.new.self c.in_ok-go_on.ensures

pub returns-then-version-source : goal.returns-then-version-source
returns-then-version-source c =
    let popped : Walk = record { seen = c.loop-version.walk.seen; left = c.pop.new.self } in
    found c.args.rows.now c.args.source c.args.target c.in-Some.version c.loop-version.walk popped c.loop-version.invariant refl
    c.in-Some.ensures.items c.reaching_is_by_a_walk.ensures.found c.are_base.ensures c.if-version-source.true

none : (versions rest : List ℕ) (popped : Option ℕ) (count behind : ℕ) → ((version : ℕ) → popped ≡ Some version → ⊥)
    → MatchOption popped ((count ≡ 0) × (behind ≡ 0)) (λ _. behind + 1 ≡ count) →
    versions ≡ rest ++ option_to_list popped → rest ≡ take (count - 1) versions → versions ≡ []
none versions rest None count behind not_some cases all prefix = all ∙ ap (λ before. before ++ []) (prefix
    ∙ ap (λ n. take (n - 1) versions) cases.0)
none versions rest (Some last) count behind not_some cases all prefix = absurd (not_some last refl)

pub returns : goal.returns
returns c =
    let walk = c.loop-version.walk in
    not_found c.reaching_is_by_a_walk.ensures.walk c.args.rows.now c.args.source c.args.target walk c.loop-version.invariant
    (none walk.left.items c.pop.new.self.items c.pop.result walk.left.len c.pop.new.self.len c.in_default.not-Some
    c.pop.ensures.cases c.pop.ensures.items c.pop.ensures.rest)
