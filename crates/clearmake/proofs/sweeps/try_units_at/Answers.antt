use Rattle.std.proofs.Common.{arith, subst}
use Rattle.turn_lock.proofs.Prefixes.{begins_on}
use Rattle.clearmake.specs.Driving.{IsDriven, IsTried}
use Rattle.clearmake.proofs.Begun.{begun_on}
use Rattle.clearmake.proofs.Driving.{were_fewer, were_more, were_on}
use Rattle.clearmake.proofs.sweeps.try_units_at.Goals as goal

pub loop-unit-preserved : goal.loop-unit-preserved
loop-unit-preserved g c =
    let tag = c.args.context.now.tag in
    let count = c.args.context.now.count in
    let old = g.T.Storied.story c.loop-unit.service in
    let new = g.T.Storied.story c.try_at.new.service in
    let unit = c.loop-unit.unit in
    let concluded = c.in-Ok-End-Concluded in
    let settled = subst (λ end. IsDriven end new tag count unit) concluded.field-0-0-is
    (subst (λ turn. IsTried turn new tag count unit) concluded.field-0-is concluded.ensures.tried) in
    let begins = c.try_at.ensures.begins in (
      begins_on _ old new c.loop-unit.invariant.0 begins,
      begun_on old new tag count c.loop-unit.invariant.1 begins,
      were_more old new tag count unit c.loop-unit.invariant.2 begins settled,
    )

pub returns-clause-done : goal.returns-clause-done
returns-clause-done g c =
    let last = c.loop-unit-test.false in
    were_on (g.T.Storied.story c.loop-unit.service) _ c.args.context.now.tag c.args.context.now.count c.min-last.result
    (were_fewer (g.T.Storied.story c.loop-unit.service) c.args.context.now.tag c.args.context.now.count c.min-last.result
    c.loop-unit.unit (omega arith) c.loop-unit.invariant.2) c.try_at-turn.ensures.begins
