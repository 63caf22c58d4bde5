use Rattle.std.proofs.Common.{arith}
use Rattle.clearmake.specs.Driving.{IsDriven}
use Rattle.clearmake.specs.Passes.{AreDone}
use Rattle.clearmake.proofs.Begun.{builder_on, of_builder}
use Rattle.clearmake.proofs.Driving.{concluded_so, left_so, one_more}
use Rattle.clearmake.proofs.builder_passes.BuilderPass.sweep.Goals as goal

pub returns-then-ne-clause-swept : goal.returns-then-ne-clause-swept
returns-then-ne-clause-swept g c =
    let now = c.drive_from-later.result.0 in
    let unit = c.drive_from-later.result.1 in
    let done = c.drive_from-later.ensures.done in
    left_so done.seen now.pass.seen now.tag now.count unit _ c.ne.result c.drive_from-later.result.2 done.done done.begins
    c.ne.ensures c.if-ne.true c.drive_from-later.ensures.driven

pub loop-next-preserved : goal.loop-next-preserved
loop-next-preserved g c =
    let was = c.loop-next.pass in
    let now = c.drive_from-later.result.0 in
    let unit = c.drive_from-later.result.1 in
    let done = c.drive_from-later.ensures.done in (
      builder_on c.args.self was now c.loop-next.invariant.0 c.drive_from-later.ensures.pass,
      one_more done.seen now.pass.seen now.tag now.count unit done.done done.begins
          (concluded_so _ c.ne.result c.drive_from-later.result.2 (λ end. IsDriven end now.pass.seen now.tag now.count unit)
          c.ne.ensures c.if-ne.false c.drive_from-later.ensures.driven),
      omega (arith, c.drive_from-later.ensures.unit),
    )

pub returns-clause-swept : goal.returns-clause-swept
returns-clause-swept g c = λ m below.
    let last = c.loop-next-test.false in
    let units = c.units.ensures in
    c.loop-next.invariant.1 m (omega arith)
