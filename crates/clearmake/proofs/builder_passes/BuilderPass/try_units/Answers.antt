use Rattle.std.proofs.Common.{subst, sym}
use Rattle.clearmake.specs.Passes.{AreDone, BuilderState}
use Rattle.clearmake.proofs.Begun.{turn_later}
use Rattle.clearmake.proofs.Driving.{were_here, were_on}
use Rattle.clearmake.proofs.builder_passes.BuilderPass.try_units.Goals as goal

pub try_units_at-tried-requires-clause-done : goal.try_units_at-tried-requires-clause-done
try_units_at-tried-requires-clause-done g c =
    let pass = c.self.inside.pass in
    let context = c.self.inside.context.now in
    were_on pass.seen _ context.tag context.count c.args.first
    (were_here pass.seen context.tag context.count c.args.first
    (subst (λ (s : BuilderState). AreDone s.pass.seen s.tag s.count c.args.first) (sym c.self.view_is) c.requires.done))
    c.take-held.ensures.seen

pub returns-clause-pass : goal.returns-clause-pass
returns-clause-pass g c =
    turn_later c.args.self c.self.inside.pass c.give-pass.result c.self.inside.context.now.tag c.self.inside.context.now.count
    c.take-held.result.0 _ _ c.self.view_is c.take-held.ensures.own c.take-held.ensures.weight c.take-held.ensures.seen
    c.try_units_at-tried.ensures.begins
    c.give-pass.ensures.own c.give-pass.ensures.weight c.give-pass.ensures.seen
