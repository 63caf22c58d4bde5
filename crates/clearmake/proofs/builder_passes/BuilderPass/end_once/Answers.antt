use Rattle.std.proofs.Common.{subst, sym}
use Rattle.cc_names.specs.declared.steps.StoryStep.{StoryStep}
use Rattle.turn_lock.specs.PassState.{PassState}
use Rattle.clearmake.specs.Passes.{AreDone, BuilderState}
use Rattle.clearmake.proofs.Begun.{turn_later}
use Rattle.clearmake.proofs.builder_passes.BuilderPass.end_once.Goals as goal

pub end_at-ended-requires-clause-done : goal.end_at-ended-requires-clause-done
end_at-ended-requires-clause-done g c =
    subst (λ (p : PassState StoryStep). AreDone p.seen c.self.inside.context.now.tag c.self.inside.context.now.count
    c.self.inside.context.now.count) (sym c.of-seen.ensures)
    (subst (λ (s : BuilderState). AreDone s.pass.seen s.tag s.count s.count) (sym c.self.view_is) c.requires)

pub returns-clause-pass : goal.returns-clause-pass
returns-clause-pass g c =
    turn_later c.args.self c.self.inside.pass c.give-pass.result c.self.inside.context.now.tag c.self.inside.context.now.count
    c.take-held.result.0 _ _ c.self.view_is c.take-held.ensures.own c.take-held.ensures.weight c.take-held.ensures.seen
    c.end_at-ended.ensures.begins
    c.give-pass.ensures.own c.give-pass.ensures.weight c.give-pass.ensures.seen
