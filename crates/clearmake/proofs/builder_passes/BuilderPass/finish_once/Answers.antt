use Rattle.std.proofs.Common.{subst, sym}
use mathlib.Core.List.{IsPrefix}
use Rattle.build_script.specs.Ended.{ran_of}
use Rattle.legal_history.specs.Stories.Steps.{state_of}
use Rattle.turn_lock.proofs.Prefixes.{begins_on}
use Rattle.clearmake.specs.Calls.{IsRunOfUnit}
use Rattle.clearmake.specs.Passes.{BuilderState, Builds}
use Rattle.clearmake.proofs.Begun.{turn_later}
use Rattle.clearmake.proofs.builder_passes.BuilderPass.finish_once.Goals as goal

pub finish_at-end-requires-clause-begins : goal.finish_at-end-requires-clause-begins
finish_at-end-requires-clause-begins g c =
    begins_on _ _ _ (subst (λ (s : BuilderState). IsPrefix c.args.start.now.value.seen s.pass.seen) (sym c.self.view_is)
    c.requires.begins) c.take-held.ensures.seen

pub finish_at-end-requires-clause-builds : goal.finish_at-end-requires-clause-builds
finish_at-end-requires-clause-builds g c =
    subst (λ (s : BuilderState). Builds c.args.start.now.value.seen s.tag s.count) (sym c.self.view_is) c.requires.builds

pub finish_at-end-requires-clause-ran : goal.finish_at-end-requires-clause-ran
finish_at-end-requires-clause-ran g c =
    subst (λ (s : BuilderState). IsRunOfUnit (state_of c.args.start.now.value.seen) s.tag.lane c.args.unit (ran_of c.args.ended))
    (sym c.self.view_is) c.requires.ran

pub returns-clause-pass : goal.returns-clause-pass
returns-clause-pass g c =
    turn_later c.args.self c.self.inside.pass c.give-pass.result c.self.inside.context.now.tag c.self.inside.context.now.count
    c.take-held.result.0 _ _ c.self.view_is c.take-held.ensures.own c.take-held.ensures.weight c.take-held.ensures.seen
    c.finish_at-end.ensures.begins
    c.give-pass.ensures.own c.give-pass.ensures.weight c.give-pass.ensures.seen
