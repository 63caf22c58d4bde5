use Rattle.clearmake.specs.Passes.{IsLaterOfBuilder}
use Rattle.clearmake.proofs.builder_passes.BuilderPass.build_share.Given as goal

abbrev pub invariant-loop : goal.invariant-loop
invariant-loop g l = IsLaterOfBuilder l.fn.self l.pass
