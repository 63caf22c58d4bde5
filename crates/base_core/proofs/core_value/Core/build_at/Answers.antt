-- the build of a lane is kept
use Rattle.std.proofs.Common.{ap, sym, ◌∙◌}
use Rattle.legal_history.specs.Builds.Active.{build_of}
use Rattle.legal_history.specs.Stories.Steps.{state_of}
use Rattle.base_core.proofs.Building.FoundBuilds.{build_preserved}
use Rattle.base_core.proofs.core_value.Core.build_at.Goals as goal

pub returns-clause-kept : goal.returns-clause-kept
returns-clause-kept g c = build_preserved c.self.inside.log c.self.inside.lanes c.self.inside.moment c.args.self.now.story
    c.args.lane c.build_at.result.now (ap (λ v. v.story) c.self.view_is) c.self.invariant
    (ap (λ v. build_of (state_of v.story).active c.args.lane) (sym c.self.view_is)
    ∙ ap (λ a. build_of a c.args.lane) c.self.invariant.builds.active ∙ sym c.build_at.ensures)
