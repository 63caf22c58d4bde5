-- a phase begins: what is kept then
use Rattle.std.proofs.Common.{◌≡◌, ◌+◌, ◌<◌, ◌^◌, true, ap, sym, subst, ◌∙◌, arith}
use Rattle.legal_history.specs.Stories.States.{all_done}
use Rattle.legal_history.specs.Stories.Steps.{state_of}
use Rattle.base_core.specs.Keeping.CoreInvariants.{CoreInvariant}
use Rattle.story_log.specs.Logging.Logs.{with_phase}
use Rattle.base_core.proofs.Keeping.Beginning.{preserved_plan}
use Rattle.base_core.proofs.core_value.Core.begin_phase.Goals as goal

pub invariant_of-self-2 : goal.invariant_of-self-2
invariant_of-self-2 g c =
    let finished : all_done (state_of c.self.inside.log.story) ≡ true = ap (λ v. all_done (state_of v.story)) c.self.view_is
    ∙ c.requires.finished in
    let number : (state_of c.self.inside.log.story).number + 1 < 2 ^ 32 =
    subst (λ v. (state_of v.story).number + 1 < 2 ^ 32) (sym c.self.view_is) c.requires.few in
    subst (λ log. CoreInvariant log c.in_ok-lanes.lanes c.args.moment) (sym c.in_ok-begin_phase.ensures.ok)
    (subst (λ lanes. CoreInvariant (with_phase c.self.inside.log c.args.phase c.args.moment) lanes c.args.moment)
    (sym c.in_ok-lanes.ensures)
    (preserved_plan c.self.inside.log c.self.inside.lanes c.self.inside.moment c.args.moment c.args.phase c.self.invariant
    finished c.requires.formed
    (omega (arith, number, c.self.invariant.phase.number)) c.requires.in_time))
