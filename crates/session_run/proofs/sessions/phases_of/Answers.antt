-- the phases of a text that was read
use Rattle.std.proofs.Common.{sym, subst, ◌∙◌}
use Rattle.session_run.specs.Running.Unstarted.{HasPhases}
use Rattle.session_run.proofs.Calls.Ready.{has_phases}
use Rattle.session_run.proofs.sessions.phases_of.Goals as goal

pub returns-in-Ok-into_vec-clause-has : goal.returns-in-Ok-into_vec-clause-has
returns-in-Ok-into_vec-clause-has c =
    let read = c.in-Ok.ensures in
    subst (HasPhases c.args.text) (sym (c.in-Ok-into_vec.ensures ∙ c.into_phases.ensures))
    (has_phases c.args.text c.in-Ok.session c.requires read.session read.formed)
