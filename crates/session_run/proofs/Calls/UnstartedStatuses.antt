-- Which status tells which reason why a session is not started.
use Rattle.std.proofs.Common.{◌≡◌, ◌≢◌, false, refl}
use Rattle.story_log.specs.declared.opening.OpenCause.TheVariants as opens
use Rattle.session_run.specs.Calls.Statuses.{is_cut}
use Rattle.session_run.specs.Running.Unstarted.{unstarted_status}
use Rattle.session_run.specs.declared.sessions.Unstarted.{Unstarted}
use Rattle.session_run.specs.declared.sessions.Unstarted.TheVariants as why
use Rattle.session_run.specs.declared.statuses.Status.TheVariants as statuses

-- want of memory is told for nothing else
pub only_memory : (unstarted : Unstarted) → unstarted_status unstarted ≡ statuses.NoMemory
    → unstarted ≡ why.Unopened opens.NoMemory
only_memory why.BadWords is = absurd (cc)
only_memory why.ReadFault is = absurd (cc)
only_memory why.TooLong is = absurd (cc)
only_memory (why.BadSession error) is = absurd (cc)
only_memory (why.Unopened (opens.Damaged row)) is = absurd (cc)
only_memory (why.Unopened opens.DiskFault) is = absurd (cc)
only_memory (why.Unopened opens.NoMemory) is = refl

-- each other reason has a line
pub has_line : (unstarted : Unstarted) → unstarted ≢ why.Unopened opens.NoMemory → is_cut (unstarted_status unstarted) ≡ false
has_line why.BadWords h = refl
has_line why.ReadFault h = refl
has_line why.TooLong h = refl
has_line (why.BadSession error) h = refl
has_line (why.Unopened (opens.Damaged row)) h = refl
has_line (why.Unopened opens.DiskFault) h = refl
has_line (why.Unopened opens.NoMemory) h = absurd (h refl)
