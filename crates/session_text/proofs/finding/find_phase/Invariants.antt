use Rattle.std.proofs.Common.{length}
use Rattle.session_text.specs.Sessions.{phases_of}
use Rattle.session_text.specs.Reading.{PassesLines}
use Rattle.session_text.proofs.finding.find_phase.Given as goal

abbrev pub invariant-lines : goal.invariant-lines
invariant-lines l = PassesLines phases_of l.fn.rest l.rest

abbrev pub decreases-lines : goal.decreases-lines
decreases-lines l = length l.rest.bytes
