use Rattle.std.proofs.Common.{length}
use Rattle.session_text.specs.Sessions.{commands_of}
use Rattle.session_text.specs.Reading.{PassesLines}
use Rattle.session_text.proofs.finding.find_command.Given as goal

abbrev pub invariant-lines : goal.invariant-lines
invariant-lines l = PassesLines commands_of l.fn.rest l.rest

abbrev pub decreases-lines : goal.decreases-lines
decreases-lines l = length l.rest.bytes
