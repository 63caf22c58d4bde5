use Rattle.std.proofs.Common.{◌≡◌, length}
use Rattle.session_text.specs.Kinds.{kinds_of}
use Rattle.session_text.specs.Sessions.{first_error, nothing}
use Rattle.session_text.proofs.checks.check_lines.Given as goal

abbrev pub invariant-lines : goal.invariant-lines
invariant-lines l = first_error 0 nothing (kinds_of l.text) ≡ first_error l.rest.number l.above (kinds_of l.rest.bytes)

abbrev pub decreases-lines : goal.decreases-lines
decreases-lines l = length l.rest.bytes
