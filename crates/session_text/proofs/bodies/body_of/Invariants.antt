use Rattle.std.proofs.Common.{◌≡◌, ◌++◌, length}
use Rattle.session_text.specs.Kinds.{kinds_of}
use Rattle.session_text.specs.Sessions.{body_of}
use Rattle.session_text.proofs.bodies.body_of.Given as goal

abbrev pub invariant-loop-kind : goal.invariant-loop-kind
invariant-loop-kind l = body_of (kinds_of l.fn.lines.bytes) ≡ l.text.items ++ body_of (kinds_of l.rest.bytes)

abbrev pub decreases-loop-kind : goal.decreases-loop-kind
decreases-loop-kind l = length l.rest.bytes
