use Rattle.session_text.proofs.Steps.{stands-right}
use Rattle.session_text.proofs.checks.check_lines.Goals as goal

pub lines-preserved : goal.lines-preserved
lines-preserved c =
    stands-right _ c.lines.rest c.next.new.self c.in-Some.kind c.lines.above c.take.new.self
    c.lines.invariant c.in-Some.ensures c.in-Ok.ensures.0 c.in-Ok.ensures.1
