use Rattle.std.proofs.Common.{◌∙◌}
use Rattle.make_text.proofs.LineLemmas.{joined_step}
use Rattle.make_text.proofs.logical_lines.join_lines.Goals as goal

pub lines-preserved : goal.lines-preserved
lines-preserved c n =
    let cut = rw c.in-Some.is at c.cut_line.ensures in
    let back = c.in-Some-cut_backslash.ensures in
    joined_step c.lines.rest.now c.lines.bytes.items c.lines.number c.in-Some.more.now cut.0 c.past_blanks-part.ensures back.0
    back.1 c.in_ok-extend_from_slice-3.ensures.items c.in_ok-push.ensures.items c.next_number-number.ensures n
    ∙ c.lines.invariant n
