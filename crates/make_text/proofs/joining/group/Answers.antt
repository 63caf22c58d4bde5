use Rattle.std.proofs.Common.{◌≡◌, ◌+◌, Some, ap, sym, ◌∙◌, arith}
use Rattle.make_text.specs.Joining.{made_together}
use Rattle.make_text.proofs.JoinLemmas.{found_number, found_none}
use Rattle.make_text.proofs.joining.group.Goals as goal

pub returns-in-Some : goal.returns-in-Some
returns-in-Some c =
    let path = c.args.target.now in
    let k = c.in-Some.number in
    let counted : k ≡ 0 + k = omega arith in
    c.line_at.ensures ∙ found_number made_together 0 k path c.args.lines.now (sym (c.requires path)
    ∙ (sym c.in-Some.ensures ∙ ap Some counted))

pub returns-in-None : goal.returns-in-None
returns-in-None c =
    let path = c.args.target.now in
    sym (found_none made_together 0 path c.args.lines.now (sym (c.requires path) ∙ sym c.in-None.ensures))
