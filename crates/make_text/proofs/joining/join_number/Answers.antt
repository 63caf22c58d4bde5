use Rattle.std.proofs.Common.{◌≡◌, ap, ◌∙◌}
use Rattle.make_grammar.specs.Contents.{with_joined_line}
use Rattle.make_text.specs.Joining.{joined_with, joined_at}
use Rattle.make_text.proofs.ReaderLemmas.{on_ok}
use Rattle.make_text.proofs.joining.join_number.Goals as goal

pub returns-in-Some : goal.returns-in-Some
returns-in-Some c =
    let old = c.args.rule.now in
    on_ok c.join.result (c.join.new.self ≡ with_joined_line c.in-Some.line.now old)
    (c.join.new.self ≡ joined_at c.args.lines.now old c.args.number) c.join.ensures
    (λ is. is ∙ ap (joined_with old) c.in-Some.ensures)

pub returns-in-None : goal.returns-in-None
returns-in-None c = ap (joined_with c.args.rule.now) c.in-None.ensures
