use Rattle.std.proofs.Common.{sym, subst}
use Rattle.cc_names.specs.Answers.{Gives}
use Rattle.make_text.specs.RuleLines.{rule_of_sides}
use Rattle.make_grammar.specs.Statements.{macros_of, is_grouped}
use Rattle.make_text.proofs.SideLemmas.{line_fault, line_words}
use Rattle.make_text.proofs.rule_lines.read_rule_line.Goals as goal

pub returns-in-Ok-clause-words : goal.returns-in-Ok-clause-words
returns-in-Ok-clause-words c =
    let read = c.rule_of_sides.result in
    let grouped = subst (λ g. Gives read (rule_of_sides g c.as_bytes.result.now c.as_bytes-in-Ok.result.now)) c.is_grouped.ensures
    c.rule_of_sides.ensures in
    let one = subst (λ b. Gives read (rule_of_sides (is_grouped c.args.before.now) b c.as_bytes-in-Ok.result.now))
    c.as_bytes.ensures grouped in
    let two = subst (λ b. Gives read (rule_of_sides (is_grouped c.args.before.now) c.in-Ok.first b)) c.as_bytes-in-Ok.ensures one
    in
    subst (λ r. Gives read r)
    (sym (line_words (macros_of c.args.macros.now) c.args.before.now c.args.behind.now c.in-Ok.first c.in-Ok.second
    c.in-None.ensures c.in-Ok.ensures.sides)) two

pub returns-in-Err-clause-words : goal.returns-in-Err-clause-words
returns-in-Err-clause-words c =
    line_fault (macros_of c.args.macros.now) c.args.before.now c.args.behind.now c.in-Err.fault c.in-None.ensures
    c.in-Err.ensures.sides
