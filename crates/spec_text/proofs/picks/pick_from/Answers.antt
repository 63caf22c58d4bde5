use Rattle.std.proofs.Common.{sym, ap, ◌∙◌}
use Rattle.cc_names.specs.Paths.{names_of}
use Rattle.spec_text.specs.Verdicts.{verdict}
use Rattle.spec_text.proofs.Steps.{rule_decides, rule_passes}
use Rattle.spec_text.proofs.picks.pick_from.Goals as goal

pub returns-in-Some : goal.returns-in-Some
returns-in-Some g c =
    let sources = g.S.Selectable.selectables c.args.sources.now in
    let names = names_of c.args.path.now in
    let said = c.in-Some.ensures in
    sym (c.loop-rule.invariant ∙ rule_decides sources c.args.element names c.as_slice-rule-items.result.now c.loop-rule.rule-index
    c.rule-item.result c.in-Some.picked
    c.loop-rule-test.true (ap (verdict sources c.args.element names) (sym c.rule-item.is) ∙ sym said))

pub loop-rule-preserved : goal.loop-rule-preserved
loop-rule-preserved g c =
    let sources = g.S.Selectable.selectables c.args.sources.now in
    let names = names_of c.args.path.now in
    let said = c.in_default.ensures in
    c.loop-rule.invariant ∙ rule_passes sources c.args.element names c.as_slice-rule-items.result.now c.loop-rule.rule-index
    c.rule-item.result
    c.loop-rule-test.true (ap (verdict sources c.args.element names) (sym c.rule-item.is) ∙ sym said)
