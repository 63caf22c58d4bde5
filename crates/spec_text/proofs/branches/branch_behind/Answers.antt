use Rattle.std.proofs.Common.{sym, ap, ◌∙◌}
use Rattle.spec_text.specs.Children.{child}
use Rattle.spec_text.proofs.Steps.{leads_on, leads_nowhere}
use Rattle.spec_text.proofs.branches.branch_behind.Goals as goal

pub returns-in-None : goal.returns-in-None
returns-in-None g c =
    let changes = (g.S.Selectable.selectables c.args.sources.now).tree in
    let none = c.in-None.ensures in
    sym (c.loop-name.invariant ∙ leads_nowhere changes c.args.element c.loop-name.branch c.args.names.now c.loop-name.name-index
    c.name-item.result
    c.loop-name-test.true (ap (child changes c.args.element c.loop-name.branch) (sym c.name-item.is) ∙ sym none))

pub loop-name-preserved : goal.loop-name-preserved
loop-name-preserved g c =
    let changes = (g.S.Selectable.selectables c.args.sources.now).tree in
    let next = c.in-Some.ensures in
    c.loop-name.invariant ∙ leads_on changes c.args.element c.loop-name.branch c.args.names.now c.loop-name.name-index
    c.name-item.result c.in-Some.next
    c.loop-name-test.true (ap (child changes c.args.element c.loop-name.branch) (sym c.name-item.is) ∙ sym next)
