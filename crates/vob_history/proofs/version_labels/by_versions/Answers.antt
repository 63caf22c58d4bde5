-- One label after the other is added.
use Rattle.std.proofs.Common.{◌+◌, ◌==◌, List, drop, map, ap, sym, ◌∙◌}
use Rattle.std.proofs.lemmas.List.{at_drop_all, at_drop_more}
use Rattle.label_book.specs.Standings.{plain}
use Rattle.label_book.specs.declared.element_labels.Standing.{Standing}
use Rattle.vob_history.specs.LabelSets.{labels_at, with_label_if, with_standing}
use Rattle.vob_history.proofs.version_labels.by_versions.Goals as goal

pub loop-one-preserved : goal.loop-one-preserved
loop-one-preserved c = λ version.
    let found = c.args.standing.now in
    let i = c.loop-one.one-index in
    let one = c.one-item.result in
    let labels = labels_at c.loop-one.labels version in
    let rest = map plain (drop (i + 1) found) in
    ap (with_standing version rest) (c.in_ok-add_to.ensures version)
    ∙ ap (λ (at : Standing). with_standing version rest (with_label_if (version == at.version) at.label.now labels)) c.one-item.is
    ∙ sym (at_drop_more (λ (left : List Standing). with_standing version (map plain left) labels)
    found i one c.loop-one-test.true)
    ∙ c.loop-one.invariant version

pub returns : goal.returns
returns c = λ version.
    sym (at_drop_all (λ (left : List Standing). with_standing version (map plain left) (labels_at c.loop-one.labels version))
    c.args.standing.now c.loop-one.one-index c.loop-one-test.false)
    ∙ c.loop-one.invariant version
