-- One element after the other is tested.
use Rattle.std.proofs.Common.{◌+◌, get_or, List, sym, ◌∙◌, drop, arith}
use Rattle.std.proofs.lemmas.Grind.{common_steps}
use Rattle.std.proofs.lemmas.List.{at_drop_all, at_drop_more}
use Rattle.cc_names.specs.declared.rows.Placed.{Placed}
use Rattle.legal_history.specs.Commands.Decisions.{first_refusal}
use Rattle.legal_history.specs.Commands.LabelLines.{labels_free}
use Rattle.checkout_desk.proofs.RecordedLabels.{first_of, passed_one}
use Rattle.checkout_desk.proofs.recorded_labels.needs_labels_free.Goals as goal

pub loop-one-preserved : goal.loop-one-preserved
loop-one-preserved c =
    let placed = c.args.placed.now in
    let i = c.loop-one.one-index in
    let none : Placed = record { element = 0; version = 0 } in
    passed_one c.args.rows.now c.args.replace c.args.label.now (get_or placed i none) (drop (i + 1) placed)
    (first_refusal (labels_free c.args.rows.now c.args.replace c.args.label.now placed)) c.in_ok-needs_label_free.ensures
    (sym (at_drop_more (λ (left : List Placed). first_refusal (labels_free c.args.rows.now c.args.replace c.args.label.now left))
    placed i none c.loop-one-test.true) ∙ c.loop-one.invariant)

pub returns-in_err-needs_label_free : goal.returns-in_err-needs_label_free
returns-in_err-needs_label_free c =
    let placed = c.args.placed.now in
    let i = c.loop-one.one-index in
    let none : Placed = record { element = 0; version = 0 } in
    grind (
      arith,
      common_steps,
      c.loop-one.invariant,
      at_drop_more (λ (left : List Placed). first_refusal (labels_free c.args.rows.now c.args.replace c.args.label.now left))
          placed i none c.loop-one-test.true,
      first_of c.args.rows.now c.args.replace c.args.label.now (get_or placed i none) (drop (i + 1) placed)
          c.in_err-needs_label_free.field-0.0 c.in_err-needs_label_free.ensures,
    )

pub returns : goal.returns
returns c =
    sym c.loop-one.invariant
    ∙ at_drop_all (λ (left : List Placed). first_refusal (labels_free c.args.rows.now c.args.replace c.args.label.now left))
    c.args.placed.now c.loop-one.one-index c.loop-one-test.false
