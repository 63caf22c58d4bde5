-- The tests decide; past them there is nothing to label, or the row has what the record lists.
use Rattle.std.proofs.Common.{◌≡◌, false, ◌==◌, length, ap, sym, ◌∙◌, arith}
use Rattle.std.proofs.lemmas.Grind.{common_steps}
use Rattle.legal_history.specs.Commands.LabelLines.{mklabel_config_tests}
use Rattle.base_model.specs.Closures.{placed_by}
use Rattle.checkout_desk.proofs.RecordedLabels.{labels_made, labels_refused}
use Rattle.checkout_desk.proofs.recorded_labels.mklabel_config_of.Goals as goal

pub returns-in_err-placed : goal.returns-in_err-placed
returns-in_err-placed c = λ scene now view busy sees.
    grind (
      arith,
      common_steps,
      labels_refused scene (mklabel_config_tests scene c.args.replace c.args.label.now c.args.object) c.args.label.now
          (placed_by scene.base c.args.object) c.in_err-placed.field-0.0
          (c.in_err-placed.ensures.tests scene sees.base),
    )

pub returns-in_err-needs_room : goal.returns-in_err-needs_room
returns-in_err-needs_room c = λ scene now view busy sees.
    let are : c.in_ok-placed.placed.items ≡ placed_by scene.base c.args.object = c.in_ok-placed.ensures.placed
    ∙ ap (λ b. placed_by b c.args.object) (sym sees.base) in
    let some : (length (placed_by scene.base c.args.object) == 0) ≡ false = ap (λ places. length places == 0) (sym are)
    ∙ ap (λ n. n == 0) (sym c.in_ok-placed.placed.ok.0) ∙ sym c.is_empty.ensures ∙ c.if-is_empty.false in
    grind (
      arith,
      common_steps,
      labels_made scene (mklabel_config_tests scene c.args.replace c.args.label.now c.args.object) c.args.label.now
          (placed_by scene.base c.args.object) (c.in_ok-placed.ensures.tests scene sees.base) some,
      c.in_err-needs_room.ensures scene sees.taken,
    )

pub returns : goal.returns
returns c = λ scene now view busy sees.
    let are : c.in_ok-placed.placed.items ≡ placed_by scene.base c.args.object = c.in_ok-placed.ensures.placed
    ∙ ap (λ b. placed_by b c.args.object) (sym sees.base) in
    let some : (length (placed_by scene.base c.args.object) == 0) ≡ false = ap (λ places. length places == 0) (sym are)
    ∙ ap (λ n. n == 0) (sym c.in_ok-placed.placed.ok.0) ∙ sym c.is_empty.ensures ∙ c.if-is_empty.false in
    grind (
      arith,
      common_steps,
      are,
      labels_made scene (mklabel_config_tests scene c.args.replace c.args.label.now c.args.object) c.args.label.now
          (placed_by scene.base c.args.object) (c.in_ok-placed.ensures.tests scene sees.base) some,
      c.in_ok-needs_room.ensures scene sees.taken,
    )
