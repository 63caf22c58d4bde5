-- What is decided of the selected element that was found is decided of the path.
use Rattle.std.proofs.Common.{arith}
use Rattle.std.proofs.lemmas.Grind.{common_steps}
use Rattle.legal_history.specs.Commands.LabelLines.{mklabel_of}
use Rattle.checkout_desk.proofs.labels.mklabel.Goals as goal

pub returns-in_err-selected : goal.returns-in_err-selected
returns-in_err-selected c = λ scene now sees.
    grind (
      arith,
      common_steps,
      c.in_err-selected.ensures scene sees.base
          (λ found. mklabel_of scene c.args.view.now c.args.replace c.args.label.now found.element found.picked),
    )

pub returns : goal.returns
returns c = λ scene now sees.
    grind (
      arith,
      common_steps,
      c.in_ok-selected.ensures scene sees.base
          (λ found. mklabel_of scene c.args.view.now c.args.replace c.args.label.now found.element found.picked),
      c.mklabel_of.ensures scene now sees,
    )
