-- What is decided of the selected element that was found is decided of the path.
use Rattle.std.proofs.Common.{arith}
use Rattle.std.proofs.lemmas.Grind.{common_steps}
use Rattle.legal_history.specs.Commands.LabelLines.{mkarrow_of}
use Rattle.checkout_desk.proofs.arrows.mkarrow.Goals as goal

pub returns-in_err-selected : goal.returns-in_err-selected
returns-in_err-selected c = λ scene now sees.
    grind (
      arith,
      common_steps,
      c.in_err-selected.ensures scene sees.base
          (λ found. mkarrow_of scene c.args.view.now c.args.path.now c.args.name.now found.element found.picked),
    )

pub returns : goal.returns
returns c = λ scene now sees.
    grind (
      arith,
      common_steps,
      c.in_ok-selected.ensures scene sees.base
          (λ found. mkarrow_of scene c.args.view.now c.args.path.now c.args.name.now found.element found.picked),
      c.mkarrow_of.ensures scene now sees,
    )
