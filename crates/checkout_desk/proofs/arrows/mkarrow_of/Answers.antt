-- What is decided of the version that was found is decided of its name.
use Rattle.std.proofs.Common.{arith}
use Rattle.std.proofs.lemmas.Grind.{common_steps}
use Rattle.legal_history.specs.Commands.LabelLines.{mkarrow_from}
use Rattle.checkout_desk.proofs.arrows.mkarrow_of.Goals as goal

pub returns-in_err-tail : goal.returns-in_err-tail
returns-in_err-tail c = λ scene now sees.
    grind (
      arith,
      common_steps,
      sees.base,
      c.in_err-tail.ensures (mkarrow_from scene c.args.view.now c.args.selected.element
          c.args.selected.picked),
    )

pub returns : goal.returns
returns c = λ scene now sees.
    grind (
      arith,
      common_steps,
      sees.base,
      c.in_ok-tail.ensures (mkarrow_from scene c.args.view.now c.args.selected.element
          c.args.selected.picked),
      c.mkarrow_from.ensures scene now sees,
    )
