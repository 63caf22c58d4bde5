-- What is decided of the element that was found is decided of the path.
use Rattle.std.proofs.Common.{arith}
use Rattle.std.proofs.lemmas.Grind.{common_steps}
use Rattle.legal_history.specs.Commands.LabelLines.{rmlabel_of}
use Rattle.checkout_desk.proofs.labels.rmlabel.Goals as goal

pub returns-in_err-element : goal.returns-in_err-element
returns-in_err-element c = λ scene now sees.
    grind (arith, common_steps, c.in_err-element.ensures scene sees.base (rmlabel_of scene c.args.label.now c.args.path.now))

pub returns : goal.returns
returns c = λ scene now sees.
    grind (
      arith,
      common_steps,
      c.in_ok-element.ensures scene sees.base (rmlabel_of scene c.args.label.now c.args.path.now),
      c.rmlabel_of.ensures scene now c.args.view.now c.args.occasion.busy sees,
    )
