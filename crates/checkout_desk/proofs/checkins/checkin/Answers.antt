-- What is decided of the element that was found is decided of the path.
use Rattle.std.proofs.Common.{arith}
use Rattle.std.proofs.lemmas.Grind.{common_steps}
use Rattle.legal_history.specs.Commands.CheckoutLines.{checkin_of}
use Rattle.checkout_desk.proofs.checkins.checkin.Goals as goal

pub returns-in_err-element : goal.returns-in_err-element
returns-in_err-element c = λ scene now sees.
    grind (
      arith,
      common_steps,
      c.in_err-element.ensures scene now c.args.occasion.taken sees
          (checkin_of scene c.args.view.now c.args.identical c.args.path.now),
    )

pub returns : goal.returns
returns c = λ scene now sees.
    grind (
      arith,
      common_steps,
      c.in_ok-element.ensures scene now c.args.occasion.taken sees
          (checkin_of scene c.args.view.now c.args.identical c.args.path.now),
      c.checkin_of.ensures scene now sees,
    )
