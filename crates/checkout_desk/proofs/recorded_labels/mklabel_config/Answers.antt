-- What is decided of the object that was found is decided of the path.
use Rattle.std.proofs.Common.{arith}
use Rattle.std.proofs.lemmas.Grind.{common_steps}
use Rattle.legal_history.specs.Commands.LabelLines.{mklabel_config_of}
use Rattle.checkout_desk.proofs.recorded_labels.mklabel_config.Goals as goal

pub returns-in_err-object : goal.returns-in_err-object
returns-in_err-object c = λ scene now sees.
    grind (arith, common_steps, c.in_err-object.ensures scene sees.base (mklabel_config_of scene c.args.replace c.args.label.now))

pub returns : goal.returns
returns c = λ scene now sees.
    grind (
      arith,
      common_steps,
      c.in_ok-object.ensures scene sees.base (mklabel_config_of scene c.args.replace c.args.label.now),
      c.mklabel_config_of.ensures scene now c.args.view.now c.args.occasion.busy sees,
    )
