-- What is decided of the directory that was found is decided of the path.
use Rattle.std.proofs.Common.{arith}
use Rattle.std.proofs.lemmas.Grind.{common_steps}
use Rattle.legal_history.specs.Commands.DirectoryLines.{mv_in}
use Rattle.checkout_desk.proofs.names.mv.Goals as goal

pub returns-in_err-directory : goal.returns-in_err-directory
returns-in_err-directory c = λ scene now sees.
    grind (
      arith,
      common_steps,
      c.in_err-directory.ensures scene now c.args.occasion.taken sees
          (mv_in scene c.args.view.now c.args.path.now c.args.name.now),
    )

pub returns : goal.returns
returns c = λ scene now sees.
    grind (
      arith,
      common_steps,
      c.in_ok-directory.ensures scene now c.args.occasion.taken sees
          (mv_in scene c.args.view.now c.args.path.now c.args.name.now),
      c.mv_in.ensures scene now sees,
    )
