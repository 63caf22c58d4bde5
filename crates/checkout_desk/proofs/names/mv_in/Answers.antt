-- The tests decide, and without a refusal the row has the copies.
use Rattle.std.proofs.Common.{arith}
use Rattle.std.proofs.lemmas.Grind.{common_steps}
use Rattle.checkout_desk.proofs.names.mv_in.Goals as goal

pub returns-in_err-from_name : goal.returns-in_err-from_name
returns-in_err-from_name c = λ scene now sees.
    grind (arith, common_steps, c.in_err-from_name.ensures.tests scene now c.args.occasion.busy sees)

pub returns : goal.returns
returns c = λ scene now sees.
    grind (arith, common_steps, c.in_ok-from_name.ensures.tests scene now c.args.occasion.busy sees)
