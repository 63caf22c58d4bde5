-- The tests decide, and without a refusal the row has the deed of what stands at the path.
use Rattle.std.proofs.Common.{arith}
use Rattle.std.proofs.lemmas.Grind.{common_steps}
use Rattle.checkout_desk.proofs.saves.save.Goals as goal

pub returns-in_err-save_tests : goal.returns-in_err-save_tests
returns-in_err-save_tests c = λ scene now sees.
    grind (arith, common_steps, c.in_err-save_tests.ensures scene now sees)

pub returns : goal.returns
returns c = λ scene now sees.
    grind (arith, common_steps, sees.base, c.in_ok-save_tests.ensures scene now sees)
