-- What is known of the element that was found is told of the path.
use Rattle.std.proofs.Common.{arith}
use Rattle.std.proofs.lemmas.Grind.{common_steps}
use Rattle.legal_history.specs.Queries.ElementTexts.{describe_text}
use Rattle.legal_history.specs.Queries.QueryLines.{answers_of}
use Rattle.vob_history.proofs.Refused.{refused}
use Rattle.vob_history.proofs.descriptions.describe.Goals as goal

pub returns-in_err-element : goal.returns-in_err-element
returns-in_err-element c =
    grind (
      arith,
      common_steps,
      refused c.in_err-element.field-0.0 (answers_of c.args.rows.now c.args.view.now c.args.path.now)
          (describe_text c.args.rows.now c.args.view.now) (c.in_err-element.ensures),
    )
