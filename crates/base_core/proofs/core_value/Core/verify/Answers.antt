-- the rows that are checked are those of the story
use Rattle.std.proofs.Common.{subst}
use Rattle.std.specs.Prelude.{IfOk}
use Rattle.object_check.specs.Verdicts.{IsVerdict}
use Rattle.base_core.proofs.core_value.Core.verify.Goals as goal

pub returns : goal.returns
returns g c = subst (λ b. IfOk c.verify.result (λ verdict. IsVerdict b verdict)) c.rows.ensures c.verify.ensures
