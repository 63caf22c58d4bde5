use Rattle.std.proofs.Common.{arith}
use Rattle.date_text.proofs.Digits.{few_value}
use Rattle.date_text.proofs.fields.value.Goals as goal

pub overflow_mul-value : goal.overflow_mul-value
overflow_mul-value c =
    let small = few_value c.args.digits.now c.loop-digit.digit-index c.requires.digits c.requires.few in omega arith

pub overflow_add-value : goal.overflow_add-value
overflow_add-value c =
    let small = few_value c.args.digits.now c.loop-digit.digit-index c.requires.digits c.requires.few in
    omega (arith, c.type_inv.digits c.loop-digit.digit-index)

pub returns-clause-bound : goal.returns-clause-bound
returns-clause-bound c =
    let small = few_value c.args.digits.now c.loop-digit.digit-index c.requires.digits c.requires.few in omega arith
