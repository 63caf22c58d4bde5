use Rattle.std.proofs.Common.{◌∙◌, arith}
use Rattle.cc_names.proofs.DigitValues.{next_value, too_large, whole_value}
use Rattle.cc_names.proofs.numbers.value.Goals as goal

pub returns-in_err-tens : goal.returns-in_err-tens
returns-in_err-tens c =
    let large = c.in_err-tens.ensures in
    c.from_residual.ensures ∙ too_large c.args.digits.now c.loop-digit.digit-index c.loop-digit.value c.requires
    c.loop-digit-test.true c.loop-digit.invariant.0 (omega (arith, large))

pub returns-in_err-value : goal.returns-in_err-value
returns-in_err-value c =
    let tens = c.in_ok-tens.ensures in
    let large = c.in_err-value.ensures in
    c.from_residual-in_err-value.ensures ∙ too_large c.args.digits.now c.loop-digit.digit-index c.loop-digit.value c.requires
    c.loop-digit-test.true c.loop-digit.invariant.0 (omega (arith, tens, large))

pub loop-digit-preserved : goal.loop-digit-preserved
loop-digit-preserved c =
    let tens = c.in_ok-tens.ensures in
    let sum = c.in_ok-value.ensures in
    let next = next_value c.args.digits.now c.loop-digit.digit-index c.loop-digit.value c.requires c.loop-digit-test.true
    c.loop-digit.invariant.0 in
    (omega (arith, tens, sum, next), omega (arith, tens, sum))

pub returns : goal.returns
returns c =
    whole_value c.args.digits.now c.loop-digit.digit-index c.loop-digit.value c.loop-digit-test.false c.loop-digit.invariant.1
    c.loop-digit.invariant.0
