use Rattle.std.proofs.Common.{arith}
use Rattle.date_text.proofs.Right.{are_right}
use Rattle.date_text.proofs.reading.parts.Goals as goal

pub value-requires-clause-digits : goal.value-requires-clause-digits
value-requires-clause-digits c =
    rw c.piece.ensures.value (are_right c.args.text.now c.args.day c.requires.right).year.digits

pub value-requires-2-clause-digits : goal.value-requires-2-clause-digits
value-requires-2-clause-digits c =
    rw c.piece-3.ensures.value (are_right c.args.text.now c.args.day c.requires.right).day.digits

pub value-requires-3-clause-digits : goal.value-requires-3-clause-digits
value-requires-3-clause-digits c =
    rw c.piece-4.ensures.value (are_right c.args.text.now c.args.day c.requires.right).hour.digits

pub value-requires-4-clause-digits : goal.value-requires-4-clause-digits
value-requires-4-clause-digits c =
    rw c.piece-5.ensures.value (are_right c.args.text.now c.args.day c.requires.right).minute.digits

pub value-requires-5-clause-digits : goal.value-requires-5-clause-digits
value-requires-5-clause-digits c =
    rw c.piece-6.ensures.value (are_right c.args.text.now c.args.day c.requires.right).second.digits

pub returns-clause-form : goal.returns-clause-form
returns-clause-form c =
    let right = are_right c.args.text.now c.args.day c.requires.right in
    let year = rw c.piece.ensures.value at c.value.ensures.value in
    let day = rw c.piece-3.ensures.value at c.value-2.ensures.value in
    let hour = rw c.piece-4.ensures.value at c.value-3.ensures.value in
    let minute = rw c.piece-5.ensures.value at c.value-4.ensures.value in
    let second = rw c.piece-6.ensures.value at c.value-5.ensures.value in
    record {
      year = omega (arith, year, right.year.least, right.year.most);
      month = c.month_number.ensures.bound;
      day = omega (arith, day, right.day.least, right.day.most);
      hour = omega (arith, hour, right.hour.most);
      minute = omega (arith, minute, right.minute.most);
      second = omega (arith, second, right.second.most);
    }
