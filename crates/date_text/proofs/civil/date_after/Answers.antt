use Rattle.std.proofs.Common.{arith, w64, to_z, ◌∙◌}
use Rattle.std.proofs.lemmas.Int.{to_z_pos}
use Rattle.jiff_core.specs.Calendar.{IsEpochDay}
use Rattle.jiff_core.proofs.SignedLemmas.{signed_arith}
use Rattle.date_text.proofs.Passing.{from_1970}
use Rattle.date_text.proofs.civil.date_after.Goals as goal

pub unwrap-requires : goal.unwrap-requires
unwrap-requires c =
    let small = to_z_pos w64 c.args.days (omega arith) in
    let day : IsEpochDay (to_z w64 c.args.days) = omega (arith, signed_arith, small) in
    c.from_unix_epoch_day.ensures.succeeds.1 day

pub returns-clause-value : goal.returns-clause-value
returns-clause-value c =
    rw c.unwrap.ensures at c.from_unix_epoch_day.ensures.value ∙ to_z_pos w64 c.args.days (omega arith)

pub returns-clause-year : goal.returns-clause-year
returns-clause-year c = from_1970 c.unwrap.result c.args.days (returns-clause-value c)
