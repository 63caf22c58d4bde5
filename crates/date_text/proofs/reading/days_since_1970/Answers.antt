use Rattle.date_text.proofs.Days.{cast_days, cast_value}
use Rattle.date_text.proofs.reading.days_since_1970.Goals as goal

pub overflow_cast-result : goal.overflow_cast-result
overflow_cast-result c =
    cast_days _ c.args.date.year c.args.date.month c.args.date.day
    c.to_unix_epoch_day.ensures.value c.to_unix_epoch_day.ensures.bound c.requires c.args.date.day_in.0

pub returns-clause-value : goal.returns-clause-value
returns-clause-value c =
    cast_value _ c.args.date.year c.args.date.month c.args.date.day
    c.to_unix_epoch_day.ensures.value c.to_unix_epoch_day.ensures.bound c.requires c.args.date.day_in.0
