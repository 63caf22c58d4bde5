use Rattle.std.proofs.Common.{sym, ap, ◌∙◌, Some, None}
use Rattle.date_text.specs.Dates.{moment_of_day}
use Rattle.date_text.proofs.Right.{date_of_steps}
use Rattle.date_text.proofs.reading.read.Goals as goal

pub returns-in-Some : goal.returns-in-Some
returns-in-Some c =
    date_of_steps c.args.bytes.now c.day_length-day.result c.fields.result (Some c.in-Some.place)
    c.day_length-day.ensures.value c.fields.ensures (sym c.in-Some.is ∙ c.first_wrong.ensures)

pub returns-in-None : goal.returns-in-None
returns-in-None c =
    c.moment.ensures ∙ ap moment_of_day c.parts.ensures.value
    ∙ date_of_steps c.args.bytes.now c.day_length-day.result c.fields.result None
    c.day_length-day.ensures.value c.fields.ensures (sym c.in-None.is ∙ c.first_wrong.ensures)
