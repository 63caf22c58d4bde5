use Rattle.std.proofs.Common.{◌∙◌, ap, Ok}
use Rattle.date_text.specs.Dates.{date_of}
use Rattle.date_text.proofs.ReadBack.{read_back}
use Rattle.date_text.proofs.printing.print.Goals as goal

pub returns-clause-read_back : goal.returns-clause-read_back
returns-clause-read_back c =
    ap date_of c.text.ensures ∙ read_back c.of.result c.of.ensures.form c.of.ensures.day ∙ ap Ok c.of.ensures.moment
