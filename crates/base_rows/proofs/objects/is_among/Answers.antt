-- The search finds a place just where the list has the number.
use Rattle.std.proofs.Common.{◌∙◌}
use Rattle.base_rows.proofs.AmongAscending.{among_ascending}
use Rattle.base_rows.proofs.objects.is_among.Goals as goal

pub returns : goal.returns
returns c =
    c.is_ok.ensures.value
    ∙ among_ascending c.args.objects.now c.args.object c.binary_search.result c.binary_search.ensures.position c.requires
