use Rattle.std.proofs.Common.{◌≡◌, rules}
use Rattle.row_form.specs.Extents.{plain_deed}
use Rattle.row_form.proofs.AtExtents.{formed_row}
use Rattle.row_form.proofs.extents.plain_row.Goals as goal

pub of-requires : goal.of-requires
of-requires c =
    let plain : c.in_ok-deed-in-PublishAt.deed ≡ plain_deed c.args.row.deed = search rules in
    formed_row c.args.row c.tag.result c.moment.result c.in_ok-deed-in-PublishAt.deed c.deed.ensures.formed c.tag.ensures
    c.moment.ensures plain
