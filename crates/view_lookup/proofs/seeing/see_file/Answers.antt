-- One file more is that which the view sees.
use Rattle.std.proofs.Common.{ap, sym, ◌∙◌}
use Rattle.std.specs.HashMap.{get}
use Rattle.std.specs.Str.{bytes_eq}
use Rattle.base_model.specs.Seen.{file_at}
use Rattle.base_rows.proofs.FilesSeen.{file_put}
use Rattle.view_lookup.proofs.seeing.see_file.Goals as goal

pub returns : goal.returns
returns c = λ path row given.
    let b = c.args.rows.now in
    let v = c.args.view.now in
    file_put b v c.in_ok-copy.field-0 path c.find_file-row.result row (get bytes_eq c.args.files.now path)
    (c.find_file-row.ensures ∙ ap (file_at b v) (sym c.in_ok-copy.ensures.copy)) (c.requires path row)
    (sym (c.in_ok-insert.ensures.updates.0 path) ∙ given)
