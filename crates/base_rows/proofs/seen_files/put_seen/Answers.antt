-- What is kept of one view more is what it sees.
use Rattle.std.proofs.Common.{ap, sym, ◌∙◌}
use Rattle.std.specs.HashMap.{get}
use Rattle.std.specs.Map.{lookup}
use Rattle.std.specs.Str.{bytes_eq}
use Rattle.base_rows.proofs.FilesSeen.{view_put}
use Rattle.base_rows.proofs.seen_files.put_seen.Goals as goal

pub returns-in-Ok : goal.returns-in-Ok
returns-in-Ok c = λ b before made. record {
  each = λ v kept given.
      view_put b c.args.made.0 v c.args.made.1 kept (get bytes_eq c.args.seen.now v) made (before.each v kept)
      (sym (c.in-Ok.ensures.updates.0 v) ∙ given);
}

pub returns : goal.returns
returns c = λ b before made. record {
  each = λ v kept given. before.each v kept (sym (ap (lookup (bytes_eq v)) c.in-Err.ensures.err) ∙ given);
}
