-- What is taken out was kept of the view, and what is left was kept of the others.
use Rattle.std.proofs.Common.{ap, sym, ◌∙◌}
use Rattle.std.specs.HashMap.{get}
use Rattle.std.specs.Map.{lookup}
use Rattle.std.specs.Str.{bytes_eq}
use Rattle.base_rows.proofs.FilesSeen.{had, view_taken}
use Rattle.base_rows.proofs.seen_files.take_seen.Goals as goal

pub returns-then-len-ge-MOST_VIEWS-clause-kept : goal.returns-then-len-ge-MOST_VIEWS-clause-kept
returns-then-len-ge-MOST_VIEWS-clause-kept c = λ b before.
    view_taken b c.args.view.now c.args.seen.now c.remove_entry-kept.result before c.remove_entry-kept.ensures.same_key
    c.remove_entry-kept.ensures.value

pub returns-else-len-ge-MOST_VIEWS-clause-kept : goal.returns-else-len-ge-MOST_VIEWS-clause-kept
returns-else-len-ge-MOST_VIEWS-clause-kept c = λ b before.
    view_taken b c.args.view.now c.args.seen.now c.remove_entry-kept.result before c.remove_entry-kept.ensures.same_key
    c.remove_entry-kept.ensures.value

pub returns-else-len-ge-MOST_VIEWS-clause-left : goal.returns-else-len-ge-MOST_VIEWS-clause-left
returns-else-len-ge-MOST_VIEWS-clause-left c = λ b before. record {
  each = λ v kept given.
      before.each v kept (had (bytes_eq c.args.view.now v) (get bytes_eq c.args.seen.now v) kept
      (sym (c.remove_entry-kept.ensures.updates.0 v) ∙ given));
}

pub returns-then-len-ge-MOST_VIEWS-clause-left : goal.returns-then-len-ge-MOST_VIEWS-clause-left
returns-then-len-ge-MOST_VIEWS-clause-left c = λ b before. record {
  each = λ v kept given.
      let none = ap (lookup (bytes_eq v)) c.clear.ensures.empty in
      absurd (cc);
}
