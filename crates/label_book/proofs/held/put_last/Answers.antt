use Rattle.std.proofs.Common.{◌∙◌}
use Rattle.indexmap.proofs.CallerLemmas.{insert_entry-new}
use Rattle.label_book.specs.Holding.{is_same_label}
use Rattle.label_book.proofs.held.put_last.Goals as goal

pub returns-clause-put : goal.returns-clause-put
returns-clause-put c = c.in_ok-insert.ensures.entries ∙ insert_entry-new is_same_label c.args.moves.now c.args.on c.args.changes
    c.requires
