-- An entry that names an object adds it, and any other adds nothing.
use Rattle.std.proofs.Common.{◌==◌, Bool, true, cond, ap, sym, ◌∙◌}
use Rattle.std.specs.BTreeSet.{contains}
use Rattle.std.specs.Cmp.{unsigned_tied}
use Rattle.std.specs.Ordering.{nat_cmp}
use Rattle.base_model.specs.Closures.{is_publish}
use Rattle.object_check.proofs.Needing.{entry_passed, entry_put}
use Rattle.object_check.proofs.needs.add_object_of_entry.Goals as goal

pub returns-then-not-is_publish : goal.returns-then-not-is_publish
returns-then-not-is_publish c = λ q.
    let row = c.args.entry.now.row in
    entry_passed (row == q) (is_publish c.args.rows.now row) (contains nat_cmp c.args.needed.now q) (sym c.is_publish.ensures
    ∙ c.if-not-is_publish.true)

pub returns : goal.returns
returns c = λ q.
    let row = c.args.entry.now.row in
    let old = contains nat_cmp c.args.needed.now q in
    c.in_ok-insert.ensures.updates.0 q
    ∙ ap (λ (t : Bool). cond t true old) (unsigned_tied row q)
    ∙ entry_put (row == q) (is_publish c.args.rows.now row) old (sym c.is_publish.ensures ∙ c.if-not-is_publish.false)
