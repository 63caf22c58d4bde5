-- An entry names an object, which is left then, or stands for the version that its row made.
use Rattle.std.proofs.Common.{◌≤◌, ℕ, suc, max, List, sym, subst, ◌∙◌}
use Rattle.std.specs.BTreeMap.{get}
use Rattle.std.specs.Ordering.{nat_cmp}
use Rattle.base_rows.specs.Listings.{greatest_of_all}
use Rattle.base_rows.specs.ObjectWalks.{above}
use Rattle.base_rows.proofs.LeftListings.{entry_object, entry_version}
use Rattle.base_rows.proofs.RecordEntries.{one_above}
use Rattle.base_rows.proofs.listings.put_entry.Goals as goal

pub returns-then-is_publish-clause-versions : goal.returns-then-is_publish-clause-versions
returns-then-is_publish-clause-versions c = λ e.
    entry_object c.args.rows.now e (get nat_cmp c.args.versions.now e) c.args.entry.now c.args.left.now.keys
    c.insert.new.self.keys (sym c.is_publish.ensures ∙ c.if-is_publish.true) c.in_ok-insert.ensures.keys

pub returns-then-is_publish-clause-above : goal.returns-then-is_publish-clause-above
returns-then-is_publish-clause-above c =
    let old = c.args.left.now.keys in
    let row = c.args.entry.now.row in
    subst (λ (ids : List ℕ). above ids ≤ max (suc row) (above old)) (sym c.in_ok-insert.ensures.keys) (one_above old row)

pub returns-clause-versions : goal.returns-clause-versions
returns-clause-versions c = λ e.
    let b = c.args.rows.now in
    entry_version b e c.args.entry.now (get nat_cmp c.args.versions.now e) (get nat_cmp c.put_version.new.versions e)
    (greatest_of_all b e c.args.left.now.keys) (sym c.is_publish.ensures ∙ c.if-is_publish.false) (c.in_ok-put_version.ensures e)
