-- One entry after the other is taken in.
use Rattle.std.proofs.Common.{◌+◌, List, ◌∷◌, drop, ap, sym, ◌∙◌}
use Rattle.std.proofs.lemmas.List.{at_drop_all, at_drop_more}
use Rattle.std.specs.BTreeMap.{get}
use Rattle.std.specs.Ordering.{nat_cmp}
use Rattle.cc_names.specs.declared.rows.ReadOf.{ReadOf}
use Rattle.base_rows.specs.Listings.{greater, greatest_of_all, greatest_of_entries}
use Rattle.base_rows.specs.ObjectWalks.{above}
use Rattle.base_rows.proofs.JoinedListings.{entry_put}
use Rattle.base_rows.proofs.RecordEntries.{entries_above}
use Rattle.base_rows.proofs.listings.put_entries.Goals as goal

pub loop-entry-preserved : goal.loop-entry-preserved
loop-entry-preserved c =
    let b = c.args.rows.now in
    let entries = c.args.entries.now in
    let i = c.loop-entry.entry-index in
    let entry = c.entry-item.result in
    record {
      versions = λ e.
          let old = greater (get nat_cmp c.loop-entry.versions e) (greatest_of_all b e c.loop-entry.left.keys) in
          let new = greater (get nat_cmp c.put_entry.new.versions e) (greatest_of_all b e c.put_entry.new.left.keys) in
          let all = greater (greatest_of_entries b e entries) (greater (get nat_cmp c.args.versions.now e)
          (greatest_of_all b e c.args.left.now.keys)) in
          entry_put b e entry (drop (i + 1) entries) old new all (c.in_ok-put_entry.ensures.versions e)
          (ap (λ (one : ReadOf). greater (greatest_of_entries b e (one ∷ drop (i + 1) entries)) old) c.entry-item.is
          ∙ sym (at_drop_more (λ (rest : List ReadOf). greater (greatest_of_entries b e rest) old) entries i entry
          c.loop-entry-test.true)
          ∙ c.loop-entry.invariant.versions e);
      above = entries_above entries i entry (above c.loop-entry.left.keys) (above c.put_entry.new.left.keys) _
          c.loop-entry-test.true c.entry-item.is c.in_ok-put_entry.ensures.above c.loop-entry.invariant.above;
    }

pub returns-clause-versions : goal.returns-clause-versions
returns-clause-versions c = λ e.
    let b = c.args.rows.now in
    let old = greater (get nat_cmp c.loop-entry.versions e) (greatest_of_all b e c.loop-entry.left.keys) in
    sym (at_drop_all (λ (rest : List ReadOf). greater (greatest_of_entries b e rest) old) c.args.entries.now
    c.loop-entry.entry-index c.loop-entry-test.false)
    ∙ c.loop-entry.invariant.versions e
