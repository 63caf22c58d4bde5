-- The greatest of the versions that the entries of a record list, one after the other.
use Rattle.std.proofs.Common.{◌≤◌, ◌+◌, List, ◌∷◌, drop, ap, sym, subst, ◌∙◌}
use Rattle.std.proofs.lemmas.List.{at_drop_all, at_drop_more}
use Rattle.std.specs.FinMap.Entries.{find}
use Rattle.std.specs.Ordering.{nat_cmp}
use Rattle.cc_names.specs.declared.rows.ReadOf.{ReadOf}
use Rattle.base_model.specs.Closures.{closure, inputs_of_entry, listing_of}
use Rattle.base_rows.specs.Listings.{greater, greatest_of_entries}
use Rattle.base_rows.specs.ObjectWalks.{above_entries}
use Rattle.base_rows.proofs.JoinedListings.{entry_put, greater_none, one_alone}
use Rattle.base_rows.proofs.LeftListings.{greatest_by_record}
use Rattle.base_rows.proofs.RecordEntries.{others_low, record_above}
use Rattle.base_rows.proofs.listings.+records.Goals as goal

pub version_in_entry-returns-then-is_publish : goal.version_in_entry-returns-then-is_publish
version_in_entry-returns-then-is_publish t c =
    let b = c.args.rows.now in
    c.version_in_record.ensures
    ∙ sym (ap (λ is. find nat_cmp c.args.element (listing_of b (inputs_of_entry is (closure b) c.args.entry.now)))
    (sym c.is_publish.ensures ∙ c.if-is_publish.true))

pub version_in_entry-returns : goal.version_in_entry-returns
version_in_entry-returns t c =
    let b = c.args.rows.now in
    let entry = c.args.entry.now in
    c.own_version.ensures
    ∙ sym (one_alone b c.args.element ((entry.path, entry.row), entry.row))
    ∙ sym (ap (λ is. find nat_cmp c.args.element (listing_of b (inputs_of_entry is (closure b) entry)))
    (sym c.is_publish.ensures ∙ c.if-is_publish.false))

pub version_in_record-loop-entry-init : goal.version_in_record-loop-entry-init
version_in_record-loop-entry-init t c =
    let b = c.args.rows.now in
    record {
      greatest = greater_none (greatest_of_entries b c.args.element c.record_of-record.result.now);
      low = subst (λ (entries : List ReadOf). above_entries entries ≤ c.args.object) (sym c.record_of-record.ensures)
          (record_above b c.args.object c.size.ensures.base);
    }

pub version_in_record-loop-entry-preserved : goal.version_in_record-loop-entry-preserved
version_in_record-loop-entry-preserved t c =
    let b = c.args.rows.now in
    let e = c.args.element in
    let entries = c.record_of-record.result.now in
    let i = c.loop-entry.entry-index in
    let entry = c.entry-item.result in
    let old = c.loop-entry.greatest in
    record {
      greatest = entry_put b e entry (drop (i + 1) entries) old c.greater-greatest.result _
          (c.greater-greatest.ensures ∙ ap (λ one. greater one old) c.version_in_entry.ensures)
          (ap (λ (one : ReadOf). greater (greatest_of_entries b e (one ∷ drop (i + 1) entries)) old) c.entry-item.is
          ∙ sym (at_drop_more (λ (rest : List ReadOf). greater (greatest_of_entries b e rest) old) entries i entry
          c.loop-entry-test.true)
          ∙ c.loop-entry.invariant.greatest);
      low = others_low entries i entry c.args.object c.loop-entry-test.true c.entry-item.is c.loop-entry.invariant.low;
    }

pub version_in_record-returns : goal.version_in_record-returns
version_in_record-returns t c =
    let b = c.args.rows.now in
    let e = c.args.element in
    let entries = c.record_of-record.result.now in
    sym (at_drop_all (λ (rest : List ReadOf). greater (greatest_of_entries b e rest) c.loop-entry.greatest) entries
    c.loop-entry.entry-index c.loop-entry-test.false)
    ∙ c.loop-entry.invariant.greatest
    ∙ ap (λ (record_entries : List ReadOf). greatest_of_entries b e record_entries) c.record_of-record.ensures
    ∙ sym (greatest_by_record b e c.args.object c.size.ensures.base)
