-- A base with no row has no objects.
use Rattle.std.proofs.Common.{rules, List, length, reverse, nat_eq, ◌<◌, IfSome, ap, sym, subst, ◌∙◌}
use Rattle.std.specs.HashMap.{get}
use Rattle.std.specs.Map.{lookup}
use Rattle.std.specs.Str.{bytes_eq}
use Rattle.cc_names.specs.Formed.{Plain}
use Rattle.base_rows.specs.Listings.{IsListed}
use Rattle.base_rows.specs.Marked.{AreLinked, marked_rows, rows_by}
use Rattle.base_rows.specs.TargetOrders.{AreOfObject}
use Rattle.base_rows.specs.declared.marks.Link.{Link}
use Rattle.base_rows.proofs.bases.Rows.new.Goals as goal

pub invariant_of-result : goal.invariant_of-result
invariant_of-result c = record {
  fitting = search rules;
  marks = record {
    chained = record {
      linked = subst (λ (links : List Link). AreLinked (reverse links)) (sym c.new-4.ensures.items) tt;
      within = λ key. subst (λ entries. IfSome (lookup (nat_eq key) entries) (λ place. place < length c.new-4.result.items))
          (sym c.new-5.ensures.empty) tt;
    };
    rows = λ key.
        ap (λ (links : List Link). rows_by links (get nat_eq c.new-5.result) key) c.new-4.ensures.items
        ∙ sym (ap (λ (rows : List Plain). marked_rows c.args.hashing key (reverse rows)) c.new-3.ensures.items);
  };
  trees = search rules;
  labelled = search rules;
  specs = search rules;
  listed = λ id.
      let rows = reverse c.new-3.result.items in
      subst (λ entries. IfSome (lookup (nat_eq id) entries) (λ listed. IfSome listed (λ map. IsListed rows id map.entries)))
      (sym c.new-7.ensures.empty) tt;
  ordered = λ id.
      let rows = reverse c.new-3.result.items in
      subst (λ entries. IfSome (lookup (nat_eq id) entries) (λ places. AreOfObject rows id places.items))
      (sym c.new-8.ensures.empty) tt;
  seen = record {
    each = λ v kept given.
        let none = ap (lookup (bytes_eq v)) c.with_hasher.ensures.empty in
        absurd (cc);
  };
}
