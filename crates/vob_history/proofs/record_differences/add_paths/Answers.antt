-- The path of one entry after the other is added.
use Rattle.std.proofs.Common.{ℕ, ◌+◌, ◌||◌, List, drop, ap, sym, ◌∙◌, bytes_eq}
use Rattle.std.proofs.lemmas.List.{at_drop_all, at_drop_more}
use Rattle.cc_names.specs.declared.rows.ReadOf.{ReadOf}
use Rattle.cc_names.proofs.Common.{or_moved}
use Rattle.base_model.specs.Closures.{is_path_among}
use Rattle.view_lookup.proofs.PathSets.{one_inserted}
use Rattle.vob_history.specs.Differences.{is_path_read}
use Rattle.vob_history.proofs.record_differences.add_paths.Goals as goal

pub loop-entry-preserved : goal.loop-entry-preserved
loop-entry-preserved c = λ q.
    let entries = c.args.entries.now in
    let i = c.loop-entry.entry-index in
    let old = c.loop-entry.paths in
    let entry = c.entry-item.result in
    let more = is_path_read q (drop (i + 1) entries) in
    ap (λ among. more || among) (one_inserted old c.insert.new.self c.in_ok-copy.field-0 q (c.in_ok-insert.ensures.updates.0 q))
    ∙ or_moved more (bytes_eq q c.in_ok-copy.field-0) (is_path_among q old.keys)
    ∙ ap (λ (path : List ℕ). (bytes_eq q path || more) || is_path_among q old.keys) c.in_ok-copy.ensures.copy
    ∙ ap (λ (one : ReadOf). (bytes_eq q one.path || more) || is_path_among q old.keys) c.entry-item.is
    ∙ sym (at_drop_more (λ (left : List ReadOf). is_path_read q left || is_path_among q old.keys) entries i entry
    c.loop-entry-test.true)
    ∙ c.loop-entry.invariant q

pub returns : goal.returns
returns c = λ q.
    sym (at_drop_all (λ (left : List ReadOf). is_path_read q left || is_path_among q c.loop-entry.paths.keys) c.args.entries.now
    c.loop-entry.entry-index c.loop-entry-test.false)
    ∙ c.loop-entry.invariant q
