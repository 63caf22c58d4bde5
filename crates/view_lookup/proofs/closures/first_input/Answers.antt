-- One object after the other is taken, from the newest on, and its entries are left in its place.
use Rattle.std.proofs.Common.{ℕ, List, ap, sym, ◌∙◌}
use Rattle.std.specs.BTreeSet.{insert_key}
use Rattle.std.specs.Option.{option_copied}
use Rattle.std.specs.Ordering.{nat_cmp}
use Rattle.view_lookup.specs.FirstInputs.{first_input}
use Rattle.view_lookup.specs.LeastInputs.{least_of, least_of_all}
use Rattle.base_rows.proofs.RecordEntries.{walk_falls}
use Rattle.view_lookup.proofs.LeastInputs.{first_least, object_taken}
use Rattle.view_lookup.proofs.LesserPaths.{lesser_none}
use Rattle.view_lookup.proofs.closures.first_input.Goals as goal

pub loop-least-init : goal.loop-least-init
loop-least-init g c =
    let b = c.args.rows.now in
    let passes = g.T.InputTest.passes c.args.test.now in
    ap (least_of_all b passes) (c.in_ok-insert.ensures.keys ∙ ap (λ (ids : List ℕ). insert_key nat_cmp ids c.args.object)
    c.new-left.ensures.empty)
    ∙ lesser_none (least_of b passes c.args.object)
    ∙ sym (first_least b passes c.args.object c.size.ensures.base)

pub loop-least-smaller : goal.loop-least-smaller
loop-least-smaller g c =
    walk_falls c.args.rows.now c.in-Some.next c.loop-least.left.keys c.pop_last.new.self.keys c.add_entries.new.left.keys
    c.record_of-record.result.now c.size.ensures.base c.in-Some.ensures.removal c.in-Some.ensures.all_below
    c.record_of-record.ensures c.in_ok-least-in-Some.ensures.above

pub loop-least-preserved : goal.loop-least-preserved
loop-least-preserved g c =
    let b = c.args.rows.now in
    let passes = g.T.InputTest.passes c.args.test.now in
    let least = option_copied c.loop-least.least in
    let found = option_copied c.in_ok-least-in-Some.least in
    object_taken b passes c.in-Some.next c.loop-least.left.keys c.pop_last.new.self.keys c.add_entries.new.left.keys
    c.record_of-record.result.now least found (first_input b passes c.args.object) c.size.ensures.base
    c.in-Some.ensures.removal
    c.record_of-record.ensures c.in_ok-least-in-Some.ensures.least c.loop-least.invariant
