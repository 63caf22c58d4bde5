-- An entry is an object that is left, or its path passes, or not.
use Rattle.std.proofs.Common.{◌≤◌, ℕ, suc, max, List, sym, subst, ◌∙◌}
use Rattle.std.specs.Option.{option_copied}
use Rattle.base_rows.specs.ObjectWalks.{above}
use Rattle.view_lookup.specs.LeastInputs.{least_of_all}
use Rattle.base_rows.proofs.RecordEntries.{one_above}
use Rattle.view_lookup.proofs.LeastInputs.{entry_object, entry_passed}
use Rattle.view_lookup.proofs.closures.add_entry.Goals as goal

pub returns-then-is_publish-clause-least : goal.returns-then-is_publish-clause-least
returns-then-is_publish-clause-least g c =
    entry_object c.args.rows.now (g.T.InputTest.passes c.args.test.now) (option_copied c.args.least) c.args.entry.now
    c.args.left.now.keys c.insert.new.self.keys (sym c.is_publish.ensures ∙ c.if-is_publish.true) c.in_ok-insert.ensures.keys

pub returns-then-is_publish-clause-above : goal.returns-then-is_publish-clause-above
returns-then-is_publish-clause-above g c =
    let old = c.args.left.now.keys in
    let row = c.args.entry.now.row in
    subst (λ (ids : List ℕ). above ids ≤ max (suc row) (above old)) (sym c.in_ok-insert.ensures.keys) (one_above old row)

pub returns-clause-least : goal.returns-clause-least
returns-clause-least g c =
    let b = c.args.rows.now in
    let passes = g.T.InputTest.passes c.args.test.now in
    let entry = c.args.entry.now in
    entry_passed b passes entry (option_copied c.args.least) (option_copied c.lesser.result)
    (least_of_all b passes c.args.left.now.keys) (sym c.is_publish.ensures ∙ c.if-is_publish.false)
    (sym c.passes.ensures ∙ c.if-not-passes.false) c.lesser.ensures
