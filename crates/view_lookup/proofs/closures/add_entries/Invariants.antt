use Rattle.std.proofs.Common.{◌≡◌, ◌≤◌, max, drop}
use Rattle.std.specs.Option.{option_copied}
use Rattle.base_rows.specs.ObjectWalks.{above, above_entries}
use Rattle.view_lookup.specs.LeastInputs.{least_of_all, least_of_entries, lesser}
use Rattle.view_lookup.proofs.closures.add_entries.Given as goal

-- what was found, with the entries that are left, is what all of them give
abbrev pub invariant-loop-entry : goal.invariant-loop-entry
invariant-loop-entry g l =
    let passes = g.T.InputTest.passes l.test in
    record {
      least : lesser (least_of_entries l.rows passes (drop l.entry-index l.entries))
          (lesser (option_copied l.found) (least_of_all l.rows passes l.left.keys))
          ≡ lesser (least_of_entries l.rows passes l.entries) (lesser (option_copied l.least)
          (least_of_all l.rows passes l.initial.left.keys));
      above : max (above_entries (drop l.entry-index l.entries)) (above l.left.keys)
          ≤ max (above_entries l.entries) (above l.initial.left.keys);
    }
