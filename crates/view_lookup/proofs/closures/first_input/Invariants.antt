use Rattle.std.proofs.Common.{◌≡◌}
use Rattle.std.specs.Option.{option_copied}
use Rattle.view_lookup.specs.FirstInputs.{first_input}
use Rattle.base_rows.specs.ObjectWalks.{above}
use Rattle.view_lookup.specs.LeastInputs.{least_of_all, lesser}
use Rattle.view_lookup.proofs.closures.first_input.Given as goal

-- the least path so far, with those of the objects that are left, is the object's
abbrev pub invariant-loop-least : goal.invariant-loop-least
invariant-loop-least g l =
    let passes = g.T.InputTest.passes l.test in
    lesser (option_copied l.least) (least_of_all l.rows passes l.left.keys) ≡ first_input l.rows passes l.object

abbrev pub decreases-loop-least : goal.decreases-loop-least
decreases-loop-least g l = above l.left.keys
