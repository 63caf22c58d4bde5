use Rattle.std.proofs.Common.{◌≡◌, ℕ, Some, drop}
use Rattle.std.specs.List.{list_all}
use Rattle.make_graph.specs.Waits.{is_done}
use Rattle.make_graph.proofs.unit_graphs.are_units_done.Given as goal

abbrev pub invariant-loop-number : goal.invariant-loop-number
invariant-loop-number l =
    list_all (λ (number : ℕ). is_done l.done (Some number)) (drop l.number-index l.numbers)
    ≡ list_all (λ (number : ℕ). is_done l.done (Some number)) l.numbers
