use Rattle.std.proofs.Common.{◌≡◌, ◌||◌, not, drop, is_some}
use Rattle.std.specs.Prelude.{find}
use Rattle.make_grammar.specs.Walks.{number_of}
use Rattle.make_graph.proofs.units.missing.Given as goal

abbrev pub invariant-loop-goal : goal.invariant-loop-goal
invariant-loop-goal g l =
    find (λ path. not (is_some (number_of l.units path) || g.E.Exists.is_file l.files path)) (drop l.goal-index l.goals) ≡
    find (λ path. not (is_some (number_of l.units path) || g.E.Exists.is_file l.files path)) l.goals
