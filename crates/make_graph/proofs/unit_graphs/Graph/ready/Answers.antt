-- The units of the prerequisites' numbers are done where those of the prerequisites are.
use Rattle.std.proofs.Common.{ap, ◌∙◌, ℕ, List, Some}
use Rattle.std.specs.List.{list_all}
use Rattle.make_graph.specs.Waits.{is_done, prerequisites_at}
use Rattle.make_graph.proofs.MakerLemmas.{makers_done}
use Rattle.make_graph.proofs.unit_graphs.Graph.ready.Goals as goal

pub returns : goal.returns
returns c =
    let units = c.args.self.now in
    let done = c.args.done.now in
    c.are_units_done.ensures
    ∙ ap (λ (numbers : List ℕ). list_all (λ (number : ℕ). is_done done (Some number)) numbers) c.makers.ensures
    ∙ makers_done units done (prerequisites_at units c.args.unit)
