use Rattle.std.proofs.Common.{ap, ◌∙◌, sym, List, ℕ, Bool}
use Rattle.make_graph.specs.NumberSets.{has_number}
use Rattle.make_graph.specs.Waits.{is_marked}
use Rattle.make_graph.proofs.NumberSetLemmas.{marked}
use Rattle.make_graph.proofs.number_sets.NumberSet.has.Goals as goal

pub returns : goal.returns
returns c =
    c.has_number.ensures
    ∙ (ap (λ (words : List ℕ). has_number words c.args.number) c.as_slice.ensures.value
    ∙ (sym (marked c.self.inside.words.items c.args.number)
    ∙ ap (λ (marks : List Bool). is_marked marks c.args.number) c.self.view_is))
