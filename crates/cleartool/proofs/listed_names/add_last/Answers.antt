-- The last name is among the names then.
use Rattle.std.proofs.Common.{ℕ, List, ◌||◌, Option, ap, sym, ◌∙◌}
use Rattle.base_model.specs.Closures.{is_path_among}
use Rattle.view_lookup.specs.GivenNames.{is_name}
use Rattle.view_lookup.proofs.PathSets.{one_inserted}
use Rattle.cleartool.proofs.listed_names.add_last.Goals as goal

pub returns-in_ok-insert-in-Some : goal.returns-in_ok-insert-in-Some
returns-in_ok-insert-in-Some c = λ q.
    one_inserted c.args.names.now c.insert.new.self c.in-Some.name q (c.in_ok-insert-in-Some.ensures.updates.0 q)
    ∙ ap (λ (o : Option (List ℕ)). is_name q o || is_path_among q c.args.names.now.keys) (sym c.in-Some.is ∙ c.in_ok-last.ensures)
