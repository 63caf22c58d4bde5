-- One name more is among those of the set.
use Rattle.std.proofs.Common.{ℕ, List, ◌||◌, Option, ap, sym, ◌∙◌, bytes_eq, Bor}
use Rattle.std.specs.Option.{option_copied}
use Rattle.base_model.specs.Closures.{is_path_among}
use Rattle.view_lookup.specs.GivenNames.{is_name}
use Rattle.view_lookup.proofs.PathSets.{one_inserted}
use Rattle.view_lookup.proofs.directory_names.add_name.Goals as goal

pub returns-in_ok-insert-in-Some : goal.returns-in_ok-insert-in-Some
returns-in_ok-insert-in-Some c = λ q.
    one_inserted c.args.found.now c.insert.new.self c.in_ok-copy-in-Some.field-0 q (c.in_ok-insert-in-Some.ensures.updates.0 q)
    ∙ ap (λ (name : List ℕ). bytes_eq q name || is_path_among q c.args.found.now.keys) c.in_ok-copy-in-Some.ensures.copy
    ∙ ap (λ (o : Option (Bor (List ℕ))). is_name q (option_copied o) || is_path_among q c.args.found.now.keys) (sym c.in-Some.is)
