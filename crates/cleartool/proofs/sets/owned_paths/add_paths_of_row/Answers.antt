-- Each path of the row lies below the root.
use Rattle.std.proofs.Common.{ap, ◌∙◌}
use Rattle.cc_names.specs.Formed.{IsBelowRoot}
use Rattle.base_model.specs.Closures.{is_path_among}
use Rattle.view_lookup.proofs.PathSets.{all_among}
use Rattle.cleartool.proofs.sets.owned_paths.add_paths_of_row.Goals as goal

pub returns-clause-below : goal.returns-clause-below
returns-clause-below c = λ path given.
    all_among IsBelowRoot c.paths_by.result.now c.paths_by.ensures.below path (ap (is_path_among path) c.paths_by.ensures.paths
    ∙ given)
