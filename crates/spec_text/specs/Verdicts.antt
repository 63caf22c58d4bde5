-- What one rule of a config spec says.
use Rattle.std.specs.Prelude.{ℕ, Option, Some, None, List, if◌then◌else◌}
use Rattle.cc_names.specs.declared.selection.Picked.{Picked}
use Rattle.cc_names.specs.declared.selection.Rule.{Rule}
use Rattle.base_model.specs.ConfigSpecs.Rules.{Selectables, decides, picked_by}

-- what a rule picks, where it decides
abbrev pub verdict : Selectables → ℕ → List (List ℕ) → Rule → Option (Option Picked)
verdict sources element names rule =
    if decides sources element names rule then Some (picked_by sources element rule) else None
