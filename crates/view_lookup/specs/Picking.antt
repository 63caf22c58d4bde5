-- What a view selects an element's version from, given its checkout.
use Rattle.std.specs.Prelude.{ℕ, Option}
use Rattle.base_model.specs.ConfigSpecs.Rules.{Selectables}
use Rattle.base_model.specs.Changes.{labels, tree}
use Rattle.base_model.specs.Closures.{recorded_version}
use Rattle.base_model.specs.Rows.{Base}

-- what there is to select from in a base, where this row makes the text of the view's checkout
abbrev pub selectables : Base → Option ℕ → Selectables
selectables b out = record { tree = tree b; labels = labels b; listed = recorded_version b; out = out }
