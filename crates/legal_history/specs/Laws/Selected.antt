-- How a view that selects by the record of an object sees the inputs of that object.
use Rattle.std.specs.Prelude.{◌≡◌, ℕ, ◌<◌, true, Some, None, is_some, List}
use Rattle.std.specs.FinMap.Entries.{find}
use Rattle.cc_names.specs.Paths.{names_of}
use Rattle.cc_names.specs.declared.selection.Picked.{Picked}
use Rattle.cc_names.specs.declared.selection.Rule.{Rule}
use Rattle.cc_names.specs.declared.selection.Seen.TheVariants.{Element}
use Rattle.cc_names.specs.declared.selection.Selector.TheVariants.{Config}
use Rattle.base_model.specs.ConfigSpecs.Rules.{deciding}
use Rattle.base_model.specs.Rows.{Base}
use Rattle.base_model.specs.Closures.{Input, input_cmp, closure, is_version_of}
use Rattle.base_model.specs.Seen.{at, file_at, rules, sources}

-- A view sees element e at a path by the record of an object: the rule that decides there is `-config TARGET@@ID`.
-- In a base what a record lists are versions of files, so that e is one need not be said.
pub record SeesByRecord (b : Base) (v target : List ℕ) (id : ℕ) (path : List ℕ) (e : ℕ) : Type 0 where
  pub picked : Picked
  pub rule : Rule
  pub stands : at b v path ≡ Element e picked
  pub decides : deciding (sources b v e) e (names_of path) (rules b v) ≡ Some rule
  pub by_record : rule.selector ≡ Config target id

-- a row is the one version of element e in an object's closure
pub record IsOnlyVersion (b : Base) (id e row : ℕ) : Type 0 where
  pub only : (input : Input) → is_some (find input_cmp input (closure b id)) ≡ true → is_version_of b e input.1 ≡ true
      → input.1 ≡ row

-- An input is selected by the record: nothing was there and the view sees nothing, or it is the one version of an element
-- that the view sees there by the record.
pub data IsSelected (b : Base) (v target : List ℕ) (id : ℕ) (path : List ℕ) (row : ℕ) : Type 0 where
  WasAbsent : row ≡ 0 → file_at b v path ≡ None → IsSelected b v target id path row
  IsVersion : (e : ℕ) → 0 < row → IsOnlyVersion b id e row → SeesByRecord b v target id path e → IsSelected b v target id path row
