-- Where a record may be run again, and what selection by a record covers. Each is promised by a function of `laws::records`.
use Rattle.std.specs.Prelude.{◌≡◌, ℕ, List, None, is_some, true}
use Rattle.std.specs.FinMap.Entries.{find}
use Rattle.base_model.specs.Rows.{Base}
use Rattle.base_model.specs.Closures.{closure, input_cmp}
use Rattle.base_model.specs.Fits.{is_base}
use Rattle.legal_history.specs.Laws.Objects.{outputs_of}
use Rattle.legal_history.specs.Laws.Selected.{IsSelected}
use Rattle.base_model.specs.Objects.{uncovered_path}
use Rattle.legal_history.specs.Builds.Values.{again, is_true}

-- Where what a view sees covers the record of a true object, the record gives the stored outputs when it is run again in
-- that view.
abbrev pub CoveredRecordRunsAgain : Type 0
CoveredRecordRunsAgain = (b : Base) (v : List ℕ) (id : ℕ) → is_base b ≡ true → is_true b id ≡ true
    → uncovered_path b v id ≡ None → again b v id ≡ outputs_of b id

-- A view that selects by the record of an object covers the record: where each input of the object is either absent there
-- as it was, or the one version of an element in the closure that the view sees there by the rule `-config` of the object.
abbrev pub SelectionByARecordCovers : Type 0
SelectionByARecordCovers = (b : Base) (v target : List ℕ) (id : ℕ) → is_base b ≡ true
    → ((path : List ℕ) (row : ℕ) → is_some (find input_cmp (path, row) (closure b id)) ≡ true → IsSelected b v target id path row)
    → uncovered_path b v id ≡ None
