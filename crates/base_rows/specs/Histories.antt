-- Which rows did something to an element that its history tells.
use Rattle.std.specs.Prelude.{ℕ, Bool, false, ◌==◌, List}
use Rattle.std.specs.List.{list_any}
use Rattle.cc_names.specs.Last.{Sets, only_if}
use Rattle.cc_names.specs.declared.rows.Deed.{Deed}
use Rattle.cc_names.specs.declared.rows.Deed.TheVariants as deeds
use Rattle.cc_names.specs.declared.rows.Placed.{Placed}
use Rattle.base_model.specs.Rows.{Base, size}
use Rattle.base_rows.specs.LookUps.{Deeds}
use Rattle.base_rows.specs.Walks.{updating_rows}

-- whether a label is put on a version of the element
abbrev pub is_placed_on : ℕ → Placed → Bool
is_placed_on e placed = placed.element == e

-- whether row n made the element, a branch or a version of it, or put a label on it or took one off
abbrev pub tells_of : ℕ → ℕ → Deed → Bool
tells_of e n (deeds.Mkelem v directory name kind out) = n == e
tells_of e n (deeds.Branch v f origin name out) = f == e
tells_of e n (deeds.Checkin v f) = f == e
tells_of e n (deeds.Label label f version) = f == e
tells_of e n (deeds.Unlabel label f) = f == e
tells_of e n (deeds.Labels label placed) = list_any (is_placed_on e) placed
tells_of e n deed = false

-- the row is one of the element's history
abbrev pub history_effect : ℕ → Deeds ℕ
history_effect e older deed = only_if (tells_of e (size older) deed) (Sets (size older))

-- the numbers of the rows of an element's history, the newest first
abbrev pub history_of : Base → ℕ → List ℕ
history_of b e = updating_rows (history_effect e) b
