-- The text that tells what was done to an element.
use Rattle.std.specs.Prelude.{ℕ, Bool, true, false, ◌==◌, List, [], ◌∷◌, ◌++◌, codes}
use Rattle.cc_names.specs.declared.rows.Deed.{Deed}
use Rattle.cc_names.specs.declared.rows.Deed.TheVariants as deeds
use Rattle.cc_names.specs.declared.rows.Placed.{Placed}
use Rattle.date_text.specs.Dates.{date_as_text}
use Rattle.base_model.specs.Rows.{Base, size}
use Rattle.legal_history.specs.Queries.VersionNames.{line, branch_name, version_name}
use Rattle.base_model.specs.Views.{out}

-- a date, a blank, and what was done
abbrev pub dated_line : ℕ → List ℕ → List ℕ
dated_line moment text = line (date_as_text moment ++ 32 ∷ text)

-- a line where a test holds
abbrev pub line_where : Bool → List ℕ → List ℕ
line_where true text = text
line_where false text = []

-- the lines of the label that a row puts on versions of the element
abbrev pub placed_lines : Base → ℕ → ℕ → List ℕ → List Placed → List ℕ
placed_lines b e moment label [] = []
placed_lines b e moment label (placed ∷ more) =
    line_where (placed.element == e) (dated_line moment (codes "label " ++ label ++ 32 ∷ version_name b placed.version))
    ++ placed_lines b e moment label more

-- what row n did to the element
abbrev pub history_line : Base → ℕ → ℕ → ℕ → Deed → List ℕ
history_line b e n moment (deeds.Mkelem v directory name kind out) = line_where (n == e)
    (dated_line moment (codes "create element"))
history_line b e n moment (deeds.Branch v f origin name out) = line_where (f == e)
    (dated_line moment (codes "create branch " ++ branch_name b n))
history_line b e n moment (deeds.Checkin v f) = line_where (f == e) (dated_line moment
    (codes "create version " ++ version_name b n))
history_line b e n moment (deeds.Label label f version) =
    line_where (f == e) (dated_line moment (codes "label " ++ label ++ 32 ∷ version_name b version))
history_line b e n moment (deeds.Unlabel label f) = line_where (f == e) (dated_line moment (codes "unlabel " ++ label))
history_line b e n moment (deeds.Labels label placed) = placed_lines b e moment label placed
history_line b e n moment deed = []

-- what some rows did to the element, newest first
abbrev pub history_lines : Base → ℕ → Base → List ℕ
history_lines b e [] = []
history_lines b e (row ∷ older) = history_line b e (size older) row.moment row.deed ++ history_lines b e older

-- `lshistory`: what was done to the element, newest first
abbrev pub lshistory_text : Base → ℕ → List ℕ
lshistory_text b e = history_lines b e b
