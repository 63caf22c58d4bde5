-- What may be decided of a command: its row, its answer, the begin of a build, or its first refusal.
use Rattle.std.specs.Prelude.{ℕ, ◌+◌, nat_lt, min, Option, Some, None, Result, Ok, Err, List, [], ◌∷◌, ◌++◌, if◌then◌else◌}
use Rattle.cc_names.specs.declared.refusals.Refusal.{Refusal}
use Rattle.cc_names.specs.declared.refusals.Refusal.TheVariants as refusals
use Rattle.cc_names.specs.declared.rows.Deed.{Deed}
use Rattle.cc_names.specs.declared.units.Unit.{Unit}
use Rattle.base_model.specs.Rows.{Base, size}
use Rattle.legal_history.specs.Builds.Active.{Active, rows_reserved}
use Rattle.base_model.specs.Fits.{row_limit}

-- what a command that is not refused comes to: a row with this deed, a text that answers it, or a build of these units
pub data Decision : Type 0 where
  Makes : Deed → Decision
  Answers : List ℕ → Decision
  Begins : List Unit → Decision

-- what a command meets: the base, the active builds, and the moment of its phase
pub record Scene : Type 0 where
  pub base : Base
  pub active : Active
  pub moment : ℕ

-- A test of a command gives a refusal or none. The first refusal of a list of tests decides.
abbrev pub first_refusal : List (Option Refusal) → Option Refusal
first_refusal [] = None
first_refusal (Some refusal ∷ tests) = Some refusal
first_refusal (None ∷ tests) = first_refusal tests

-- what is decided past some tests: the first refusal among them, else what follows
abbrev pub past : {A : Type 0} → List (Option Refusal) → Result A Refusal → Result A Refusal
past [] decided = decided
past (Some refusal ∷ tests) decided = Err refusal
past (None ∷ tests) decided = past tests decided

-- the refusal, where there is one, else what was decided
abbrev pub unless_refused : {A : Type 0} → Option Refusal → A → Result A Refusal
unless_refused (Some refusal) decided = Err refusal
unless_refused None decided = Ok decided

-- Room for some rows: those of the base and those that active builds reserve stay within the limit with them. The
-- refusal carries the rows and the reserved ones, or the limit where these are more.
abbrev pub needs_room : Scene → ℕ → Option Refusal
needs_room scene rows =
    if nat_lt row_limit (size scene.base + rows_reserved scene.active + rows)
    then Some (refusals.Full (min (size scene.base + rows_reserved scene.active) row_limit))
    else None

-- a command that makes a row needs room for it, and that is tested last
abbrev pub makes : Scene → List (Option Refusal) → Deed → Result Decision Refusal
makes scene tests deed = unless_refused (first_refusal (tests ++ needs_room scene 1 ∷ [])) (Makes deed)

-- a command that makes no row is answered by a text
abbrev pub answers : List (Option Refusal) → List ℕ → Result Decision Refusal
answers tests text = unless_refused (first_refusal tests) (Answers text)

-- a query is decided by what answers it, a text or a refusal
abbrev pub answered : Result (List ℕ) Refusal → Result Decision Refusal
answered (Ok text) = Ok (Answers text)
answered (Err refusal) = Err refusal

-- a build reserves a row for each of its units
abbrev pub begins_build : Scene → ℕ → List Unit → Result Decision Refusal
begins_build scene rows units = unless_refused (needs_room scene rows) (Begins units)
