-- Which rows may be committed, and what a fault of the disk may leave of one.
use Rattle.std.specs.Bool.{⊤}
use Rattle.std.specs.Prelude.{◌≡◌, ℕ, ◌≤◌, true, ◌⊎◌, Option, Some, None, Ok}
use Rattle.cc_names.specs.Counts.{rises}
use Rattle.cc_names.specs.Formed.{Plain}
use Rattle.cc_names.specs.declared.rows.Deed.{Deed}
use Rattle.cc_names.specs.declared.rows.Deed.TheVariants as deeds
use Rattle.cc_names.specs.declared.rows.Tag.{Tag}
use Rattle.legal_history.specs.Commands.Decisions.{Makes}
use Rattle.legal_history.specs.Stories.States.{State, decision_for, ticks_of, faults_of, hanging}
use Rattle.legal_history.specs.Builds.UnitTurns.{Publishes, Winks}

-- what lets a row be committed, by its deed: a step of a build, or the decision on a command
abbrev pub MakesRow : State → Plain → Deed → Type 0
MakesRow s row (deeds.Publish view targets script entries outputs) = Publishes s row targets
MakesRow s row (deeds.Wink view id) = Winks s row view id
MakesRow s row deed = decision_for s row.tag ≡ Some (Ok (Makes row.deed))

-- a row may be committed: it has the moment of the last phase, and its command or its build makes it
pub record MayCommit (s : State) (row : Plain) : Type 0 where
  pub moment : row.moment ≡ s.moment
  pub made : MakesRow s row row.deed

-- a row that a command or a build would make here
pub record RowFor (s : State) (tag : Tag) : Type 0 where
  pub row : Plain
  pub of_tag : row.tag ≡ tag
  pub may : MayCommit s row

-- what a fault may leave: nothing, the row that was to be committed, or what the fault directly before it left
abbrev pub LeavesRow : State → Tag → Option Plain → Type 0
LeavesRow s tag None = ⊤
LeavesRow s tag (Some row) = ((row.tag ≡ tag) × MayCommit s row) ⊎ (hanging s.ends ≡ Some row)

-- The disk fails where a row was to be committed for this command.
pub record FaultsAt (s : State) (tag : Tag) (left : Option Plain) (before faults tick : ℕ) : Type 0 where
  pub wanted : RowFor s tag
  pub rose : rises before faults ≡ true
  pub later : faults_of s.opened s.ends ≤ before
  pub leaves : LeavesRow s tag left
  pub ticked : rises (ticks_of s.opened s.ends) tick ≡ true
