-- What a call answers that decides a command, or a part of one.
use Rattle.std.specs.Prelude.{◌≡◌, ℕ, ◌+◌, Option, Some, None, Result, Ok, Err, List, []}
use Rattle.cc_names.specs.Formed.{Plain}
use Rattle.cc_names.specs.declared.memory.Or.{Or}
use Rattle.cc_names.specs.declared.memory.Or.TheVariants.{NoMemory, Is}
use Rattle.cc_names.specs.declared.refusals.Refusal.{Refusal}
use Rattle.cc_names.specs.declared.rows.Tag.{Tag}
use Rattle.cc_names.specs.declared.selection.Picked.{Picked}
use Rattle.base_model.specs.Rows.{Base, size}
use Rattle.legal_history.specs.Builds.Active.{building, rows_reserved}
use Rattle.legal_history.specs.Commands.Decisions.{Answers, Decision, Makes, Scene}
use Rattle.checkout_desk.specs.declared.found.Selected.{Selected}

-- unless memory ran out, the refusal is the one that was decided
abbrev pub RefusalIs : Or Refusal → Result Decision Refusal → Type 0
RefusalIs NoMemory decision = Unit {0}
RefusalIs (Is refusal) decision = decision ≡ Err refusal

-- the row that was decided, with this tag and moment; or the refusal that was decided
abbrev pub Decides : Tag → ℕ → Result Plain (Or Refusal) → Result Decision Refusal → Type 0
Decides tag moment (Ok row) decision = (decision ≡ Ok (Makes row.deed)) × (row.tag ≡ tag) × (row.moment ≡ moment)
Decides tag moment (Err refusal) decision = RefusalIs refusal decision

-- The row that was decided, with this tag and moment; where there is none, that the command is answered without a text; or the
-- refusal that was decided.
abbrev pub DecidesIfAny : Tag → ℕ → Result (Option Plain) (Or Refusal) → Result Decision Refusal → Type 0
DecidesIfAny tag moment (Ok None) decision = decision ≡ Ok (Answers [])
DecidesIfAny tag moment (Ok (Some row)) decision = Decides tag moment (Ok row) decision
DecidesIfAny tag moment (Err refusal) decision = RefusalIs refusal decision

-- what was decided where there is always a row
abbrev pub with_row : Result Plain (Or Refusal) → Result (Option Plain) (Or Refusal)
with_row (Ok row) = Ok (Some row)
with_row (Err refusal) = Err refusal

-- unless memory ran out, the refusal is that of a test
abbrev pub IsOfTest : Or Refusal → Option Refusal → Type 0
IsOfTest NoMemory test = Unit {0}
IsOfTest (Is refusal) test = test ≡ Some refusal

-- a test is passed where it has no refusal, and else that is answered
abbrev pub Tests : {A : Type 0} → Result A (Or Refusal) → Option Refusal → Type 0
Tests (Ok passed) test = test ≡ None
Tests (Err refusal) test = IsOfTest refusal test

-- What was found is what the rest is decided of, whatever the rest is; where nothing was, the refusal is the decision.
abbrev pub Finds : {A : Type 0} → Result A (Or Refusal) → ((A → Result Decision Refusal) → Result Decision Refusal) → Type 0
Finds (Ok found) decided = (more : _) → decided more ≡ more found
Finds (Err refusal) decided = (more : _) → RefusalIs refusal (decided more)

-- what is decided of an element and of what was picked of it, as of both together
abbrev pub apart : (Selected → Result Decision Refusal) → ℕ → Picked → Result Decision Refusal
apart more e picked = more (record { element = e; picked = picked })

-- The scene in which a command is decided: its base, its moment, the active build of this view, and how many rows there are
-- and are reserved.
pub record Sees (s : Scene) (b : Base) (now : ℕ) (v : List ℕ) (build : Option Tag) (rows : ℕ) : Type 0 where
  pub base : s.base ≡ b
  pub moment : s.moment ≡ now
  pub busy : building s.active v ≡ build
  pub taken : size s.base + rows_reserved s.active ≡ rows
