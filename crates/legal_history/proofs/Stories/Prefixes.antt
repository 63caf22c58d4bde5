-- A front of a legal story is legal, and the story goes on from there; the base only grows.
use Rattle.std.proofs.Common.{◌≡◌, refl, ℕ, zero, suc, Bool, true, false, Option, None, List, [], ◌∷◌, ◌++◌, inl, inr}
use Rattle.std.specs.Prelude.{is_some, option_and_then}
use Rattle.cc_names.specs.Commands.{lane_at}
use Rattle.cc_names.specs.Formed.{Plain}
use Rattle.cc_names.specs.declared.rows.Deed.{Deed}
use Rattle.cc_names.specs.declared.rows.Deed.TheVariants as deeds
use Rattle.cc_names.specs.declared.rows.Tag.{Tag}
use Rattle.cc_names.specs.declared.steps.StoryStep.{StoryStep}
use Rattle.cc_names.specs.declared.steps.StoryStep.TheVariants as story_steps
use Rattle.cc_names.specs.declared.steps.UnitEnd.{UnitEnd}
use Rattle.cc_names.specs.declared.steps.UnitEnd.TheVariants as ends
use Rattle.cc_names.specs.declared.refusals.UnitFault.TheVariants as unit_faults
use Rattle.base_model.specs.Rows.{only_where}
use Rattle.legal_history.specs.Stories.States.{State, start, decision_for, is_next, next_command, command_behind, done_of}
use Rattle.legal_history.specs.Stories.Steps.{after, state_from}
use Rattle.legal_history.specs.Stories.Committing.{MakesRow}
use Rattle.legal_history.specs.Stories.Lawful.{Lawful, LegalFrom}
use Rattle.legal_history.specs.Builds.UnitTurns.{ComesTo}

pub prefix_is_legal : (s : State) (prefix rest : List StoryStep) → LegalFrom s (prefix ++ rest) → LegalFrom s prefix
prefix_is_legal s [] rest h = tt
prefix_is_legal s (x ∷ prefix) rest h = (h.0, prefix_is_legal (after s x) prefix rest h.1)

pub rest_is_legal : (s : State) (prefix rest : List StoryStep) → LegalFrom s (prefix ++ rest)
    → LegalFrom (state_from s prefix) rest
rest_is_legal s [] rest h = h
rest_is_legal s (x ∷ prefix) rest h = rest_is_legal (after s x) prefix rest h.1

pub both_are_legal : (s : State) (prefix rest : List StoryStep) → LegalFrom s prefix → LegalFrom (state_from s prefix) rest
    → LegalFrom s (prefix ++ rest)
both_are_legal s [] rest h g = g
both_are_legal s (x ∷ prefix) rest h g = (h.0, both_are_legal (after s x) prefix rest h.1 g)

pub state_goes_on : (s : State) (prefix rest : List StoryStep) → state_from s (prefix ++ rest)
    ≡ state_from (state_from s prefix) rest
state_goes_on s [] rest = refl
state_goes_on s (x ∷ prefix) rest = state_goes_on (after s x) prefix rest

-- before a base is opened no command is next
no_lane : (n : ℕ) → lane_at (record { lanes = [] }) n ≡ None
no_lane zero = refl
no_lane (suc n) = refl

none_left : {A B : Type 0} (test : Bool) (f : A → Option B) (o : Option A) → o ≡ None
    → only_where test (option_and_then f o) ≡ None
none_left true f o e = rw e refl
none_left false f o e = refl

nothing_is_next : (tag : Tag) → next_command start tag ≡ None
nothing_is_next tag = none_left (is_next start tag) (command_behind (done_of start.done tag.lane)) (lane_at start.phase tag.lane)
    (no_lane tag.lane)

nothing_is_decided : (tag : Tag) → decision_for start tag ≡ None
nothing_is_decided tag = rw (nothing_is_next tag) refl

pub nothing_is_committed : (row : Plain) (deed : Deed) → MakesRow start row deed → ⊥
nothing_is_committed row (deeds.Publish view targets script entries outputs) h = let e = h.running.waits.active in cc
nothing_is_committed row (deeds.Wink view id) h = elim h.may [
  | inl o ↦ let e = o.waits.active in
      cc
  | inr r ↦ let e = r.waits.active in cc
]
nothing_is_committed row deed h = let e = nothing_is_decided row.tag in cc

nothing_settles : (tag : Tag) (n : ℕ) (outcome : UnitEnd) → ComesTo start tag n outcome → ⊥
nothing_settles tag n (ends.Kept id) h = let e = h.open_unit.waits.active in cc
nothing_settles tag n (ends.Failed (unit_faults.Script fault)) h = let e = h.running.waits.active in cc
nothing_settles tag n outcome h = let e = h.waits.active in cc

-- the first step of a legal story opens a base
pub first_opens : (x : StoryStep) → Lawful start x → is_some (after start x).opened ≡ true
first_opens (story_steps.Opened rows counts tells) h = refl
first_opens (story_steps.PhaseBegun phase moment) h = absurd (let e = h.opened in cc)
first_opens (story_steps.Commit row tick) h = absurd (nothing_is_committed row row.deed h.may.made)
first_opens (story_steps.Refused tag refusal) h = absurd (let e = nothing_is_decided tag in cc)
first_opens (story_steps.Answer tag text) h = absurd (let e = nothing_is_decided tag in cc)
first_opens (story_steps.Begin tag rows units) h = absurd (let e = nothing_is_decided tag in let c = h.chosen in cc)
first_opens (story_steps.Start tag n) h = absurd (let e = h.open_unit.waits.active in cc)
first_opens (story_steps.Concluded tag n outcome) h = absurd (nothing_settles tag n outcome h)
first_opens (story_steps.End tag) h = absurd (let e = h.active in cc)
first_opens (story_steps.Fault tag left before faults tick) h = absurd (nothing_is_committed h.wanted.row h.wanted.row.deed h.wanted.may.made)
