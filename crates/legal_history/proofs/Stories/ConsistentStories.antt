-- Along a legal story the rows stay a base, and every active build is consistent.
use Rattle.std.proofs.Common.{◌≡◌, refl, ap, sym, subst, ◌∙◌, ℕ, ◌<◌, ◌≤◌, true, ◌&&◌, Some, List, [], ◌∷◌, arith, nat_lt}
use Rattle.std.proofs.lemmas.Bool.{ltb-true}
use Rattle.std.specs.Bool.{⊤}
use Rattle.std.specs.Prelude.{is_some, reverse}
use Rattle.std.specs.List.{list_all}
use Rattle.cc_names.specs.declared.rows.Deed.{Deed}
use Rattle.cc_names.specs.declared.rows.Deed.TheVariants as deeds
use Rattle.cc_names.specs.declared.rows.Tag.{Tag}
use Rattle.cc_names.specs.declared.steps.StoryStep.{StoryStep}
use Rattle.cc_names.specs.declared.steps.StoryStep.TheVariants as story_steps
use Rattle.cc_names.specs.declared.units.Unit.{Unit}
use Rattle.cc_names.proofs.Common.{and_first}
use Rattle.base_model.specs.Rows.{Base, size}
use Rattle.legal_history.specs.Builds.Active.{Build, build_of}
use Rattle.base_model.specs.Changes.{live_row}
use Rattle.legal_history.specs.Builds.Choices.{here, visible, entries}
use Rattle.base_model.specs.Conditions.{exists, is_entry}
use Rattle.legal_history.specs.Commands.Decisions.{Makes}
use Rattle.base_model.specs.Fits.{fits, is_base, row_limit}
use Rattle.legal_history.specs.Builds.Consistency.{IsReady, IsConsistent}
use Rattle.legal_history.specs.Stories.States.{State, scene, start}
use Rattle.legal_history.specs.Stories.Steps.{after, active_after, state_from, state_of}
use Rattle.legal_history.specs.Stories.Committing.{MakesRow}
use Rattle.legal_history.specs.Stories.Lawful.{Lawful, LegalFrom, Legal}
use Rattle.legal_history.proofs.Decisions.DecidedFits.{decided_fits}
use Rattle.legal_history.proofs.Stories.Prefixes.{first_opens}
use Rattle.legal_history.proofs.Stories.Goes.{of_lane}
use Rattle.legal_history.proofs.Stories.Grows.{stays_opened}
use Rattle.legal_history.proofs.Builds.AllBuilds.{Each}
use Rattle.legal_history.proofs.Builds.BuildSteps.{step_fine}
use Rattle.legal_history.proofs.Stories.DecidedSteps.{decided_of}
use Rattle.legal_history.proofs.Builds.FineBuilds.{IsFine, takes_for}
use Rattle.legal_history.proofs.Builds.EntriesFit.{entries_fit}
use Rattle.legal_history.proofs.Builds.Published.{IsPublish, is_publish}
use Rattle.legal_history.proofs.Builds.RoomSteps.{HasRoom, step_room, room_for}
use Rattle.legal_history.proofs.Reuse.Reusables.{reusable_matches}
use Rattle.legal_history.proofs.Stories.Along.{along}

-- A state is sound where a base was opened, its rows are a base, each active build is consistent in a view that exists, and
-- there is room for a row of each unit that waits.
pub record IsConsistentState (s : State) : Type 0 where
  pub opened : is_some s.opened ≡ true
  pub base : is_base s.base ≡ true
  pub fine : Each (λ lane. IsFine s.base) s.active
  pub room : HasRoom s.base s.active

publish_fits : (b : Base) (build : Build) (n : ℕ) (unit : Unit) (deed : Deed) → IsFine b build → IsReady build unit
    → nat_lt (size b) row_limit ≡ true → IsPublish b build n unit deed → fits b deed ≡ true
publish_fits b build n unit deed h ready room p =
    subst (λ d. fits b d ≡ true) (sym p.is)
    (ap (λ t. t && (exists b build.view && list_all (is_entry b) (entries (visible b build n unit) (here b build n unit).reads)))
    room
    ∙ ap (λ t. t && list_all (is_entry b) (entries (visible b build n unit) (here b build n unit).reads)) h.there
    ∙ entries_fit b build n unit (here b build n unit).reads h.consistent ready)

committed_fits : (s : State) (tag : Tag) (moment : ℕ) (deed : Deed) → IsConsistentState s
    → MakesRow s (record { tag = tag; moment = moment; deed = deed }) deed →
    HasRoom (record { tag = tag; moment = moment; deed = deed } ∷ s.base) (active_after s.base s.active tag.lane deed)
    → fits s.base deed ≡ true
committed_fits s tag moment (deeds.Publish view targets script entries outputs) h e room =
    let fine = h.fine.holds tag.lane e.build (of_lane s tag e.build e.running.waits.active) in
    publish_fits s.base e.build e.n e.unit (deeds.Publish view targets script entries outputs) fine
    (fine.consistent.ready e.n e.unit e.running.waits.is_unit (ap is_some e.running.started))
    (room_for s.base (record { tag = tag; moment = moment; deed = deeds.Publish view targets script entries outputs }) _ room)
    (is_publish s.base e.build e.n e.unit (deeds.Publish view targets script entries outputs) e.made)
committed_fits s tag moment (deeds.Wink view id) h e room =
    let w = takes_for s tag e.n e.build e.unit e.may in
    let there : exists s.base view ≡ true = subst (λ v. exists s.base v ≡ true) e.of_view
    (h.fine.holds tag.lane e.build w.there).there in
    ap (λ t. t && (exists s.base view && is_some (live_row s.base id)))
    (room_for s.base (record { tag = tag; moment = moment; deed = deeds.Wink view id }) _ room)
    ∙ ap (λ t. t && is_some (live_row s.base id)) there
    ∙ (reusable_matches s.base e.build e.n e.unit id h.base e.chosen).lives
committed_fits s tag moment deed h e room = let d = decided_of s tag (Makes deed) e in
    decided_fits (scene s) d.command h.base deed d.is

step_base : (s : State) (x : StoryStep) → IsConsistentState s → Lawful s x → HasRoom (after s x).base (after s x).active
    → is_base (after s x).base ≡ true
step_base s (story_steps.Opened rows counts tells) h e room = e.fits
step_base s (story_steps.Commit row tick) h e room = ap (λ t. t && is_base s.base)
    (committed_fits s row.tag row.moment row.deed h e.may.made room) ∙ h.base
step_base s (story_steps.Refused tag refusal) h e room = h.base
step_base s x h e room = h.base

pub consistent_step : (s : State) (x : StoryStep) → IsConsistentState s → Lawful s x → IsConsistentState (after s x)
consistent_step s x h e =
    let room = step_room s x h.opened h.room e in
    record {
      opened = stays_opened s x h.opened;
      base = step_base s x h e room;
      fine = step_fine s x h.base h.opened h.fine e;
      room = room;
    }

consistent_from : (s : State) (story : List StoryStep) → IsConsistentState s → LegalFrom s story
    → IsConsistentState (state_from s story)
consistent_from s story h e = along IsConsistentState (λ t x legal so. consistent_step t x so legal) s story e h

-- a base has no more rows than the limit
pub base_within : (b : Base) → is_base b ≡ true → size b ≤ row_limit
base_within [] h = omega arith
base_within (row ∷ older) h = let low : size older < row_limit = ltb-true _ _ (and_first _ _ (and_first _ _ h)) in omega arith

-- the first step of a legal story is that one
abbrev pub IsOpening : StoryStep → Type 0
IsOpening (story_steps.Opened rows counts tells) = ⊤
IsOpening x = ⊥

pub opens_first : (x : StoryStep) → Lawful start x → IsOpening x
opens_first (story_steps.Opened rows counts tells) e = tt
opens_first (story_steps.Refused tag refusal) e = let opened =
    first_opens (story_steps.Refused tag refusal) e in cc
opens_first x e = let opened = first_opens x e in cc

-- after it nothing builds
pub none_active : (x : StoryStep) → Lawful start x → (after start x).active ≡ []
none_active (story_steps.Opened rows counts tells) e = refl
none_active x e = absurd (opens_first x e)

pub consistent_first : (x : StoryStep) → Lawful start x → IsConsistentState (after start x)
consistent_first (story_steps.Opened rows counts tells) e = record {
  opened = refl;
  base = e.fits;
  fine = record { holds = λ lane build is. absurd (cc) };
  room = record { sorted = tt; room = let within = base_within (reverse rows) e.fits in omega arith };
}
consistent_first x e = absurd (opens_first x e)

-- A legal story with a step leads to a sound state.
pub story_is_consistent : (x : StoryStep) (story : List StoryStep) → Legal (x ∷ story) → IsConsistentState (state_of (x ∷ story))
story_is_consistent x story h = consistent_from (after start x) story (consistent_first x h.0) h.1

pub base_fits : (story : List StoryStep) → Legal story → is_base (state_of story).base ≡ true
base_fits [] h = refl
base_fits (x ∷ story) h = (story_is_consistent x story h).base

pub build_is_consistent : (story : List StoryStep) (lane : ℕ) (build : Build) → Legal story
    → build_of (state_of story).active lane ≡ Some build → IsConsistent (state_of story).base build
build_is_consistent [] lane build h is = absurd (cc)
build_is_consistent (x ∷ story) lane build h is = ((story_is_consistent x story h).fine.holds lane build is).consistent
