-- Lanes of which one was set.
use Rattle.std.proofs.Common.{◌≡◌, ◌≢◌, ℕ, zero, suc, ◌-◌, ◌<◌, ◌≤◌, ◌⊎◌, inl, inr, Option, None, List, [], ◌∷◌, length, get_or}
use Rattle.std.proofs.Common.{set, refl, ap, sym, ◌∙◌, arith}
use Rattle.std.proofs.lemmas.List.{get_or-set_same, get_or-set_other, length-map, map-set, set-get_or}
use Rattle.std.proofs.lemmas.Bool.{cases_eq}
use Rattle.build_core.specs.Slots.{numbered_slots, held_in}
use Rattle.legal_history.specs.Builds.Active.{Build, build_of}
use Rattle.cc_names.specs.declared.commands.Command.{Command}
use Rattle.cc_names.specs.declared.replies.Reply.{Reply}
use Rattle.base_core.specs.Keeping.Lanes.{LaneState, no_lane, lane_state, builds_in, put_build}
use Rattle.build_core.proofs.SlotLaws.{find_numbered}

-- what a lane that was set has in common with the one before it, all lanes keep
pub shared : {A : Type 0} (f : LaneState → A) (lanes : List LaneState) (i j : ℕ) (lane : LaneState) → i < length lanes
    → f lane ≡ f (get_or lanes i no_lane) → f (get_or (set lanes i lane) j no_lane) ≡ f (get_or lanes j no_lane)
shared {A} f lanes i j lane within same = by (cases_eq j i)
  where
    by : (j ≡ i) ⊎ (j ≢ i) → f (get_or (set lanes i lane) j no_lane) ≡ f (get_or lanes j no_lane)
    by (inl e) = ap (λ k. f (get_or (set lanes i lane) k no_lane)) e ∙ ap f (get_or-set_same lanes i lane no_lane within) ∙ same
        ∙ ap (λ k. f (get_or lanes k no_lane)) (sym e)
    by (inr differs) = ap f (get_or-set_other lanes i j lane no_lane differs)

-- the builds of the lanes, slot by slot
pub builds_count : (lanes : List LaneState) → length (builds_in lanes) ≡ length lanes
builds_count lanes = length-map lanes (λ lane. lane.build)

pub builds_held : (lanes : List LaneState) (i : ℕ) → held_in (builds_in lanes) i ≡ (get_or lanes i no_lane).build
builds_held [] i = refl
builds_held (lane ∷ lanes) zero = refl
builds_held (lane ∷ lanes) (suc i) = builds_held lanes i

builds_at : (lanes : List LaneState) (i : ℕ) → get_or (builds_in lanes) i None ≡ (get_or lanes i no_lane).build
builds_at [] i = refl
builds_at (lane ∷ lanes) zero = refl
builds_at (lane ∷ lanes) (suc i) = builds_at lanes i

-- and where a lane was set, with another build or with the same
pub builds_set : (lanes : List LaneState) (i : ℕ) (lane : LaneState) → builds_in (set lanes i lane)
    ≡ set (builds_in lanes) i lane.build
builds_set lanes i lane = map-set (λ kept. kept.build) lanes i lane

pub builds_same : (lanes : List LaneState) (i : ℕ) (lane : LaneState) → lane.build ≡ (get_or lanes i no_lane).build
    → builds_in (set lanes i lane) ≡ builds_in lanes
builds_same lanes i lane same = builds_set lanes i lane ∙ ap (set (builds_in lanes) i) (same ∙ sym (builds_at lanes i))
    ∙ set-get_or (builds_in lanes) i None

-- the build of a lane is the one that is kept for it
held_at : (lanes : List LaneState) (i : ℕ) (d : LaneState) → i < length lanes
    → held_in (builds_in lanes) i ≡ (get_or lanes i d).build
held_at [] i d h = absurd (omega arith)
held_at (lane ∷ lanes) zero d h = refl
held_at (lane ∷ lanes) (suc i) d h = held_at lanes i d (omega arith)

pub build_there : (lanes : List LaneState) (lane : ℕ) (d : LaneState) → 1 ≤ lane → lane ≤ length lanes
    → build_of (numbered_slots 1 (builds_in lanes)) lane ≡ (get_or lanes (lane - 1) d).build
build_there lanes lane d low high = find_numbered lane 1 (lane - 1) (builds_in lanes) (omega arith)
    ∙ held_at lanes (lane - 1) d (omega arith)

-- a lane that is there is the same whatever stands for one that is not
there : (lanes : List LaneState) (i : ℕ) (d e : LaneState) → i < length lanes → get_or lanes i d ≡ get_or lanes i e
there [] i d e h = absurd (omega arith)
there (lane ∷ lanes) zero d e h = refl
there (lane ∷ lanes) (suc i) d e h = there lanes i d e (omega arith)

abbrev lane_of : List Command → List Reply → ℕ → Option Build → LaneState
lane_of commands replies room build = record { commands = commands; replies = replies; room = room; build = build }

-- a lane that differs from the one at its place in its build alone, put in its place
pub put_is : (lanes : List LaneState) (lane : ℕ) (found new : LaneState) (build : Option Build) → 1 ≤ lane → lane ≤ length lanes
    → found ≡ get_or lanes (lane - 1) found
    → new.commands ≡ found.commands → new.replies ≡ found.replies → new.room ≡ found.room → new.build ≡ build
    → set lanes (lane - 1) new ≡ put_build lanes lane build
put_is lanes lane found new build low high is commands replies room held =
    ap (set lanes (lane - 1))
    (ap (λ r. lane_of r new.replies new.room new.build) (commands ∙ ap (λ l. l.commands) same)
    ∙ ap (λ r. lane_of (lane_state lanes lane).commands r new.room new.build) (replies ∙ ap (λ l. l.replies) same)
    ∙ ap (λ r. lane_of (lane_state lanes lane).commands (lane_state lanes lane).replies r new.build) (room
    ∙ ap (λ l. l.room) same)
    ∙ ap (lane_of (lane_state lanes lane).commands (lane_state lanes lane).replies (lane_state lanes lane).room) held)
  where
    same : found ≡ lane_state lanes lane
    same = is ∙ there lanes (lane - 1) found no_lane (omega arith)
