-- The place of a lane that waits with a command or builds, and tables with one more entry.
use Rattle.std.proofs.Common.{◌≡◌, ◌≢◌, ℕ, zero, suc, ◌-◌, ◌<◌, ◌≤◌, nat_lt, Bool, true, false, cond, Option, Some, None, List}
use Rattle.std.proofs.Common.{length, refl, ap, sym, subst, ◌∙◌, arith}
use Rattle.std.specs.Ordering.{nat_cmp, eq_by_cmp}
use Rattle.std.specs.FinMap.Entries.{find, put, find-put}
use Rattle.std.specs.Prelude.{IsSome, option_and_then, slice_get}
use Rattle.std.proofs.lemmas.Cmp.{nat_cmp_total}
use Rattle.std.proofs.lemmas.Bool.Decides.{nat_tests}
use Rattle.std.proofs.lemmas.Option.{slice_get_within}
use Rattle.cc_names.specs.declared.commands.Command.{Command}
use Rattle.cc_names.specs.declared.commands.Lane.{Lane}
use Rattle.build_core.specs.Slots.{numbered_slots, held_in}
use Rattle.legal_history.specs.Builds.Active.{Build, build_of}
use Rattle.legal_history.specs.Stories.Commanded.{next_command_of}
use Rattle.legal_history.specs.Stories.States.{State, command_behind, done_of}
use Rattle.legal_history.specs.Stories.Steps.{state_of}
use Rattle.base_core.specs.Keeping.CoreInvariants.{CoreInvariant}
use Rattle.base_core.specs.Keeping.Lanes.{LaneState, build_at, builds_in, replies_at, room_at}
use Rattle.story_log.specs.Logging.Logs.{Logged}
use Rattle.base_core.proofs.Keeping.Idle.{build_in_slot, not_both}
use Rattle.base_core.proofs.Keeping.LaneSets.{builds_count, builds_held}
use Rattle.base_core.proofs.Keeping.SlotLists.{build_nowhere, build_zero}

-- what a lane's slot holds is its build
pub slot_of : (s : State) (builds : List (Option Build)) (lane : ℕ) → 1 ≤ lane → s.active ≡ numbered_slots 1 builds
    → build_of s.active lane ≡ held_in builds (lane - 1)
slot_of s builds lane low e =
    let here : lane ≡ suc (lane - 1) = omega arith in
    ap (build_of s.active) here ∙ build_in_slot s builds (lane - 1) e

-- where a lane is, and its build
pub record IsSlot (lanes : List LaneState) (lane : ℕ) (build : Build) : Type 0 where
  pub from : 1 ≤ lane
  pub upto : lane ≤ length lanes
  pub held : build_at lanes lane ≡ Some build

-- a lane that builds has a place
pub lane_slot : (log : Logged) (lanes : List LaneState) (now lane : ℕ) (build : Build) → CoreInvariant log lanes now
    → build_of (state_of log.story).active lane ≡ Some build → IsSlot lanes lane build
lane_slot log lanes now zero build h is = absurd (not_both (build_of (numbered_slots 1 (builds_in lanes)) 0) build
    (build_zero (builds_in lanes)) (ap (λ a. build_of a 0) (sym h.builds.active) ∙ is))
lane_slot log lanes now (suc i) build h is = by (nat_lt (length (builds_in lanes)) (suc i)) refl
  where
    by : (past : Bool) → nat_lt (length (builds_in lanes)) (suc i) ≡ past → IsSlot lanes (suc i) build
    by true past =
        let beyond : length (builds_in lanes) < suc i = grind (arith, nat_tests) in
        absurd (not_both (build_of (numbered_slots 1 (builds_in lanes)) (suc i)) build
        (build_nowhere (builds_in lanes) (suc i) beyond) (ap (λ a. build_of a (suc i)) (sym h.builds.active) ∙ is))
    by false past =
        let within : suc i ≤ length (builds_in lanes) = grind (arith, nat_tests) in
        record {
          from = omega arith;
          upto = omega (arith, within, builds_count lanes);
          held = sym (builds_held lanes (suc i - 1)) ∙ sym (slot_of (state_of log.story) (builds_in lanes) (suc i) (omega arith)
              h.builds.active) ∙ is;
        }

pub slot_there : (lanes : List LaneState) (lane : ℕ) (build : Build) → IsSlot lanes lane build → IsSome (build_at lanes lane)
slot_there lanes lane build h = subst IsSome (sym h.held) refl

-- where a lane is, and there is room for one more reply to it
pub record HasRoom (lanes : List LaneState) (lane : ℕ) : Type 0 where
  pub from : 1 ≤ lane
  pub upto : lane ≤ length lanes
  pub room : length (replies_at lanes lane) < room_at lanes lane

-- a lane that waits with a command has room for its reply
pub has_room : (log : Logged) (lanes : List LaneState) (now lane : ℕ) → CoreInvariant log lanes now
    → IsSome (next_command_of (state_of log.story) lane) → HasRoom lanes lane
has_room log lanes now zero h waits = absurd (cc)
has_room log lanes now (suc n) h waits = by (slice_get s.phase.lanes n) refl waits
  where
    s : State
    s = state_of log.story

    done : ℕ
    done = done_of s.done (suc n)

    there : (one : Lane) → slice_get s.phase.lanes n ≡ Some one → done < length one.commands → HasRoom lanes (suc n)
    there one is less =
        let within = slice_get_within s.phase.lanes n one is in
        let upto : suc n ≤ length lanes = omega (arith, within, h.replies.count) in
        record {
          from = omega arith;
          upto = upto;
          room = omega (
            arith,
            less,
            h.replies.room (suc n) one is,
            h.replies.done (suc n),
            ap length (h.replies.replies (suc n) (omega arith) upto),
          );
        }

    behind : (one : Lane) → slice_get s.phase.lanes n ≡ Some one → (found : Option Command) → slice_get one.commands done ≡ found
        → IsSome found → HasRoom lanes (suc n)
    behind one is None e some = absurd (cc)
    behind one is (Some command) e some = there one is (slice_get_within one.commands done command e)

    by : (found : Option Lane) → slice_get s.phase.lanes n ≡ found → IsSome (option_and_then (command_behind done) found)
        → HasRoom lanes (suc n)
    by None is some = absurd (cc)
    by (Some one) is some = behind one is (slice_get one.commands done) refl some

pub found_else : {A : Type 0} (n m : ℕ) (a : A) (entries : List (ℕ × A)) → m ≢ n
    → find nat_cmp m (put nat_cmp n a entries) ≡ find nat_cmp m entries
found_else n m a entries differs =
    let apart : eq_by_cmp nat_cmp m n ≡ false = grind (arith, nat_tests) in
    find-put nat_cmp nat_cmp_total m n a entries ∙ ap (λ is. cond is (Some a) (find nat_cmp m entries)) apart
