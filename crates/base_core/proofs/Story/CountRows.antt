-- Worked rows of what steps say of the disk's counts.
use Rattle.std.proofs.Common.{◌≡◌, ◌<◌, ◌^◌, ℕ, Bool, true, false, Option, Some, None, [], ◌∷◌, refl, ap, arith}
use Rattle.std.specs.Prelude.{codes}
use Rattle.cc_names.specs.Formed.{Plain}
use Rattle.cc_names.specs.declared.refusals.Refusal.{Refusal}
use Rattle.cc_names.specs.declared.rows.Deed.TheVariants as deeds
use Rattle.cc_names.specs.declared.rows.Tag.{Tag}
use Rattle.cc_names.specs.declared.steps.StoryStep.TheVariants as story_steps
use Rattle.disk_model.specs.DiskStates.{DiskState, IsCounted}
use Rattle.legal_history.specs.Stories.States.{State, start}
use Rattle.vob_journal.specs.declared.left.Left.{Left}
use Rattle.vob_journal.specs.declared.left.Left.TheVariants.{Nothing, Earlier, InFlight}
use Rattle.story_log.specs.Logging.Appending.{LeavesByCalls}
use Rattle.story_log.specs.Stopping.Tails.{Tail, tail_after_row}
use Rattle.base_core.specs.Story.Counted.{CountsStep, CountsSteps, IsLeftByCalls, TailedDisk}

-- a disk that tells nothing, with these counts
abbrev counted : ℕ → ℕ → DiskState
counted ticks faults = record { modeled = None; ticks = ticks; faults = faults }

fit : (ticks faults : ℕ) → ticks < 2 ^ 64 → faults < 2 ^ 64 → IsCounted (counted ticks faults)
fit ticks faults small few = record { ticks = small; faults = few; modeled = tt; failed = tt }

-- and where its journal's tail is
abbrev shut : ℕ → Tail
shut place = record { place = place; settled = true }

abbrev ajar : ℕ → Tail
ajar place = record { place = place; settled = false }

abbrev at : ℕ → ℕ → Tail → TailedDisk
at ticks faults tail = record { disk = counted ticks faults; tail = tail }

-- a row
abbrev row : Tag → Plain
row tag = record { tag = tag; moment = 1700000000; deed = deeds.Mkview (codes "v") }

abbrev behind : Tail → Tag → Tail
behind tail tag = tail_after_row tail (row tag)

-- a commit of four calls at the seventh tick ends at the eleventh, and not at the tenth; its frame stands before the tail then
commit_row : (s : State) (tag : Tag)
    → CountsStep s (story_steps.Commit (row tag) 11) (at 7 2 (shut 9)) (at 11 2 (behind (shut 9) tag))
commit_row s tag = (refl, refl, refl, fit 11 2 (omega arith) (omega arith), tt, tt, refl)

commit_early : (s : State) (tag : Tag)
    → CountsStep s (story_steps.Commit (row tag) 10) (at 7 2 (shut 9)) (at 11 2 (behind (shut 9) tag)) → ⊥
commit_early s tag h = absurd (omega (arith, h.0))

commit_unsettled : (s : State) (tag : Tag)
    → CountsStep s (story_steps.Commit (row tag) 11) (at 7 2 (shut 9)) (at 11 2 (ajar 9)) → ⊥
commit_unsettled s tag h = let tail = ap (λ (t : Tail). t.settled) h.6 in absurd (cc tail)

-- the third call of a commit after a settled tail opens the gate: the row may be found, and the tail is to be settled
fault_row : (tag : Tag)
    → CountsStep start (story_steps.Fault tag (Some (row tag)) 2 3 10) (at 7 2 (shut 9)) (at 10 3 (ajar 9))
fault_row tag = (
  refl,
  refl,
  refl,
  refl,
  refl,
  fit 10 3 (omega arith) (omega arith),
  tt,
  record {
    row = row tag;
    left = InFlight;
    leaves = record { leaves = refl; fails = (omega arith, omega arith); calls = tt };
    tail = refl;
  },
)

-- the first one writes the frame after the shut gate, or settles the tail: no row of its own can be found
row_too_early : (tag : Tag) (settled : Bool)
    → CountsStep start (story_steps.Fault tag (Some (row tag)) 2 3 8) (at 7 2 (record { place = 9; settled = settled }))
    (at 8 3 (ajar 9)) → ⊥
row_too_early tag settled (before, after, one, at_end, rose, fits, writes, left) = too_early settled left.left left.leaves
  where
    too_early : (settled : Bool) (how : Left) → LeavesByCalls [] (record { place = 9; settled = settled }) left.row (Some (row tag)) how
        (counted 7 2) (counted 8 3) → ⊥
    too_early settled Nothing h = let found = h.leaves in absurd (cc found)
    too_early settled Earlier h = let found = h.leaves in absurd (cc found)
    too_early true InFlight h = absurd (omega (arith, h.fails.0))
    too_early false InFlight h = absurd (omega (arith, h.fails.0))

-- a fault is of one call: one that adds the failed call of the command after it is refused
fault_of_two : (s : State) (tag : Tag) (left : Option Plain) → CountsStep s (story_steps.Fault tag left 2 4 10)
    (at 7 2 (shut 9)) (at 10 4 (shut 9)) → ⊥
fault_of_two s tag left h = absurd (omega (arith, h.2))

-- a count that stands at its last number is there before and after
fault_last : (tag : Tag) → CountsStep start (story_steps.Fault tag None 18446744073709551615 18446744073709551615
    10) (at 7 18446744073709551615 (ajar 9)) (at 10 18446744073709551615 (shut 9))
fault_last tag = (
  refl,
  refl,
  refl,
  refl,
  refl,
  fit 10 18446744073709551615 (omega arith) (omega arith),
  tt,
  record {
    row = row tag;
    left = Nothing;
    leaves = record { leaves = refl; fails = (omega arith, omega arith); calls = tt };
    tail = refl;
  },
)

-- a refusal, a commit and a fault, one after the other: after the commit the tail is settled
three_rows : (tag : Tag) (refusal : Refusal) → CountsSteps start (story_steps.Refused tag refusal
    ∷ story_steps.Commit (row tag) 11 ∷ story_steps.Fault tag None 2 3 12 ∷ []) (at 7 2 (shut 9))
    (at 12 3 (behind (shut 9) tag))
three_rows tag refusal = (
  at 7 2 (shut 9),
  refl,
  (
    at 11 2 (behind (shut 9) tag),
    (refl, refl, refl, fit 11 2 (omega arith) (omega arith), tt, tt, refl),
    (
      at 12 3 (behind (shut 9) tag),
      (
        refl,
        refl,
        refl,
        refl,
        refl,
        fit 12 3 (omega arith) (omega arith),
        tt,
        record {
          row = row tag;
          left = Nothing;
          leaves = record { leaves = refl; fails = (omega arith, omega arith); calls = tt };
          tail = refl;
        },
      ),
      refl,
    ),
  ),
)

-- no call is made under a refusal
refusal_idle : (s : State) (tag : Tag) (refusal : Refusal) → CountsStep s (story_steps.Refused tag refusal)
    (at 7 2 (shut 9)) (at 8 2 (shut 9)) → ⊥
refusal_idle s tag refusal h = let e : 8 ≡ 7 = ap (λ (d : TailedDisk). d.disk.ticks) h in absurd (omega (arith, e))
