-- What each move tells: of the pass before it, of the number found in the word, and of the pass after it, with the slots that it
-- holds.
use Rattle.std.specs.Prelude.{◌≡◌, ◌≢◌, ℕ, List, [], ◌∷◌, Option, Some}
use mathlib.Core.List.{IsPrefix}
use Rattle.atomic_table.specs.Table.{Me, Step}
use Rattle.turn_lock.specs.declared.rule.Stage.TheVariants.{Waits, Turn}
use Rattle.turn_lock.specs.declared.rule.View.{View}
use Rattle.turn_lock.specs.Stages.{noted_of, idle, at_stage}
use Rattle.turn_lock.specs.Rule.{in_word}

module _ {T D : Type 0} where
  -- the number found is that of the ticket drawn
  abbrev pub drew : Step (Option T) → Me (Option T) (View D) → ℕ → Me (Option T) (View D) → Type 0
  drew move before found after = (ticket : ℕ) × (found ≡ in_word ticket) × (after ≡ (at_stage (Waits ticket) before.0, before.1))

  -- it is the pass's turn, and it has the value, whose story begins with all that it has seen
  abbrev pub HasTaken : (T → List D) → Me (Option T) (View D) → Me (Option T) (View D) → Type 0
  HasTaken story before after = (ticket : ℕ) × (value : T) × (after ≡ (
    at_stage (Turn ticket (story value)) before.0,
    (0, Some value) ∷ [],
  )) × IsPrefix before.0.seen (story value)

  -- where the number found is the pass's own ticket, it has the value; else nothing changed
  abbrev pub looked : (T → List D) → Step (Option T) → Me (Option T) (View D) → ℕ → Me (Option T) (View D) → Type 0
  looked story move before found after = (ticket : ℕ) → before.0.stage ≡ Waits ticket
      → (found ≡ in_word ticket → HasTaken story before after) × (found ≢ in_word ticket → after ≡ before)

  -- the value is back at home, and the pass has seen its whole story
  abbrev pub gave : (T → List D) → Step (Option T) → Me (Option T) (View D) → ℕ → Me (Option T) (View D) → Type 0
  gave story move before found after = (value : T) → before.1 ≡ (0, Some value) ∷ []
      → after ≡ (idle (story value) before.0.weight, [])

  -- the shorter of the two stories that were joined begins the longer
  abbrev pub settled : Step (Option T) → Me (Option T) (View D) → ℕ → Me (Option T) (View D) → Type 0
  settled move before found after = (after ≡ (idle before.0.seen before.0.weight, before.1))
      × IsPrefix (noted_of before.0.stage) before.0.seen
