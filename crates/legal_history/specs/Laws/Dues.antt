-- Which objects are due to be scrubbed, and that a scrub lists just these.
use Rattle.std.specs.Prelude.{◌≡◌, ℕ, ◌==◌, Bool, false, Option, Some, None, List}
use Rattle.std.specs.List.{list_any}
use Rattle.std.specs.List.Sorted.{IsStrictlyIncreasing}
use Rattle.cc_names.specs.Formed.{Plain}
use Rattle.cc_names.specs.declared.commands.Command.TheVariants as commands
use Rattle.cc_names.specs.declared.commands.Change.TheVariants as changes
use Rattle.cc_names.specs.declared.rows.Tag.{Tag}
use Rattle.base_model.specs.Rows.{Base, row_at}
use Rattle.legal_history.specs.Commands.ObjectLines.{is_due}
use Rattle.legal_history.specs.Stories.States.{State, next_command}

-- whether the object of a row is due: it is live, no view holds it, and it was published that long ago
abbrev pub due_by : Base → ℕ → ℕ → ℕ → Option Plain → Bool
due_by b moment age id None = false
due_by b moment age id (Some row) = is_due b moment age id row.moment

-- whether an object is due at a moment, for an age in seconds
abbrev pub is_due_object : Base → ℕ → ℕ → ℕ → Bool
is_due_object b moment age id = due_by b moment age id (row_at b id)

-- The objects that a row scrubs are just those that are due: the row is of its lane's next command, which is a `scrub` of some
-- age; an object is among them exactly where it is due for that age at the moment of the phase; and they ascend, the oldest
-- first, so that each is listed once.
pub record AreDue (s : State) (tag : Tag) (objects : List ℕ) : Type 0 where
  pub age : ℕ
  pub command : next_command s tag ≡ Some (commands.Change (changes.Scrub age))
  pub exactly : (id : ℕ)
      → list_any (λ object. object == id) objects ≡ is_due_object s.base s.moment age id
  pub ascend : IsStrictlyIncreasing objects
