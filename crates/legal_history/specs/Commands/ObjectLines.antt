-- The commands on objects: dropping one, scrubbing those that are due, and building.
use Rattle.std.specs.Prelude.{ℕ, ◌+◌, Bool, not, ◌&&◌, nat_le, Option, Some, None, Result, Ok, Err, List, [], ◌∷◌, is_some}
use Rattle.std.specs.Prelude.{length, reverse}
use Rattle.cc_names.specs.References.{is_held}
use Rattle.cc_names.specs.Versions.{put_if}
use Rattle.cc_names.specs.declared.commands.Macro.{Macro}
use Rattle.cc_names.specs.declared.refusals.Refusal.{Refusal}
use Rattle.cc_names.specs.declared.rows.Deed.TheVariants as deeds
use Rattle.cc_names.specs.declared.units.Unit.{Unit}
use Rattle.make_grammar.specs.Graphs.{units}
use Rattle.base_model.specs.Rows.{Base, size}
use Rattle.base_model.specs.Changes.{objects_held, live_row}
use Rattle.legal_history.specs.Commands.Decisions.{Scene, Decision, first_refusal, makes, answers, begins_build}
use Rattle.base_model.specs.Texts.{texts}
use Rattle.legal_history.specs.Commands.Tests.{needs_view, needs_idle, needs_object}

-- the tests of `rmdo V P`
abbrev pub rmdo_tests : Scene → List ℕ → List ℕ → List (Option Refusal)
rmdo_tests s v path = needs_view s.base v ∷ needs_idle s v ∷ needs_object s.base v path ∷ []

-- `rmdo V P`: the view's reference at the path goes
abbrev pub rmdo : Scene → List ℕ → List ℕ → Result Decision Refusal
rmdo s v path = makes s (rmdo_tests s v path) (deeds.Drop v path)

-- whether an object that was published at a moment is due at another: it is live, no view holds it, and it has the age
abbrev pub is_due : Base → ℕ → ℕ → ℕ → ℕ → Bool
is_due b moment age id published = is_some (live_row b id) && not (is_held (objects_held b) id) && nat_le (published + age) moment

-- the objects among some rows that are due, newest first
abbrev pub due_among : Base → ℕ → ℕ → Base → List ℕ
due_among b moment age [] = []
due_among b moment age (row ∷ older) = put_if (is_due b moment age (size older) row.moment) (size older)
    (due_among b moment age older)

-- the objects that are due, oldest first
abbrev pub due_objects : Base → ℕ → ℕ → List ℕ
due_objects b moment age = reverse (due_among b moment age b)

-- a row where something is due, else an empty answer
abbrev pub scrub_of : Scene → List ℕ → Result Decision Refusal
scrub_of s [] = answers [] []
scrub_of s (id ∷ ids) = makes s [] (deeds.Scrub (id ∷ ids))

-- `scrub AGE`: what is due goes
abbrev pub scrub : Scene → ℕ → Result Decision Refusal
scrub s age = scrub_of s (due_objects s.base s.moment age)

-- the tests of `clearmake V ..` before those of its makefile
abbrev pub clearmake_tests : Scene → List ℕ → List (Option Refusal)
clearmake_tests s v = needs_view s.base v ∷ needs_idle s v ∷ []

-- the units of a build, where there is room for their rows
abbrev pub build_of_units : Scene → Result (List Unit) Refusal → Result Decision Refusal
build_of_units s (Err refusal) = Err refusal
build_of_units s (Ok units) = begins_build s (length units) units

-- a build, unless a test before it refuses
abbrev pub build_unless : Scene → Option Refusal → Result (List Unit) Refusal → Result Decision Refusal
build_unless s (Some refusal) units = Err refusal
build_unless s None units = build_of_units s units

-- `clearmake V ..`: a build of the units that the makefile has for the goals, on what the view sees
abbrev pub clearmake : Scene → List ℕ → Option (List ℕ) → List Macro → List (List ℕ) → Result Decision Refusal
clearmake s v file macros goals = build_unless s (first_refusal (clearmake_tests s v)) (units (texts s.base v) file macros goals)
