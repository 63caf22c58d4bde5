-- What the script of a unit finds at a path.
use Rattle.std.specs.Prelude.{◌≡◌, ℕ, Option, Some, None, option_map, option_and_then, List}
use Rattle.cc_names.specs.declared.units.Unit as units
use Rattle.script_grammar.specs.Standings.{Standing}
use Rattle.build_script.specs.declared.files.Got.{Got}
use Rattle.build_script.specs.declared.files.Got.TheVariants as gots
use Rattle.base_model.specs.Rows.{Base}
use Rattle.base_model.specs.Texts.{text}
use Rattle.legal_history.specs.Builds.Active.{Build, build_of, unit_at}
use Rattle.legal_history.specs.Builds.Choices.{visible}
use Rattle.legal_history.specs.Stories.States.{State}

-- a row with its text, where it has one at the path
abbrev pub found_standing : Base → List ℕ → ℕ → Option Standing
found_standing b path row = option_map (λ bytes. record { row = row; text = bytes }) (text b row path)

-- the row that unit n of a build sees at a path, with its text
abbrev pub stands_for_unit : Base → Build → ℕ → units.Unit → List ℕ → Option Standing
stands_for_unit b build n unit path = option_and_then (found_standing b path) (visible b build n unit path)

-- what unit n of a build finds at a path: the row that it sees there, where that has a text
abbrev pub standing_at : Base → Build → ℕ → List ℕ → Option Standing
standing_at b build n path = option_and_then (λ unit. stands_for_unit b build n unit path) (unit_at build n)

-- what unit n of a lane's build finds at a path
abbrev pub sees : State → ℕ → ℕ → List ℕ → Option Standing
sees s lane n path = option_and_then (λ build. standing_at s.base build n path) (build_of s.active lane)

-- an answer is what stands there, or memory ran out
abbrev pub IsFetched : Got → Option Standing → Type 0
IsFetched (gots.Found row bytes) standing = standing ≡ Some (record { row = row; text = bytes })
IsFetched gots.Absent standing = standing ≡ None
IsFetched gots.Broken standing = ⊥
IsFetched gots.NoMemory standing = Unit {0}
