-- What the files of a run answer.
use Rattle.std.specs.Prelude.{◌≡◌, ℕ, Option, Some, None}
use Rattle.cc_names.specs.Counts.{Rose}
use Rattle.build_script.specs.declared.files.Got.{Got}
use Rattle.build_script.specs.declared.files.Got.TheVariants as gots
use Rattle.script_grammar.specs.Standings.{Standing}

-- an answer by what stands at the path; `Broken` comes only where its count rose
abbrev pub IsAnswer : Got → Option Standing → ℕ → ℕ → Type 0
IsAnswer (gots.Found row text) standing old new = standing ≡ Some (record { row = row; text = text })
IsAnswer gots.Absent standing old new = standing ≡ None
IsAnswer gots.Broken standing old new = Rose old new
IsAnswer gots.NoMemory standing old new = Unit {0}
