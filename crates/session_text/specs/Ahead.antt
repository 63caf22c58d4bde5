-- What the next of some commands asks for.
use Rattle.std.specs.Prelude.{ℕ, Option, Some, None, List, codes, if◌then◌else◌}
use Rattle.std.specs.Str.{bytes_eq}
use Rattle.cc_names.specs.declared.commands.Command.{Command}
use Rattle.cc_names.specs.declared.commands.Command.TheVariants as commands
use Rattle.session_text.specs.declared.lanes.Ahead.{Ahead}
use Rattle.session_text.specs.declared.lanes.Ahead.TheVariants.{Nothing, Act, Build}

-- a command builds or acts
abbrev pub ahead_of : Option Command → Ahead
ahead_of None = Nothing
ahead_of (Some (commands.Build asked)) = Build
ahead_of (Some command) = Act

-- and so does what a line of this word says
abbrev pub ahead_by : List ℕ → Ahead
ahead_by word = if bytes_eq word (codes "clearmake") then Build else Act
