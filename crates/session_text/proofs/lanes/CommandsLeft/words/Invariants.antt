use Rattle.std.proofs.Common.{◌≡◌, ◌++◌, length}
use Rattle.std.specs.Prelude.{map}
use Rattle.session_text.specs.CommandWords.{word_of}
use Rattle.session_text.specs.Kinds.{kinds_of}
use Rattle.session_text.specs.Reading.{IsRight}
use Rattle.session_text.specs.Sessions.{commands_of}
use Rattle.session_text.proofs.lanes.CommandsLeft.words.Given as goal

abbrev pub invariant-commands : goal.invariant-commands
invariant-commands l = record {
  words : map word_of l.self ≡ l.words.items ++ map word_of (commands_of (kinds_of l.rest.bytes));
  right : IsRight (kinds_of l.rest.bytes);
}

abbrev pub decreases-commands : goal.decreases-commands
decreases-commands l = length (commands_of (kinds_of l.rest.bytes))
