use Rattle.std.proofs.Common.{◌≡◌, ◌+◌, length}
use Rattle.session_text.specs.Kinds.{kinds_of}
use Rattle.session_text.specs.Reading.{IsRight}
use Rattle.session_text.specs.Sessions.{commands_of}
use Rattle.session_text.proofs.lanes.CommandsLeft.count.Given as goal

abbrev pub invariant-commands : goal.invariant-commands
invariant-commands l = record {
  count : length l.self ≡ l.count + length (commands_of (kinds_of l.rest.bytes));
  right : IsRight (kinds_of l.rest.bytes);
}

abbrev pub decreases-commands : goal.decreases-commands
decreases-commands l = length (commands_of (kinds_of l.rest.bytes))
