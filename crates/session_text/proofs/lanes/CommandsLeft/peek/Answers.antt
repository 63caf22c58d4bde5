use Rattle.std.proofs.Common.{refl, length}
use Rattle.session_text.specs.declared.kinds.Kind.TheVariants as kinds
use Rattle.session_text.specs.Reading.{FindsCommand}
use Rattle.session_text.proofs.Seen.{IsSeen, says-at}
use Rattle.session_text.proofs.lanes.CommandsLeft.peek.Goals as goal

pub command_said-requires : goal.command_said-requires
command_said-requires c =
    let finds : FindsCommand c.rest-rest.result c.in-Some.word c.in-Some.words c.find_command.new.rest = c.in-Some.ensures in
    let seen : IsSeen c.self.inside.place c.rest-rest.result (kinds.Command c.in-Some.word c.in-Some.words)
    c.find_command.new.rest (length c.find_command.new.rest.bytes) =
    record { rest = c.rest-rest.ensures.rest; within = c.rest-rest.ensures.within; found = finds.found; left = refl } in
    says-at c.self.inside.place c.rest-rest.result c.find_command.new.rest c.in-Some.word c.in-Some.words
    (length c.find_command.new.rest.bytes) seen c.rest-rest.ensures.right
