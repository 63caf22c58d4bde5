use Rattle.std.proofs.Common.{length, drop, ap, arith, length-drop}
use Rattle.session_text.specs.Reading.{FindsCommand}
use Rattle.session_text.proofs.FormedReading.{commands_few}
use Rattle.session_text.proofs.Right.{counts-one}
use Rattle.session_text.proofs.lanes.CommandsLeft.count.Goals as goal

pub overflow_add-count : goal.overflow_add-count
overflow_add-count c =
    let finds : FindsCommand c.commands.rest c.in-Some._found.0 c.in-Some._found.1 c.find_command.new.rest = c.in-Some.ensures in
    let one = counts-one c.commands.rest c.find_command.new.rest c.in-Some._found.0 c.in-Some._found.1 finds
    c.commands.invariant.right in
    let all = ap length c.self.view_is in
    let few = commands_few (drop c.self.inside.place.from c.self.inside.place.text) in
    let short = length-drop c.self.inside.place.from c.self.inside.place.text in
    omega (arith, c.rest-rest.ensures.short, c.commands.invariant.count, one.0)

pub commands-smaller : goal.commands-smaller
commands-smaller c =
    let finds : FindsCommand c.commands.rest c.in-Some._found.0 c.in-Some._found.1 c.find_command.new.rest = c.in-Some.ensures in
    let one = counts-one c.commands.rest c.find_command.new.rest c.in-Some._found.0 c.in-Some._found.1 finds
    c.commands.invariant.right in
    omega (arith, one.0)

pub commands-preserved : goal.commands-preserved
commands-preserved c =
    let finds : FindsCommand c.commands.rest c.in-Some._found.0 c.in-Some._found.1 c.find_command.new.rest = c.in-Some.ensures in
    let one = counts-one c.commands.rest c.find_command.new.rest c.in-Some._found.0 c.in-Some._found.1 finds
    c.commands.invariant.right in
    record { count = omega (arith, c.commands.invariant.count, one.0); right = one.1 }
