use Rattle.std.proofs.Common.{◌∙◌, arith}
use Rattle.session_text.specs.Reading.{FindsCommand}
use Rattle.session_text.proofs.CommandWords.{word-pushed, words-one}
use Rattle.session_text.proofs.Right.{counts-one}
use Rattle.session_text.proofs.lanes.CommandsLeft.words.Goals as goal

pub commands-smaller : goal.commands-smaller
commands-smaller c =
    let finds : FindsCommand c.commands.rest c.in-Some.word c.in-Some._words c.find_command.new.rest = c.in-Some.ensures in
    let one = counts-one c.commands.rest c.find_command.new.rest c.in-Some.word c.in-Some._words finds c.commands.invariant.right
    in
    omega (arith, one.0)

pub commands-preserved : goal.commands-preserved
commands-preserved c =
    let finds : FindsCommand c.commands.rest c.in-Some.word c.in-Some._words c.find_command.new.rest = c.in-Some.ensures in
    let one = counts-one c.commands.rest c.find_command.new.rest c.in-Some.word c.in-Some._words finds c.commands.invariant.right
    in
    let first = words-one c.commands.rest c.find_command.new.rest c.in-Some.word c.in-Some._words finds c.commands.invariant.right
    in
    record {
      words = word-pushed _ _ _ _ _ _ _ c.commands.invariant.words first (c.in_ok-word.ensures
          ∙ c.as_slice.ensures) c.in_ok-push.ensures.items;
      right = one.1;
    }
