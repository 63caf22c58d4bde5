use Rattle.session_text.proofs.Seen.{command-past}
use Rattle.session_text.proofs.finding.pass_command.Goals as goal

pub returns-in-Some : goal.returns-in-Some
returns-in-Some c = command-past c.args.rest.now c.find_command.new.rest c.pass_body.new.rest c.in-Some._word c.in-Some._words
    c.in-Some.ensures c.pass_body.ensures
