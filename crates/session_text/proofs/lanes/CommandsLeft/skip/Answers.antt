use Rattle.std.proofs.Common.{◌∙◌, ap, subst, drop}
use Rattle.session_text.specs.Reading.{IsPastCommand, PassesCommand, lines_at}
use Rattle.session_text.specs.Sessions.{commands_of}
use Rattle.session_text.proofs.Seen.{left-at}
use Rattle.session_text.proofs.lanes.CommandsLeft.skip.Goals as goal

pub go_to-requires-clause-within : goal.go_to-requires-clause-within
go_to-requires-clause-within c =
    let past : IsPastCommand c.rest-rest.result c.pass_command.new.rest =
    subst (λ found. PassesCommand found c.rest-rest.result c.pass_command.new.rest) c.if-not-pass_command.false
    c.pass_command.ensures in
    (left-at c.self.inside.place c.rest-rest.result c.pass_command.new.rest c.bytes_left-left.result c.rest-rest.ensures.rest
    c.rest-rest.ensures.within past c.bytes_left-left.ensures c.rest-rest.ensures.right).within

pub go_to-requires-clause-right : goal.go_to-requires-clause-right
go_to-requires-clause-right c =
    let past : IsPastCommand c.rest-rest.result c.pass_command.new.rest =
    subst (λ found. PassesCommand found c.rest-rest.result c.pass_command.new.rest) c.if-not-pass_command.false
    c.pass_command.ensures in
    (left-at c.self.inside.place c.rest-rest.result c.pass_command.new.rest c.bytes_left-left.result c.rest-rest.ensures.rest
    c.rest-rest.ensures.within past c.bytes_left-left.ensures c.rest-rest.ensures.right).right

pub returns : goal.returns
returns c =
    let past : IsPastCommand c.rest-rest.result c.pass_command.new.rest =
    subst (λ found. PassesCommand found c.rest-rest.result c.pass_command.new.rest) c.if-not-pass_command.false
    c.pass_command.ensures in
    let at = left-at c.self.inside.place c.rest-rest.result c.pass_command.new.rest c.bytes_left-left.result
    c.rest-rest.ensures.rest c.rest-rest.ensures.within past c.bytes_left-left.ensures c.rest-rest.ensures.right in
    ap (λ place. commands_of (lines_at place)) c.go_to.ensures ∙ at.others ∙ ap (drop 1) c.self.view_is
