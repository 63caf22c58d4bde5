use Rattle.std.proofs.Common.{◌∙◌, refl, sym, ap, length}
use Rattle.session_text.specs.declared.kinds.Kind.TheVariants as kinds
use Rattle.session_text.specs.Ahead.{ahead_by}
use Rattle.session_text.specs.Reading.{FindsCommand, lines_at}
use Rattle.session_text.specs.Sessions.{commands_of}
use Rattle.session_text.proofs.Seen.{IsSeen, first-at, first-asks}
use Rattle.session_text.proofs.lanes.ahead_at.Goals as goal

pub returns : goal.returns
returns c =
    let now = commands_of (lines_at c.args.place.now) in
    let finds : FindsCommand c.rest-rest.result c.in-Some.word c.in-Some._words c.find_command.new.rest = c.in-Some.ensures in
    let seen : IsSeen c.args.place.now c.rest-rest.result (kinds.Command c.in-Some.word c.in-Some._words) c.find_command.new.rest
    (length c.find_command.new.rest.bytes) =
    record { rest = c.rest-rest.ensures.rest; within = c.rest-rest.ensures.within; found = finds.found; left = refl } in
    let first = first-at c.args.place.now c.rest-rest.result c.find_command.new.rest (length c.find_command.new.rest.bytes)
    c.in-Some.word c.in-Some._words now seen finds.same refl c.rest-rest.ensures.right in
    c.ahead_by.ensures ∙ ap ahead_by c.as_slice.ensures ∙ sym (first-asks c.in-Some.word c.in-Some._words c.find_command.new.rest
    now first)
