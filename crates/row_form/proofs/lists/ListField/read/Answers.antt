-- The members that were read come before those that are still to be read.
use Rattle.std.proofs.Common.{◌-◌, ◌+◌, Ok, Err, sym, ◌∙◌, ap, rules}
use Rattle.row_form.specs.Answers.{Answers}
use Rattle.row_form.specs.Readers.{then_read, read_list, read_members}
use Rattle.row_form.proofs.Members.{behind, behind_none, one_more_read, member_fails, all_read, none_less}
use Rattle.row_form.proofs.lists.ListField.read.Goals as goal

pub loop-member-init : goal.loop-member-init
loop-member-init g c =
    ap (λ r. then_read r (read_members g.M.Field.reader)) c.in_ok-count.ensures
    ∙ sym (behind_none (read_members g.M.Field.reader c.in_ok-count.count c.word.new.self.rest.now))
    ∙ ap (λ items. behind items (read_members g.M.Field.reader c.in_ok-count.count c.word.new.self.rest.now))
    (sym c.new-members.ensures.items)
    ∙ ap (λ n. behind c.new-members.result.items (read_members g.M.Field.reader n c.word.new.self.rest.now))
    (none_less c.in_ok-count.count)

pub returns-in_err-member : goal.returns-in_err-member
returns-in_err-member g c =
    let fault = c.in_err-member.field-0.0 in
    let left = c.read.new.cursor.rest.now in
    let inside = member_fails fault g.M.Field.reader c.in_ok-count.count c.loop-member._member c.loop-member.members.items
    c.loop-member.cursor.rest.now left left
    c.loop-member-test.true c.in_err-member.ensures in
    let whole : Answers (Err fault) (read_list g.M.Field.reader c.args.cursor.now.rest.now) left =
    rw c.loop-member.invariant inside in
    search rules

pub loop-member-preserved : goal.loop-member-preserved
loop-member-preserved g c =
    let others = read_members g.M.Field.reader (c.in_ok-count.count - (c.loop-member._member + 1)) c.read.new.cursor.rest.now in
    c.loop-member.invariant
    ∙ one_more_read g.M.Field.reader c.in_ok-count.count c.loop-member._member c.loop-member.members.items c.in_ok-member.member
    c.loop-member.cursor.rest.now _
    c.loop-member-test.true c.in_ok-member.ensures
    ∙ ap (λ items. behind items others) (sym c.in_ok-push.ensures.items)

pub returns : goal.returns
returns g c =
    c.loop-member.invariant
    ∙ all_read g.M.Field.reader c.in_ok-count.count c.loop-member._member c.loop-member.members.items
    c.loop-member.cursor.rest.now c.loop-member-test.false
    ∙ ap (λ items. Ok (items, c.loop-member.cursor.rest.now)) (sym c.of.ensures)
