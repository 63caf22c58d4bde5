use Rattle.std.proofs.Common.{◌≡◌, ◌-◌}
use Rattle.row_form.specs.Readers.{read_list, read_members}
use Rattle.row_form.proofs.Members.{behind}
use Rattle.row_form.proofs.lists.ListField.read.Given as goal

abbrev pub invariant-loop-member : goal.invariant-loop-member
invariant-loop-member g l = read_list g.M.Field.reader l.fn.cursor.rest.now
    ≡ behind l.members.items (read_members g.M.Field.reader (l.count - l._member) l.cursor.rest.now)
