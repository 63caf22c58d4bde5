use Rattle.std.proofs.Common.{◌≡◌, ◌++◌, length, take}
use Rattle.std.specs.List.{flat_map}
use Rattle.row_form.specs.Fields.{word}
use Rattle.row_form.proofs.writing.put_list.Given as goal

abbrev pub invariant-loop-member : goal.invariant-loop-member
invariant-loop-member g l = l.out.items ≡ (l.fn.out.items ++ word (length l.members))
    ++ flat_map g.M.Put.spelling_of (take l.member-index l.members)
