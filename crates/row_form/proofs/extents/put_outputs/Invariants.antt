use Rattle.std.proofs.Common.{◌≡◌, ◌++◌, length, drop}
use Rattle.row_form.specs.Fields.{word}
use Rattle.row_form.proofs.AtExtents.{bytes_at}
use Rattle.row_form.proofs.extents.put_outputs.Given as goal

abbrev pub invariant-loop-output : goal.invariant-loop-output
invariant-loop-output l =
    l.out.items ++ bytes_at (drop l.output-index l.outputs) l.left
    ≡ (l.fn.out.items ++ word (length l.outputs)) ++ bytes_at l.outputs l.fn.extents
