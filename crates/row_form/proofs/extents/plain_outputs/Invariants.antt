use Rattle.std.proofs.Common.{◌≡◌, map, take}
use Rattle.row_form.specs.Extents.{in_frame}
use Rattle.row_form.proofs.extents.plain_outputs.Given as goal

abbrev pub invariant-loop-output : goal.invariant-loop-output
invariant-loop-output l = l.texts.items ≡ map in_frame (take l.output-index l.outputs)
