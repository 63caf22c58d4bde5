use Rattle.row_form.proofs.AtExtents.{all_written}
use Rattle.row_form.proofs.extents.put_outputs.Goals as goal

pub returns : goal.returns
returns c =
    let extents = c.args.extents.now in
    all_written c.args.out.now.items c.loop-output.out.items c.args.outputs.now extents c.loop-output.left.now
    c.loop-output.output-index
    c.loop-output.invariant c.loop-output-test.false
