use Rattle.base_rows.specs.SeenFiles.{AreFiles}
use Rattle.view_lookup.proofs.seeing.see_each.Given as goal

abbrev pub invariant-loop-entry : goal.invariant-loop-entry
invariant-loop-entry l = AreFiles l.rows l.view l.files
