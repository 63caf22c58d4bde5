use Rattle.std.proofs.Common.{◌≡◌, ◌++◌, map}
use Rattle.std.specs.List.{concat}
use Rattle.cleartool.specs.HeldObjects.{AreHolders, held_line_at}
use Rattle.cleartool.proofs.held_objects.lsdo_text.Given as goal

-- what is written, and then the lines at the paths that are left; and the counts that are kept
abbrev pub invariant-loop-path : goal.invariant-loop-path
invariant-loop-path l = record {
  lines : l.text.items ++ concat (map (held_line_at l.rows l.view) l.path-iterator)
      ≡ concat (map (held_line_at l.rows l.view) l.initial.path-iterator);
  holders : AreHolders l.rows l.kept;
}
