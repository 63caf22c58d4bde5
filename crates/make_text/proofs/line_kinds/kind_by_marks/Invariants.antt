use Rattle.std.proofs.Common.{◌≡◌, take, drop}
use Rattle.make_grammar.specs.LineKinds.{kind_from}
use Rattle.make_text.specs.SeenKinds.{onto}
use Rattle.make_grammar.specs.declared.line_kinds.Position.TheVariants.{Outside}
use Rattle.make_text.proofs.line_kinds.kind_by_marks.Given as goal

abbrev pub invariant-loop-index : goal.invariant-loop-index
invariant-loop-index l = onto (take l.index l.line) (kind_from l.position (drop l.index l.line)) ≡ kind_from Outside l.line
