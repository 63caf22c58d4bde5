use Rattle.std.proofs.Common.{◌≡◌, ◌<◌, length}
use Rattle.script_grammar.specs.Forms.{replaced_behind, with_replaced}
use Rattle.build_script.specs.MadeOf.{made_of}
use Rattle.build_script.specs.Making.{output_by_parts}
use Rattle.script_grammar.specs.Run.{with_output}
use Rattle.build_script.proofs.making.say_replaced.Given as goal

abbrev pub invariant-loop-place : goal.invariant-loop-place
invariant-loop-place l = record {
  with_output : with_output (output_by_parts l.making.path.now l.making.before) (with_replaced l.from l.to l.text)
      (made_of l.initial.made)
      ≡ with_output (output_by_parts l.making.path.now l.making.before) (replaced_behind l.from l.to 0 l.rest) (made_of l.made);
  filled : 0 < length l.from;
}

abbrev pub decreases-loop-place : goal.decreases-loop-place
decreases-loop-place l = length l.rest
