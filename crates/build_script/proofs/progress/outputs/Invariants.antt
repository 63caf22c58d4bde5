use Rattle.std.proofs.Common.{◌≡◌, drop}
use Rattle.build_script.proofs.RunLemmas.{outputs_onto}
use Rattle.script_grammar.specs.Parts.{own_of}
use Rattle.script_grammar.specs.Run.{target_outputs}
use Rattle.build_script.proofs.progress.outputs.Given as goal

abbrev pub invariant-loop-target : goal.invariant-loop-target
invariant-loop-target l = outputs_onto l.outputs.items (target_outputs (drop l.target-index l.targets) (own_of l.written))
    ≡ target_outputs l.targets (own_of l.written)
