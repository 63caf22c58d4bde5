use Rattle.std.proofs.Common.{◌-◌}
use Rattle.build_script.proofs.FormLemmas.{Taken}
use Rattle.build_script.proofs.forms.first_lines.Given as goal

abbrev pub invariant-loop : goal.invariant-loop
invariant-loop l = Taken l.text l.rest l.number (l.number - l.counter)
