use Rattle.std.proofs.Common.{take}
use Rattle.make_graph.specs.Dependants.{NamesDependant}
use Rattle.make_graph.specs.Waits.{is_in}
use Rattle.make_graph.proofs.dependants.name_all.Given as goal

abbrev pub invariant-loop-maker : goal.invariant-loop-maker
invariant-loop-maker l = NamesDependant (is_in (take l.maker-index l.makers)) l.unit l.fn.all l.all
