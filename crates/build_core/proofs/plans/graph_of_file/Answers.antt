-- the graph is that of the makefile that was read
use Rattle.std.proofs.Common.{sym, subst}
use Rattle.cc_names.specs.Answers.{Gives}
use Rattle.make_grammar.specs.Grammar.{makefile_of}
use Rattle.make_grammar.specs.Graphs.{units_of}
use Rattle.build_core.proofs.plans.graph_of_file.Goals as goal

pub returns-in-Ok : goal.returns-in-Ok
returns-in-Ok g c =
    let files = g.X.Texts.texts c.args.texts.now in
    let read = subst (λ r. Gives r (makefile_of files c.args.file.now c.args.macros.now)) c.in-Ok.is c.read.ensures in
    subst (λ r. Gives c.graph_of.result (units_of files c.args.goals.now r)) (sym read) c.graph_of.ensures
