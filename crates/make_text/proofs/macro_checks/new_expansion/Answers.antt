use Rattle.make_grammar.specs.Statements.{macros_of}
use Rattle.make_text.specs.Steps.{automatic_of}
use Rattle.make_text.proofs.CheckLemmas.{at_start}
use Rattle.make_text.proofs.macro_checks.new_expansion.Goals as goal

pub returns : goal.returns
returns c =
    let e = c.of.ensures in
    at_start (macros_of c.args.macros.now) (automatic_of c.args._automatic.now) c.len.result c.of.result c.len.ensures.count
    e.rest e.opened e.states e.written
