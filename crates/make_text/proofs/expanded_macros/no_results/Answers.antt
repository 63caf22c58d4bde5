use Rattle.std.proofs.Common.{◌≡◌, []}
use Rattle.make_grammar.specs.Statements.{macros_of}
use Rattle.make_text.proofs.ResultLemmas.{none_known}
use Rattle.make_text.proofs.expanded_macros.no_results.Goals as goal

pub returns-clause-results : goal.returns-clause-results
returns-clause-results c =
    let nothing : c.new-written.result.items ≡ [] = cc in
    none_known (macros_of c.args.macros.now) c.len-count.result c.new-written.result.items c.none_touched-states.result
    c.len-count.ensures.count nothing c.none_touched-states.ensures
