use Rattle.std.proofs.Common.{subst}
use Rattle.cc_names.specs.Answers.{Gives}
use Rattle.make_grammar.specs.Statements.{Reading, include_words, macros_of}
use Rattle.make_text.proofs.readings.Reading.include_words.Goals as goal

pub returns-clause-paths : goal.returns-clause-paths
returns-clause-paths c =
    subst (λ (r : Reading). Gives c.read_include_line.result (include_words (macros_of r.macros) c.args.behind.now))
    c.self.view_is c.read_include_line.ensures.paths
