use Rattle.std.proofs.Common.{subst}
use Rattle.cc_names.specs.Answers.{Gives}
use Rattle.make_grammar.specs.Statements.{Reading, rule_words, macros_of}
use Rattle.make_text.proofs.readings.Reading.rule_words.Goals as goal

pub returns-clause-words : goal.returns-clause-words
returns-clause-words c =
    subst (λ (r : Reading). Gives c.read_rule_line.result (rule_words (macros_of r.macros) c.args.before.now c.args.behind.now))
    c.self.view_is c.read_rule_line.ensures.words
