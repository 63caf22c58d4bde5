use Rattle.std.proofs.Common.{List, subst, arith}
use Rattle.make_grammar.specs.Macros.{no_automatic}
use Rattle.make_grammar.specs.Statements.{Definition, expanded_by, macros_of}
use Rattle.make_text.specs.Steps.{IsExpandedText}
use Rattle.make_text.proofs.ExpansionLemmas.{no_dollar}
use Rattle.make_text.proofs.expanded_macros.ExpandedMacros.expand.Goals as goal

pub returns-then-is_none-clause-outcome : goal.returns-then-is_none-clause-outcome
returns-then-is_none-clause-outcome c = rw (no_dollar (macros_of c.args.self.now) no_automatic c.args.text.now (grind arith))
    c.plain_outcome.ensures

pub returns-clause-outcome : goal.returns-clause-outcome
returns-clause-outcome c =
    subst (λ (m : List Definition). IsExpandedText (expanded_by (macros_of m) c.args.text.now) c.in_ok-outcome.field-0.outcome)
    c.self.view_is c.in_ok-outcome.ensures.outcome
