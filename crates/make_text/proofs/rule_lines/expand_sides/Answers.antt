use Rattle.std.proofs.Common.{ℕ, List, Ok, Err, subst}
use Rattle.make_grammar.specs.Statements.{Definition, before_mark, expanded_by, macros_of}
use Rattle.make_text.specs.Steps.{IsExpandedText}
use Rattle.make_text.proofs.SideLemmas.{second_sides}
use Rattle.make_text.proofs.rule_lines.expand_sides.Goals as goal

pub returns-in-Ok-both_sides-clause-sides : goal.returns-in-Ok-both_sides-clause-sides
returns-in-Ok-both_sides-clause-sides c =
    let macros = macros_of c.args.macros.now in
    let before = c.args.before.now in
    let behind = c.args.behind.now in
    let one = subst (λ (text : List ℕ). IsExpandedText (expanded_by macros text) c.in_ok-outcome.outcome) c.before_mark.ensures
    c.in_ok-outcome.ensures.outcome in
    let two = subst (λ (m : List Definition). IsExpandedText (expanded_by (macros_of m) behind) c.in_ok-outcome-2.outcome)
    c.in_ok-outcome.ensures.same c.in_ok-outcome-2.ensures.outcome in
    second_sides macros before behind c.in-Ok.first c.mark_of.result.now (Ok c.in-Ok-both_sides.sides)
    (c.in-Ok.ensures (expanded_by macros (before_mark before)) one) c.mark_of.ensures
    (c.in-Ok-both_sides.ensures (expanded_by macros behind) two)

pub returns-in-Err-both_sides-clause-sides : goal.returns-in-Err-both_sides-clause-sides
returns-in-Err-both_sides-clause-sides c =
    let macros = macros_of c.args.macros.now in
    let before = c.args.before.now in
    let behind = c.args.behind.now in
    let one = subst (λ (text : List ℕ). IsExpandedText (expanded_by macros text) c.in_ok-outcome.outcome) c.before_mark.ensures
    c.in_ok-outcome.ensures.outcome in
    let two = subst (λ (m : List Definition). IsExpandedText (expanded_by (macros_of m) behind) c.in_ok-outcome-2.outcome)
    c.in_ok-outcome.ensures.same c.in_ok-outcome-2.ensures.outcome in
    second_sides macros before behind c.in-Ok.first c.mark_of.result.now (Err c.in-Err-both_sides.cause)
    (c.in-Ok.ensures (expanded_by macros (before_mark before)) one) c.mark_of.ensures
    (c.in-Err-both_sides.ensures (expanded_by macros behind) two)
