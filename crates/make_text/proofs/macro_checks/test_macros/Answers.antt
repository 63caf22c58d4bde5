use Rattle.std.proofs.Common.{◌∙◌, sym, subst, Some, None, ◌<◌, ℕ, List, length, arith}
use Rattle.std.proofs.lemmas.List.{length-map}
use Rattle.cc_names.specs.Answers.{FaultIs}
use Rattle.make_text.specs.MacroChecks.{definition_at}
use Rattle.make_grammar.specs.Statements.{macro_of, macros_of, reading_fault}
use Rattle.make_text.proofs.CheckLemmas.{macros_step, finds_fault, named_at}
use Rattle.make_text.proofs.macro_checks.test_macros.Goals as goal

pub test-requires-clause-named : goal.test-requires-clause-named
test-requires-clause-named c = named_at c.args.macros.now c.loop-index.index ∙ sym c.definition-line.ensures.name

pub returns-in-Some : goal.returns-in-Some
returns-in-Some c =
    let definitions = c.args.macros.now in
    let i = c.loop-index.index in
    let d = definition_at definitions i in
    let within : i < length definitions = omega (arith, c.len-index-end.ensures.count, length-map definitions macro_of) in
    let step = macros_step (macros_of definitions) definitions i _ (Some c.in-Some.cause) within c.definition-line.ensures.name
    (sym c.in-Some.is ∙ c.in_ok-cause.ensures.fault) in
    let fault = subst (λ (file : List ℕ). FaultIs c.reading_fault.result (reading_fault file d.line c.in-Some.cause))
    c.definition-line.ensures.file
    (subst (λ n. FaultIs c.reading_fault.result (reading_fault c.definition-line.result.1.now n c.in-Some.cause))
    c.definition-line.ensures.line c.reading_fault.ensures) in
    finds_fault (Unit {0}) c.reading_fault.result d.file d.line c.in-Some.cause _ fault (sym c.loop-index.invariant.tested ∙ step)

pub loop-index-preserved : goal.loop-index-preserved
loop-index-preserved c =
    let definitions = c.args.macros.now in
    let i = c.loop-index.index in
    let within : i < length definitions = omega (arith, c.len-index-end.ensures.count, length-map definitions macro_of) in
    let step = macros_step (macros_of definitions) definitions i _ None within c.definition-line.ensures.name (sym c.in_default.is
    ∙ c.in_ok-cause.ensures.fault) in
    record {
      tested = sym step ∙ c.loop-index.invariant.tested;
      ended = rw c.in_default.is at c.in_ok-cause.ensures.ended;
    }
