use Rattle.std.proofs.Common.{◌<◌, ◌∙◌, sym, subst, length, arith}
use Rattle.make_grammar.specs.Statements.{macros_of}
use Rattle.make_grammar.specs.Macros.{expansion_of}
use Rattle.make_text.specs.Steps.{automatic_of, macros_opened, IsExpandedText}
use Rattle.make_text.proofs.ExpansionLemmas.{no_dollar}
use Rattle.make_text.proofs.RunLemmas.{runs_longer}
use Rattle.make_text.proofs.StepLemmas.{is_started, too_long}
use Rattle.make_text.proofs.expansions.expand.Goals as goal

pub steps-init : goal.steps-init
steps-init c =
    let e = c.of-expanding.ensures in (
      c.len-count.ensures.apart,
      is_started (macros_of c.args.macros.now) (automatic_of c.args.automatic.now) c.args.text.now c.len-count.result
          c.of-expanding.result c.len-count.ensures.count e.rest e.opened e.states e.written,
    )

pub returns-in-Ends : goal.returns-in-Ends
returns-in-Ends c =
    let total = expansion_of (macros_of c.args.macros.now) (automatic_of c.args.automatic.now) c.args.text.now in
    let went = rw c.in-Ends.is at (c.in_ok-step.ensures.went total c.steps.invariant.1) in
    subst (λ t. IsExpandedText t c.unless_too_long.result) (sym went.0) c.unless_too_long.ensures

pub returns-in-Loops : goal.returns-in-Loops
returns-in-Loops c =
    let total = expansion_of (macros_of c.args.macros.now) (automatic_of c.args.automatic.now) c.args.text.now in
    let went = rw c.in-Loops.is at (c.in_ok-step.ensures.went total c.steps.invariant.1) in
    subst (λ t. IsExpandedText t c.unless_too_long-in-Loops.result) (sym went) c.unless_too_long-in-Loops.ensures

pub returns-then-len-gt-EXPANSION_LIMIT : goal.returns-then-len-gt-EXPANSION_LIMIT
returns-then-len-gt-EXPANSION_LIMIT c =
    let macros = (macros_of c.args.macros.now) in
    let automatic = automatic_of c.args.automatic.now in
    let total = expansion_of macros automatic c.args.text.now in
    let went = rw c.in-Goes.is at (c.in_ok-step.ensures.went total c.steps.invariant.1) in
    let new = c.step.new.self in
    let longer = runs_longer macros automatic total new.rest.now new.written.items (macros_opened macros new.opened.items)
    new.states went.runs in
    let len = c.len.ensures ∙ new.written.ok.0 in
    let long : 65536 < length new.written.items = omega (arith, len, c.if-len-gt-EXPANSION_LIMIT.true) in
    too_long total (length new.written.items) long longer

pub steps-preserved : goal.steps-preserved
steps-preserved c =
    let total = expansion_of (macros_of c.args.macros.now) (automatic_of c.args.automatic.now) c.args.text.now in
    let went = rw c.in-Goes.is at (c.in_ok-step.ensures.went total c.steps.invariant.1) in
    (c.steps.invariant.0, went)

pub returns-then-is_none : goal.returns-then-is_none
returns-then-is_none c = rw (no_dollar (macros_of c.args.macros.now) (automatic_of c.args.automatic.now) c.args.text.now
    (grind arith)) c.plain_outcome.ensures
