use Rattle.std.proofs.Common.{ap, ◌∙◌, sym, true, false, ◌-◌, ◌<◌, length, arith}
use Rattle.make_grammar.specs.Statements.{macros_of}
use Rattle.make_text.specs.Steps.{automatic_of, macros_opened}
use Rattle.make_text.proofs.CheckLemmas.{part_of_whole, part_too_long, looped_end, at_end}
use Rattle.make_text.proofs.RunLemmas.{runs_longer}
use Rattle.make_text.proofs.expansions.Expanding.run.Goals as goal

pub returns-in-Ends : goal.returns-in-Ends
returns-in-Ends c total h written part len is =
    let macros = macros_of c.args.macros.now in
    let automatic = automatic_of c.args.automatic.now in
    let went = rw c.in-Ends.is at (c.in_ok-step.ensures.went total (c.steps.invariant.goes total h)) in
    let whole = c.step.new.self.written.items in
    let parts = part_of_whole written whole part false (sym went.0 ∙ is) in
    let count = parts.0 ∙ (ap (λ n. length whole - n) len ∙ sym c.written_behind.ensures) in
    (c.fault_of_expansion.ensures part count parts.1, at_end macros automatic c.fault_of_expansion.result c.step.new.self went.1)

pub returns-in-Loops : goal.returns-in-Loops
returns-in-Loops c total h written part len is =
    let macros = macros_of c.args.macros.now in
    let automatic = automatic_of c.args.automatic.now in
    let went = rw c.in-Loops.is at (c.in_ok-step.ensures.went total (c.steps.invariant.goes total h)) in
    let whole = c.step.new.self.written.items in
    let parts = part_of_whole written whole part true (sym went ∙ is) in
    let count = parts.0 ∙ (ap (λ n. length whole - n) len ∙ sym c.written_behind-in-Loops.ensures) in
    let fault = c.fault_of_expansion-in-Loops.ensures part count parts.1 in
    (fault, looped_end macros automatic part c.fault_of_expansion-in-Loops.result c.step.new.self parts.1 fault)

pub returns-then-written_behind-gt-EXPANSION_LIMIT : goal.returns-then-written_behind-gt-EXPANSION_LIMIT
returns-then-written_behind-gt-EXPANSION_LIMIT c total h written part len is =
    let macros = macros_of c.args.macros.now in
    let automatic = automatic_of c.args.automatic.now in
    let went = rw c.in-Goes.is at (c.in_ok-step.ensures.went total (c.steps.invariant.goes total h)) in
    let new = c.step.new.self in
    let longer = runs_longer macros automatic total new.rest.now new.written.items (macros_opened macros new.opened.items)
    new.states went.runs in
    let long : 65536 < length new.written.items - length written = omega (
      arith,
      c.written_behind-in-steps.ensures,
      len,
      c.if-written_behind-gt-EXPANSION_LIMIT.true,
    ) in
    (part_too_long written new.written.items total part is longer long, tt)

pub steps-preserved : goal.steps-preserved
steps-preserved c =
    record {
      apart = c.steps.invariant.apart;
      runs = (
        c.steps.invariant.runs.0,
        rw c.in-Goes.is at (c.in_ok-step.ensures.went c.steps.invariant.runs.0
            c.steps.invariant.runs.1),
      );
      goes = λ total h. rw c.in-Goes.is at (c.in_ok-step.ensures.went total (c.steps.invariant.goes total h));
    }
