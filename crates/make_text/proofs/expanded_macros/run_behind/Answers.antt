use Rattle.std.proofs.Common.{◌≡◌, ◌-◌, ◌<◌, ◌≤◌, refl, sym, ap, ◌∙◌, subst, ℕ, List, true, false, length, drop, arith}
use Rattle.make_grammar.specs.Statements.{expanded_by, macros_of}
use Rattle.make_grammar.specs.Macros.{Expansion, one_after_other, no_automatic, plain}
use Rattle.make_text.specs.Runs.{AreResults}
use Rattle.make_text.specs.Steps.{macros_opened, IsExpandedText}
use Rattle.make_text.specs.declared.expanded_macros.Ran.{Ran}
use Rattle.make_text.specs.declared.expanded_macros.Results.{Results}
use Rattle.make_text.proofs.ResultLemmas.{goes_behind, left_known, fewer, part_is, part_is_long}
use Rattle.make_text.proofs.RunLemmas.{runs_longer}
use Rattle.make_text.proofs.StepLemmas.{where_ok}
use Rattle.make_text.proofs.expanded_macros.run_behind.Goals as goal

pub steps-init : goal.steps-init
steps-init c =
    let e = c.behind-expanding.ensures in
    record {
      apart = c.requires.apart;
      start = cc;
      runs = goes_behind (macros_of c.args.macros.now) c.args.text.now c.args.results.written.items c.args.results.states
          c.behind-expanding.result c.requires.results e.rest e.opened e.states e.written;
    }

pub expansion_ended-requires : goal.expansion_ended-requires
expansion_ended-requires c =
    let macros = macros_of c.args.macros.now in
    let before = c.args.results.written.items in
    let part = expanded_by macros c.args.text.now in
    let went = rw c.in-Ends.is at (c.in_ok-step.ensures.went (one_after_other (plain before) part) c.steps.invariant.runs) in
    fewer before c.step.new.self.written.items part false c.len-start.result (sym went.0) c.steps.invariant.start

pub expansion_looped-requires : goal.expansion_looped-requires
expansion_looped-requires c =
    let macros = macros_of c.args.macros.now in
    let before = c.args.results.written.items in
    let part = expanded_by macros c.args.text.now in
    let went = rw c.in-Loops.is at (c.in_ok-step.ensures.went (one_after_other (plain before) part) c.steps.invariant.runs) in
    let same : c.as_slice.result.now ≡ c.step.new.self.written.items = cc in
    subst (λ (w : List ℕ). c.len-start.result ≤ length w) (sym same)
    (fewer before c.step.new.self.written.items part true c.len-start.result (sym went) c.steps.invariant.start)

pub returns-in-Ends-clause-outcome : goal.returns-in-Ends-clause-outcome
returns-in-Ends-clause-outcome c =
    let macros = macros_of c.args.macros.now in
    let before = c.args.results.written.items in
    let part = expanded_by macros c.args.text.now in
    let start = c.len-start.result in
    let whole = c.step.new.self.written.items in
    let went = rw c.in-Ends.is at (c.in_ok-step.ensures.went (one_after_other (plain before) part) c.steps.invariant.runs) in
    let is = part_is before whole part false start (sym went.0) c.steps.invariant.start in
    where_ok (λ (ran : Ran). IsExpandedText (record { bytes = drop start whole; loops = false }) ran.outcome)
    (λ (ran : Ran). IsExpandedText part ran.outcome) c.expansion_ended.result c.expansion_ended.ensures.outcome
    (λ ran h. subst (λ (t : Expansion). IsExpandedText t ran.outcome) is h)

pub returns-in-Ends-clause-results : goal.returns-in-Ends-clause-results
returns-in-Ends-clause-results c =
    let macros = macros_of c.args.macros.now in
    let e = c.step.new.self in
    let total = one_after_other (plain c.args.results.written.items) (expanded_by macros c.args.text.now) in
    let went = rw c.in-Ends.is at (c.in_ok-step.ensures.went total c.steps.invariant.runs) in
    let left : Results = record { states = e.states; written = e.written } in
    where_ok (λ (ran : Ran). ran.results ≡ left) (λ (ran : Ran). AreResults macros ran.results.written.items ran.results.states)
    c.expansion_ended.result c.expansion_ended.ensures.results
    (λ ran h. subst (λ (r : Results). AreResults macros r.written.items r.states) (sym h) (left_known macros e went.1))

pub returns-in-Loops-clause-outcome : goal.returns-in-Loops-clause-outcome
returns-in-Loops-clause-outcome c =
    let macros = macros_of c.args.macros.now in
    let before = c.args.results.written.items in
    let part = expanded_by macros c.args.text.now in
    let start = c.len-start.result in
    let whole = c.step.new.self.written.items in
    let went = rw c.in-Loops.is at (c.in_ok-step.ensures.went (one_after_other (plain before) part) c.steps.invariant.runs) in
    let same : c.as_slice.result.now ≡ whole = cc in
    let is = ap (λ (w : List ℕ). record { bytes = drop start w; loops = true }) same
    ∙ part_is before whole part true start (sym went) c.steps.invariant.start in
    where_ok (λ (ran : Ran). IsExpandedText (record { bytes = drop start c.as_slice.result.now; loops = true }) ran.outcome)
    (λ (ran : Ran). IsExpandedText part ran.outcome) c.expansion_looped.result c.expansion_looped.ensures.outcome
    (λ ran h. subst (λ (t : Expansion). IsExpandedText t ran.outcome) is h)

pub returns-then-written_behind-gt-EXPANSION_LIMIT-clause-outcome
    : goal.returns-then-written_behind-gt-EXPANSION_LIMIT-clause-outcome
returns-then-written_behind-gt-EXPANSION_LIMIT-clause-outcome c =
    let macros = macros_of c.args.macros.now in
    let before = c.args.results.written.items in
    let part = expanded_by macros c.args.text.now in
    let total = one_after_other (plain before) part in
    let new = c.step.new.self in
    let went = rw c.in-Goes.is at (c.in_ok-step.ensures.went total c.steps.invariant.runs) in
    let longer = runs_longer macros no_automatic total new.rest.now new.written.items (macros_opened macros new.opened.items)
    new.states went.runs in
    let long : 65536 < length new.written.items - c.len-start.result =
    omega (arith, c.written_behind.ensures, c.if-written_behind-gt-EXPANSION_LIMIT.true) in
    subst (IsExpandedText part) (sym c.outcome_without_results.ensures.outcome)
    (part_is_long before new.written.items total part c.len-start.result refl longer c.steps.invariant.start long)

pub steps-preserved : goal.steps-preserved
steps-preserved c =
    let total = one_after_other (plain c.args.results.written.items) (expanded_by (macros_of c.args.macros.now) c.args.text.now)
    in
    record {
      apart = c.steps.invariant.apart;
      start = c.steps.invariant.start;
      runs = rw c.in-Goes.is at (c.in_ok-step.ensures.went total c.steps.invariant.runs);
    }
