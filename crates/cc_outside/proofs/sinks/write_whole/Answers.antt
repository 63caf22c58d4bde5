use Rattle.std.proofs.Common.{◌∙◌, arith, ℕ, length-drop}
use Rattle.cc_outside.proofs.Ends.{rests_as, rests_by_one, stays_on}
use Rattle.cc_outside.proofs.Flows.{Appends-then, AppendsPrefix-then, on_err}
use Rattle.cc_outside.proofs.sinks.write_whole.Goals as goal

pub returns-in_err-done-clause-prefix : goal.returns-in_err-done-clause-prefix
returns-in_err-done-clause-prefix g c =
    on_err _ _ (AppendsPrefix-then _ (g.K.Sink.ghost_state c.loop-done.sink).held _ c.loop-done.done c.args.text.now
    c.loop-done.invariant.within c.loop-done.invariant.written c.in_err-done.ensures.bytes)

pub loop-done-preserved : goal.loop-done-preserved
loop-done-preserved g c = record {
  within = omega (arith, length-drop {A = ℕ}, c.in_ok-done.ensures.within);
  written = Appends-then _ (g.K.Sink.ghost_state c.loop-done.sink).held _ c.loop-done.done c.in_ok-done.field-0 c.args.text.now
      c.loop-done.invariant.written c.in_ok-done.ensures.bytes;
  kept = omega (arith, c.write.ensures.kept);
  goes_on = c.in_ok-done.ensures.ended ∙ stays_on _ _ ∙ c.loop-done.invariant.goes_on;
  faultless = c.in_ok-done.ensures.faultless ∙ c.loop-done.invariant.faultless;
}

pub returns-in_err-done-clause-rests : goal.returns-in_err-done-clause-rests
returns-in_err-done-clause-rests g c =
    rests_by_one _ (g.K.Sink.ghost_state c.loop-done.sink).ended _ _ _ (λ e. c.loop-done.invariant.goes_on ∙ e)
    c.write.ensures.ended

pub returns-clause-rests : goal.returns-clause-rests
returns-clause-rests g c = rests_as _ _ _ c.loop-done.invariant.goes_on
