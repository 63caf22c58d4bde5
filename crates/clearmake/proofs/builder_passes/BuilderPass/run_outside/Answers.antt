use Rattle.std.proofs.Common.{subst, sym}
use Rattle.legal_history.specs.Stories.Steps.{state_of}
use Rattle.clearmake.specs.Calls.{IsStarted}
use Rattle.clearmake.specs.Passes.{BuilderState}
use Rattle.clearmake.proofs.Begun.{builder_later}
use Rattle.clearmake.proofs.Outcomes.{ran_so}
use Rattle.clearmake.proofs.Rereads.{later_at_end, past_at_end, reading_begins}
use Rattle.clearmake.proofs.builder_passes.BuilderPass.run_outside.Goals as goal

pub invariant_of-files : goal.invariant_of-files
invariant_of-files g c =
    reading_begins _ (record {
      pass = c.self.inside.pass;
      tag = c.self.inside.context.now.tag;
      count = c.self.inside.context.now.count;
    }) c.args.self c.args.start.now.value.seen c.args.unit c.args.script.now c.args.targets.now c.self.invariant.0 c.self.view_is
    c.requires.begins c.requires.builds c.requires.started

pub returns-clause-pass : goal.returns-clause-pass
returns-clause-pass g c =
    builder_later c.args.self c.self.inside.pass c.in-Some.pass c.self.inside.context.now.tag c.self.inside.context.now.count
    c.self.view_is
    (later_at_end _ _ _ _ _ c.in-Some.pass c.files.invariant c.in-Some.is c.files.view_is c.run-ran.ensures.asks_its_reads)

pub returns-clause-ran : goal.returns-clause-ran
returns-clause-ran g c =
    ran_so c.run-ran.result (state_of c.args.start.now.value.seen) c.self.inside.context.now.tag c.args.unit
    c.run-ran.new.files.broken c.args.script.now c.args.targets.now c.in-Some.pass.seen
    (subst (λ (s : BuilderState). IsStarted (state_of c.args.start.now.value.seen) s.tag.lane c.args.unit c.args.script.now
    c.args.targets.now) (sym c.self.view_is) c.requires.started)
    c.run-ran.ensures.ran c.run-ran.ensures.given_up
    (past_at_end _ _ _ _ _ c.in-Some.pass c.files.invariant c.in-Some.is c.files.view_is c.run-ran.ensures.asks_its_reads)
