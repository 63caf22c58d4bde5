use Rattle.script_grammar.specs.Run.{run_of_lines}
use Rattle.script_grammar.specs.Standings.{texts}
use Rattle.build_script.proofs.RunLemmas.{among_themselves, came_to}
use Rattle.build_script.proofs.run.run.Goals as goal
use Rattle.build_script.proofs.run.run.Goals.{in-Ok, in-Err-Fault}

pub returns-in-Err-GivenUp-clause-asks_its_reads : goal.returns-in-Err-GivenUp-clause-asks_its_reads
returns-in-Err-GivenUp-clause-asks_its_reads g c = (rw (
  c.begin-progress.ensures.state,
  c.begin-progress.ensures.reads,
  c.lines.ensures,
) at c.run_whole.ensures.asked) _ (among_themselves _)

pub returns-in-Err-NoMemory-clause-asks_its_reads : goal.returns-in-Err-NoMemory-clause-asks_its_reads
returns-in-Err-NoMemory-clause-asks_its_reads g c = (rw (
  c.begin-progress.ensures.state,
  c.begin-progress.ensures.reads,
  c.lines.ensures,
) at c.run_whole.ensures.asked) _ (among_themselves _)

pub returns-in_err-reads-clause-asks_its_reads : goal.returns-in_err-reads-clause-asks_its_reads
returns-in_err-reads-clause-asks_its_reads g c = (rw (
  c.begin-progress.ensures.state,
  c.begin-progress.ensures.reads,
  c.lines.ensures,
) at c.run_whole.ensures.asked) _ (among_themselves _)

pub returns-clause-asks_its_reads : goal.returns-clause-asks_its_reads
returns-clause-asks_its_reads g c = (rw (
  c.begin-progress.ensures.state,
  c.begin-progress.ensures.reads,
  c.lines.ensures,
) at c.run_whole.ensures.asked) _ (among_themselves _)

pub returns-clause-ran : goal.returns-clause-ran
returns-clause-ran g c = elim c.match-run_whole.branch [
  | in-Ok w ↦
      let went = (rw (
        c.begin-progress.ensures.state,
        c.begin-progress.ensures.reads,
        c.lines.ensures,
        w.in-Ok.is,
      ) at c.run_whole.ensures.went) in
      rw (w.result-is, c.in_ok-reads.ensures) (came_to (texts (g.F.Files.stands c.args.files.now))
      (run_of_lines c.args.targets.now c.args.script.now) _ went)
  | in-Err-Fault w ↦
      let went = (rw (
        c.begin-progress.ensures.state,
        c.begin-progress.ensures.reads,
        c.lines.ensures,
        w.in-Err-Fault.is,
        w.in-Err-Fault.field-0-is,
      ) at c.run_whole.ensures.went) in
      rw (w.result-is, c.in_ok-reads.ensures) (came_to (texts (g.F.Files.stands c.args.files.now))
      (run_of_lines c.args.targets.now c.args.script.now) _ went)
]
