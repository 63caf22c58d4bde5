use Rattle.std.proofs.Common.{◌+◌, arith, ◌∙◌, ap, length}
use Rattle.cc_names.specs.Cuts.{lines_of}
use Rattle.cc_names.proofs.LinesAndWords.{length-lines_of}
use Rattle.spec_text.proofs.Rest.{rest_at_first, goes_on, ends_at_fault}
use Rattle.spec_text.proofs.specs.read_rules.Goals as goal

pub loop-bytes-init : goal.loop-bytes-init
loop-bytes-init c = (
  rw (c.new-reader.ensures, c.of-lines.ensures) (rest_at_first (lines_of c.args.text.now)),
  let lines = ap length c.of-lines.ensures in omega (arith, lines, length-lines_of c.args.text.now),
)

pub returns-in-Err : goal.returns-in-Err
returns-in-Err c =
    rw (c.at_line.ensures, c.loop-bytes.invariant.0, c.in-Some.ensures)
    (ends_at_fault c.in-Err.fault c.in-Some.bytes.now c.next.new.self (c.loop-bytes.number + 1) c.loop-bytes.reader
    c.in-Err.ensures)

pub loop-bytes-preserved : goal.loop-bytes-preserved
loop-bytes-preserved c = (
  c.loop-bytes.invariant.0 ∙ rw c.in-Some.ensures (goes_on c.in-Some.bytes.now c.next.new.self (c.loop-bytes.number + 1)
      c.loop-bytes.reader c.in-Ok.reader c.in-Ok.ensures),
  let lines = ap length c.in-Some.ensures in omega (arith, lines, c.loop-bytes.invariant.1),
)
