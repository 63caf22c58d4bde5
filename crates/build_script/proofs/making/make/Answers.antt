use Rattle.std.proofs.Common.{sym}
use Rattle.script_grammar.proofs.CarriedLemmas.{carried_as, and_then-done}
use Rattle.build_script.proofs.making.make.Goals as goal

pub returns-in-Preprocess : goal.returns-in-Preprocess
returns-in-Preprocess g c = rw c.in-Preprocess.is (carried_as (sym (and_then-done _))
    (rw c.as_slice-in-Preprocess.ensures at c.preprocess.ensures))

pub returns-in-Link : goal.returns-in-Link
returns-in-Link g c = rw c.in-Link.is (rw c.as_slice-in-Link.ensures at c.pour_all-in-Link.ensures)
