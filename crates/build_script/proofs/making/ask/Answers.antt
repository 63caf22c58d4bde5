use Rattle.std.proofs.Common.{refl}
use Rattle.script_grammar.proofs.CarriedLemmas.{carried_ask}
use Rattle.build_script.proofs.making.ask.Goals as goal

pub returns-in-Found : goal.returns-in-Found
returns-in-Found g c = rw c.in_ok-note.ensures (carried_ask _ _ _ _ _ _ _ c.in-Found.ensures.stays c.in-Found.ensures.asked
    (rw c.in-Found.ensures.answer refl))

pub returns-in-Absent : goal.returns-in-Absent
returns-in-Absent g c = rw c.in_ok-note.ensures (carried_ask _ _ _ _ _ _ _ c.in-Absent.ensures.stays
    c.in-Absent.ensures.asked (rw c.in-Absent.ensures.answer refl))

pub returns-in-Broken : goal.returns-in-Broken
returns-in-Broken g c = rw c.in_ok-note.ensures (carried_ask _ _ _ _ _ _ _ c.in-Broken.ensures.stays
    c.in-Broken.ensures.asked c.in-Broken.ensures.answer)

pub returns-in-NoMemory : goal.returns-in-NoMemory
returns-in-NoMemory g c = rw c.in_ok-note.ensures (carried_ask _ _ _ _ _ _ _ c.in-NoMemory.ensures.stays
    c.in-NoMemory.ensures.asked tt)
