use Rattle.legal_history.proofs.laws.outputs.an_emptied_base_is_the_same.Goals as goal
use Rattle.legal_history.proofs.Outputs.Emptied.{emptied_alike, emptied_is_base, emptied_is_sound}

pub returns-clause-rows : goal.returns-clause-rows
returns-clause-rows c = emptied_alike

pub returns-clause-base : goal.returns-clause-base
returns-clause-base c = emptied_is_base

pub returns-clause-sound : goal.returns-clause-sound
returns-clause-sound c = emptied_is_sound
