use Rattle.legal_history.proofs.laws.reuse.a_winked_object_agrees.Goals as goal
use Rattle.legal_history.proofs.Reuse.TakenObjects.{winked_agrees, winked_lives, winked_sound}

pub returns-clause-agrees : goal.returns-clause-agrees
returns-clause-agrees c = winked_agrees

pub returns-clause-lives : goal.returns-clause-lives
returns-clause-lives c = winked_lives

pub returns-clause-sound : goal.returns-clause-sound
returns-clause-sound c = winked_sound
