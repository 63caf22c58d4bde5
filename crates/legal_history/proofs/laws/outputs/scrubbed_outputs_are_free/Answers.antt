use Rattle.legal_history.proofs.laws.outputs.scrubbed_outputs_are_free.Goals as goal
use Rattle.legal_history.proofs.Outputs.Alike.{sound_alike, live_text_alike}

pub returns-clause-sound : goal.returns-clause-sound
returns-clause-sound c = sound_alike

pub returns-clause-text : goal.returns-clause-text
returns-clause-text c = live_text_alike
