use Rattle.legal_history.proofs.laws.reuse.a_row_leaves_a_base_sound.Goals as goal
use Rattle.legal_history.proofs.Reuse.SoundRows.{sound_row}

pub returns : goal.returns
returns c = sound_row
