use Rattle.story_log.proofs.Stored.Alike.{represented_is_base}
use Rattle.story_log.proofs.Stored.OpenedRows.{represents_opened}
use Rattle.story_log.proofs.Stored.Represented.{represented_same, opened_is_sound}
use Rattle.story_log.proofs.laws.an_opened_base_is_represented.Goals as goal

pub returns-clause-opened : goal.returns-clause-opened
returns-clause-opened c = represents_opened

pub returns-clause-base : goal.returns-clause-base
returns-clause-base c = represented_is_base

pub returns-clause-alike : goal.returns-clause-alike
returns-clause-alike c = represented_same

pub returns-clause-sound : goal.returns-clause-sound
returns-clause-sound c = opened_is_sound
