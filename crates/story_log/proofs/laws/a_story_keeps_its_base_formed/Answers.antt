-- each row of a base is one that its story names
use Rattle.cc_names.specs.Formed.{IsFormed}
use Rattle.story_log.proofs.Story.Naming.{base_named, hanging_named}
use Rattle.story_log.proofs.laws.a_story_keeps_its_base_formed.Goals as goal

pub returns-clause-base : goal.returns-clause-base
returns-clause-base c = λ story named. base_named IsFormed story named

pub returns-clause-left : goal.returns-clause-left
returns-clause-left c = λ story named. hanging_named IsFormed story named
