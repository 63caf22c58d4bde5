-- the build that a lane's next command asks for has as many jobs
use Rattle.std.proofs.Common.{ap}
use Rattle.clearmake.specs.Nexts.{jobs_of}
use Rattle.base_core.proofs.core_value.Core.jobs.Goals as goal

pub returns-clause-asked : goal.returns-clause-asked
returns-clause-asked g c = ap jobs_of c.in_ok-asked.ensures.next

pub returns-clause-within : goal.returns-clause-within
returns-clause-within g c = (c.in_ok-asked.ensures.formed.2, c.in_ok-asked.ensures.formed.3)
