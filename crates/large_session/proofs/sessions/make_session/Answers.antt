-- the text is the defined one, which is short
use Rattle.std.proofs.Common.{arith}
use Rattle.large_session.proofs.Lengths.{is_short}
use Rattle.large_session.proofs.sessions.make_session.Goals as goal

pub returns-clause-short : goal.returns-clause-short
returns-clause-short c = grind (arith, is_short)
