-- a form with its text runs a session, or has one of sites
use Rattle.std.proofs.Common.{refl}
use Rattle.session_run.proofs.sessions.session_of.Goals as goal

pub returns-in-Sites-clause-why : goal.returns-in-Sites-clause-why
returns-in-Sites-clause-why c = (c.in-Sites.is, refl)

pub returns-in-Ok-clause-gives : goal.returns-in-Ok-clause-gives
returns-in-Ok-clause-gives c = record { form_is = refl; base = c.in_default.not-Sites; has = c.in-Ok.ensures.has }

pub returns-in-Err-clause-why : goal.returns-in-Err-clause-why
returns-in-Err-clause-why c = (c.in_default.not-Sites, c.in-Err.ensures.why)
