-- a row that was read follows, or it does not fit, and then the payload gives none
use Rattle.story_log.proofs.Bases.Unfit.{misfit_gives_none}
use Rattle.story_log.proofs.opening.next_row.Goals as goal

pub returns-in-None-clause-ok : goal.returns-in-None-clause-ok
returns-in-None-clause-ok c = record {
  spells = c.in-Ok.ensures.row.0;
  formed = c.in-Ok.ensures.row.1;
  fits = c.in-None.ensures.fits;
}

pub returns-in-Some-clause-err : goal.returns-in-Some-clause-err
returns-in-Some-clause-err c = misfit_gives_none c.args.rows.now c.args.payload.now c.in-Ok.row c.in-Some.cause
    c.in-Ok.ensures.row.0 c.in-Ok.ensures.row.1 c.in-Some.ensures.misses
