use Rattle.large_session.specs.LargeSession.{making}
use Rattle.large_session.proofs.Joins.{three_more}
use Rattle.large_session.proofs.sessions.push_making.Goals as goal

pub returns : goal.returns
unfolding making
returns c =
    three_more c.args.text.now.items _ _ _ _ _ _ _ _ c.in_ok-extend_from_slice.ensures.items c.in_ok-push_made_makefile.ensures
    c.in_ok-push_made_sources.ensures c.in_ok-extend_from_slice-2.ensures.items
