use Rattle.large_session.proofs.Joins.{two_more}
use Rattle.large_session.proofs.sessions.push_session.Goals as goal

pub returns : goal.returns
returns c =
    two_more c.args.text.now.items _ _ _ _ _ _ c.in_ok-push_making.ensures c.in_ok-extend_from_slice.ensures.items
    c.in_ok-extend_from_slice-2.ensures.items
