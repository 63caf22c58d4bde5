use Rattle.std.proofs.Common.{◌∙◌, ap, arith}
use Rattle.large_session.specs.Draws.{next_state}
use Rattle.large_session.proofs.Files.{one_more, all_drawn}
use Rattle.large_session.proofs.draws.files_of.Goals as goal

pub loop-index-preserved : goal.loop-index-preserved
loop-index-preserved c =
    one_more c.args.size c.loop-index.index c.loop-index.state c.next_state-state.result c.drawn_file.result
    c.loop-index.files.items c.push.new.self.items _
    (omega arith) c.drawn_file.ensures c.in_ok-push.ensures.items
    (c.next_state-state.ensures ∙ ap next_state c.next_state.ensures) c.loop-index.invariant

pub returns : goal.returns
returns c = all_drawn c.args.size c.loop-index.index c.loop-index.state c.loop-index.files.items _ (omega arith)
    c.loop-index.invariant
