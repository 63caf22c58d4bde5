use Rattle.std.proofs.Common.{◌≡◌, ◌∙◌, ◌++◌, List, length, sym, ap, arith}
use Rattle.std.specs.Prelude.{map}
use Rattle.session_text.specs.CommandWords.{lane_words, words_of_command}
use Rattle.cc_names.specs.declared.commands.LaneWords.{LaneWords}
use Rattle.cc_names.specs.declared.commands.PhaseWords.{PhaseWords}
use Rattle.legal_history.specs.Stories.Steps.{state_of}
use Rattle.base_core.specs.Story.Replying.{replies_of}
use Rattle.session_run.proofs.Story.LaneLines.{as_many, lanes_modeled, modeled_by_words}
use Rattle.session_run.proofs.transcripts.push_lanes.Goals as goal

pub loop-behind-init : goal.loop-behind-init
loop-behind-init g c =
    let phase = (state_of c.args.core.now.story).phase in
    let replies = replies_of c.args.core.now.story in
    let words : List LaneWords = map lane_words phase.lanes in
    let rest : c.as_slice-rest.result.now ≡ words = c.as_slice-rest.ensures
    ∙ ap (λ (v : PhaseWords). v.lanes) (c.in_ok-phase.ensures ∙ ap words_of_command c.phase.ensures) in
    record {
      lines = ap (λ v. c.args.text.now.items ++ v) (modeled_by_words phase 1 phase.lanes replies
          ∙ ap (λ v. lanes_modeled (words_of_command phase) 1 v replies) (sym rest));
      from = omega arith;
      within = omega (arith, ap (λ (v : List LaneWords). length v) rest, as_many phase.lanes);
    }
