use Rattle.std.proofs.Common.{◌≡◌, ◌++◌, ◌+◌, ◌≤◌, length}
use Rattle.session_text.specs.CommandWords.{words_of_command}
use Rattle.legal_history.specs.Stories.Steps.{state_of}
use Rattle.base_core.specs.Story.Replying.{replies_of}
use Rattle.session_run.specs.Story.Rendered.{lanes_text}
use Rattle.session_run.proofs.Story.LaneLines.{lanes_modeled}
use Rattle.session_run.proofs.transcripts.push_lanes.Given as goal

abbrev pub invariant-loop-behind : goal.invariant-loop-behind
invariant-loop-behind g l = record {
  lines : l.initial.text.items ++ lanes_text (state_of l.core.story).phase 1 (state_of l.core.story).phase.lanes
      (replies_of l.core.story)
      ≡ l.text.items ++ lanes_modeled (words_of_command (state_of l.core.story).phase) l.lane l.rest (replies_of l.core.story);
  from : 1 ≤ l.lane;
  within : l.lane + length l.rest ≡ length (state_of l.core.story).phase.lanes + 1;
}

abbrev pub decreases-loop-behind : goal.decreases-loop-behind
decreases-loop-behind g l = length l.rest
