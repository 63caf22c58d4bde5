use Rattle.std.proofs.Common.{◌+◌, ◌≤◌}
use mathlib.Core.List.{IsPrefix}
use Rattle.legal_history.specs.Stories.States.{done_of}
use Rattle.legal_history.specs.Stories.Steps.{state_of}
use Rattle.clearmake.proofs.lanes.take_turn_at.Given as goal

abbrev pub invariant-loop-carried : goal.invariant-loop-carried
invariant-loop-carried g l = record {
  begins : IsPrefix (g.T.Storied.story l.initial.service) (g.T.Storied.story l.service);
  more : done_of (state_of (g.T.Storied.story l.initial.service)).done l.lane + l.carried
      ≤ done_of (state_of (g.T.Storied.story l.service)).done l.lane;
}
