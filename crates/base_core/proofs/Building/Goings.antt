-- A story that does not go on.
use Rattle.std.proofs.Common.{ℕ, List, [], refl, sym}
use Rattle.std.proofs.lemmas.List.{append-nil}
use Rattle.cc_names.specs.declared.steps.StoryStep.{StoryStep}
use Rattle.clearmake.specs.Going.{GoesOn}

-- a story that does not go on
pub goes_nowhere : (story : List StoryStep) (lane : ℕ) → GoesOn story story lane
goes_nowhere story lane = record {
  steps = [];
  grows = sym (append-nil story);
  one = tt;
  phase = record { phase = refl; number = refl; moment = refl };
  done = refl;
  still = λ build is. record { build = build; active = is; units = refl; outcomes = λ n e. e };
}
