-- Reads follow one another.
use Rattle.std.specs.Prelude.{refl}
use Rattle.std.proofs.Common.{◌∙◌}
use Rattle.cc_names.specs.declared.steps.StoryStep.{StoryStep}
use Rattle.turn_lock.proofs.Prefixes.{begins_itself, begins_on}
use Rattle.turn_lock.specs.PassState.{PassState}
use Rattle.clearmake.specs.Outside.{Follows, Reading}
use Rattle.clearmake.specs.Passes.{IsLater}

pub later_itself : (pass : PassState StoryStep) → IsLater pass pass
later_itself pass = record { lock = refl; weight = refl; begins = begins_itself pass.seen }

pub later_on : (one two three : PassState StoryStep) → IsLater one two → IsLater two three → IsLater one three
later_on one two three h g = record {
  lock = g.lock ∙ h.lock;
  weight = g.weight ∙ h.weight;
  begins = begins_on one.seen two.seen three.seen h.begins g.begins;
}

pub follows_itself : (r : Reading) → Follows r r
follows_itself r = record { later = later_itself r.pass; start = refl; tag = refl; count = refl; unit = refl }

pub follows_on : (one two three : Reading) → Follows one two → Follows two three → Follows one three
follows_on one two three h g = record {
  later = later_on one.pass two.pass three.pass h.later g.later;
  start = g.start ∙ h.start;
  tag = g.tag ∙ h.tag;
  count = g.count ∙ h.count;
  unit = g.unit ∙ h.unit;
}
