-- Whether a command of lanes failed, lane by lane.
use Rattle.std.proofs.Common.{◌≡◌, ◌∙◌, ℕ, ◌+◌, ◌<◌, Bool, ◌||◌, List, [], drop, length, ap}
use Rattle.std.specs.List.{list_any}
use Rattle.std.proofs.lemmas.List.{at_drop_more}
use Rattle.cc_names.specs.declared.commands.Lane.{Lane}
use Rattle.session_run.specs.Story.Rendered.{Replies, is_failure, lanes_fail}

no_lane : Lane
no_lane = record { name = []; commands = [] }

-- a command of the lanes after so many failed, where one of the first of them did or one of a later one
pub first_fails : (lanes : List Lane) (replies : Replies) (i : ℕ) (failed : Bool) → i < length lanes
    → list_any is_failure (replies (i + 1)) ≡ failed
    → lanes_fail (i + 1) (drop i lanes) replies ≡ (failed || lanes_fail (i + 1 + 1) (drop (i + 1) lanes) replies)
first_fails lanes replies i failed within e =
    at_drop_more (λ v. lanes_fail (i + 1) v replies) lanes i no_lane within
    ∙ ap (λ b. b || lanes_fail (i + 1 + 1) (drop (i + 1) lanes) replies) e
