-- What a core keeps after the begin of a build.
use Rattle.std.proofs.Common.{◌≡◌, ℕ, ◌+◌, ◌≤◌, Some, Ok, List, length, refl, ap, arith}
use Rattle.std.proofs.lemmas.List.{append-nil}
use Rattle.cc_names.specs.declared.rows.Tag.{Tag}
use Rattle.cc_names.specs.declared.steps.StoryStep.{StoryStep}
use Rattle.cc_names.specs.declared.steps.StoryStep.TheVariants as story_steps
use Rattle.base_model.specs.Rows.{size}
use Rattle.legal_history.specs.Builds.Active.{Build, rows_reserved}
use Rattle.legal_history.specs.Commands.Decisions.{Begins}
use Rattle.base_model.specs.Fits.{row_limit}
use Rattle.legal_history.specs.Stories.States.{State, decision_for}
use Rattle.legal_history.specs.Stories.Steps.{after, build_begun_by, state_of, with_build}
use Rattle.base_core.specs.Calls.Building.{BuildInvariant}
use Rattle.base_core.specs.Keeping.CoreInvariants.{CoreInvariant}
use Rattle.base_core.specs.Keeping.Lanes.{LaneState, put_build}
use Rattle.story_log.specs.Logging.Logs.{Logged, with_step}
use Rattle.base_core.specs.Story.Replying.{replies_of}
use Rattle.base_core.proofs.Keeping.Idle.{decided_is_free}
use Rattle.base_core.proofs.Keeping.PreservedBuilds.{same_rows}
use Rattle.base_core.proofs.Keeping.PreservedSteps.{preserved_put}
use Rattle.base_core.proofs.Keeping.Reserving.{rows_for}

-- what is kept after the begin of a build that was decided
pub preserved_begin : (log : Logged) (lanes : List LaneState) (now : ℕ) (tag : Tag) (build : Build) → CoreInvariant log lanes now
    → 1 ≤ tag.lane → tag.lane ≤ length lanes → decision_for (state_of log.story) tag ≡ Some (Ok (Begins build.units))
    → build_begun_by (state_of log.story) tag ≡ Some build
    → BuildInvariant (state_of log.story) tag.lane build → rows_reserved (state_of log.story).active + length build.units
    ≤ row_limit
    → CoreInvariant (with_step log (story_steps.Begin tag (size (state_of log.story).base) (length build.units)))
    (put_build lanes tag.lane (Some build)) now
preserved_begin log lanes now tag build h low high made begins is room =
    preserved_put log lanes now x log.base log.ghost_state log.tail tag.lane build h low high
    (record {
      lawful = record { units = build.units; chosen = made; at_rows = refl; of_units = refl };
      names = tt;
      leads = h.story.base;
    })
    (record {
      same = record { phase = refl; number = refl; moment = refl };
      rows = same_rows s (after s x) refl;
      active = ap (with_build s.active tag.lane) begins;
      done = refl;
      said = λ l. append-nil (replies_of log.story l);
      kept = is;
      room = omega (arith, room, ap rows_for (decided_is_free s tag (Ok (Begins build.units)) made));
    })
  where
    s : State
    s = state_of log.story

    x : StoryStep
    x = story_steps.Begin tag (size s.base) (length build.units)
