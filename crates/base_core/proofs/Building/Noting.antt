-- What a core keeps after a step of a build that names no row.
use Rattle.std.proofs.Common.{◌≡◌, ℕ, ◌≤◌, true, Some, List, ◌++◌, length, subst, sym, ap, ◌∙◌, arith}
use Rattle.std.specs.Ordering.{nat_cmp}
use Rattle.std.specs.FinMap.Entries.{put}
use Rattle.cc_names.specs.declared.steps.StoryStep.{StoryStep}
use Rattle.legal_history.specs.Builds.Active.{Build, Came, build_of}
use Rattle.legal_history.specs.Stories.States.{State}
use Rattle.legal_history.specs.Stories.Steps.{after, state_of, with_came}
use Rattle.legal_history.specs.Stories.Lawful.{Lawful}
use Rattle.base_core.specs.Calls.Building.{BuildInvariant}
use Rattle.legal_history.specs.Stories.Quiet.{is_quiet}
use Rattle.base_core.specs.Keeping.CoreInvariants.{CoreInvariant}
use Rattle.base_core.specs.Keeping.Lanes.{LaneState, put_build}
use Rattle.story_log.specs.Logging.Logs.{Logged, with_step}
use Rattle.cc_names.specs.Formed.{IsFormed}
use Rattle.base_core.specs.Story.Replying.{replies_after, replies_of}
use Rattle.base_core.proofs.Keeping.PreservedBuilds.{same_rows}
use Rattle.base_core.proofs.Keeping.PreservedSteps.{preserved_put}
use Rattle.story_log.proofs.Story.Naming.{names_none}
use Rattle.base_core.proofs.Keeping.Reserving.{rows_for}

-- a build with what one of its units has come to is kept as it was
pub noted_preserved : (s : State) (lane : ℕ) (build : Build) (n : ℕ) (came : Came) → BuildInvariant s lane build
    → BuildInvariant s lane (with_came build (Some n) came)
noted_preserved s lane build n came h = record {
  tag = h.tag;
  waits = h.waits;
  from = h.from;
  rows = h.rows;
  formed = record { named = h.formed.named; units = h.formed.units; few = h.formed.few };
  faultless = h.faultless;
}

-- what is kept after a step by which a unit of a lane's build comes to something, without a row
pub preserved_note : (log : Logged) (lanes : List LaneState) (now : ℕ) (x : StoryStep) (lane n : ℕ) (build : Build)
    (came : Came) → is_quiet x ≡ true → CoreInvariant log lanes now → 1 ≤ lane → lane ≤ length lanes
    → build_of (state_of log.story).active lane ≡ Some build
    → Lawful (state_of log.story) x → after (state_of log.story) x ≡ record (state_of log.story)
    { active = put nat_cmp lane (with_came build (Some n) came) (state_of log.story).active }
    → ((l : ℕ) → replies_after (state_of log.story) x (replies_of log.story) l ≡ replies_of log.story l)
    → CoreInvariant (with_step log x) (put_build lanes lane (Some (with_came build (Some n) came))) now
preserved_note log lanes now x lane n build came quiet h low high is lawful leaves said =
    preserved_put log lanes now x log.base log.ghost_state log.tail lane (with_came build (Some n) came) h low high
    (record { lawful = lawful; names = names_none IsFormed x quiet; leads = ap (λ t. t.base) leaves ∙ h.story.base })
    (record {
      same = record { phase = ap (λ t. t.phase) leaves; number = ap (λ t. t.number) leaves; moment = ap (λ t. t.moment) leaves };
      rows = same_rows s (after s x) (ap (λ t. t.base) leaves);
      active = ap (λ t. t.active) leaves;
      done = ap (λ t. t.done) leaves;
      said = said;
      kept = noted_preserved s lane build n came (h.builds.kept lane build is);
      room = omega (arith, h.builds.reserves, ap rows_for is);
    })
  where
    s : State
    s = state_of log.story
