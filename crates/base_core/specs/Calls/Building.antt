-- What a core keeps of the active builds of its lanes.
use Rattle.std.specs.Prelude.{◌≡◌, ℕ, ◌+◌, ◌≤◌, false, Some, Result, Ok, Err, length}
use Rattle.cc_names.specs.declared.memory.Or.{Or}
use Rattle.cc_names.specs.declared.refusals.Refusal.{Refusal}
use Rattle.cc_names.specs.declared.rows.Tag.{Tag}
use Rattle.cc_names.specs.declared.occasions.Next.TheVariants as nexts
use Rattle.build_core.specs.BuildForms.{IsBuildFormed}
use Rattle.base_model.specs.Rows.{size}
use Rattle.legal_history.specs.Builds.Active.{Build, rows_reserved}
use Rattle.legal_history.specs.Commands.Decisions.{Begins}
use Rattle.base_model.specs.Fits.{row_limit}
use Rattle.legal_history.specs.Stories.States.{State, decision_for, next_tag}
use Rattle.legal_history.specs.Stories.Steps.{build_begun_by}
use Rattle.base_core.specs.Calls.Acting.{IsNextTag, RefusalWas}
use Rattle.clearmake.specs.Nexts.{next_of_lane}

-- The active build of a lane: it is that of the lane's next command, and the disk has not failed under it.
pub record BuildInvariant (s : State) (lane : ℕ) (build : Build) : Type 0 where
  pub tag : build.tag ≡ next_tag s lane
  pub waits : next_of_lane s lane ≡ nexts.Build (next_tag s lane)
  pub from : 1 ≤ build.rows
  pub rows : build.rows ≤ size s.base
  pub formed : IsBuildFormed build
  pub faultless : build.faulted ≡ false

-- the build that was decided to begin for the next command of its lane, and there is room for its units
pub record IsNextBuild (s : State) (build : Build) : Type 0 where
  pub of_next : IsNextTag s build.tag
  pub made : decision_for s build.tag ≡ Some (Ok (Begins build.units))
  pub begins : build_begun_by s build.tag ≡ Some build
  pub at_rows : build.rows ≡ size s.base
  pub kept : BuildInvariant s build.tag.lane build
  pub room : rows_reserved s.active + length build.units ≤ row_limit

-- what was decided for the next command of a lane, which builds
abbrev pub PlansNext : State → Tag → Result Build (Or Refusal) → Type 0
PlansNext s tag (Ok build) = IsNextBuild s build × (build.tag ≡ tag)
PlansNext s tag (Err refusal) = RefusalWas s tag refusal
