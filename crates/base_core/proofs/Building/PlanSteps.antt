-- What is planned for a lane's next command, which builds, and how the story goes on where the build begins.
use Rattle.std.proofs.Common.{◌≡◌, ℕ, ◌+◌, ◌≤◌, false, Option, Some, None, Result, Ok, Err, List, length, refl, ap, ap₂, sym}
use Rattle.std.proofs.Common.{subst, ◌∙◌, arith}
use Rattle.std.specs.Prelude.{IfOk, option_and_then, option_map}
use Rattle.cc_names.specs.Commands.{lane_at}
use Rattle.cc_names.specs.declared.commands.Clearmake.{Clearmake}
use Rattle.cc_names.specs.declared.commands.Command.TheVariants as commands
use Rattle.cc_names.specs.declared.occasions.Next.TheVariants as nexts
use Rattle.cc_names.specs.declared.memory.Or.{Or}
use Rattle.cc_names.specs.declared.memory.Or.TheVariants.{NoMemory, Is}
use Rattle.cc_names.specs.declared.refusals.Refusal.{Refusal}
use Rattle.cc_names.specs.declared.rows.Tag.{Tag}
use Rattle.cc_names.specs.declared.units.Unit.{Unit}
use Rattle.build_core.specs.BuildForms.{IsBuildFormed}
use Rattle.build_core.specs.Plans.{Meets, Plans}
use Rattle.base_model.specs.Rows.{Base, size}
use Rattle.legal_history.specs.Builds.Active.{Build, build_of, building, rows_reserved}
use Rattle.legal_history.specs.Commands.Decisions.{Scene, Begins}
use Rattle.base_model.specs.Fits.{row_limit}
use Rattle.legal_history.specs.Commands.Lines.{decision}
use Rattle.legal_history.specs.Stories.Commanded.{next_command_of}
use Rattle.legal_history.specs.Stories.States.{State, scene, done_of, command_behind, next_tag, next_command, decision_for}
use Rattle.legal_history.specs.Stories.Steps.{build_begun_by, build_asked, new_build, units_begun}
use Rattle.base_core.specs.Calls.Building.{BuildInvariant, PlansNext}
use Rattle.clearmake.specs.Nexts.{next_of_lane}
use Rattle.base_core.proofs.Acting.NextCommands.{in_phase, next_is}

-- what the build of a command is
pub record IsNew (tag : Tag) (rows : ℕ) (build : Build) : Type 0 where
  pub tagged : build.tag ≡ tag
  pub at_rows : build.rows ≡ rows
  pub faultless : build.faulted ≡ false

new_is : (tag : Tag) (rows : ℕ) (units : List Unit) (asked : Clearmake) (build : Build) → build ≡ build_asked tag rows units asked
    → IsNew tag rows build
new_is tag rows units asked build e = record {
  tagged = ap (λ (b : Build). b.tag) e;
  at_rows = ap (λ (b : Build). b.rows) e;
  faultless = ap (λ (b : Build). b.faulted) e;
}

-- what was planned, where the tag is that of the lane's next command
planned : (s : State) (lane : ℕ) (asked : Clearmake) (result : Result Build (Or Refusal)) → build_of s.active lane ≡ None
    → next_of_lane s lane ≡ nexts.Build (next_tag s lane) → option_and_then (command_behind (done_of s.done lane))
    (lane_at s.phase lane) ≡ Some (commands.Build asked) → Plans (next_tag s lane) (scene s) asked result
    → IfOk result IsBuildFormed → IfOk result (λ build. size s.base + rows_reserved s.active + length build.units ≤ row_limit)
    → PlansNext s (next_tag s lane) result
planned s lane asked (Ok build) free waiting e plans formed room =
    let within = in_phase s.phase lane (done_of s.done lane) (commands.Build asked) e in
    let next : next_command s (next_tag s lane) ≡ Some (commands.Build asked) = next_is s lane (commands.Build asked) free e in
    let made : decision_for s (next_tag s lane) ≡ Some (Ok (Begins build.units)) = ap (option_map (decision (scene s))) next
    ∙ ap Some plans.0 in
    let begins : build_begun_by s (next_tag s lane) ≡ Some build = ap₂
    (λ d c. option_and_then (new_build (next_tag s lane) (size s.base) (units_begun d)) c) made next
    ∙ ap Some (sym plans.1) in
    let new = new_is (next_tag s lane) (size s.base) build.units asked build plans.1 in
    let at_lane : build.tag.lane ≡ lane = ap (λ t. t.lane) new.tagged in
    let kept : BuildInvariant s lane build = record {
      tag = new.tagged;
      waits = waiting;
      from = omega (arith, new.at_rows);
      rows = omega (arith, new.at_rows);
      formed = formed;
      faultless = new.faultless;
    } in (
      record {
        of_next = record {
          next = new.tagged ∙ ap (next_tag s) (sym at_lane);
          from = omega (arith, within.0, at_lane);
          upto = omega (arith, within.1, at_lane);
        };
        made = ap (decision_for s) new.tagged ∙ made;
        begins = ap (build_begun_by s) new.tagged ∙ begins;
        at_rows = new.at_rows;
        kept = subst (λ l. BuildInvariant s l build) (sym at_lane) kept;
        room = omega (arith, room);
      },
      new.tagged,
    )
planned s lane asked (Err NoMemory) free waiting e plans formed room = tt
planned s lane asked (Err (Is refusal)) free waiting e plans formed room =
    let within = in_phase s.phase lane (done_of s.done lane) (commands.Build asked) e in
    record {
      of_next = record { next = refl; from = within.0; upto = within.1 };
      made = ap (option_map (decision (scene s))) (next_is s lane (commands.Build asked) free e) ∙ ap Some plans;
    }

-- what is planned for a lane's next command
pub plans_so : (s : State) (lane taken : ℕ) (tag : Tag) (asked : Clearmake) (view : List ℕ) (rows : Base) (busy : Option Tag)
    (result : Result Build (Or Refusal)) → next_of_lane s lane ≡ nexts.Build (next_tag s lane) → build_of s.active lane ≡ None
    → next_command_of s lane ≡ Some (commands.Build asked) → tag ≡ next_tag s lane
    → rows ≡ s.base → busy ≡ building s.active view → taken ≡ size s.base + rows_reserved s.active
    → ((scene : Scene) → Meets scene rows view busy taken → Plans tag scene asked result)
    → IfOk result IsBuildFormed → IfOk result (λ build. taken + length build.units ≤ row_limit)
    → PlansNext s (next_tag s lane) result
plans_so s lane taken tag asked view rows busy result waiting free e tagged rows_are is count plans formed room =
    planned s lane asked result free waiting e
    (subst (λ t. Plans t (scene s) asked result) tagged (plans (scene s)
    (record { base = sym rows_are; busy = sym is; taken = sym count })))
    formed
    (subst (λ n. IfOk result (λ build. n + length build.units ≤ row_limit)) count room)
