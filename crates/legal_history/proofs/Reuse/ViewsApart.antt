-- No two active builds are of one view.
use Rattle.std.proofs.Common.{◌≡◌, refl, ap, sym, ◌∙◌, ℕ, Bool, true, false, cond, ◌==◌, Option, Some, None, Result, Ok, List}
use Rattle.std.proofs.Common.{subst}
use Rattle.std.specs.Ordering.{nat_cmp}
use Rattle.std.specs.FinMap.Entries.{put}
use Rattle.cc_names.specs.declared.commands.Command.TheVariants as commands
use Rattle.cc_names.specs.declared.refusals.Refusal.{Refusal}
use Rattle.cc_names.specs.declared.rows.Tag.{Tag}
use Rattle.cc_names.specs.declared.units.Unit.{Unit}
use Rattle.cc_names.proofs.Common.{same_number, same_inside}
use Rattle.make_grammar.specs.Graphs.{units}
use Rattle.base_model.specs.Rows.{size}
use Rattle.legal_history.specs.Builds.Active.{Active, Build, Came, build_of, building}
use Rattle.legal_history.specs.Commands.Decisions.{Scene, Begins, first_refusal}
use Rattle.base_model.specs.Texts.{texts}
use Rattle.legal_history.specs.Commands.Lines.{decision}
use Rattle.legal_history.specs.Commands.ObjectLines.{clearmake_tests, build_unless}
use Rattle.legal_history.specs.Stories.States.{State, scene, decision_for}
use Rattle.legal_history.specs.Stories.Steps.{build_begun_by, build_asked, with_outcome, with_came, with_build, without_build}
use Rattle.legal_history.specs.Stories.Steps.{faulted_in}
use Rattle.base_model.proofs.Tables.{find_after_put}
use Rattle.legal_history.proofs.Decisions.Passed.{all_pass}
use Rattle.legal_history.proofs.Builds.AllBuilds.{Each, each_noted, each_without, each_faulted, builds_there}
use Rattle.legal_history.proofs.Decisions.DecidedSays.{was_idle}
use Rattle.legal_history.proofs.Stories.DecidedSteps.{decided_of, says_of, begun_is}

pub record ViewsApart (active : Active) : Type 0 where
  pub one_lane : (lane other : ℕ) (one two : Build) → build_of active lane ≡ Some one → build_of active other ≡ Some two
      → one.view ≡ two.view → lane ≡ other

-- a build of the lane was active before, in the same view
pub record WasActive (active : Active) (lane : ℕ) (build : Build) : Type 0 where
  pub before : Build
  pub is : build_of active lane ≡ Some before
  pub same : before.view ≡ build.view

apart_after : (old new : Active) → Each (WasActive old) new → ViewsApart old → ViewsApart new
apart_after old new were h = record {
  one_lane = λ lane other one two is_one is_two same.
      let a = were.holds lane one is_one in
      let b = were.holds other two is_two in
      h.one_lane lane other a.before b.before a.is b.is (a.same ∙ same ∙ sym b.same);
}

all_were : (active : Active) → Each (WasActive active) active
all_were active = record { holds = λ lane build is. record { before = build; is = is; same = refl } }

same_view : (build : Build) (o : Option ℕ) (came : Came) → build.view ≡ (with_came build o came).view
same_view build None came = refl
same_view build (Some n) came = refl

pub apart_noted : (active : Active) (lane : ℕ) (unit : Build → Option ℕ) (came : Came) → ViewsApart active
    → ViewsApart (with_outcome active lane unit came)
apart_noted active lane unit came h =
    apart_after active (with_outcome active lane unit came)
    (each_noted (WasActive active) active lane unit came (all_were active)
    (λ build is. record { before = build; is = is; same = same_view build (unit build) came })) h

pub apart_without : (active : Active) (lane : ℕ) → ViewsApart active → ViewsApart (without_build active lane)
apart_without active lane h =
    apart_after active (without_build active lane) (each_without (WasActive active) (WasActive active) active lane
    (all_were active) (λ other build apart was. was)) h

pub apart_faulted : (active : Active) (lane : ℕ) (o : Option Build) → ((build : Build) → o ≡ Some build
    → build_of active lane ≡ Some build) → ViewsApart active → ViewsApart (faulted_in active lane o)
apart_faulted active lane o of_active h =
    apart_after active (faulted_in active lane o) (each_faulted (WasActive active) active lane o (all_were active)
    (λ build is. record { before = build; is = of_active build is; same = refl })) h

-- one more build, in a view in which nothing builds
apart_put : (active : Active) (lane : ℕ) (new : Build) → building active new.view ≡ None → ViewsApart active
    → ViewsApart (put nat_cmp lane new active)
apart_put active lane new idle h = record {
  one_lane = λ a b one two is_one is_two same.
      by a b one two (a == lane) (b == lane) refl refl (sym (find_after_put a lane new active)
      ∙ is_one) (sym (find_after_put b lane new active) ∙ is_two) same;
}
  where
    clash : (k : ℕ) (build : Build) → build_of active k ≡ Some build → build.view ≡ new.view → ⊥
    clash k build is same = builds_there active k build is (ap (building active) same ∙ idle)

    by : (a b : ℕ) (one two : Build) (s t : Bool) → (a == lane) ≡ s → (b == lane) ≡ t
        → cond s (Some new) (build_of active a) ≡ Some one → cond t (Some new) (build_of active b) ≡ Some two
        → one.view ≡ two.view → a ≡ b
    by a b one two true true at_a at_b is_one is_two same = same_number a lane at_a ∙ sym (same_number b lane at_b)
    by a b one two true false at_a at_b is_one is_two same = absurd (clash b two is_two (sym same
        ∙ ap (λ (x : Build). x.view) (sym (same_inside is_one))))
    by a b one two false true at_a at_b is_one is_two same = absurd (clash a one is_one (same
        ∙ ap (λ (x : Build). x.view) (sym (same_inside is_two))))
    by a b one two false false at_a at_b is_one is_two same = h.one_lane a b one two is_one is_two same

pub apart_begun : (active : Active) (lane : ℕ) (o : Option Build) → ((build : Build) → o ≡ Some build
    → building active build.view ≡ None) → ViewsApart active → ViewsApart (with_build active lane o)
apart_begun active lane None idle h = h
apart_begun active lane (Some build) idle h = apart_put active lane build (idle build refl) h

-- a build begins in a view in which nothing builds
clearmake_idle : (s : Scene) (v : List ℕ) (us : List Unit) (read : Result (List Unit) Refusal)
    → build_unless s (first_refusal (clearmake_tests s v)) read ≡ Ok (Begins us) → building s.active v ≡ None
clearmake_idle s v us read h = by (first_refusal (clearmake_tests s v)) refl h
  where
    by : (o : Option Refusal) → first_refusal (clearmake_tests s v) ≡ o → build_unless s o read ≡ Ok (Begins us)
        → building s.active v ≡ None
    by (Some refusal) passes h = absurd (cc)
    by None passes h = was_idle (building s.active v) (all_pass (clearmake_tests s v) passes).1.0

pub begun_idle : (s : State) (tag : Tag) (us : List Unit) → decision_for s tag ≡ Some (Ok (Begins us)) → (build : Build)
    → build_begun_by s tag ≡ Some build → building s.active build.view ≡ None
begun_idle s tag us h build is =
    let d = decided_of s tag (Begins us) h in
    let says = says_of s tag (Begins us) d in
    let made : build_asked tag (size s.base) us says.asked ≡ build = same_inside (sym (begun_is s tag us h) ∙ is) in
    let of_command : decision (scene s) (commands.Build says.asked) ≡ Ok (Begins us) = ap (decision (scene s)) (sym says.is)
    ∙ d.is in
    subst (λ (x : Build). building s.active x.view ≡ None) made
    (clearmake_idle (scene s) says.asked.view us (units (texts s.base says.asked.view) says.asked.file says.asked.macros
    says.asked.goals) of_command)
