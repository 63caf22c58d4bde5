-- A build that is active still is the same build, gone on; so what its units came to stays, and what they see.
use Rattle.std.proofs.Common.{◌≡◌, ap, sym, subst, ◌∙◌, ℕ, true, Some, List, ◌++◌}
use Rattle.std.specs.Prelude.{is_some}
use Rattle.cc_names.specs.declared.rows.Tag.{Tag}
use Rattle.cc_names.specs.declared.steps.StoryStep.{StoryStep}
use Rattle.cc_names.specs.declared.units.Unit.{Unit}
use Rattle.cc_names.proofs.Common.{same_before, same_inside}
use Rattle.legal_history.specs.Builds.Active.{Build, came_to, unit_at}
use Rattle.legal_history.specs.Builds.Consistency.{IsConsistent}
use Rattle.legal_history.specs.Stories.Growth.{Continues}
use Rattle.legal_history.specs.Stories.States.{State, done_of, next_tag, start}
use Rattle.legal_history.specs.Stories.Steps.{state_of}
use Rattle.legal_history.specs.Laws.LaterLaws.{IsStillActive}
use Rattle.legal_history.proofs.Builds.CommandSteps.{build_commanded}
use Rattle.legal_history.proofs.Stories.Prefixes.{prefix_is_legal}
use Rattle.legal_history.proofs.Stories.GoingOn.{GoesOnSo}
use Rattle.legal_history.proofs.Stories.Grows.{base_grows}
use Rattle.legal_history.proofs.Stories.LaterStories.{story_later}
use Rattle.legal_history.proofs.Stories.ConsistentStories.{build_is_consistent}

-- builds of one command are one build
pub same_build : (prefix rest : List StoryStep) (lane : ℕ) (old new : Build) → IsStillActive prefix rest lane old new
    → Continues old new
same_build prefix rest lane old new h =
    let s : State = state_of prefix in
    let t : State = state_of (prefix ++ rest) in
    let one = (build_commanded prefix lane old (prefix_is_legal start prefix rest h.legal) h.before).tag in
    let two = (build_commanded (prefix ++ rest) lane new h.legal h.now).tag in
    let tags : next_tag t lane ≡ next_tag s lane = sym two ∙ h.same ∙ one in
    let number : t.number ≡ s.number = ap (λ (tag : Tag). tag.phase) tags in
    let idle = same_before (done_of t.done lane) (done_of s.done lane) (ap (λ (tag : Tag). tag.command) tags) in
    let still = (story_later prefix rest h.legal).builds number lane old h.before idle in
    subst (Continues old) (same_inside (sym still.is ∙ h.now)) still.on

-- a build that goes on while its base grows, where one of its units was started
pub goes_on_later : (prefix rest : List StoryStep) (lane : ℕ) (old new : Build) (n : ℕ) (unit : Unit)
    → IsStillActive prefix rest lane old new → unit_at old n ≡ Some unit → is_some (came_to old n) ≡ true →
    GoesOnSo (state_of prefix).base (state_of (prefix ++ rest)).base old new unit
goes_on_later prefix rest lane old new n unit h of_n came =
    let consistent : IsConsistent (state_of prefix).base old = build_is_consistent prefix lane old
    (prefix_is_legal start prefix rest h.legal) h.before in
    record {
      grown = base_grows prefix rest h.legal;
      on = same_build prefix rest lane old new h;
      consistent = consistent;
      ready = consistent.ready n unit of_n came;
    }
