-- What is known where a build goes on by a lawful step of a legal story.
use Rattle.std.proofs.Common.{◌≡◌, ap, sym, subst, ◌∙◌, ℕ, true, Some, List, [], ◌∷◌}
use Rattle.std.specs.Prelude.{is_some}
use Rattle.cc_names.specs.declared.steps.StoryStep.{StoryStep}
use Rattle.cc_names.specs.declared.units.Unit.{Unit}
use Rattle.cc_names.proofs.Common.{same_inside}
use Rattle.base_model.specs.Rows.{Base, first_rows, Extends}
use Rattle.legal_history.specs.Builds.Active.{Build, build_of, came_to, unit_at}
use Rattle.legal_history.specs.Builds.Consistency.{IsReady, IsConsistent}
use Rattle.legal_history.specs.Stories.Growth.{Continues, StaysTheBuild, Over, On}
use Rattle.legal_history.specs.Stories.States.{State, start}
use Rattle.legal_history.specs.Stories.Steps.{after, state_of}
use Rattle.legal_history.specs.Stories.Lawful.{Lawful, Legal}
use Rattle.legal_history.proofs.Stories.Prefixes.{first_opens}
use Rattle.legal_history.proofs.Stories.Goes.{step_goes}
use Rattle.legal_history.proofs.Stories.Grows.{is_opened, step_extends}
use Rattle.base_model.proofs.Stay.{first_rows_stay_all}
use Rattle.legal_history.proofs.Stories.ConsistentStories.{build_is_consistent}

-- a consistent build goes on while its base grows, and a unit of it is ready
pub record GoesOnSo (b later : Base) (old new : Build) (unit : Unit) : Type 0 where
  pub grown : Extends b later
  pub on : Continues old new
  pub consistent : IsConsistent b old
  pub ready : IsReady old unit

-- the reference rows stay
pub rows_stay : (b later : Base) (old new : Build) (unit : Unit) → GoesOnSo b later old new unit
    → first_rows new.rows later ≡ first_rows old.rows b
rows_stay b later old new unit h = ap (λ t. first_rows t later) h.on.rows ∙ ap (first_rows old.rows) h.grown.is
    ∙ first_rows_stay_all h.grown.more b old.rows h.consistent.rows

-- it does where one of its units was started
pub goes_on_so : (story : List StoryStep) (x : StoryStep) (lane : ℕ) (old new : Build) (n : ℕ) (unit : Unit) → Legal story
    → Lawful (state_of story) x → build_of (state_of story).active lane ≡ Some old →
    build_of (after (state_of story) x).active lane ≡ Some new → unit_at old n ≡ Some unit → is_some (came_to old n) ≡ true
    → GoesOnSo (state_of story).base (after (state_of story) x).base old new unit
goes_on_so [] x lane old new n unit legal e is later of_n came = absurd (cc)
goes_on_so (first ∷ story) x lane old new n unit legal e is later of_n came = by (step_goes s x lane old is e)
  where
    s : State
    s = state_of (first ∷ story)

    consistent : IsConsistent s.base old
    consistent = build_is_consistent (first ∷ story) lane old legal is

    by : StaysTheBuild old (build_of (after s x).active lane) → GoesOnSo s.base (after s x).base old new unit
    by (Over none) = absurd (cc)
    by (On on is_on c) = record {
      grown = step_extends s x (is_opened (after start first) story (first_opens first legal.0)) e;
      on = subst (Continues old) (same_inside (sym is_on ∙ later)) c;
      consistent = consistent;
      ready = consistent.ready n unit of_n came;
    }
