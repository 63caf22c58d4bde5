-- A legal story leads to later states alone.
use Rattle.std.proofs.Common.{◌≡◌, refl, sym, subst, ◌∙◌, ℕ, ◌≤◌, true, Some, List, ◌++◌, arith}
use Rattle.cc_names.specs.declared.steps.StoryStep.{StoryStep}
use Rattle.legal_history.specs.Builds.Active.{Build, build_of, is_outcome, came_to}
use Rattle.legal_history.specs.Stories.Growth.{Continues, GoesLater, StillBuilds}
use Rattle.legal_history.specs.Stories.States.{State, done_of, start}
use Rattle.legal_history.specs.Stories.Steps.{after, state_from, state_of}
use Rattle.legal_history.specs.Stories.Lawful.{Legal, LegalFrom}
use Rattle.legal_history.proofs.Stories.Prefixes.{rest_is_legal, state_goes_on}
use Rattle.legal_history.proofs.Stories.Goes.{continues_itself}
use Rattle.legal_history.proofs.Stories.LaterSteps.{step_later}
use Rattle.legal_history.proofs.Stories.Along.{along}

later_itself : (s : State) → GoesLater s s
later_itself s = record {
  number = omega arith;
  phase = λ same. refl;
  moment = λ same. refl;
  done = λ same lane. omega arith;
  builds = λ same lane build is idle. record { build = build; is = is; on = continues_itself build };
}

-- an outcome later on is one still
outcome_still : (a b : Build) (n : ℕ) → Continues a b → is_outcome (came_to a n) ≡ true → is_outcome (came_to b n) ≡ true
outcome_still a b n h e = subst (λ came. is_outcome came ≡ true) (sym (h.outcomes n e)) e

continues_on : (a b c : Build) → Continues a b → Continues b c → Continues a c
continues_on a b c h g = record {
  tag = g.tag ∙ h.tag;
  view = g.view ∙ h.view;
  rows = g.rows ∙ h.rows;
  own_only = g.own_only ∙ h.own_only;
  rebuild = g.rebuild ∙ h.rebuild;
  units = g.units ∙ h.units;
  outcomes = λ n e. g.outcomes n (outcome_still a b n h e) ∙ h.outcomes n e;
  begun = λ n e. g.begun n (h.begun n e);
}

-- a number between two that are the same is that one
between_first : (a b c : ℕ) → a ≤ b → b ≤ c → c ≡ a → b ≡ a
between_first a b c low high same = omega arith

between_last : (a b c : ℕ) → a ≤ b → b ≤ c → c ≡ a → c ≡ b
between_last a b c low high same = omega arith

at_most_on : (a b c : ℕ) → a ≤ b → b ≤ c → a ≤ c
at_most_on a b c low high = omega arith

later_on : (a b c : State) → GoesLater a b → GoesLater b c → GoesLater a c
later_on a b c h g = record {
  number = at_most_on a.number b.number c.number h.number g.number;
  phase = λ same. g.phase (second same) ∙ h.phase (first same);
  moment = λ same. g.moment (second same) ∙ h.moment (first same);
  done = λ same lane. at_most_on (done_of a.done lane) (done_of b.done lane) (done_of c.done lane) (h.done (first same) lane)
      (g.done (second same) lane);
  builds = λ same lane build is idle. on_again lane build (first same) (second same) is (h.done (first same) lane)
      (g.done (second same) lane) idle;
}
  where
    first : c.number ≡ a.number → b.number ≡ a.number
    first same = between_first a.number b.number c.number h.number g.number same

    second : c.number ≡ a.number → c.number ≡ b.number
    second same = between_last a.number b.number c.number h.number g.number same

    on_again : (lane : ℕ) (build : Build) → b.number ≡ a.number → c.number ≡ b.number → build_of a.active lane ≡ Some build →
        done_of a.done lane ≤ done_of b.done lane → done_of b.done lane ≤ done_of c.done lane
        → done_of c.done lane ≡ done_of a.done lane →
        StillBuilds build (build_of c.active lane)
    on_again lane build one two is low high idle =
        let old = h.builds one lane build is (between_first (done_of a.done lane) (done_of b.done lane) (done_of c.done lane) low
        high idle) in
        let new = g.builds two lane old.build old.is (between_last (done_of a.done lane) (done_of b.done lane)
        (done_of c.done lane) low high idle) in
        record { build = new.build; is = new.is; on = continues_on build old.build new.build old.on new.on }

later_from : (s : State) (story : List StoryStep) → LegalFrom s story → GoesLater s (state_from s story)
later_from s story legal = along (GoesLater s) (λ t x lawful so. later_on s t (after t x) so (step_later t x lawful)) s story legal
    (later_itself s)

pub story_later : (prefix rest : List StoryStep) → Legal (prefix ++ rest)
    → GoesLater (state_of prefix) (state_of (prefix ++ rest))
story_later prefix rest legal =
    subst (GoesLater (state_of prefix)) (sym (state_goes_on start prefix rest))
    (later_from (state_of prefix) rest (rest_is_legal start prefix rest legal))
