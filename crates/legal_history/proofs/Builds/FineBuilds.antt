-- An active build that is consistent, in a view that exists, stays so when a row is added or a unit comes to something.
use Rattle.std.proofs.Common.{◌≡◌, refl, ap, sym, subst, ◌∙◌, inl, inr, ℕ, Bool, true, false, Option, Some, None, ◌∷◌}
use Rattle.std.proofs.lemmas.Slice.Eq.{bytes_eq-Decides}
use Rattle.std.specs.Prelude.{is_some, bytes_eq}
use Rattle.cc_names.specs.Formed.{Plain}
use Rattle.cc_names.specs.Last.{Ends, Sets, only_if, value_after}
use Rattle.cc_names.specs.declared.rows.Deed.{Deed}
use Rattle.cc_names.specs.declared.rows.Deed.TheVariants as deeds
use Rattle.cc_names.specs.declared.rows.Tag.{Tag}
use Rattle.cc_names.specs.declared.units.Unit.{Unit}
use Rattle.cc_names.proofs.Common.{same_inside}
use Rattle.base_model.specs.Rows.{Base, size}
use Rattle.legal_history.specs.Builds.Active.{Build, Came, build_of, building, came_to, is_outcome, unit_at}
use Rattle.base_model.specs.Conditions.{exists}
use Rattle.legal_history.specs.Stories.States.{State}
use Rattle.legal_history.specs.Stories.Steps.{with_outcome, with_came}
use Rattle.legal_history.specs.Laws.FromNothing.{MayTake}
use Rattle.base_model.specs.Views.{view_row}
use Rattle.legal_history.specs.Builds.Consistency.{IsReady, IsConsistent}
use Rattle.legal_history.proofs.Stories.Goes.{of_lane}
use Rattle.legal_history.proofs.Builds.ConsistentStays.{KeepsConsistent, consistent_came, consistent_row}
use Rattle.legal_history.proofs.Builds.AllBuilds.{Each, each_noted, builds_there}
use Rattle.legal_history.proofs.Builds.ReadyUnits.{ready_by}
use Rattle.legal_history.proofs.Decisions.DecidedSays.{Idle}

-- a build is consistent, and its view exists
pub record IsFine (b : Base) (build : Build) : Type 0 where
  pub consistent : IsConsistent b build
  pub there : exists b build.view ≡ true

-- the view of an active build stays when a row is added
view_stays : (s : State) (tag : Tag) (moment : ℕ) (deed : Deed) (lane : ℕ) (build : Build) → Idle s.active deed
    → build_of s.active lane ≡ Some build →
    exists s.base build.view ≡ true → exists (record { tag = tag; moment = moment; deed = deed } ∷ s.base) build.view ≡ true
view_stays s tag moment (deeds.Mkview w) lane build spares is there = by (bytes_eq w build.view)
  where
    by : (t : Bool) → is_some (value_after (only_if t (Sets (size s.base))) (view_row s.base build.view)) ≡ true
    by true = refl
    by false = there
view_stays s tag moment (deeds.Rmview w) lane build spares is there = by (bytes_eq w build.view) refl
  where
    by : (t : Bool) → bytes_eq w build.view ≡ t → is_some (value_after (only_if t Ends) (view_row s.base build.view)) ≡ true
    by true same =
        let one : w ≡ build.view = (bytes_eq-Decides w build.view).0 same in
        absurd (builds_there s.active lane build is (subst (λ v. building s.active v ≡ None) one spares))
    by false other = there
view_stays s tag moment deed lane build spares is there = there

pub fine_stays : (s : State) (row : Plain) → Idle s.active row.deed → Each (λ lane. IsFine s.base) s.active
    → Each (λ lane. IsFine (row ∷ s.base)) s.active
fine_stays s row spares h = record {
  holds = λ lane build is. record {
    consistent = consistent_row row s.base build (h.holds lane build is).consistent;
    there = view_stays s row.tag row.moment row.deed lane build spares is (h.holds lane build is).there;
  };
}

-- a unit of the lane's build comes to something, and what holds of each build holds still where it holds of that one
pub each_waited : (P : Build → Type 0) (s : State) (tag : Tag) (n : ℕ) (build : Build) (number : Build → Option ℕ) (came : Came)
    → Each (λ lane. P) s.active → build_of s.active tag.lane ≡ Some build → number build ≡ Some n →
    P (with_came build (Some n) came) → Each (λ lane. P) (with_outcome s.active tag.lane number came)
each_waited P s tag n build number came h there place after = each_noted (λ lane. P) s.active tag.lane number came h own
  where
    own : (other : Build) → build_of s.active tag.lane ≡ Some other → P (with_came other (number other) came)
    own other is =
        let same : build ≡ other = same_inside (sym there ∙ is) in
        subst (λ x. P (with_came x (number x) came)) same (subst (λ k. P (with_came build k came)) (sym place) after)

-- so where it comes to what may stand
pub waited_fine : (s : State) (b : Base) (tag : Tag) (n : ℕ) (build : Build) (unit : Unit) (number : Build
    → Option ℕ) (came : Came) → Each (λ lane. IsFine b) s.active → build_of s.active tag.lane ≡ Some build → number build ≡ Some n
    →
    KeepsConsistent b build n unit came → Each (λ lane. IsFine b) (with_outcome s.active tag.lane number came)
waited_fine s b tag n build unit number came h there place may =
    let fine = h.holds tag.lane build there in
    each_waited (IsFine b) s tag n build number came h there place (record
    { consistent = consistent_came b build n unit came fine.consistent may; there = fine.there })

-- a unit that may take an object in place of a run is one of the lane's build and has no outcome yet; what it needs is over
pub record TakesFor (s : State) (tag : Tag) (n : ℕ) (build : Build) (unit : Unit) : Type 0 where
  pub there : build_of s.active tag.lane ≡ Some build
  pub is_unit : unit_at build n ≡ Some unit
  pub waits : is_outcome (came_to build n) ≡ false
  pub ready : IsConsistent s.base build → IsReady build unit

pub takes_for : (s : State) (tag : Tag) (n : ℕ) (build : Build) (unit : Unit) → MayTake s tag n build unit
    → TakesFor s tag n build unit
takes_for s tag n build unit (inl o) = record {
  there = of_lane s tag build o.waits.active;
  is_unit = o.waits.is_unit;
  waits = o.waits.waits;
  ready = λ consistent. ready_by build unit o.ready;
}
takes_for s tag n build unit (inr r) = record {
  there = of_lane s tag build r.waits.active;
  is_unit = r.waits.is_unit;
  waits = r.waits.waits;
  ready = λ consistent. consistent.ready n unit r.waits.is_unit (ap is_some r.started);
}
