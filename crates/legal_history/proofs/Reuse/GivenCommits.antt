-- A committed row keeps each object that an active build has given live and held by the build's view.
use Rattle.std.proofs.Common.{◌≡◌, refl, ap, sym, subst, ◌∙◌, ℕ, Bool, true, false, ◌&&◌, Some, Ok, List, [], ◌∷◌}
use Rattle.std.proofs.lemmas.Slice.Eq.{bytes_eq-Decides}
use Rattle.std.specs.Prelude.{bytes_eq}
use Rattle.cc_names.specs.Formed.{Plain}
use Rattle.cc_names.specs.declared.rows.Deed.{Deed}
use Rattle.cc_names.specs.declared.rows.Deed.TheVariants as deeds
use Rattle.cc_names.specs.declared.rows.ReadOf.{ReadOf}
use Rattle.cc_names.specs.declared.rows.Tag.{Tag}
use Rattle.cc_names.specs.declared.units.Unit.{Unit}
use Rattle.cc_names.proofs.Common.{same_inside}
use Rattle.base_model.specs.Rows.{size}
use Rattle.legal_history.specs.Builds.Active.{Build, Given, build_of, came_to, is_outcome, object_of, number_from, unit_at}
use Rattle.legal_history.specs.Builds.Active.{unit_with_first}
use Rattle.base_model.specs.Closures.{is_path_among}
use Rattle.legal_history.specs.Commands.Decisions.{Makes}
use Rattle.base_model.specs.Changes.{targets_of}
use Rattle.base_model.specs.Fits.{deed_fits, is_base}
use Rattle.legal_history.specs.Builds.Serials.{makes}
use Rattle.legal_history.specs.Stories.States.{State, scene, decision_for}
use Rattle.legal_history.specs.Stories.Steps.{with_outcome, active_after, with_came}
use Rattle.legal_history.specs.Stories.Committing.{MakesRow}
use Rattle.legal_history.specs.Builds.UnitTurns.{Winks, Publishes}
use Rattle.legal_history.proofs.Stories.Goes.{of_lane}
use Rattle.legal_history.proofs.Builds.AllBuilds.{Each, each_noted}
use Rattle.legal_history.proofs.Stories.DecidedSteps.{decided_of}
use Rattle.legal_history.proofs.Builds.FineBuilds.{takes_for}
use Rattle.legal_history.proofs.Builds.Published.{is_publish}
use Rattle.legal_history.proofs.Stories.ConsistentStories.{IsConsistentState}
use Rattle.legal_history.specs.Laws.Given.{IsHeld, HoldsGiven}
use Rattle.legal_history.proofs.Decisions.DecidedIdle.{decided_idle}
use Rattle.legal_history.proofs.Reuse.GivenRows.{IsOfCommand, given_stays, given_by_command, came_given, object_is_outcome}
use Rattle.legal_history.proofs.Reuse.GivenRows.{publish_held, wink_held}
use Rattle.legal_history.proofs.Reuse.KeptObjects.{chosen_object}
use Rattle.legal_history.proofs.Reuse.Reusables.{reusable_matches}
use Rattle.legal_history.proofs.Reuse.ViewsApart.{ViewsApart, apart_noted}

-- each active build's objects are held, and no two active builds are of one view
pub record AllHeld (s : State) : Type 0 where
  pub given : Each (λ lane. HoldsGiven s.base) s.active
  pub apart : ViewsApart s.active

-- The unit that a row of a lane is for: one of the lane's active build, without an outcome, of the row's view and targets.
pub record IsForUnit (s : State) (lane : ℕ) (view : List ℕ) (targets : List (List ℕ)) : Type 0 where
  pub build : Build
  pub n : ℕ
  pub unit : Unit
  pub there : build_of s.active lane ≡ Some build
  pub is_unit : unit_at build n ≡ Some unit
  pub waits : is_outcome (came_to build n) ≡ false
  pub place : unit_with_first build targets ≡ Some n
  pub same_view : build.view ≡ view
  pub same_targets : unit.targets ≡ targets

abbrev view_of_deed : Deed → List ℕ
view_of_deed (deeds.Publish v targets script entries outputs) = v
view_of_deed deed = []

abbrev targets_in_deed : Deed → List (List ℕ)
targets_in_deed (deeds.Publish v targets script entries outputs) = targets
targets_in_deed deed = []

pub publish_for : (s : State) (row : Plain) (view : List ℕ) (targets : List (List ℕ)) (script : List ℕ) (entries : List ReadOf)
    (outputs : List (List ℕ)) → row.deed ≡ deeds.Publish view targets script entries outputs → Publishes s row targets
    → IsForUnit s row.tag.lane view targets
publish_for s row view targets script entries outputs is e =
    let made = is_publish s.base e.build e.n e.unit row.deed e.made in
    record {
      build = e.build;
      n = e.n;
      unit = e.unit;
      there = of_lane s row.tag e.build e.running.waits.active;
      is_unit = e.running.waits.is_unit;
      waits = e.running.waits.waits;
      place = e.place;
      same_view = sym (ap view_of_deed made.is) ∙ ap view_of_deed is;
      same_targets = sym (ap targets_in_deed made.is) ∙ ap targets_in_deed is;
    }

pub wink_for : (s : State) (row : Plain) (view : List ℕ) (id : ℕ) → is_base s.base ≡ true → Winks s row view id
    → IsForUnit s row.tag.lane view (targets_of s.base id)
wink_for s row view id base e =
    let w = takes_for s row.tag e.n e.build e.unit e.may in
    record {
      build = e.build;
      n = e.n;
      unit = e.unit;
      there = w.there;
      is_unit = w.is_unit;
      waits = w.waits;
      place = e.place;
      same_view = e.of_view;
      same_targets = sym (chosen_object s.base e.build e.n e.unit id base e.chosen).targets;
    }

-- A row of a lane, for one of its build's units, beside another unit that makes a path.
module _ (s : State) (lane : ℕ) (view : List ℕ) (targets : List (List ℕ)) (row_for : IsForUnit s lane view targets)
    (other_lane : ℕ) (other : Build) (m : ℕ) (of_m : Unit) (path : List ℕ) where
  -- where the row changes the path in the view of the other, both units are the same
  is_same_unit : IsConsistentState s → AllHeld s → build_of s.active other_lane ≡ Some other → unit_at other m ≡ Some of_m
      → makes path of_m ≡ true → other.view ≡ view → is_path_among path targets ≡ true
      → (other_lane ≡ lane) × (row_for.build ≡ other) × (row_for.n ≡ m)
  is_same_unit sound h is is_m made of_view among =
      let lanes : other_lane ≡ lane = h.apart.one_lane other_lane lane other row_for.build is row_for.there
      (of_view ∙ sym row_for.same_view) in
      let same : row_for.build ≡ other = same_inside (sym row_for.there ∙ ap (build_of s.active) (sym lanes) ∙ is) in
      let fine = sound.fine.holds lane row_for.build row_for.there in
      let of_its : number_from 0 path row_for.build.units ≡ Some row_for.n =
      fine.consistent.in_order.one row_for.n row_for.unit path row_for.is_unit
      (ap (is_path_among path) row_for.same_targets ∙ among) in
      let m_is : unit_at row_for.build m ≡ Some of_m = ap (λ (x : Build). unit_at x m) same ∙ is_m in
      let of_its_m : number_from 0 path row_for.build.units ≡ Some m = fine.consistent.in_order.one m of_m path m_is made in
      (lanes, same, same_inside (sym of_its ∙ of_its_m))

  -- so where they are not the same, it leaves the path
  pub leaves_others : IsConsistentState s → AllHeld s → build_of s.active other_lane ≡ Some other → unit_at other m ≡ Some of_m
      → makes path of_m ≡ true → ((other_lane ≡ lane) × (row_for.build ≡ other) × (row_for.n ≡ m) → ⊥)
      → (bytes_eq other.view view && is_path_among path targets) ≡ false
  leaves_others sound h is is_m made apart = by (bytes_eq other.view view) (is_path_among path targets) refl refl
    where
      by : (t u : Bool) → bytes_eq other.view view ≡ t → is_path_among path targets ≡ u → (t && u) ≡ false
      by false u of_view among = refl
      by true false of_view among = refl
      by true true of_view among = absurd (apart (is_same_unit sound h is is_m made
          ((bytes_eq-Decides other.view view).0 of_view) among))

  -- and so where the other has an object
  leaves_given : IsConsistentState s → AllHeld s → build_of s.active other_lane ≡ Some other → unit_at other m ≡ Some of_m
      → makes path of_m ≡ true → (id : ℕ) → object_of (came_to other m) ≡ Some id
      → (bytes_eq other.view view && is_path_among path targets) ≡ false
  leaves_given sound h is is_m made id own = leaves_others sound h is is_m made has_none
    where
      has_none : (other_lane ≡ lane) × (row_for.build ≡ other) × (row_for.n ≡ m) → ⊥
      has_none same =
          let over : is_outcome (came_to other m) ≡ true = object_is_outcome (came_to other m) id own in
          let waiting : is_outcome (came_to other m) ≡ false = sym (ap (λ (x : Build). is_outcome (came_to x m)) same.1)
          ∙ sym (ap (λ k. is_outcome (came_to row_for.build k)) same.2) ∙ row_for.waits in
          let clash : true ≡ false = sym over ∙ waiting in
          cc

published_given : (s : State) (tag : Tag) (moment : ℕ) (view : List ℕ) (targets : List (List ℕ)) (script : List ℕ)
    (entries : List ReadOf) (outputs : List (List ℕ)) → IsConsistentState s → AllHeld s →
    deed_fits s.base (deeds.Publish view targets script entries outputs) ≡ true
    → Publishes s (record { tag = tag; moment = moment; deed = deeds.Publish view targets script entries outputs }) targets →
    Each (λ lane. HoldsGiven (record { tag = tag; moment = moment; deed = deeds.Publish view targets script entries outputs }
    ∷ s.base)) (with_outcome s.active tag.lane (λ build. unit_with_first build targets) (Given (size s.base)))
published_given s tag moment view targets script entries outputs sound h fit e =
    each_noted (λ lane. HoldsGiven (row ∷ s.base)) s.active tag.lane (λ build. unit_with_first build targets)
    (Given (size s.base)) before own
  where
    row : Plain
    row = record { tag = tag; moment = moment; deed = deeds.Publish view targets script entries outputs }

    row_for : IsForUnit s tag.lane view targets
    row_for = publish_for s row view targets script entries outputs refl e

    before : Each (λ lane. HoldsGiven (row ∷ s.base)) s.active
    before = record {
      holds = λ lane build is. record {
        given = λ m id own.
            given_stays row s.base build m id fit
            (λ unit path is_m made. leaves_given s tag.lane view targets row_for lane build m unit path sound h is is_m made id
            own)
            ((h.given.holds lane build is).given m id own);
      };
    }

    own : (build : Build) → build_of s.active tag.lane ≡ Some build → HoldsGiven (row ∷ s.base)
        (with_came build (unit_with_first build targets) (Given (size s.base)))
    own build is =
        let same : row_for.build ≡ build = same_inside (sym row_for.there ∙ is) in
        subst (λ x. HoldsGiven (row ∷ s.base) (with_came x (unit_with_first x targets) (Given (size s.base)))) same
        (subst (λ o. HoldsGiven (row ∷ s.base) (with_came row_for.build o (Given (size s.base)))) (sym row_for.place)
        (came_given (row ∷ s.base) row_for.build row_for.n (Given (size s.base))
        (λ id object. let number : size s.base ≡ id = same_inside object in
        subst (IsHeld (row ∷ s.base) row_for.build row_for.n) number
        (publish_held s.base row_for.build row_for.n row_for.unit tag moment view targets script entries outputs
        row_for.same_view row_for.same_targets row_for.is_unit row_for.place))
        (before.holds tag.lane row_for.build row_for.there)))

winked_given : (s : State) (tag : Tag) (moment : ℕ) (view : List ℕ) (id : ℕ) → IsConsistentState s → AllHeld s
    → deed_fits s.base (deeds.Wink view id) ≡ true → Winks s (record { tag = tag; moment = moment; deed = deeds.Wink view id })
    view id →
    Each (λ lane. HoldsGiven (record { tag = tag; moment = moment; deed = deeds.Wink view id } ∷ s.base))
    (with_outcome s.active tag.lane (λ build. unit_with_first build (targets_of s.base id)) (Given id))
winked_given s tag moment view id sound h fit e = each_noted (λ lane. HoldsGiven (row ∷ s.base)) s.active tag.lane
    (λ build. unit_with_first build (targets_of s.base id)) (Given id) before own
  where
    row : Plain
    row = record { tag = tag; moment = moment; deed = deeds.Wink view id }

    row_for : IsForUnit s tag.lane view (targets_of s.base id)
    row_for = wink_for s row view id sound.base e

    before : Each (λ lane. HoldsGiven (row ∷ s.base)) s.active
    before = record {
      holds = λ lane build is. record {
        given = λ m other own.
            given_stays row s.base build m other fit
            (λ unit path is_m made. leaves_given s tag.lane view (targets_of s.base id) row_for lane build m unit path sound h is
            is_m made other own)
            ((h.given.holds lane build is).given m other own);
      };
    }

    own : (build : Build) → build_of s.active tag.lane ≡ Some build → HoldsGiven (row ∷ s.base)
        (with_came build (unit_with_first build (targets_of s.base id)) (Given id))
    own build is =
        let same : row_for.build ≡ build = same_inside (sym row_for.there ∙ is) in
        subst (λ x. HoldsGiven (row ∷ s.base) (with_came x (unit_with_first x (targets_of s.base id)) (Given id))) same
        (subst (λ o. HoldsGiven (row ∷ s.base) (with_came row_for.build o (Given id))) (sym row_for.place)
        (came_given (row ∷ s.base) row_for.build row_for.n (Given id)
        (λ other object. let number : id ≡ other = same_inside object in
        subst (IsHeld (row ∷ s.base) row_for.build row_for.n) number
        (wink_held s.base row_for.build row_for.n row_for.unit tag moment view id row_for.same_view row_for.same_targets
        (reusable_matches s.base e.build e.n e.unit id sound.base e.chosen).lives row_for.is_unit row_for.place))
        (before.holds tag.lane row_for.build row_for.there)))

commanded_given : (s : State) (tag : Tag) (moment : ℕ) (deed : Deed) → AllHeld s → deed_fits s.base deed ≡ true → IsOfCommand deed
    → decision_for s tag ≡ Some (Ok (Makes deed)) →
    Each (λ lane. HoldsGiven (record { tag = tag; moment = moment; deed = deed } ∷ s.base)) s.active
commanded_given s tag moment deed h fit plain e =
    let d = decided_of s tag (Makes deed) e in
    record {
      holds = λ lane build is.
          given_by_command (record { tag = tag; moment = moment; deed = deed }) s.base s.active lane build fit plain
          (decided_idle (scene s) d.command deed d.is) is (h.given.holds lane build is);
    }

pub committed_given : (s : State) (tag : Tag) (moment : ℕ) (deed : Deed) → IsConsistentState s → AllHeld s
    → deed_fits s.base deed ≡ true → MakesRow s (record { tag = tag; moment = moment; deed = deed }) deed →
    Each (λ lane. HoldsGiven (record { tag = tag; moment = moment; deed = deed } ∷ s.base))
    (active_after s.base s.active tag.lane deed)
committed_given s tag moment (deeds.Publish view targets script entries outputs) sound h fit e =
    published_given s tag moment view targets script entries outputs sound h fit e
committed_given s tag moment (deeds.Wink view id) sound h fit e = winked_given s tag moment view id sound h fit e
committed_given s tag moment deed sound h fit e = commanded_given s tag moment deed h fit tt e

pub committed_apart : (s : State) (lane : ℕ) (deed : Deed) → AllHeld s → ViewsApart (active_after s.base s.active lane deed)
committed_apart s lane (deeds.Publish view targets script entries outputs) h =
    apart_noted s.active lane (λ build. unit_with_first build targets) (Given (size s.base)) h.apart
committed_apart s lane (deeds.Wink view id) h = apart_noted s.active lane _ (Given id) h.apart
committed_apart s lane deed h = h.apart
