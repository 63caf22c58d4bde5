-- Along a legal story each object that is taken has a record of just what its unit sees, and none that would do is passed over.
use Rattle.std.proofs.Common.{◌≡◌, ap, sym, subst, ◌∙◌, inl, inr, ℕ, true, false, Some, None, List, ◌∷◌}
use Rattle.std.specs.Prelude.{is_some}
use Rattle.cc_names.specs.Formed.{Plain}
use Rattle.cc_names.specs.declared.rows.Deed.TheVariants as deeds
use Rattle.cc_names.specs.declared.rows.ReadOf.{ReadOf}
use Rattle.cc_names.specs.declared.rows.Tag.{Tag}
use Rattle.cc_names.specs.declared.steps.StoryStep.TheVariants as story_steps
use Rattle.cc_names.specs.declared.steps.UnitEnd.TheVariants as ends
use Rattle.cc_names.specs.declared.units.Unit.{Unit}
use Rattle.cc_names.proofs.Common.{same_inside}
use Rattle.base_model.specs.Changes.{live_row}
use Rattle.base_model.specs.Fits.{is_base}
use Rattle.base_model.specs.Rows.{deed_at}
use Rattle.legal_history.specs.Builds.Active.{Build, unit_at, unit_with_first}
use Rattle.legal_history.specs.Builds.Choices.{entries, here, visible}
use Rattle.legal_history.specs.Builds.Fresh.{script_text}
use Rattle.legal_history.specs.Builds.Reuse.{matches, reusable}
use Rattle.legal_history.specs.Builds.UnitTurns.{Publishes, Winks}
use Rattle.legal_history.specs.Laws.FromNothing.{MayTake}
use Rattle.legal_history.specs.Laws.Given.{HoldsGiven}
use Rattle.legal_history.specs.Laws.Objects.{GivesLive}
use Rattle.legal_history.specs.Laws.TakenLaws.{PublishesWhatItRead, ReusesAny, TakesWhatItSees, ViewTakesWhatItSees}
use Rattle.legal_history.specs.Laws.TakenLaws.{TakenRecordIsSeenKept, TakenRecordIsSeenWinked, NothingIsPassedOverStart}
use Rattle.legal_history.specs.Laws.TakenLaws.{NothingIsPassedOverPublish, NothingIsPassedOverMatch, PublishedRecordIsWhatWasRead}
use Rattle.legal_history.specs.Stories.Committing.{MakesRow}
use Rattle.legal_history.specs.Stories.States.{State, build_by, start}
use Rattle.legal_history.specs.Stories.Steps.{state_of}
use Rattle.legal_history.proofs.Builds.Published.{is_publish}
use Rattle.legal_history.proofs.Stories.Prefixes.{prefix_is_legal, rest_is_legal}
use Rattle.legal_history.proofs.Stories.Goes.{of_lane}
use Rattle.legal_history.proofs.Stories.ConsistentStories.{base_fits}
use Rattle.legal_history.proofs.Reuse.Matched.{match_script, match_targets}
use Rattle.legal_history.proofs.Reuse.MatchedEntries.{absent_is_unseen, entry_is_seen}
use Rattle.legal_history.proofs.Reuse.OwnRecords.{no_second_record}
use Rattle.legal_history.proofs.Reuse.PassedOver.{nothing_passed_over}
use Rattle.legal_history.proofs.Reuse.Reusables.{reusable_matches}
use Rattle.legal_history.proofs.Reuse.SoundBases.{gives_live, story_holds}

-- the object that a unit may reuse is live, and of the unit's targets and script and of what the unit sees
takes_seen : (s : State) (tag : Tag) (n id : ℕ) (build : Build) (unit : Unit) → is_base s.base ≡ true
    → build_by s tag ≡ Some build → unit_at build n ≡ Some unit → reusable s.base build n unit ≡ Some id
    → TakesWhatItSees s tag n id
takes_seen s tag n id build unit base active is_unit chosen =
    let reused = reusable_matches s.base build n unit id base chosen in
    let match = reused.matches_unit in
    record {
      build = build;
      unit = unit;
      active = active;
      is_unit = is_unit;
      lives = reused.lives;
      targets = match_targets s.base build n unit id match;
      script = match_script s.base build n unit id match;
      seen = λ path r is. entry_is_seen s.base build n unit id path r match is;
      absent = λ path is. absent_is_unseen s.base build n unit id path match is;
    }

view_takes_seen : (s : State) (tag : Tag) (n id : ℕ) (view : List ℕ) (build : Build) (unit : Unit) → is_base s.base ≡ true
    → (build_by s tag ≡ Some build) × (unit_at build n ≡ Some unit) → build.view ≡ view → reusable s.base build n unit ≡ Some id →
    ViewTakesWhatItSees s tag view id
unfolding takes_seen
view_takes_seen s tag n id view build unit base own of_view chosen = record {
  n = n;
  takes = takes_seen s tag n id build unit base own.0 own.1 chosen;
  of_view = of_view;
}

pub story_kept : TakenRecordIsSeenKept
story_kept prefix rest tag n id legal =
    let keeps = (rest_is_legal start prefix (story_steps.Concluded tag n (ends.Kept id) ∷ rest) legal).0 in
    let waits = keeps.open_unit.waits in
    takes_seen (state_of prefix) tag n id keeps.build keeps.unit (base_fits prefix (prefix_is_legal start prefix _ legal))
    waits.active waits.is_unit keeps.chosen

-- a unit that may take an object in place of a run is one of the command's active build
active_of : (s : State) (tag : Tag) (n : ℕ) (build : Build) (unit : Unit) → MayTake s tag n build unit
    → (build_by s tag ≡ Some build) × (unit_at build n ≡ Some unit)
active_of s tag n build unit (inl o) = (o.waits.active, o.waits.is_unit)
active_of s tag n build unit (inr r) = (r.waits.active, r.waits.is_unit)

pub story_winked : TakenRecordIsSeenWinked
story_winked prefix rest row tick view id legal is =
    let commits = (rest_is_legal start prefix (story_steps.Commit row tick ∷ rest) legal).0 in
    let winks : Winks (state_of prefix) row view id = subst (MakesRow (state_of prefix) row) is commits.may.made in
    let own = active_of (state_of prefix) row.tag winks.n winks.build winks.unit winks.may in
    view_takes_seen (state_of prefix) row.tag winks.n id view winks.build winks.unit
    (base_fits prefix (prefix_is_legal start prefix _ legal)) own winks.of_view winks.chosen

pub story_starts : NothingIsPassedOverStart
story_starts prefix rest tag n build unit id legal any is_unit lives =
    let b = (state_of prefix).base in
    let starts = (rest_is_legal start prefix (story_steps.Start tag n ∷ rest) legal).0 in
    let same_build : starts.build ≡ build = same_inside (sym starts.open_unit.waits.active ∙ any.active) in
    let same_unit : starts.unit ≡ unit = same_inside (sym starts.open_unit.waits.is_unit
    ∙ ap (λ (x : Build). unit_at x n) same_build ∙ is_unit) in
    nothing_passed_over b build n unit id any.of_any any.reuses (subst (λ x. reusable b build n x ≡ None) same_unit
    (subst (λ x. reusable b x n starts.unit ≡ None) same_build starts.nothing)) lives

-- A publish of a state, by the fields of its row's deed.
module _ (s : State) (row : Plain) (view : List ℕ) (targets : List (List ℕ)) (script : List ℕ) (reads : List ReadOf)
    (outputs : List (List ℕ)) (is : row.deed ≡ deeds.Publish view targets script reads outputs) (e : Publishes s row targets) where
  -- a row of a unit that may reuse nothing has a record that no live object has
  publishes_new : (build : Build) (id : ℕ) (other : List ℕ) (stored : List (List ℕ)) → is_base s.base ≡ true
      → HoldsGiven s.base build → ReusesAny s row.tag build
      → deed_at s.base id ≡ Some (deeds.Publish other targets script reads stored) → is_some (live_row s.base id) ≡ false
  publishes_new build id other stored base held any object =
      let b = s.base in
      let made = is_publish b e.build e.n e.unit row.deed e.made in
      let same : e.build ≡ build = same_inside (sym e.running.waits.active ∙ any.active) in
      let whole : deeds.Publish view targets script reads outputs ≡ deeds.Publish e.build.view e.unit.targets
      (script_text e.unit.script) (entries (visible b e.build e.n e.unit) (here b e.build e.n e.unit).reads) made.outputs =
      sym is ∙ made.is in
      let own : deed_at b id ≡ Some (deeds.Publish other e.unit.targets (script_text e.unit.script)
      (entries (visible b e.build e.n e.unit) (here b e.build e.n e.unit).reads) stored) = cc in
      no_second_record b e.build e.n e.unit id other stored base (subst (GivesLive b) (sym same) (gives_live b build held))
      (ap (λ (x : Build). x.own_only) same ∙ any.of_any) (ap (λ (x : Build). x.rebuild) same ∙ any.reuses)
      e.nothing own

  -- the row is that of its unit's run
  publishes_read : PublishesWhatItRead s row targets script reads outputs
  publishes_read =
      let b = s.base in
      let made = is_publish b e.build e.n e.unit row.deed e.made in
      let whole : deeds.Publish view targets script reads outputs ≡ deeds.Publish e.build.view e.unit.targets
      (script_text e.unit.script) (entries (visible b e.build e.n e.unit) (here b e.build e.n e.unit).reads) made.outputs =
      sym is ∙ made.is in
      record {
        n = e.n;
        build = e.build;
        unit = e.unit;
        active = e.running.waits.active;
        is_unit = e.running.waits.is_unit;
        started = e.running.started;
        targets_are = cc;
        script_is = cc;
        entries_are = cc;
        outputs_are = cc;
      }

pub story_publishes : NothingIsPassedOverPublish
story_publishes prefix rest row tick build id view other targets script reads outputs stored legal is any object =
    let commits = (rest_is_legal start prefix (story_steps.Commit row tick ∷ rest) legal).0 in
    let before = prefix_is_legal start prefix _ legal in
    publishes_new (state_of prefix) row view targets script reads outputs is
    (subst (MakesRow (state_of prefix) row) is commits.may.made) build id other stored (base_fits prefix before)
    (story_holds prefix row.tag.lane build before (of_lane (state_of prefix) row.tag build any.active)) any object

pub story_records : PublishedRecordIsWhatWasRead
story_records prefix rest row tick view targets script reads outputs legal is =
    let commits = (rest_is_legal start prefix (story_steps.Commit row tick ∷ rest) legal).0 in
    publishes_read (state_of prefix) row view targets script reads outputs is
    (subst (MakesRow (state_of prefix) row) is commits.may.made)

-- a unit for which a row is published is matched by no live object
publishes_unmatched : (s : State) (row : Plain) (build : Build) (n : ℕ) (unit : Unit) (id : ℕ) (targets : List (List ℕ))
    → Publishes s row targets → ReusesAny s row.tag build → unit_with_first build targets ≡ Some n → unit_at build n ≡ Some unit →
    is_some (live_row s.base id) ≡ true → matches s.base build n unit id ≡ false
publishes_unmatched s row build n unit id targets e any place is_unit lives =
    let b = s.base in
    let same_build : e.build ≡ build = same_inside (sym e.running.waits.active ∙ any.active) in
    let same_place : e.n ≡ n = same_inside (sym e.place ∙ ap (λ (x : Build). unit_with_first x targets) same_build ∙ place) in
    let own : unit_at build n ≡ Some e.unit = subst (λ k. unit_at build k ≡ Some e.unit) same_place
    (subst (λ (x : Build). unit_at x e.n ≡ Some e.unit) same_build e.running.waits.is_unit) in
    let same_unit : e.unit ≡ unit = same_inside (sym own ∙ is_unit) in
    let nothing : reusable b build n unit ≡ None = subst (λ x. reusable b build n x ≡ None) same_unit
    (subst (λ k. reusable b build k e.unit ≡ None) same_place (subst (λ x. reusable b x e.n e.unit ≡ None) same_build
    e.nothing)) in
    nothing_passed_over b build n unit id any.of_any any.reuses nothing lives

pub story_matches : NothingIsPassedOverMatch
story_matches prefix rest row tick build n unit id view targets script reads outputs legal is any place is_unit lives =
    let commits = (rest_is_legal start prefix (story_steps.Commit row tick ∷ rest) legal).0 in
    publishes_unmatched (state_of prefix) row build n unit id targets (subst (MakesRow (state_of prefix) row) is commits.may.made)
    any place is_unit lives
