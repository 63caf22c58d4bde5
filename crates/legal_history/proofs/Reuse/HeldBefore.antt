-- The object that a view holds at every target of a unit did not match the unit before its start, and never does after it.
use Rattle.std.proofs.Common.{◌≡◌, refl, ap, sym, subst, ◌∙◌, ℕ, Bool, true, false, cond, ◌&&◌, ◌==◌, Option, Some, None, Ok}
use Rattle.std.proofs.Common.{List, [], ◌∷◌}
use Rattle.std.specs.Prelude.{bytes_eq, is_some, slice_get}
use Rattle.std.proofs.lemmas.Bool.{or_left, or_right}
use Rattle.cc_names.specs.References.{held_at}
use Rattle.cc_names.specs.Versions.{is_number}
use Rattle.cc_names.specs.declared.rows.Deed.{Deed}
use Rattle.cc_names.specs.declared.rows.Deed.TheVariants as deeds
use Rattle.cc_names.specs.declared.rows.Tag.{Tag}
use Rattle.cc_names.specs.declared.steps.StoryStep.{StoryStep}
use Rattle.cc_names.specs.declared.steps.StoryStep.TheVariants as story_steps
use Rattle.cc_names.specs.declared.units.Unit.{Unit}
use Rattle.cc_names.proofs.Common.{same_inside, bytes_equal_themselves, same_number, number_found}
use Rattle.base_model.specs.Rows.{Base, deed_at, deed_of, only_where, size}
use Rattle.base_model.specs.Changes.{objects_held, targets_of}
use Rattle.base_model.specs.Closures.{is_path_among}
use Rattle.base_model.specs.Fits.{is_base}
use Rattle.legal_history.specs.Builds.Active.{Build, Came, Concluded, Given, Started, build_of, came_to, is_outcome, unit_at}
use Rattle.legal_history.specs.Builds.Active.{unit_with_first}
use Rattle.legal_history.specs.Builds.Consistency.{IsReady}
use Rattle.legal_history.specs.Builds.Fresh.{script_text}
use Rattle.legal_history.specs.Builds.Reuse.{by_options, if_matches, matches, newest_match, record_matches, reusable}
use Rattle.base_model.specs.Objects.{held_at_all, held_at_each, held_at_others}
use Rattle.legal_history.specs.Builds.Serials.{makes}
use Rattle.legal_history.specs.Builds.UnitTurns.{IsRunning, Starts}
use Rattle.legal_history.specs.Commands.Decisions.{Begins}
use Rattle.legal_history.specs.Stories.Growth.{Continues, On, Over, StaysTheBuild}
use Rattle.legal_history.specs.Stories.Lawful.{Lawful, Legal, LegalFrom}
use Rattle.legal_history.specs.Stories.States.{State, build_by, decision_for, start}
use Rattle.legal_history.specs.Stories.Steps.{active_after, after, build_begun_by, build_asked, came_by_starting}
use Rattle.legal_history.specs.Stories.Steps.{with_outcome, state_from, state_of, with_came}
use Rattle.base_model.proofs.Stay.{row_stays_all}
use Rattle.legal_history.proofs.Builds.AllBuilds.{Each, each_begun, each_faulted, each_noted, each_without}
use Rattle.legal_history.proofs.Builds.ReadyUnits.{ready_by}
use Rattle.legal_history.proofs.Stories.DecidedSteps.{begun_is, decided_of, says_of}
use Rattle.legal_history.proofs.Stories.Goes.{of_lane, step_goes}
use Rattle.base_model.proofs.Tables.{find_after_put}
use Rattle.legal_history.proofs.Stories.GoingOn.{GoesOnSo}
use Rattle.legal_history.proofs.Stories.Grows.{step_extends}
use Rattle.legal_history.proofs.Stories.ConsistentStories.{IsConsistentState, none_active, consistent_first, consistent_step}
use Rattle.legal_history.proofs.Stories.ConsistentStories.{story_is_consistent}
use Rattle.legal_history.proofs.Stories.Started.{same_selection}
use Rattle.legal_history.proofs.Reuse.GivenCommits.{AllHeld}
use Rattle.legal_history.proofs.Reuse.GivenSteps.{held_step}
use Rattle.legal_history.proofs.Reuse.PlaceStays.{place_step}
use Rattle.legal_history.proofs.Reuse.Reusables.{held_lives, reusable_matches}
use Rattle.legal_history.proofs.Reuse.SoundBases.{held_first}
use Rattle.legal_history.proofs.Reuse.SoundRows.{live_below}
use Rattle.legal_history.proofs.Stories.Along.{along}

-- the object that a build's view holds at every target of a unit does not match it, where the build reuses objects
record PassesItsOwn (b : Base) (build : Build) (n : ℕ) (unit : Unit) : Type 0 where
  passed : (id : ℕ) → build.rebuild ≡ false → held_at_all b build.view unit.targets ≡ Some id → matches b build n unit id ≡ false

-- it does not where the unit may reuse nothing
none_of_own : (own_only : Bool) (own newest : Option ℕ) → by_options own_only false own newest ≡ None → own ≡ None
none_of_own true own newest h = h
none_of_own false None newest h = refl
none_of_own false (Some id) newest h = absurd (cc)

no_match : (t : Bool) (id : ℕ) → only_where t (Some id) ≡ None → t ≡ false
no_match true id h = absurd (cc)
no_match false id h = refl

nothing_passes : (b : Base) (build : Build) (n : ℕ) (unit : Unit) → reusable b build n unit ≡ None → PassesItsOwn b build n unit
nothing_passes b build n unit none = record {
  passed = λ id reuses holds.
      let own = if_matches b build n unit (held_at_all b build.view unit.targets) in
      let newest = newest_match b build n unit b in
      let plain : by_options build.own_only false own newest ≡ None = ap (λ t. by_options build.own_only t own newest)
      (sym reuses) ∙ none in
      no_match (matches b build n unit id) id (ap (if_matches b build n unit) (sym holds)
      ∙ none_of_own build.own_only own newest plain);
}

-- what a view holds at the same places is held at all of them as before
each_same : (b later : Base) (v : List ℕ) (targets : List (List ℕ)) (id : ℕ)
    → ((path : List ℕ) → is_path_among path targets ≡ true → held_at (objects_held later) v path
    ≡ held_at (objects_held b) v path) → held_at_each later v targets id ≡ held_at_each b v targets id
each_same b later v [] id h = refl
each_same b later v (target ∷ targets) id h =
    let rest = each_same b later v targets id (λ path among. h path (or_right (bytes_eq path target) (is_path_among path targets)
    among)) in
    λ i. is_number id (h target (or_left (bytes_eq target target) (is_path_among target targets) (bytes_equal_themselves target))
    i)
    && rest i

all_same : (b later : Base) (v : List ℕ) (targets : List (List ℕ)) → ((path : List ℕ) → is_path_among path targets ≡ true
    → held_at (objects_held later) v path ≡ held_at (objects_held b) v path)
    → held_at_all later v targets ≡ held_at_all b v targets
all_same b later v [] h = refl
all_same b later v (target ∷ targets) h =
    ap (held_at_others later v targets) (h target (or_left (bytes_eq target target) (is_path_among target targets)
    (bytes_equal_themselves target))) ∙ others (held_at (objects_held b) v target)
  where
    others : (o : Option ℕ) → held_at_others later v targets o ≡ held_at_others b v targets o
    others None = refl
    others (Some id) = ap (λ t. only_where t (Some id)) (each_same b later v targets id
        (λ path among. h path (or_right (bytes_eq path target) (is_path_among path targets) among)))

-- so it passes on where a build goes on and its view holds the same at the unit's targets
passes_on : (b later : Base) (old new : Build) (n : ℕ) (unit : Unit) → GoesOnSo b later old new unit → is_base b ≡ true
    → ((path : List ℕ) → makes path unit ≡ true → held_at (objects_held later) old.view path
    ≡ held_at (objects_held b) old.view path) →
    PassesItsOwn b old n unit → PassesItsOwn later new n unit
passes_on b later old new n unit on base places h = record {
  passed = λ id reuses holds.
      let was : held_at_all b old.view unit.targets ≡ Some id = sym (all_same b later old.view unit.targets places)
      ∙ ap (λ v. held_at_all later v unit.targets) (sym on.on.view) ∙ holds in
      let low = live_below b id (held_lives b old.view unit.targets id base was) in
      let same : deed_at later id ≡ deed_at b id = ap (λ rows. deed_at rows id) on.grown.is
      ∙ ap deed_of (row_stays_all on.grown.more b id low) in
      let alike : matches later new n unit id ≡ matches b old n unit id =
      λ i. record_matches unit.targets (script_text unit.script) (λ path. same_selection b later old new n unit path on i)
      (same i) in
      alike ∙ h.passed id (sym on.on.rebuild ∙ reuses) was;
}

-- a unit that a lane's build has as started was so before, or it was started
data StartedBy (s : State) (lane n : ℕ) : Type 0 where
  Before : (old : Build) → build_of s.active lane ≡ Some old → came_to old n ≡ Some Started → StartedBy s lane n
  Now : (tag : Tag) → tag.lane ≡ lane → Starts s tag n → StartedBy s lane n

abbrev AreStartedBy : State → ℕ → Build → Type 0
AreStartedBy s lane build = (n : ℕ) → came_to build n ≡ Some Started → StartedBy s lane n

started_before : (s : State) → Each (AreStartedBy s) s.active
started_before s = record { holds = λ lane build is n e. Before build is e }

-- it was before where a unit comes to something else
came_before : (s : State) (lane : ℕ) (build : Build) (o : Option ℕ) (came : Came) → build_of s.active lane ≡ Some build
    → is_outcome (Some came) ≡ true → (n : ℕ) → came_to (with_came build o came) n ≡ Some Started → StartedBy s lane n
came_before s lane build None came is over n e = Before build is e
came_before s lane build (Some m) came is over n e = by (n == m) (sym (find_after_put n m came build.comes) ∙ e)
  where
    by : (t : Bool) → cond t (Some came) (came_to build n) ≡ Some Started → StartedBy s lane n
    by true e = absurd (let waits : is_outcome (Some came) ≡ false = ap is_outcome e in cc)
    by false e = Before build is e

noted_before : (s : State) (lane : ℕ) (unit : Build → Option ℕ) (came : Came) → is_outcome (Some came) ≡ true
    → Each (AreStartedBy s) (with_outcome s.active lane unit came)
noted_before s lane unit came over = each_noted (AreStartedBy s) s.active lane unit came (started_before s)
    (λ build is. came_before s lane build (unit build) came is over)

started_now : (s : State) (tag : Tag) (m : ℕ) (came : Came) → Starts s tag m
    → Each (AreStartedBy s) (with_outcome s.active tag.lane (λ b. Some m) came)
started_now s tag m came starts = each_noted (AreStartedBy s) s.active tag.lane (λ b. Some m) came (started_before s) own
  where
    own : (build : Build) → build_of s.active tag.lane ≡ Some build → (n : ℕ)
        → came_to (with_came build (Some m) came) n ≡ Some Started → StartedBy s tag.lane n
    own build is n e = by (n == m) refl (sym (find_after_put n m came build.comes) ∙ e)
      where
        by : (t : Bool) → (n == m) ≡ t → cond t (Some came) (came_to build n) ≡ Some Started → StartedBy s tag.lane n
        by true same e = Now tag refl (subst (Starts s tag) (sym (same_number n m same)) starts)
        by false other e = Before build is e

-- a build that begins has none
begun_before : (s : State) (tag : Tag) (us : List Unit) → decision_for s tag ≡ Some (Ok (Begins us)) → (build : Build)
    → build_begun_by s tag ≡ Some build → (n : ℕ) → came_to build n ≡ Some Started → StartedBy s tag.lane n
begun_before s tag us h build is n e =
    let says = says_of s tag (Begins us) (decided_of s tag (Begins us) h) in
    let made : build_asked tag (size s.base) us says.asked ≡ build = same_inside (sym (begun_is s tag us h) ∙ is) in
    let nothing : None ≡ Some Started = ap (λ (b : Build). came_to b n) made ∙ e in
    absurd (cc)

committed_before : (s : State) (lane : ℕ) (deed : Deed) → Each (AreStartedBy s) (active_after s.base s.active lane deed)
committed_before s lane (deeds.Publish view targets script entries outputs) =
    noted_before s lane (λ build. unit_with_first build targets) (Given (size s.base)) refl
committed_before s lane (deeds.Wink view id) = noted_before s lane (λ build. unit_with_first build (targets_of s.base id))
    (Given id) refl
committed_before s lane deed = started_before s

step_before : (s : State) (x : StoryStep) → Lawful s x → Each (AreStartedBy s) (after s x).active
step_before s (story_steps.Commit row tick) e = committed_before s row.tag.lane row.deed
step_before s (story_steps.Begin tag rows count) e = each_begun (AreStartedBy s) s.active tag.lane (build_begun_by s tag)
    (started_before s) (begun_before s tag e.units e.chosen)
step_before s (story_steps.Start tag n) e = started_now s tag n (came_by_starting (build_of s.active tag.lane) n) e
step_before s (story_steps.Concluded tag n end) e = noted_before s tag.lane (λ b. Some n) (Concluded end) refl
step_before s (story_steps.End tag) e = each_without (AreStartedBy s) (AreStartedBy s) s.active tag.lane (started_before s)
    (λ lane build apart before. before)
step_before s (story_steps.Fault tag left before faults tick) e =
    each_faulted (AreStartedBy s) s.active tag.lane (build_by s tag) (started_before s)
    (λ build is n started. Before build (of_lane s tag build is) started)
step_before s x e = started_before s

-- a unit of an old build is ready, and the object that the view holds at its targets does not match it
record WasPassed (s : State) (old : Build) (n : ℕ) (unit : Unit) : Type 0 where
  ready : IsReady old unit
  passes : PassesItsOwn s.base old n unit

-- A lawful step leaves it so for each unit that is started after it.
abbrev AllPass : State → Type 0
AllPass s = Each (λ lane build. (n : ℕ) (unit : Unit) → unit_at build n ≡ Some unit → came_to build n ≡ Some Started
    → PassesItsOwn s.base build n unit) s.active

passes_after : (s : State) (x : StoryStep) (lane : ℕ) (old new : Build) (n : ℕ) (unit : Unit) → IsConsistentState s → AllHeld s
    → Lawful s x → build_of s.active lane ≡ Some old → build_of (after s x).active lane ≡ Some new →
    unit_at new n ≡ Some unit → came_to new n ≡ Some Started → (unit_at old n ≡ Some unit → WasPassed s old n unit)
    → PassesItsOwn (after s x).base new n unit
passes_after s x lane old new n unit sound objects_held e was is is_unit started before = by (step_goes s x lane old was e)
  where
    on_by : Continues old new → PassesItsOwn (after s x).base new n unit
    on_by c =
        let of_old : unit_at old n ≡ Some unit = ap (λ us. slice_get us n) (sym c.units) ∙ is_unit in
        let passed = before of_old in
        passes_on s.base (after s x).base old new n unit
        (record {
          grown = step_extends s x sound.opened e;
          on = c;
          consistent = (sound.fine.holds lane old was).consistent;
          ready = passed.ready;
        })
        sound.base
        (λ path made. place_step s lane old new n unit path x sound objects_held e
        (record { was = was; is = is; is_unit = of_old; waits = ap is_outcome started; made = made }))
        passed.passes

    by : StaysTheBuild old (build_of (after s x).active lane) → PassesItsOwn (after s x).base new n unit
    by (Over none) = absurd (cc)
    by (On on is_on c) = on_by (subst (Continues old) (same_inside (sym is_on ∙ is)) c)

passes_step : (s : State) (x : StoryStep) → IsConsistentState s → AllHeld s → AllPass s → Lawful s x → AllPass (after s x)
passes_step s x sound objects_held h e = record {
  holds = λ lane new is n unit is_unit started. by lane new n unit is is_unit
      started ((step_before s x e).holds lane new is n started);
}
  where
    by : (lane : ℕ) (new : Build) (n : ℕ) (unit : Unit) → build_of (after s x).active lane ≡ Some new → unit_at new n ≡ Some unit
        → came_to new n ≡ Some Started → StartedBy s lane n → PassesItsOwn (after s x).base new n unit
    by lane new n unit is is_unit started (Before old was before) =
        passes_after s x lane old new n unit sound objects_held e was is is_unit started
        (λ of_old. record {
          ready = (sound.fine.holds lane old was).consistent.ready n unit of_old (ap is_some before);
          passes = h.holds lane old was n unit of_old before;
        })
    by lane new n unit is is_unit started (Now tag same starts) =
        let was : build_of s.active lane ≡ Some starts.build = ap (build_of s.active) (sym same)
        ∙ of_lane s tag starts.build starts.open_unit.waits.active in
        passes_after s x lane starts.build new n unit sound objects_held e was is is_unit started
        (λ of_old. subst (WasPassed s starts.build n) (same_inside (sym starts.open_unit.waits.is_unit ∙ of_old))
        (record {
          ready = ready_by starts.build starts.unit starts.open_unit.ready;
          passes = nothing_passes s.base starts.build n starts.unit starts.nothing;
        }))

passes_from : (s : State) (story : List StoryStep) → IsConsistentState s → AllHeld s → AllPass s → LegalFrom s story
    → AllPass (state_from s story)
passes_from s story sound objects_held h e = (along (λ t. IsConsistentState t × AllHeld t × AllPass t) (λ t x legal so. (
  consistent_step t x so.0 legal,
  held_step t x so.0 so.1 legal,
  passes_step t x so.0 so.1 so.2 legal,
)) s story e (sound, objects_held, h)).2

none_pass : (x : StoryStep) → Lawful start x → AllPass (after start x)
none_pass x e = record {
  holds = λ lane build is. absurd (let none : build_of (after start x).active lane
      ≡ None = ap (λ active. build_of active lane) (none_active x e) in cc);
}

-- an object that may be reused is of a build that reuses objects
chosen_reuses : (own_only rebuild : Bool) (own newest : Option ℕ) (id : ℕ) → by_options own_only rebuild own newest ≡ Some id
    → rebuild ≡ false
chosen_reuses own_only false own newest id h = refl
chosen_reuses true true own newest id h = absurd (cc)
chosen_reuses false true own newest id h = absurd (cc)

not_held : (s : State) (tag : Tag) (n : ℕ) (build : Build) (unit : Unit) (id : ℕ) → is_base s.base ≡ true → AllPass s
    → IsRunning s tag n build unit → reusable s.base build n unit ≡ Some id →
    is_number id (held_at_all s.base build.view unit.targets) ≡ false
not_held s tag n build unit id base h running chosen = by (is_number id (held_at_all s.base build.view unit.targets)) refl
  where
    by : (t : Bool) → is_number id (held_at_all s.base build.view unit.targets) ≡ t → t ≡ false
    by false e = refl
    by true e =
        let reuses = chosen_reuses build.own_only build.rebuild (if_matches s.base build n unit
        (held_at_all s.base build.view unit.targets)) (newest_match s.base build n unit s.base) id chosen in
        let passes = h.holds tag.lane build (of_lane s tag build running.waits.active) n unit running.waits.is_unit
        running.started in
        sym (reusable_matches s.base build n unit id base chosen).matches_unit
        ∙ passes.passed id reuses (number_found id (held_at_all s.base build.view unit.targets) e)

-- The law.
pub found_is_not_held : (story : List StoryStep) (tag : Tag) (n : ℕ) (build : Build) (unit : Unit) (id : ℕ) → Legal story
    → IsRunning (state_of story) tag n build unit → reusable (state_of story).base build n unit ≡ Some id →
    is_number id (held_at_all (state_of story).base build.view unit.targets) ≡ false
found_is_not_held [] tag n build unit id legal running chosen = absurd (let none = running.waits.active in cc)
found_is_not_held (x ∷ story) tag n build unit id legal running chosen =
    not_held (state_of (x ∷ story)) tag n build unit id (story_is_consistent x story legal).base
    (passes_from (after start x) story (consistent_first x legal.0) (held_first x legal.0) (none_pass x legal.0) legal.1) running
    chosen
