-- What an older story knows of a build holds of every longer legal story, as long as the build goes on.
use Rattle.std.proofs.Common.{◌≡◌, ◌≢◌, refl, ap, sym, subst, ◌∙◌, ℕ, ◌+◌, ◌<◌, ◌≤◌, true, inl, inr, ⊎_elim, Option, Some, None}
use Rattle.std.proofs.Common.{List, ◌++◌, length, arith}
use Rattle.std.specs.Prelude.{is_some, option_and_then, option_map, slice_get}
use native.Mathlib.Decide.{dec_le}
use mathlib.Core.Logic.{dite}
use mathlib.Core.List.{IsPrefix}
use Rattle.cc_names.specs.declared.occasions.Next.TheVariants as nexts
use Rattle.cc_names.specs.declared.rows.Tag.{Tag}
use Rattle.cc_names.specs.declared.steps.StoryStep.{StoryStep}
use Rattle.cc_names.specs.declared.units.Unit.{Unit}
use Rattle.cc_names.proofs.Common.{same_before}
use Rattle.script_grammar.specs.Run.{Ran}
use Rattle.script_grammar.specs.Standings.{Standing}
use Rattle.base_model.specs.Rows.{Base}
use Rattle.legal_history.specs.Builds.Active.{Build, build_of, came_to, is_outcome, unit_at}
use Rattle.base_model.specs.Texts.{text_of_row}
use Rattle.legal_history.specs.Builds.Choices.{visible}
use Rattle.legal_history.specs.Laws.LaterLaws.{IsStillActive}
use Rattle.legal_history.specs.Stories.Growth.{GoesLater, StillBuilds}
use Rattle.legal_history.specs.Stories.Lawful.{Legal}
use Rattle.legal_history.specs.Stories.States.{State, done_of, next_tag}
use Rattle.legal_history.specs.Stories.Steps.{state_of}
use Rattle.legal_history.proofs.Reuse.SeenStays.{seen_text_stays}
use Rattle.legal_history.proofs.Stories.GoingOn.{GoesOnSo}
use Rattle.legal_history.proofs.Stories.LaterBuilds.{goes_on_later}
use Rattle.legal_history.proofs.Stories.LaterStories.{story_later}
use Rattle.legal_history.proofs.Stories.Started.{same_run, same_selection}
use Rattle.clearmake.specs.Calls.{IsRunOfUnit, WasStarted}
use Rattle.clearmake.specs.Going.{HasOutcome}
use Rattle.clearmake.specs.Nexts.{next_of_lane}
use Rattle.clearmake.specs.Passes.{Builds, IsLaneDone, IsCommandPast}
use Rattle.clearmake.specs.FoundTexts.{sees, standing_at, found_standing, stands_for_unit}
use Rattle.clearmake.proofs.Nexts.{done_stays, next_stays, tag_is_next}

later : (old new : List StoryStep) → IsPrefix old new → Legal new → GoesLater (state_of old) (state_of new)
later old new p legal = subst (λ t. GoesLater (state_of old) (state_of t)) p.1 (story_later old p.0 (subst Legal (sym p.1) legal))

-- the build of a command that is still its lane's next goes on
pub goes_on : (old new : List StoryStep) (tag : Tag) (build : Build) → next_of_lane (state_of old) tag.lane ≡ nexts.Build tag
    → IsPrefix old new → Legal new →
    next_of_lane (state_of new) tag.lane ≡ nexts.Build tag → build_of (state_of old).active tag.lane ≡ Some build
    → StillBuilds build (build_of (state_of new).active tag.lane)
goes_on old new tag build next p legal still active =
    let s : State = state_of old in
    let t : State = state_of new in
    let tags : next_tag t tag.lane ≡ next_tag s tag.lane = tag_is_next t tag.lane tag still
    ∙ sym (tag_is_next s tag.lane tag next) in
    (later old new p legal).builds (ap (λ (tag : Tag). tag.phase) tags) tag.lane build active
    (same_before (done_of t.done tag.lane) (done_of s.done tag.lane) (ap (λ (tag : Tag). tag.command) tags))

pub still_builds : (old new : List StoryStep) (tag : Tag) (count : ℕ) → Builds old tag count → IsPrefix old new → Legal new →
    next_of_lane (state_of new) tag.lane ≡ nexts.Build tag → Builds new tag count
still_builds old new tag count h p legal still =
    let on = goes_on old new tag h.building.build h.next p legal still h.building.active in
    record {
      next = still;
      building = record {
        build = on.build;
        active = on.is;
        of_units = ap (λ us. length us) on.on.units
            ∙ h.building.of_units;
        few = h.building.few;
      };
    }

-- what has its outcome has it still
pub outcome_stays : (old new : List StoryStep) (tag : Tag) (n : ℕ) → next_of_lane (state_of old) tag.lane ≡ nexts.Build tag
    → IsPrefix old new → Legal new →
    next_of_lane (state_of new) tag.lane ≡ nexts.Build tag → HasOutcome (state_of old) tag.lane n
    → HasOutcome (state_of new) tag.lane n
outcome_stays old new tag n next p legal still h =
    let on = goes_on old new tag h.build next p legal still h.active in
    record {
      build = on.build;
      active = on.is;
      outcome = subst (λ came. is_outcome came ≡ true) (sym (on.on.outcomes n h.outcome))
          h.outcome;
    }

-- what was started was started
pub started_stays : (old new : List StoryStep) (tag : Tag) (n : ℕ) → next_of_lane (state_of old) tag.lane ≡ nexts.Build tag
    → IsPrefix old new → Legal new →
    next_of_lane (state_of new) tag.lane ≡ nexts.Build tag → WasStarted (state_of old) tag.lane n
    → WasStarted (state_of new) tag.lane n
started_stays old new tag n next p legal still h =
    let on = goes_on old new tag h.build next p legal still h.active in
    record {
      build = on.build;
      active = on.is;
      unit = h.unit;
      is_unit = ap (λ us. slice_get us n) on.on.units
          ∙ h.is_unit;
      started = on.on.begun n h.started;
    }

-- a started unit, before and after its build went on
record IsGoneOn (s t : State) (lane n : ℕ) (h : WasStarted s lane n) : Type 0 where
  build : Build
  active : build_of t.active lane ≡ Some build
  is_unit : unit_at build n ≡ Some h.unit
  started : is_some (came_to build n) ≡ true
  so : GoesOnSo s.base t.base h.build build h.unit

gone_on : (old new : List StoryStep) (tag : Tag) (n : ℕ) → next_of_lane (state_of old) tag.lane ≡ nexts.Build tag
    → IsPrefix old new → Legal new →
    next_of_lane (state_of new) tag.lane ≡ nexts.Build tag → (h : WasStarted (state_of old) tag.lane n)
    → IsGoneOn (state_of old) (state_of new) tag.lane n h
gone_on old new tag n next p legal still h =
    let on = goes_on old new tag h.build next p legal still h.active in
    let is : build_of (state_of (old ++ p.0)).active tag.lane ≡ Some on.build =
    ap (λ t. build_of (state_of t).active tag.lane) p.1 ∙ on.is in
    let active : IsStillActive old p.0 tag.lane h.build on.build = record {
      legal = subst Legal (sym p.1) legal;
      before = h.active;
      now = is;
      same = on.on.tag;
    } in
    record {
      build = on.build;
      active = on.is;
      is_unit = ap (λ us. slice_get us n) on.on.units ∙ h.is_unit;
      started = on.on.begun n h.started;
      so = subst (λ t. GoesOnSo (state_of old).base (state_of t).base h.build on.build h.unit) p.1
          (goes_on_later old p.0 tag.lane h.build on.build n h.unit active h.is_unit h.started);
    }

standing_by : (b c : Base) (path : List ℕ) (o : Option ℕ) → text_of_row c path o ≡ text_of_row b path o
    → option_and_then (found_standing c path) o ≡ option_and_then (found_standing b path) o
standing_by b c path None e = refl
standing_by b c path (Some row) e = ap (option_map (λ bytes. let standing : Standing = record { row = row; text = bytes } in
    standing)) e

-- what a started unit finds, as that unit of that build
pub stands_so : (s : State) (lane n : ℕ) (build : Build) (unit : Unit) (path : List ℕ) → build_of s.active lane ≡ Some build
    → unit_at build n ≡ Some unit → sees s lane n path ≡ stands_for_unit s.base build n unit path
stands_so s lane n build unit path active is =
    ap (option_and_then (λ b. standing_at s.base b n path)) active ∙ ap
    (option_and_then (λ u. stands_for_unit s.base build n u path)) is

-- a started unit finds the same at each path
pub sees_same : (old new : List StoryStep) (tag : Tag) (n : ℕ) (path : List ℕ)
    → next_of_lane (state_of old) tag.lane ≡ nexts.Build tag → IsPrefix old new → Legal new →
    next_of_lane (state_of new) tag.lane ≡ nexts.Build tag → WasStarted (state_of old) tag.lane n
    → sees (state_of new) tag.lane n path ≡ sees (state_of old) tag.lane n path
sees_same old new tag n path next p legal still h =
    let s : State = state_of old in
    let t : State = state_of new in
    let g = gone_on old new tag n next p legal still h in
    let seen : visible t.base g.build n h.unit path ≡ visible s.base h.build n h.unit path =
    same_selection s.base t.base h.build g.build n h.unit path g.so in
    let texts : text_of_row t.base path (visible s.base h.build n h.unit path)
    ≡ text_of_row s.base path (visible s.base h.build n h.unit path) =
    ap (λ b. text_of_row b path (visible s.base h.build n h.unit path)) g.so.grown.is
    ∙ seen_text_stays g.so.grown.more s.base h.build n h.unit path g.so.consistent in
    stands_so t tag.lane n g.build h.unit path g.active g.is_unit
    ∙ (ap (option_and_then (found_standing t.base path)) seen ∙ (standing_by s.base t.base path
    (visible s.base h.build n h.unit path) texts
    ∙ sym (stands_so s tag.lane n h.build h.unit path h.active h.is_unit)))

-- the run of a unit is its run still
pub run_stays : (old new : List StoryStep) (tag : Tag) (n : ℕ) (ran : Ran)
    → next_of_lane (state_of old) tag.lane ≡ nexts.Build tag → IsPrefix old new → Legal new →
    next_of_lane (state_of new) tag.lane ≡ nexts.Build tag → IsRunOfUnit (state_of old) tag.lane n ran
    → IsRunOfUnit (state_of new) tag.lane n ran
run_stays old new tag n ran next p legal still h =
    let was : WasStarted (state_of old) tag.lane n = record {
      build = h.build;
      active = h.active;
      unit = h.unit;
      is_unit = h.is_unit;
      started = h.started;
    } in
    let g = gone_on old new tag n next p legal still was in
    record {
      build = g.build;
      active = g.active;
      unit = h.unit;
      is_unit = g.is_unit;
      started = g.started;
      run = h.run ∙ sym (same_run (state_of old).base (state_of new).base h.build g.build n h.unit g.so);
    }

-- a command that built and is its lane's next no more is finished
pub is_past : (old new : List StoryStep) (tag : Tag) → next_of_lane (state_of old) tag.lane ≡ nexts.Build tag → IsPrefix old new
    → Legal new →
    next_of_lane (state_of new) tag.lane ≢ nexts.Build tag → IsCommandPast (state_of new) tag
is_past old new tag next p legal gone =
    let s : State = state_of old in
    let t : State = state_of new in
    let h = later old new p legal in
    let tags : next_tag s tag.lane ≡ tag = tag_is_next s tag.lane tag next in
    let phase : s.number ≡ tag.phase = ap (λ (tag : Tag). tag.phase) tags in
    let command : done_of s.done tag.lane + 1 ≡ tag.command = ap (λ (tag : Tag). tag.command) tags in
    let low = h.number in
    dite (dec_le (s.number + 1) t.number) (λ more. inl (omega arith)) (λ no. let same : t.number ≡ s.number = omega arith in
    in_phase s t h next gone phase command same)
  where
    in_phase : (s t : State) → GoesLater s t → next_of_lane s tag.lane ≡ nexts.Build tag
        → next_of_lane t tag.lane ≢ nexts.Build tag → s.number ≡ tag.phase → done_of s.done tag.lane + 1 ≡ tag.command
        → t.number ≡ s.number → IsCommandPast t tag
    in_phase s t h next gone phase command same = let low = h.done same tag.lane in
        dite (dec_le (done_of s.done tag.lane + 1) (done_of t.done tag.lane))
        (λ more. inr (omega arith, omega arith))
        (λ no. absurd (let here : done_of t.done tag.lane ≡ done_of s.done tag.lane = omega arith in
        gone (next_stays s t tag.lane same (h.phase same) here ∙ next)))

-- what is finished is finished later on
pub past_stays : (old new : List StoryStep) (tag : Tag) → IsPrefix old new → Legal new → IsCommandPast (state_of old) tag
    → IsCommandPast (state_of new) tag
past_stays old new tag p legal past =
    let s : State = state_of old in
    let t : State = state_of new in
    let h = later old new p legal in
    let low = h.number in
    ⊎_elim
    (λ (e : tag.phase < s.number). inl (omega arith))
    (λ (e : (tag.phase ≡ s.number) × (tag.command ≤ done_of s.done tag.lane)).
    let same_phase = e.0 in
    let finished = e.1 in
    dite (dec_le (s.number + 1) t.number) (λ more. inl (omega arith)) (λ no. let same : t.number ≡ s.number = omega arith in
    let more = h.done same tag.lane in inr (omega arith, omega arith)))
    past

-- a lane that has finished its commands of a phase has finished them still
pub finished_stays : (old new : List StoryStep) (lane number : ℕ) → IsPrefix old new → Legal new → (state_of new).number ≡ number
    → IsLaneDone old lane number → IsLaneDone new lane number
finished_stays old new lane number p legal same h =
    let l = later old new p legal in
    let still : (state_of new).number ≡ (state_of old).number = same ∙ sym h.of_phase in
    record {
      legal = legal;
      of_phase = same;
      finished = done_stays (state_of old) (state_of new) lane (l.phase still)
          (l.done still lane) h.finished;
    }
