-- In a legal story over a sound base an object that a unit may reuse is what the unit comes to in the build from nothing.
use Rattle.std.proofs.Common.{◌≡◌, ℕ, true, Some, List}
use Rattle.std.specs.Prelude.{is_some}
use Rattle.cc_names.specs.declared.rows.Tag.{Tag}
use Rattle.cc_names.specs.declared.steps.StoryStep.{StoryStep}
use Rattle.cc_names.specs.declared.units.Unit.{Unit}
use Rattle.legal_history.specs.Builds.Active.{Build, build_of}
use Rattle.base_model.specs.Changes.{live_row}
use Rattle.legal_history.specs.Builds.Reuse.{matches, reusable}
use Rattle.legal_history.specs.Stories.States.{Opening}
use Rattle.legal_history.specs.Stories.Steps.{state_of}
use Rattle.legal_history.specs.Stories.Lawful.{Legal}
use Rattle.legal_history.specs.Builds.Values.{IsSound}
use Rattle.legal_history.specs.Laws.FromNothing.{IsAsFromNothing, MayTake}
use Rattle.legal_history.specs.Laws.Objects.{IsTheRun}
use Rattle.legal_history.proofs.Builds.FineBuilds.{takes_for}
use Rattle.legal_history.proofs.Stories.ConsistentStories.{base_fits}
use Rattle.legal_history.proofs.Reuse.AgreedStories.{story_agrees_so_far}
use Rattle.legal_history.proofs.Reuse.Matched.{match_is_run}
use Rattle.legal_history.proofs.Reuse.Reusables.{first_are_base, reusable_matches}
use Rattle.legal_history.proofs.Reuse.SoundBases.{gives_live, story_holds, story_stays_sound}
use Rattle.legal_history.proofs.Reuse.TakenObjects.{as_from_nothing, may_run, may_take_may_run}
use Rattle.legal_history.proofs.Reuse.TrueObjects.{live_is_true}

-- in a legal story over a sound base a live object whose record matches is the run
pub story_match : (story : List StoryStep) (opening : Opening) (lane : ℕ) (build : Build) (n : ℕ) (unit : Unit) (id : ℕ)
    → Legal story → (state_of story).opened ≡ Some opening → IsSound opening.base
    → build_of (state_of story).active lane ≡ Some build →
    is_some (live_row (state_of story).base id) ≡ true → matches (state_of story).base build n unit id ≡ true
    → IsTheRun (state_of story).base build n unit id
story_match story opening lane build n unit id legal opened sound is lives match =
    let b = (state_of story).base in
    let base = base_fits story legal in
    let whole = story_stays_sound story opening legal opened sound in
    match_is_run b build n unit id base (first_are_base b build.rows base) whole
    (gives_live b build (story_holds story lane build legal is)) (live_is_true b id whole lives) match

-- so is one that may be reused
pub story_reuse : (story : List StoryStep) (opening : Opening) (lane : ℕ) (build : Build) (n : ℕ) (unit : Unit) (id : ℕ)
    → Legal story → (state_of story).opened ≡ Some opening → IsSound opening.base
    → build_of (state_of story).active lane ≡ Some build →
    reusable (state_of story).base build n unit ≡ Some id → IsTheRun (state_of story).base build n unit id
story_reuse story opening lane build n unit id legal opened sound is chosen =
    let m = reusable_matches (state_of story).base build n unit id (base_fits story legal) chosen in
    story_match story opening lane build n unit id legal opened sound is m.lives m.matches_unit

pub story_reuse_from_nothing : (story : List StoryStep) (opening : Opening) (tag : Tag) (n : ℕ) (build : Build) (unit : Unit)
    (id : ℕ) → Legal story → (state_of story).opened ≡ Some opening → IsSound opening.base →
    MayTake (state_of story) tag n build unit → reusable (state_of story).base build n unit ≡ Some id
    → IsAsFromNothing (state_of story).base build n unit id
story_reuse_from_nothing story opening tag n build unit id legal opened sound may chosen =
    let b = (state_of story).base in
    let takes = takes_for (state_of story) tag n build unit may in
    let agrees = story_agrees_so_far story opening tag.lane build legal opened sound takes.there in
    let gives = gives_live b build (story_holds story tag.lane build legal takes.there) in
    as_from_nothing b build n unit id (base_fits story legal) (story_stays_sound story opening legal opened sound) gives agrees
    (may_run b build n unit agrees takes.is_unit (may_take_may_run (state_of story) tag n build unit may)) chosen
