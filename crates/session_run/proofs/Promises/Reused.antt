-- What a legal history says of its builds, which reuse objects, by the laws of legal histories.
use Rattle.std.proofs.Common.{◌≡◌, ℕ, true, Option, Some, None, List, [], ◌∷◌, ◌++◌, refl, sym, subst, ◌∙◌}
use Rattle.std.specs.Prelude.{is_some}
use Rattle.cc_names.specs.declared.steps.StoryStep.{StoryStep}
use Rattle.cc_names.specs.declared.steps.StoryStep.TheVariants as story_steps
use Rattle.legal_history.specs.Builds.Values.{IsSound}
use Rattle.legal_history.specs.Builds.Active.{Build, build_of}
use Rattle.legal_history.specs.Laws.BuildLaws.{BuildIsAsFromNothing, BuildIsOfItsCommand, EndedBuildHasItsOutcomesFromNothing}
use Rattle.legal_history.specs.Laws.ReuseLaws.{BaseStaysSoundStays}
use Rattle.legal_history.specs.Laws.TakenLaws.{NothingIsPassedOverMatch, NothingIsPassedOverPublish, NothingIsPassedOverStart}
use Rattle.legal_history.specs.Laws.TakenLaws.{PublishedRecordIsWhatWasRead, TakenRecordIsSeenKept, TakenRecordIsSeenWinked}
use Rattle.legal_history.specs.Stories.Lawful.{EndsBuild, Legal}
use Rattle.legal_history.specs.Stories.States.{Opening, start}
use Rattle.legal_history.specs.Stories.Steps.{after, state_of}
use Rattle.legal_history.proofs.Stories.Prefixes.{prefix_is_legal, rest_is_legal}
use Rattle.legal_history.proofs.Stories.ConsistentStories.{consistent_first, story_is_consistent}
use Rattle.legal_history.proofs.Reuse.SoundBases.{opened_from}
use Rattle.legal_history.proofs.Stories.Goes.{of_lane}
use Rattle.session_run.specs.Promises.Headline.{AreFromNothing, AreOfTheirCommands}
use Rattle.session_run.specs.Promises.Reused.{HaveTheirOutcomes, NewBaseWasSound, PassNothingOver, RecordWhatTheyRead}
use Rattle.session_run.specs.Promises.Reused.{TakeWhatTheySee, WasSound}
use Rattle.session_run.proofs.Story.FromNothing.{Law, are_from_nothing, ends_over}

-- a prefix of a history was opened on a sound base
record BeganSound (prefix : List StoryStep) : Type 0 where
  opening : Opening
  opened : (state_of prefix).opened ≡ Some opening
  sound : IsSound opening.base

-- what was opened stays
stays_opened : (prefix rest : List StoryStep) (opening : Opening) → Legal (prefix ++ rest)
    → (state_of prefix).opened ≡ Some opening → (state_of (prefix ++ rest)).opened ≡ Some opening
stays_opened [] rest opening legal is = absurd (cc)
stays_opened (x ∷ prefix) rest opening legal is =
    let first = consistent_first x legal.0 in
    let before = prefix_is_legal (after start x) prefix rest legal.1 in
    opened_from (after start x) (prefix ++ rest) first legal.1 ∙ sym (opened_from (after start x) prefix first before) ∙ is

-- a base was opened where a build is active
opens : (prefix : List StoryStep) (lane : ℕ) (build : Build) → Legal prefix → build_of (state_of prefix).active lane ≡ Some build
    → is_some (state_of prefix).opened ≡ true
opens [] lane build legal is = absurd (cc)
opens (x ∷ prefix) lane build legal is = (story_is_consistent x prefix legal).opened

began_sound : (prefix rest : List StoryStep) (lane : ℕ) (build : Build) → Legal (prefix ++ rest) → WasSound (prefix ++ rest)
    → build_of (state_of prefix).active lane ≡ Some build → BeganSound prefix
began_sound prefix rest lane build legal sound is = by (state_of prefix).opened refl
    (opens prefix lane build (prefix_is_legal start prefix rest legal) is)
  where
    by : (o : Option Opening) → (state_of prefix).opened ≡ o → is_some o ≡ true → BeganSound prefix
    by None e there = absurd (cc)
    by (Some opening) e there = record {
      opening = opening;
      opened = e;
      sound = sound.base opening (stays_opened prefix rest opening legal e);
    }

began_at : (story prefix rest : List StoryStep) (lane : ℕ) (build : Build) → Legal story → WasSound story → story ≡ prefix ++ rest
    → build_of (state_of prefix).active lane ≡ Some build → BeganSound prefix
began_at story prefix rest lane build legal sound grows is = began_sound prefix rest lane build (subst Legal grows legal)
    (subst WasSound grows sound) is

prefix_at : (story prefix rest : List StoryStep) → Legal story → story ≡ prefix ++ rest → Legal prefix
prefix_at story prefix rest legal grows = prefix_is_legal start prefix rest (subst Legal grows legal)

pub commanded_so : BuildIsOfItsCommand → (story : List StoryStep) → Legal story → AreOfTheirCommands story
commanded_so law story legal = record {
  each = λ prefix rest tag build grows is. law prefix tag.lane build (prefix_at story prefix
      (story_steps.End tag ∷ rest) legal grows) (of_lane (state_of prefix) tag build is);
}

pub built_so : BuildIsAsFromNothing → (story : List StoryStep) → Legal story → WasSound story → AreFromNothing story
built_so law story legal sound = are_from_nothing story complete legal
  where
    complete : Law story
    complete = record {
      complete = λ prefix rest lane build grows is over.
          let began = began_at story prefix rest lane build legal sound grows is in
          law prefix began.opening lane build (prefix_at story prefix rest legal grows) began.opened began.sound is over;
    }

pub outcomes_so : EndedBuildHasItsOutcomesFromNothing → (story : List StoryStep) → Legal story → WasSound story
    → HaveTheirOutcomes story
outcomes_so law story legal sound = record {
  each = λ prefix rest tag build n unit grows is well of_n.
      let ends : EndsBuild (state_of prefix) tag = (rest_is_legal start prefix (story_steps.End tag ∷ rest)
      (subst Legal grows legal)).0 in
      let active = of_lane (state_of prefix) tag build is in
      let began = began_at story prefix (story_steps.End tag ∷ rest) tag.lane build legal sound grows active in
      law prefix began.opening (story_steps.End tag) tag.lane build n unit
      (prefix_at story prefix (story_steps.End tag ∷ rest) legal grows) began.opened began.sound active
      (record { tag = tag; is = refl; of_lane = refl; active = is; over = ends_over (state_of prefix) tag build ends is }) well
      of_n;
}

pub reused_so : TakenRecordIsSeenKept → TakenRecordIsSeenWinked → (story : List StoryStep) → Legal story → TakeWhatTheySee story
reused_so kept winked story legal = record {
  kept = λ prefix rest tag n id grows. kept prefix rest tag n id (subst Legal grows legal);
  winked = λ prefix rest row tick view id grows is. winked prefix rest row tick view id (subst Legal grows legal) is;
}

pub recorded_so : PublishedRecordIsWhatWasRead → (story : List StoryStep) → Legal story → RecordWhatTheyRead story
recorded_so law story legal = record {
  each = λ prefix rest row tick view targets script listed outputs grows is. law prefix rest row tick view targets script listed
      outputs (subst Legal grows legal) is;
}

pub sought_so : NothingIsPassedOverStart → NothingIsPassedOverPublish → NothingIsPassedOverMatch → (story : List StoryStep)
    → Legal story → PassNothingOver story
sought_so starts publishes matched story legal = record {
  started = λ prefix rest tag n build unit id grows any of_n lives. starts prefix rest tag n build unit id
      (subst Legal grows legal) any of_n lives;
  published = λ prefix rest row tick build id view other targets script entries outputs stored grows is any object.
      publishes prefix rest row tick build id view other targets script entries outputs stored (subst Legal grows legal) is any
      object;
  matched = λ prefix rest row tick build n unit id view targets script listed outputs grows is any place is_unit lives.
      matched prefix rest row tick build n unit id view targets script listed outputs (subst Legal grows legal) is any place
      is_unit lives;
}

none_sound : IsSound []
none_sound id = refl

pub sound_so : BaseStaysSoundStays → (story : List StoryStep) → Legal story → WasSound story → IsSound (state_of story).base
sound_so law [] legal sound = none_sound
sound_so law (x ∷ story) legal sound = by (state_of (x ∷ story)).opened refl (story_is_consistent x story legal).opened
  where
    by : (o : Option Opening) → (state_of (x ∷ story)).opened ≡ o → is_some o ≡ true → IsSound (state_of (x ∷ story)).base
    by None e there = absurd (cc)
    by (Some opening) e there = law (x ∷ story) opening legal e (sound.base opening e)

pub new_was_sound : NewBaseWasSound
new_was_sound story opening is none = record {
  base = λ other opened.
      let same : opening ≡ other = some_opening (sym is ∙ opened) in
      subst (λ (o : Opening). IsSound o.base) same (subst IsSound (sym none) none_sound);
}
  where
    some_opening : {a b : Opening} → Some a ≡ Some b → a ≡ b
    some_opening e = cc
