-- A call begins on a sound base where the call did whose leavings it opens.
use Rattle.std.proofs.Common.{◌≡◌, ℕ, ◌<◌, true, Option, Some, List, [], ◌∷◌, refl, ap, sym, subst, ◌∙◌}
use Rattle.std.proofs.lemmas.List.{reverse-reverse}
use Rattle.cc_names.specs.declared.steps.StoryStep.{StoryStep}
use Rattle.disk_model.specs.Devices.{bytes_now}
use Rattle.disk_model.specs.DiskStates.{DiskState}
use Rattle.legal_history.specs.Builds.Values.{IsSound}
use Rattle.legal_history.specs.Stories.States.{Opening}
use Rattle.legal_history.specs.Stories.Steps.{state_of}
use Rattle.story_log.specs.Stored.Stops.{OfEachStop, found_on}
use Rattle.story_log.specs.Stopping.StopLaws.{FoundBaseIsSound, OpensAgain}
use Rattle.base_rows.specs.Order.{oldest_first}
use Rattle.story_log.proofs.Cases.{some_same}
use Rattle.story_log.proofs.Stopping.FoundBases.{modeled_is}
use Rattle.session_run.specs.Faults.Stopped.{KeepsPrefix}
use Rattle.session_run.specs.Promises.HandedOn.{SoundnessIsHandedOn}
use Rattle.session_run.specs.Promises.Headline.{BeginsOn, IsOneHistory}
use Rattle.session_run.specs.Story.Begun.{is_opened}
use Rattle.session_run.specs.declared.statuses.Status.{Status}
use Rattle.session_run.specs.declared.words.Form.{Form}
use Rattle.session_run.proofs.Faults.Stopping.{is_begun, opening_of}

-- a story that opened a base has a first step
has_opened : (story : List StoryStep) (opening : Opening) → (state_of story).opened ≡ Some opening → is_opened story ≡ true
has_opened [] opening is = absurd (cc)
has_opened (x ∷ story) opening is = refl

-- the base that was opened is the one on which the history begins
opened_on : (disk : DiskState) (story : List StoryStep) (opened : Opening) (form : Option Form) (status : Status)
    (held holds : Option (List ℕ)) (history : IsOneHistory form status story disk held holds)
    (is : (state_of story).opened ≡ Some opened) →
    opened.base ≡ (history.base (has_opened story opened is)).base
opened_on disk story opened form status held holds history is =
    let begins : BeginsOn disk story = history.base (has_opened story opened is) in
    let begun = is_begun story (oldest_first begins.base) begins.handed.counts begins.handed.tells begins.first history.legal in
    let same : opened ≡ opening_of (oldest_first begins.base) begins.handed.counts begins.handed.tells =
    some_same _ _ (sym is ∙ begun.opened) in
    ap (λ o. o.base) same ∙ reverse-reverse begins.base

pub handed_on : FoundBaseIsSound → SoundnessIsHandedOn
handed_on law before after next left read k story later form status held holds stopped is_open modeled since may may_objects
    next_modeled history sound = record {
      base = λ opened begun.
          let keeps : KeepsPrefix before after story = stopped.on_base is_open in
          let again : OpensAgain keeps.opening.base (found_on read) =
          modeled_is after.modeled left (λ d. (k : ℕ) → before.ticks < k → OfEachStop d k (OpensAgain keeps.opening.base)) modeled
          keeps.again k since (bytes_now 0 read) (bytes_now 1 read) may may_objects
          in
          let begins : BeginsOn next later = history.base (has_opened later opened begun) in
          subst IsSound (sym (opened_on next later opened form status held holds history begun))
          (law keeps.opening.base begins.base next read begins.handed next_modeled again begins.on
          (sound.base keeps.opening keeps.opened));
    }
