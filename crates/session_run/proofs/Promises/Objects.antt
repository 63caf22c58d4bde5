-- What a legal history says of objects.
use Rattle.std.proofs.Common.{List, subst}
use Rattle.cc_names.specs.declared.steps.StoryStep.{StoryStep}
use Rattle.legal_history.specs.Laws.StoryLaws.{ScrubOfAStoryListsWhatIsDue, HeldObjectIsLiveAtEachStep}
use Rattle.legal_history.specs.Stories.Lawful.{Legal}
use Rattle.session_run.specs.Promises.Objects.{ScrubsListWhatIsDue, HeldObjectsAreLive}

pub scrubs_list : ScrubOfAStoryListsWhatIsDue → (story : List StoryStep) → Legal story → ScrubsListWhatIsDue story
scrubs_list law story legal = record {
  each = λ prefix rest row tick objects grows is. law prefix rest row tick objects
      (subst Legal grows legal) is;
}

pub held_are_live : HeldObjectIsLiveAtEachStep → (story : List StoryStep) → Legal story → HeldObjectsAreLive story
held_are_live law story legal = record {
  each = λ prefix rest v path id grows is. law prefix rest v path id
      (subst Legal grows legal) is;
}
