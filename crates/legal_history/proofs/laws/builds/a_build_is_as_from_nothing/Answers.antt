use Rattle.legal_history.proofs.laws.builds.a_build_is_as_from_nothing.Goals as goal
use Rattle.legal_history.specs.Stories.Steps.{state_of}
use Rattle.legal_history.proofs.Builds.RepliesAgree.{complete_reply}
use Rattle.legal_history.proofs.Reuse.AgreedStories.{story_agrees_so_far}

pub returns : goal.returns
returns c = λ story opening lane build legal opened sound is complete.
    complete_reply (state_of story).base build (story_agrees_so_far story opening lane build legal opened sound is) complete
