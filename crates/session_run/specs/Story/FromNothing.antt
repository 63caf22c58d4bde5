-- The text of a story where each clearmake is given by the build from nothing at its reference rows.
use Rattle.std.specs.Prelude.{ℕ, Option, Some, None, List, [], ◌++◌, if◌then◌else◌}
use Rattle.cc_names.specs.declared.replies.Reply.{Reply}
use Rattle.cc_names.specs.declared.replies.Reply.TheVariants as replies
use Rattle.cc_names.specs.declared.steps.StoryStep.{StoryStep}
use Rattle.cc_names.specs.declared.steps.StoryStep.TheVariants as story_steps
use Rattle.legal_history.specs.Builds.Replied.{reply_from_nothing}
use Rattle.base_model.specs.Rows.{Base}
use Rattle.legal_history.specs.Builds.Active.{Build}
use Rattle.legal_history.specs.Stories.States.{State, build_by}
use Rattle.base_core.specs.Story.Replying.{replies_by, in_lane}
use Rattle.session_run.specs.Story.Rendered.{Replies, ended_over, transcripts}

-- the reply to a command that built, by the build from nothing, or that the disk failed under it
abbrev pub end_from_nothing : Base → Option Build → Option Reply
end_from_nothing b None = None
end_from_nothing b (Some build) = Some (if build.faulted then replies.DiskFault else reply_from_nothing b build)

-- the replies to the commands of a lane that a step finishes, those of builds from nothing
abbrev pub replies_of_step : State → ℕ → StoryStep → List Reply
replies_of_step s lane (story_steps.End tag) = in_lane lane tag (end_from_nothing s.base (build_by s tag))
replies_of_step s lane step = replies_by s lane step

-- a lane's replies after a step; a new phase has none yet
abbrev pub lane_replies_after : State → StoryStep → Replies → Replies
lane_replies_after s (story_steps.PhaseBegun phase moment) replies lane = []
lane_replies_after s step replies lane = replies lane ++ replies_of_step s lane step

-- The text of a story as building from nothing tells it: its transcripts, with each build that ended without a fault of
-- the disk told by the build from nothing. Only the words kept, winked and built are the unit's own.
abbrev pub text_from_nothing : List StoryStep → List ℕ
text_from_nothing story = transcripts (ended_over lane_replies_after story)
