-- What the commands of a story are replied, as the story goes.
use Rattle.std.specs.Prelude.{ℕ, true, false, ◌==◌, Option, Some, None, List, [], ◌∷◌, ◌++◌, length, if◌then◌else◌}
use Rattle.cc_names.specs.declared.commands.Command.{Command}
use Rattle.cc_names.specs.declared.commands.Command.TheVariants as commands
use Rattle.cc_names.specs.declared.replies.Reply.{Reply}
use Rattle.cc_names.specs.declared.replies.Reply.TheVariants as replies
use Rattle.cc_names.specs.declared.rows.Deed.{Deed}
use Rattle.cc_names.specs.declared.rows.Deed.TheVariants as deeds
use Rattle.cc_names.specs.declared.rows.Tag.{Tag}
use Rattle.cc_names.specs.declared.steps.StoryStep.{StoryStep}
use Rattle.cc_names.specs.declared.steps.StoryStep.TheVariants as story_steps
use Rattle.legal_history.specs.Builds.Replied.{reply_of}
use Rattle.base_model.specs.Rows.{Base}
use Rattle.legal_history.specs.Builds.Active.{Build}
use Rattle.legal_history.specs.Stories.States.{State, next_command, build_by, start}
use Rattle.legal_history.specs.Stories.Steps.{after}
use Rattle.legal_history.specs.Queries.VersionNames.{version_name}

-- The reply to the command of a row: the version that it took out or made, how many things it named, or that all is
-- well. The rows of a build finish no command.
abbrev pub reply_to_row : Base → Deed → Option Reply
reply_to_row b (deeds.Checkout v e origin reserved) = Some (replies.Version (version_name b origin))
reply_to_row b (deeds.Branch v e origin name out) = Some (replies.Version (version_name b (length b)))
reply_to_row b (deeds.Checkin v e) = Some (replies.Version (version_name b (length b)))
reply_to_row b (deeds.Scrub objects) = Some (replies.Count (length objects))
reply_to_row b (deeds.Labels label placed) = Some (replies.Count (length placed))
reply_to_row b (deeds.Publish v targets script entries outputs) = None
reply_to_row b (deeds.Wink v object) = None
reply_to_row b deed = Some replies.Good

-- how many things a row named, where its command is replied their number
abbrev pub replied_count : Deed → Option ℕ
replied_count (deeds.Scrub objects) = Some (length objects)
replied_count (deeds.Labels label placed) = Some (length placed)
replied_count deed = None

-- the reply to a row that takes out or makes a version of this name, or counts so many things, or does neither
abbrev pub row_reply : Option (List ℕ) → Option ℕ → Reply
row_reply (Some name) count = replies.Version name
row_reply None (Some count) = replies.Count count
row_reply None None = replies.Good

-- the reply to a command that was answered: a change that found nothing to change counts nothing
abbrev pub reply_to_answer : Option Command → List ℕ → Reply
reply_to_answer (Some (commands.Change change)) text = replies.Count 0
reply_to_answer command text = replies.Answer text

-- the reply to a command under which the disk failed, where it was not building
abbrev pub reply_to_fault : Option Build → Option Reply
reply_to_fault None = Some replies.DiskFault
reply_to_fault (Some build) = None

-- the reply to a command that built: by what its units have come to, or that the disk failed under it
abbrev pub reply_to_end : Base → Option Build → Option Reply
reply_to_end b None = None
reply_to_end b (Some build) = Some (if build.faulted then replies.DiskFault else reply_of b build)

-- a reply where there is one and the lane is this one
abbrev pub in_lane : ℕ → Tag → Option Reply → List Reply
in_lane lane tag None = []
in_lane lane tag (Some reply) = elim (tag.lane == lane) [ true ↦ reply ∷ [] | false ↦ [] ]

-- The replies to the commands of a lane that a step finishes: one or none.
abbrev pub replies_by : State → ℕ → StoryStep → List Reply
replies_by s lane (story_steps.Commit row tick) = in_lane lane row.tag (reply_to_row (row ∷ s.base) row.deed)
replies_by s lane (story_steps.Refused tag refusal) = in_lane lane tag (Some (replies.Refused refusal))
replies_by s lane (story_steps.Answer tag text) = in_lane lane tag
    (Some (reply_to_answer (next_command s tag) text))
replies_by s lane (story_steps.Fault tag left before faults tick) =
    in_lane lane tag (reply_to_fault (build_by s tag))
replies_by s lane (story_steps.End tag) = in_lane lane tag (reply_to_end s.base (build_by s tag))
replies_by s lane step = []

-- a lane's replies after a step; a new phase has none yet
abbrev pub replies_after : State → StoryStep → (ℕ → List Reply) → ℕ → List Reply
replies_after s (story_steps.PhaseBegun phase moment) replies lane = []
replies_after s step replies lane = replies lane ++ replies_by s lane step

-- the replies of each lane of the last phase, after those that the lanes had in a state
abbrev pub replies_from : State → (ℕ → List Reply) → List StoryStep → ℕ → List Reply
replies_from s replies [] = replies
replies_from s replies (x ∷ story) = replies_from (after s x) (replies_after s x replies) story

-- no lane has a reply yet
abbrev pub no_replies : ℕ → List Reply
no_replies lane = []

-- The replies to the finished commands of a lane of the last phase, in order.
abbrev pub replies_of : List StoryStep → ℕ → List Reply
replies_of story = replies_from start no_replies story
