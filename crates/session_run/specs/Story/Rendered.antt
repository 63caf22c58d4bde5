-- The text of a story: the transcripts of its phases whose commands are all finished.
--
-- Each clearmake is given by what its own units have come to. `FromNothing` tells it by the build from nothing.
use Rattle.std.specs.Prelude.{ℕ, ◌+◌, Bool, true, false, ◌&&◌, ◌||◌, not, nat_lt, List, [], ◌∷◌, ◌++◌, codes}
use Rattle.std.specs.Fmt.{decimal}
use Rattle.std.specs.List.{flat_map, list_any, list_all}
use Rattle.cc_names.specs.declared.commands.Lane.{Lane}
use Rattle.cc_names.specs.declared.commands.Phase.{Phase}
use Rattle.cc_names.specs.declared.replies.Reply.{Reply}
use Rattle.cc_names.specs.declared.replies.Reply.TheVariants as replies
use Rattle.cc_names.specs.declared.steps.StoryStep.{StoryStep}
use Rattle.cc_names.specs.declared.steps.StoryStep.TheVariants as story_steps
use Rattle.reply_text.specs.Replies.{render_words, is_made_line}
use Rattle.session_text.specs.CommandWords.{words_of_command}
use Rattle.legal_history.specs.Stories.States.{State, all_done, start}
use Rattle.legal_history.specs.Stories.Steps.{after, state_of}
use Rattle.base_core.specs.Story.Replying.{replies_after, no_replies}

-- the replies to the commands of each lane
abbrev pub Replies : Type 0
Replies = ℕ → List Reply

-- a phase whose commands are all finished, with its number and the replies to them
pub record EndedPhase : Type 0 where
  pub number : ℕ
  pub phase : Phase
  pub replies : Replies

-- whether a phase began and all its commands are finished
abbrev pub is_ended : State → Bool
is_ended s = nat_lt 0 s.number && all_done s

-- a phase where this is so, else none
abbrev pub phase_where : Bool → EndedPhase → List EndedPhase
phase_where true ended = ended ∷ []
phase_where false ended = []

-- the last phase, where all its commands are finished
abbrev pub last_ended_phase : State → Replies → List EndedPhase
last_ended_phase s replies = phase_where (is_ended s) (record { number = s.number; phase = s.phase; replies = replies })

-- the phase that a step closes: a phase that begins closes the one before it
abbrev pub closed_by : State → Replies → StoryStep → List EndedPhase
closed_by s replies (story_steps.PhaseBegun phase moment) = last_ended_phase s replies
closed_by s replies step = []

-- the replies after the steps of a story, where each step leaves them so
abbrev pub replies_over : (State → StoryStep → Replies → Replies) → State → Replies → List StoryStep → Replies
replies_over leave s replies [] = replies
replies_over leave s replies (x ∷ story) = replies_over leave (after s x) (leave s x replies) story

-- the phases that the steps of a story close
abbrev pub closed_over : (State → StoryStep → Replies → Replies) → State → Replies → List StoryStep → List EndedPhase
closed_over leave s replies [] = []
closed_over leave s replies (x ∷ story) = closed_by s replies x ++ closed_over leave (after s x) (leave s x replies) story

-- the phases of a story in order, the last one where all its commands are finished, where each step leaves the replies so
abbrev pub ended_over : (State → StoryStep → Replies → Replies) → List StoryStep → List EndedPhase
ended_over leave story =
    closed_over leave start no_replies story ++ last_ended_phase (state_of story) (replies_over leave start no_replies story)

-- all phases of a story but the last
abbrev pub earlier_phases : List StoryStep → List EndedPhase
earlier_phases story = closed_over replies_after start no_replies story

-- the phases of a story in order, the last one where all its commands are finished
abbrev pub ended_phases : List StoryStep → List EndedPhase
ended_phases story = ended_over replies_after story

-- The lines of a lane of a phase, where each command is given by its word.
abbrev pub render : Phase → ℕ → List Reply → List ℕ
render phase number answers = render_words (words_of_command phase) number answers

-- the lines of lanes that are numbered from n on
abbrev pub lanes_text : Phase → ℕ → List Lane → Replies → List ℕ
lanes_text phase n [] replies = []
lanes_text phase n (lane ∷ lanes) replies = render phase n (replies n) ++ lanes_text phase (n + 1) lanes replies

-- the first line of a transcript
abbrev pub phase_line : ℕ → List ℕ
phase_line number = codes "phase " ++ decimal number ++ 10 ∷ []

-- the transcript of a phase of this number: its line, and then each lane's lines with the replies to its commands
abbrev pub transcript : ℕ → Phase → Replies → List ℕ
transcript number phase replies = phase_line number ++ lanes_text phase 1 phase.lanes replies

-- the transcript of a phase that ended
abbrev pub transcript_of : EndedPhase → List ℕ
transcript_of ended = transcript ended.number ended.phase ended.replies

-- the transcripts of phases
abbrev pub transcripts : List EndedPhase → List ℕ
transcripts phases = flat_map transcript_of phases

-- the transcripts of all phases of a story but the last
abbrev pub earlier_text : List StoryStep → List ℕ
earlier_text story = transcripts (earlier_phases story)

-- The text of a story: the transcripts of its phases in order, the last one where all its commands are finished.
abbrev pub text_of_story : List StoryStep → List ℕ
text_of_story story = transcripts (ended_phases story)

-- whether a command failed, by its reply: it was refused, or it built and a unit is not made
abbrev pub is_failure : Reply → Bool
is_failure (replies.Refused refusal) = true
is_failure (replies.Built lines) = not (list_all is_made_line lines)
is_failure reply = false

-- whether a command of lanes that are numbered from n on failed
abbrev pub lanes_fail : ℕ → List Lane → Replies → Bool
lanes_fail n [] replies = false
lanes_fail n (lane ∷ lanes) replies = list_any is_failure (replies n) || lanes_fail (n + 1) lanes replies

-- whether a command of the phase failed
abbrev pub phase_fails : EndedPhase → Bool
phase_fails ended = lanes_fail 1 ended.phase.lanes ended.replies

-- Whether a command of a story failed.
abbrev pub has_failure : List StoryStep → Bool
has_failure story = list_any phase_fails (ended_phases story)
