-- The text of replies.
use Rattle.std.specs.Prelude.{ℕ, ◌+◌, Bool, true, false, Option, Some, None, List, [], ◌∷◌, ◌++◌, codes, if◌then◌else◌}
use Rattle.std.specs.List.{flat_map, list_all}
use Rattle.std.specs.Fmt.{decimal}
use Rattle.hex.specs.Hex.{encode_lower}
use Rattle.cc_names.specs.declared.commands.LaneWords.{LaneWords}
use Rattle.cc_names.specs.declared.commands.PhaseWords.{PhaseWords}
use Rattle.cc_names.specs.declared.replies.Digest.{Digest}
use Rattle.cc_names.specs.declared.replies.UnitWord.{UnitWord}
use Rattle.cc_names.specs.declared.replies.UnitWord.TheVariants as words
use Rattle.cc_names.specs.declared.replies.UnitLine.{UnitLine}
use Rattle.cc_names.specs.declared.replies.Reply.{Reply}
use Rattle.cc_names.specs.declared.replies.Reply.TheVariants as replies
use Rattle.reply_text.specs.Words.{spaced_words, marked_text, lane_words_at}
use Rattle.reply_text.specs.Refusals.{refusal_words, fault_words}

-- the length and the digest of an output as words
abbrev pub digest_words : Digest → List (List ℕ)
digest_words digest = decimal digest.length ∷ encode_lower digest.sha256 ∷ []

-- what a unit came to as words
abbrev pub unit_words : UnitWord → List (List ℕ)
unit_words (words.Kept digest) = codes "kept" ∷ digest_words digest
unit_words (words.Winked digest) = codes "winked" ∷ digest_words digest
unit_words (words.Made digest) = codes "built" ∷ digest_words digest
unit_words words.Bare = codes "made" ∷ []
unit_words (words.Failed fault) = codes "failed" ∷ fault_words fault
unit_words (words.Blocked path) = codes "blocked" ∷ path ∷ []

-- the line of a unit, two spaces before it
abbrev pub unit_line : UnitLine → List ℕ
unit_line unit = 32 ∷ 32 ∷ unit.path ++ spaced_words (unit_words unit.word) ++ 10 ∷ []

-- whether a unit is made
abbrev pub is_made : UnitWord → Bool
is_made (words.Failed fault) = false
is_made (words.Blocked path) = false
is_made _ = true

-- whether the unit of a line is made
abbrev pub is_made_line : UnitLine → Bool
is_made_line unit = is_made unit.word

-- the word of a build: `ok` where every unit is made
abbrev pub build_word : List UnitLine → List ℕ
build_word units = if list_all is_made_line units then codes "ok" else codes "failed"

-- a reply as words
abbrev pub reply_words : PhaseWords → Reply → List (List ℕ)
reply_words phase replies.Good = codes "ok" ∷ []
reply_words phase (replies.Version name) = codes "ok" ∷ name ∷ []
reply_words phase (replies.Count number) = codes "ok" ∷ decimal number ∷ []
reply_words phase (replies.Refused refusal) = codes "refused" ∷ refusal_words phase refusal
reply_words phase replies.DiskFault = codes "disk fault" ∷ []
reply_words phase (replies.Answer text) = codes "ok" ∷ []
reply_words phase (replies.Built units) = build_word units ∷ []

-- the lines that follow the line of a reply
abbrev pub lines_of_reply : Reply → List ℕ
lines_of_reply (replies.Answer text) = marked_text text
lines_of_reply (replies.Built units) = flat_map unit_line units
lines_of_reply _ = []

-- the lines of the command of this number, which has this word
abbrev pub command_lines : PhaseWords → ℕ → List ℕ → Reply → List ℕ
command_lines phase number word reply =
    decimal number ++ spaced_words (word ∷ reply_words phase reply) ++ 10 ∷ lines_of_reply reply

-- the lines of the commands of these words, which are numbered from this number on, each with its reply
abbrev pub lines_from : PhaseWords → ℕ → List (List ℕ) → List Reply → List ℕ
lines_from phase number (word ∷ words) (reply ∷ answers) =
    command_lines phase number word reply ++ lines_from phase (number + 1) words answers
lines_from phase number _ _ = []

-- the lines of a lane, where there is one
abbrev pub lane_lines : PhaseWords → Option LaneWords → List Reply → List ℕ
lane_lines phase None answers = []
lane_lines phase (Some lane) answers =
    codes "lane " ++ lane.name ++ 10 ∷ lines_from phase 1 lane.words answers

-- The lines of a lane, by its number from 1, with the replies to its commands.
abbrev pub render_words : PhaseWords → ℕ → List Reply → List ℕ
render_words phase number answers = lane_lines phase (lane_words_at phase number) answers
