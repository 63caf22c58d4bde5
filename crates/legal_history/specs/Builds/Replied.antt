-- What a build that has ended is replied: by what its units have come to, and by the build from nothing.
use Rattle.std.specs.Prelude.{ℕ, ◌+◌, Bool, true, false, ◌&&◌, nat_le, Option, Some, None, is_some, List, [], ◌∷◌, ◌++◌, length}
use Rattle.std.specs.Prelude.{take, unwrap_or}
use Rattle.cc_names.specs.Formed.{Plain}
use Rattle.cc_names.specs.declared.replies.Digest.{Digest}
use Rattle.cc_names.specs.declared.replies.Reply.{Reply}
use Rattle.cc_names.specs.declared.replies.Reply.TheVariants.{Built}
use Rattle.cc_names.specs.declared.replies.UnitLine.{UnitLine}
use Rattle.cc_names.specs.declared.replies.UnitWord.{UnitWord}
use Rattle.cc_names.specs.declared.replies.UnitWord.TheVariants as words
use Rattle.cc_names.specs.declared.rows.Tag.{Tag}
use Rattle.cc_names.specs.declared.steps.UnitEnd.{UnitEnd}
use Rattle.cc_names.specs.declared.steps.UnitEnd.TheVariants as ends
use Rattle.cc_names.specs.declared.units.Unit.{Unit}
use Rattle.sha2.specs.Sha256.{sha256}
use Rattle.base_model.specs.Rows.{Base, first_rows, row_at}
use Rattle.legal_history.specs.Builds.Active.{Build, Came, Started, Concluded, Given, came_to, object_of}
use Rattle.legal_history.specs.Builds.Fresh.{all_finished}
use Rattle.legal_history.specs.Builds.Serials.{Outcome, Made, Without, Finished}
use Rattle.legal_history.specs.Stories.States.{same_tag}
use Rattle.base_model.specs.Texts.{text, output_at}

-- the length and the SHA-256 of an output
abbrev pub digest_of : List ℕ → Digest
digest_of output = record { length = length output; sha256 = sha256 output }

-- the digest of an output; it is asked for at a target of the object alone, and there the object has one
abbrev pub digest_at : Option (List ℕ) → Digest
digest_at output = digest_of (unwrap_or output [])

-- whether a row is one of the command with this tag
abbrev pub is_of_tag : Tag → Option Plain → Bool
is_of_tag tag None = false
is_of_tag tag (Some row) = same_tag row.tag tag

-- whether a build published the object itself: its row is no reference row of the build, and is one of its command
abbrev pub is_own : Base → Build → ℕ → Bool
is_own b build id = nat_le build.rows id && is_of_tag build.tag (row_at b id)

-- the word for an object that a unit was given: `built` for the build's own, `winked` for another's
abbrev pub word_of_given : Bool → Digest → UnitWord
word_of_given true digest = words.Made digest
word_of_given false digest = words.Winked digest

-- the word for a unit with outputs, by what the unit itself has come to: kept, winked or built
abbrev pub word_of_object : Base → Build → Option Came → Digest → UnitWord
word_of_object b build (Some (Concluded (ends.Kept id))) digest = words.Kept digest
word_of_object b build (Some (Given id)) digest = word_of_given (is_own b build id) digest
word_of_object b build _ digest = words.Made digest

-- the word for an end without a row; an object that was kept is given by its output at the path
abbrev pub word_of_end : Base → List ℕ → UnitEnd → UnitWord
word_of_end b path (ends.Kept id) = words.Kept (digest_at (text b id path))
word_of_end b path ends.Bare = words.Bare
word_of_end b path (ends.Failed fault) = words.Failed fault
word_of_end b path (ends.Blocked other) = words.Blocked other

-- the word for a unit at one of its targets, by what the unit has come to, if it has its outcome
abbrev pub word_of_came : Base → Build → List ℕ → Option Came → Option UnitWord
word_of_came b build path None = None
word_of_came b build path (Some Started) = None
word_of_came b build path (Some (Concluded end)) = Some (word_of_end b path end)
word_of_came b build path (Some (Given id)) = Some (word_of_object b build (Some (Given id)) (digest_at (text b id path)))

-- the word for a unit at one of its targets, by what the unit comes to from nothing; of what it has come to itself only
-- the word kept, winked or built
abbrev pub word_of_outcome : Base → Build → List ℕ → List (List ℕ) → Option Came → Outcome → UnitWord
word_of_outcome b build path targets came (Made outputs) = word_of_object b build came
    (digest_at (output_at path targets outputs))
word_of_outcome b build path targets came (Without end) = word_of_end b path end

-- a line before others, where it has its word
abbrev pub line_before : List ℕ → Option UnitWord → List UnitLine → List UnitLine
line_before path None lines = lines
line_before path (Some word) lines = record { path = path; word = word } ∷ lines

-- the targets at which a unit is told: each of them where it has an object, else the first
abbrev pub reported_targets : Bool → List (List ℕ) → List (List ℕ)
reported_targets true targets = targets
reported_targets false targets = take 1 targets

-- whether a unit that was finished from nothing has outputs
abbrev pub has_outputs : Outcome → Bool
has_outputs (Made outputs) = true
has_outputs (Without end) = false

-- a line for each of some targets
abbrev pub unit_lines_of : (List ℕ → Option UnitWord) → List (List ℕ) → List UnitLine
unit_lines_of word [] = []
unit_lines_of word (path ∷ paths) = line_before path (word path) (unit_lines_of word paths)

-- the lines of units that are numbered from n on, by what they have come to
abbrev pub lines_from : Base → Build → ℕ → List Unit → List UnitLine
lines_from b build n [] = []
lines_from b build n (unit ∷ units) =
    unit_lines_of (λ path. word_of_came b build path (came_to build n))
    (reported_targets (is_some (object_of (came_to build n))) unit.targets)
    ++ lines_from b build (n + 1) units

-- the lines of finished units that are numbered from n on
abbrev pub finished_from : Base → Build → ℕ → List Finished → List UnitLine
finished_from b build n [] = []
finished_from b build n (finished ∷ more) =
    unit_lines_of (λ path. Some (word_of_outcome b build path finished.unit.targets (came_to build n) finished.outcome))
    (reported_targets (has_outputs finished.outcome) finished.unit.targets)
    ++ finished_from b build (n + 1) more

-- The reply of a build by what its units have come to: unit by unit in order, one with an object by a line for each of its
-- targets, any other by one line with its first target.
abbrev pub reply_of : Base → Build → Reply
reply_of b build = Built (lines_from b build 0 build.units)

-- The reply of a build, written from the build from nothing at its reference rows: whether a unit is made, its fault or
-- what blocks it, and its output's length and digest. Only the words kept, winked and built are the unit's own.
abbrev pub reply_from_nothing : Base → Build → Reply
reply_from_nothing b build = Built (finished_from b build 0 (all_finished (first_rows build.rows b) build.view build.units))
