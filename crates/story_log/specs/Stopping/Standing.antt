-- What the files of a disk stand for, and what a stop may leave of a history.
use Rattle.std.specs.Prelude.{ℕ, ◌<◌, ◌≤◌, ◌⊎◌, Option, Some, None, List, [], ◌∷◌}
use Rattle.cc_names.specs.Formed.{Plain}
use Rattle.base_model.specs.Rows.{Base}
use Rattle.legal_history.specs.Stories.States.{Opening, End, Committed, Faulted, ticks_of}
use Rattle.story_log.specs.Stored.Founds.{FoundFiles, Represents}

-- a base with the row that a fault may have left after it
abbrev pub with_left : Option Plain → Base → Base
with_left None b = b
with_left (Some row) b = row ∷ b

-- What was found represents a base, or that and the row that a fault left after it.
abbrev pub StandsFor : Base → Option Plain → FoundFiles → Type 0
StandsFor b left found = Represents found b ⊎ Represents found (with_left left b)

-- the base that was opened with the row of each commit since; commits and faults are listed newest first
abbrev pub base_by : Opening → List End → Base
base_by opening [] = opening.base
base_by opening (Committed row tick ∷ earlier) = row ∷ base_by opening earlier
base_by opening (Faulted left faults tick ∷ earlier) = base_by opening earlier

-- the disk's ticks as a commit or a fault ended
abbrev pub tick_of : End → ℕ
tick_of (Committed row tick) = tick
tick_of (Faulted left faults tick) = tick

-- the row that may be found after an end: none after a commit, what a fault left
abbrev pub left_after : End → Option Plain
left_after (Committed row tick) = None
left_after (Faulted left faults tick) = left

-- the row that a stop within the call of an end may find: the row of a commit, what a fault left
abbrev pub left_within : End → Option Plain
left_within (Committed row tick) = Some row
left_within (Faulted left faults tick) = left

-- What a stop at device call k may find, by the commits and faults since the base was opened, newest first.
-- After the newest one it finds its base, or that and the row that a fault left; within its call it may find its row
-- besides; before, what the earlier ones say.
abbrev pub MayBeFound : Opening → List End → ℕ → FoundFiles → Type 0
MayBeFound opening [] k found = Represents found opening.base
MayBeFound opening (end ∷ earlier) k found =
    ((tick_of end < k) × StandsFor (base_by opening (end ∷ earlier)) (left_after end) found)
    ⊎ ((k ≤ tick_of end) × (MayBeFound opening earlier k found
    ⊎ ((ticks_of (Some opening) earlier < k) × StandsFor (base_by opening earlier) (left_within end) found)))
