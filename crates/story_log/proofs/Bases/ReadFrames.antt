-- How many frames of a journal were read, and how far it was read then.
use Rattle.std.proofs.Common.{◌≡◌, ◌+◌, ℕ, suc, Option, Some, None, List, [], ◌∷◌, ◌++◌, length, refl, sym, ◌∙◌, ap, subst, arith}
use Rattle.std.proofs.Common.{length-append}
use Rattle.disk_model.specs.Devices.{Device, Measures}
use Rattle.disk_model.specs.DiskStates.{DiskState, IfModeled, Both}
use Rattle.base_model.specs.Rows.{Base, size}
use Rattle.row_form.specs.Spelled.{spelling_of}
use Rattle.vob_journal.specs.Pieces.{IsReadForth, IsReadUntil, ReadsOnce}
use Rattle.vob_journal.specs.Shown.{Shown, frames_read}
use Rattle.vob_journal.proofs.Pieces.{forth_until, modeled_once, modeled_once_to, modeled_until_none, once_then, until_of}
use Rattle.vob_journal.proofs.Telling.{both_from, both_map, both_then, modeled_both, modeled_map}
use Rattle.story_log.specs.Bases.Reading.{IsAfterBase, IsMissed, IsNoRow, IsReadBy, IsReadOn, IsReadSoFar, NextIs, OnlyReads}
use Rattle.story_log.specs.Bases.Reading.{ReadsOnceBy}
use Rattle.story_log.specs.Stored.Payloads.{payloads}
use Rattle.story_log.specs.declared.opening.OpenCause.{OpenCause}
use Rattle.story_log.specs.declared.opening.OpenCause.TheVariants as causes

count_payloads : (base : Base) → length (payloads base) ≡ length base
count_payloads [] = refl
count_payloads (row ∷ older) =
    omega (arith, length-append (payloads older) (spelling_of row ∷ []), count_payloads older)

-- as many frames were read as there are rows
pub frames_so_far : {D : Type 0} (ghost_state : D → DiskState) (base : Base) (journal : Shown D)
    → IsReadSoFar ghost_state base journal
    → IfModeled (ghost_state journal.disk).modeled (λ _. frames_read journal ≡ length base)
frames_so_far ghost_state base journal h =
    modeled_map (λ _. journal.list ≡ payloads base ++ journal.rest) (λ _. frames_read journal ≡ length base)
    (ghost_state journal.disk).modeled
    (λ d is. omega (arith, ap length is, length-append (payloads base) journal.rest, count_payloads base)) h.list_is

-- one frame more was read
pub one_frame_more : {D : Type 0} (ghost_state : D → DiskState) (base : Base) (payload : List ℕ) (old new : Shown D)
    → IsReadSoFar ghost_state base old → OnlyReads ghost_state old new → NextIs ghost_state (Some payload) old new
    → IfModeled (ghost_state old.disk).modeled (λ _. frames_read new ≡ frames_read old + 1)
one_frame_more ghost_state base payload old new h reads next =
    modeled_both (λ _. old.list ≡ payloads base ++ old.rest) (λ _. old.rest ≡ payload ∷ new.rest)
    (λ _. frames_read new ≡ frames_read old + 1) (ghost_state old.disk).modeled
    (λ d is gives. omega (arith, ap length is, ap length gives, ap length reads.list, length-append (payloads base) old.rest))
    h.list_is next.gives

-- and gave no row
pub read_for_none : {D : Type 0} (ghost_state : D → DiskState) (base : Base) (payload : List ℕ) (old new : Shown D)
    → IsReadSoFar ghost_state base old → OnlyReads ghost_state old new → NextIs ghost_state (Some payload) old new
    → Both (IsReadForth (frames_read old) old.reach (frames_read new) new.reach) (ghost_state old.disk).modeled
    (ghost_state new.disk).modeled
    → Both (IsReadUntil (frames_read old) old.reach (frames_read old + 1)) (ghost_state old.disk).modeled
    (ghost_state new.disk).modeled
read_for_none ghost_state base payload old new h reads next forth =
    both_from (λ _. frames_read new ≡ frames_read old + 1)
    (IsReadForth (frames_read old) old.reach (frames_read new) new.reach)
    (IsReadUntil (frames_read old) old.reach (frames_read old + 1)) (ghost_state old.disk).modeled (ghost_state new.disk).modeled
    (λ d e is f. subst (λ n. IsReadUntil (frames_read old) old.reach n d e) is
    (until_of (frames_read old) old.reach (frames_read new) new.reach d e f))
    (one_frame_more ghost_state base payload old new h reads next) forth

-- a damaged frame is the next one
pub after_no_row : (base : Base) (payload : List ℕ) (cause : OpenCause) → IsNoRow base payload cause → IsAfterBase base cause
after_no_row base payload (causes.Damaged n) none = none.0
after_no_row base payload causes.DiskFault none = tt
after_no_row base payload causes.NoMemory none = tt

pub after_missed : (base : Base) (cause : OpenCause) (old new : ℕ) → IsMissed cause old new → IsAfterBase base cause
after_missed base (causes.Damaged n) old new missed = absurd missed
after_missed base causes.DiskFault old new missed = tt
after_missed base causes.NoMemory old new missed = tt

-- how far a journal was read
pub modeled_on : (from had to : ℕ) (old new : Option Device) → Both (IsReadUntil from had to) old new
    → Both (IsReadOn from had) old new
modeled_on from had to old new h = both_map (IsReadUntil from had to) (IsReadOn from had) old new (λ d e until. (to, until)) h

pub modeled_on_none : (from had : ℕ) (modeled : Option Device) → Both (IsReadOn from had) modeled modeled
modeled_on_none from had modeled =
    modeled_on from had from modeled modeled (modeled_until_none from had from modeled (omega arith))

pub read_by : (cause : OpenCause) (base : Base) (from had read reach : ℕ) (one two three : Option Device)
    → Both (IsReadForth from had read reach) one two → Both (IsReadUntil read reach (read + 1)) two three
    → IfModeled two (λ _. read ≡ length base) → IsAfterBase base cause → Both (IsReadBy cause from had) one three
read_by (causes.Damaged n) base from had read reach one two three forth until is next =
    both_then (IsReadForth from had read reach) (λ d e. (read ≡ length base) × IsReadUntil read reach (read + 1) d e)
    (IsReadUntil from had n) one two three
    (λ d e f h g.
    let number : read + 1 ≡ n = omega (arith, g.0, next) in
    subst (λ k. IsReadUntil from had k d f) number (forth_until from had read reach (read + 1) d e f h g.1))
    forth
    (both_from (λ _. read ≡ length base) (IsReadUntil read reach (read + 1))
    (λ d e. (read ≡ length base) × IsReadUntil read reach (read + 1) d e) two three (λ d e same h. (same, h)) is until)
read_by causes.DiskFault base from had read reach one two three forth until is next =
    both_then (IsReadForth from had read reach) (IsReadUntil read reach (read + 1)) (IsReadOn from had) one two three
    (λ d e f h g. (read + 1, forth_until from had read reach (read + 1) d e f h g)) forth until
read_by causes.NoMemory base from had read reach one two three forth until is next =
    both_then (IsReadForth from had read reach) (IsReadUntil read reach (read + 1)) (IsReadOn from had) one two three
    (λ d e f h g. (read + 1, forth_until from had read reach (read + 1) d e f h g)) forth until

-- the calls of an opening, where the journal's length was told
pub once_on : (one two three : Option Device) → Both (Measures 0) one two → Both (IsReadOn 0 0) two three
    → Both ReadsOnce one three
once_on one two three made on = both_then (Measures 0) (IsReadOn 0 0) ReadsOnce one two three
    (λ d e f m h. (h.0, once_then h.0 d e f m h.1)) made on

pub once_by : (cause : OpenCause) (one two three : Option Device) → Both (Measures 0) one two
    → Both (IsReadBy cause 0 0) two three → Both (ReadsOnceBy cause) one three
once_by (causes.Damaged n) one two three made by = modeled_once_to n one two three made by
once_by causes.DiskFault one two three made by = once_on one two three made by
once_by causes.NoMemory one two three made by = once_on one two three made by

-- a journal that was read once, to any of its frames
pub once_of : (cause : OpenCause) (old new : Option Device) → Both (ReadsOnceBy cause) old new → Both ReadsOnce old new
once_of (causes.Damaged n) old new once = modeled_once n old new once
once_of causes.DiskFault old new once = once
once_of causes.NoMemory old new once = once
