-- What `next` answers, over the fields as it finds them; the journal is then seen through its model.
use Rattle.std.proofs.Common.{◌≡◌, ◌≤◌, ◌+◌, ℕ, Bool, Option, Some, None, true, false, List, ◌∷◌, [], length, drop, sym, ◌∙◌, ap}
use Rattle.std.proofs.Common.{subst, arith}
use Rattle.disk_model.specs.Devices.{Device, bytes_now}
use Rattle.disk_model.specs.DiskStates.{IfModeled, Both}
use Rattle.vob_journal.specs.Added.{Adds, may_read}
use Rattle.vob_journal.specs.Answered.{GivesNext, TailAtEnd}
use Rattle.vob_journal.specs.Found.{BeginsBy, FindsAtHead, IsFrameWithin, ShowsOn}
use Rattle.vob_journal.specs.Frames.{head, is_shut}
use Rattle.vob_journal.specs.Moves.{Moves}
use Rattle.vob_journal.specs.Pieces.{IsReadForth, IsReadUntil, ReadsFrame, ReadsUntil}
use Rattle.vob_journal.specs.Reads.{Rests, SameFiles}
use Rattle.vob_journal.specs.Shown.{frames_read, modeled_list, modeled_rest, modeled_leftover, JournalInvariant}
use Rattle.vob_journal.specs.Tails.{IsStillRead}
use Rattle.vob_journal.specs.Windows.{reach_of}
use Rattle.vob_journal.specs.declared.reading.Found.{Found}
use Rattle.vob_journal.specs.declared.reading.Found.TheVariants.{Payload, End}
use Rattle.vob_journal.specs.declared.window.Window.{Window}
use Rattle.vob_journal.proofs.Pieces.{modeled_until_none}
use Rattle.vob_journal.proofs.Journals.{unchanged_now, same_moves, reading_of, missed_list, rest_moves, modeled_more, more_list}
use Rattle.vob_journal.proofs.Journals.{more_rest, ended_list, ended_leftover, ended_rest, no_leftover, payload_forth, read_of}
use Rattle.vob_journal.proofs.Journals.{ended_tail, ended_until, missed_until}
use Rattle.vob_journal.proofs.Staying.{modeled_stay, modeled_rests, modeled_adds, modeled_adds_none}
use Rattle.vob_journal.proofs.journal.Journal.next.Goals as goal

-- a journal that is still read
module _ (old new : Option Device) {ended : Bool} (settled : Bool) (tail size : ℕ) (window : Option Window)
    (reads : ended ≡ false) (kept : JournalInvariant old ended settled tail size window) (rests : Both Rests old new) where
  still : IfModeled old (IsStillRead tail size)
  still = (reading_of old ended settled tail size window reads kept).3

  -- a frame was found
  module _ {payload seen : List ℕ} {shown : Window} {found : Found} (is : found ≡ Payload payload shown)
      (finds : IfModeled old (λ d. FindsAtHead found (drop tail (bytes_now 0 d)))) (within : IsFrameWithin tail size found)
      (same : seen ≡ payload) where
    here : IfModeled old (λ d. head (drop tail (bytes_now 0 d)) ≡ Some seen)
    here = subst (λ p. IfModeled old (λ d. head (drop tail (bytes_now 0 d)) ≡ Some p)) (sym same)
        (subst (λ f. IfModeled old (λ d. FindsAtHead f (drop tail (bytes_now 0 d)))) is finds)

    fits : tail + (5 + length seen) ≤ size
    fits = subst (λ p. tail + (5 + length p) ≤ size) (sym same) (subst (IsFrameWithin tail size) is within)

    frame_kept : ShowsOn new found → BeginsBy tail found
        → JournalInvariant new ended settled (tail + (5 + length seen)) size (Some shown)
    frame_kept shows begins =
        let begun : shown.start ≤ tail = subst (BeginsBy tail) is begins in
        let starts : shown.start ≤ tail + (5 + length seen) = omega (arith, begun) in
        subst (λ b. JournalInvariant new b settled (tail + (5 + length seen)) size (Some shown)) (sym reads) (
          fits,
          (reading_of old ended settled tail size window reads kept).1,
          (starts, subst (ShowsOn new) is shows),
          modeled_more tail size seen old new still rests here fits,
        )

    frame_gives : IfModeled old (λ _. GivesNext (Some payload) (modeled_rest old ended tail)
        (modeled_rest new ended (tail + (5 + length seen))))
    frame_gives = subst (λ b. IfModeled old (λ _. GivesNext (Some payload) (modeled_rest old b tail)
        (modeled_rest new b (tail + (5 + length seen))))) (sym reads)
        (subst (λ p. IfModeled old (λ _. modeled_rest old false tail ≡ p ∷ modeled_rest new false (tail + (5 + length seen))))
        same (more_rest tail seen old new rests here))

    frame_list : modeled_list new ended (tail + (5 + length seen)) ≡ modeled_list old ended tail
    frame_list = subst (λ b. modeled_list new b (tail + (5 + length seen)) ≡ modeled_list old b tail) (sym reads)
        (more_list tail size seen old new still rests here fits)

    frame_moves : Both (Moves (modeled_list old ended tail) (modeled_leftover old ended settled tail)
        (modeled_list new ended (tail + (5 + length seen))) (modeled_leftover new ended settled (tail + (5 + length seen))))
        old new
    frame_moves =
        let on = tail + (5 + length seen) in
        subst (λ b. Both (Moves (modeled_list old b tail) (modeled_leftover old b settled tail) (modeled_list new b on)
        (modeled_leftover new b settled on)) old new) (sym reads)
        (subst (λ l. Both (Moves (modeled_list old false tail) l (modeled_list new false on)
        (modeled_leftover new false settled on)) old new) (sym (no_leftover old settled tail))
        (subst (λ l. Both (Moves (modeled_list old false tail) [] (modeled_list new false on) l) old new)
        (sym (no_leftover new settled on))
        (rest_moves tail size (modeled_list new false on) [] old new still rests
        (more_list tail size seen old new still rests here fits))))

    frame_forth : (had : ℕ) → Both (ReadsFrame tail had found) old new
        → Both (IsReadForth (read_of old ended tail) had (read_of new ended (tail + (5 + length seen))) (reach_of (Some shown)))
        old new
    frame_forth had h = subst (λ b. Both (IsReadForth (read_of old b tail) had (read_of new b (tail + (5 + length seen)))
        (reach_of (Some shown))) old new) (sym reads)
        (payload_forth tail size had _ seen old new still rests here fits
        (subst (λ f. Both (ReadsFrame tail had f) old new) is h))

  -- the end of the list was found
  module _ {shut : Bool} {found : Found} (is : found ≡ End shut)
      (finds : IfModeled old (λ d. FindsAtHead found (drop tail (bytes_now 0 d)))) where
    none_here : IfModeled old (λ d. (head (drop tail (bytes_now 0 d)) ≡ None) × (shut ≡ is_shut (drop tail (bytes_now 0 d))))
    none_here = subst (λ f. IfModeled old (λ d. FindsAtHead f (drop tail (bytes_now 0 d)))) is finds

    end_gives : IfModeled old (λ _. GivesNext None (modeled_rest old ended tail) (modeled_rest new true tail))
    end_gives = subst (λ b. IfModeled old (λ _. GivesNext None (modeled_rest old b tail) (modeled_rest new true tail)))
        (sym reads) (ended_rest shut tail old new none_here)

    end_list : modeled_list new true tail ≡ modeled_list old ended tail
    end_list = subst (λ b. modeled_list new true tail ≡ modeled_list old b tail) (sym reads)
        (ended_list shut tail size old new still rests none_here)

    end_leftover : modeled_leftover new true shut tail ≡ modeled_leftover old ended settled tail
    end_leftover = subst (λ b. modeled_leftover new true shut tail ≡ modeled_leftover old b settled tail) (sym reads)
        (ended_leftover shut tail old new rests none_here ∙ sym (no_leftover old settled tail))

    end_moves : Both (Moves (modeled_list old ended tail) (modeled_leftover old ended settled tail) (modeled_list new true tail)
        (modeled_leftover new true shut tail)) old new
    end_moves = subst (λ b. Both (Moves (modeled_list old b tail) (modeled_leftover old b settled tail)
        (modeled_list new true tail) (modeled_leftover new true shut tail)) old new) (sym reads)
        (subst (λ l. Both (Moves (modeled_list old false tail) l (modeled_list new true tail)
        (modeled_leftover new true shut tail)) old new) (sym (no_leftover old settled tail))
        (rest_moves tail size (modeled_list new true tail) (modeled_leftover new true shut tail) old new still rests
        (ended_list shut tail size old new still rests none_here)))

    end_tail : IfModeled old (TailAtEnd None ended shut tail)
    end_tail = subst (λ b. IfModeled old (TailAtEnd None b shut tail)) (sym reads) (ended_tail shut tail size old still none_here)

    end_until : (had : ℕ) → Both (ReadsFrame tail had found) old new
        → Both (IsReadUntil (read_of old ended tail) had (read_of old ended tail + 1)) old new
    end_until had h = subst (λ b. Both (IsReadUntil (read_of old b tail) had (read_of old b tail + 1)) old new) (sym reads)
        (ended_until shut tail size had old new still (subst (λ f. Both (ReadsFrame tail had f) old new) is h))

  -- a call failed, or memory ran out
  fault_moves : Both (Moves (modeled_list old ended tail) (modeled_leftover old ended settled tail) (modeled_list new ended tail)
      (modeled_leftover new ended settled tail)) old new
  fault_moves = subst (λ b. Both (Moves (modeled_list old b tail) (modeled_leftover old b settled tail) (modeled_list new b tail)
      (modeled_leftover new b settled tail)) old new) (sym reads)
      (subst (λ l. Both (Moves (modeled_list old false tail) l (modeled_list new false tail)
      (modeled_leftover new false settled tail)) old new) (sym (no_leftover old settled tail))
      (subst (λ l. Both (Moves (modeled_list old false tail) [] (modeled_list new false tail) l) old new)
      (sym (no_leftover new settled tail))
      (rest_moves tail size (modeled_list new false tail) [] old new still rests (missed_list old new tail rests))))

  fault_until : (had : ℕ) → Both (ReadsUntil tail had) old new
      → Both (IsReadUntil (read_of old ended tail) had (read_of old ended tail + 1)) old new
  fault_until had h = subst (λ b. Both (IsReadUntil (read_of old b tail) had (read_of old b tail + 1)) old new) (sym reads)
      (missed_until tail size had old new still h)

pub returns-then-self-clause-moves : goal.returns-then-self-clause-moves
returns-then-self-clause-moves g c =
    subst (λ s. Both (Moves s.list s.leftover s.list s.leftover) (g.D.Disk.ghost_state s.disk).modeled
    (g.D.Disk.ghost_state s.disk).modeled) c.self.view_is
    (same_moves _ _ _ (unchanged_now _ _ _ _ _ _ c.self.invariant))

pub invariant_of-self : goal.invariant_of-self
invariant_of-self g c =
    let at = c.in-Ok-Payload in
    frame_kept _ _ _ _ _ _ c.if-self.false c.self.invariant at.ensures.rests at.field-0-is at.ensures.found at.ensures.within
    c.as_bytes.ensures at.ensures.shows at.ensures.begins

pub returns-in-Ok-Payload-clause-gives : goal.returns-in-Ok-Payload-clause-gives
returns-in-Ok-Payload-clause-gives g c =
    let at = c.in-Ok-Payload in
    subst (λ s. IfModeled (g.D.Disk.ghost_state s.disk).modeled (λ _. GivesNext (Some at.payload) s.rest
    (modeled_rest (g.D.Disk.ghost_state c.read_frame.new.disk).modeled c.self.inside.ended
    (c.self.inside.tail + (5 + length c.as_bytes.result.now))))) c.self.view_is
    (frame_gives _ _ _ _ _ _ c.if-self.false c.self.invariant at.ensures.rests at.field-0-is at.ensures.found at.ensures.within
    c.as_bytes.ensures)

pub returns-in-Ok-Payload-clause-list : goal.returns-in-Ok-Payload-clause-list
returns-in-Ok-Payload-clause-list g c =
    let at = c.in-Ok-Payload in
    frame_list _ _ _ _ _ _ c.if-self.false c.self.invariant at.ensures.rests at.field-0-is at.ensures.found at.ensures.within
    c.as_bytes.ensures ∙ ap (λ s. s.list) c.self.view_is

pub returns-in-Ok-Payload-clause-moves : goal.returns-in-Ok-Payload-clause-moves
returns-in-Ok-Payload-clause-moves g c =
    let at = c.in-Ok-Payload in
    let new = (g.D.Disk.ghost_state c.read_frame.new.disk).modeled in
    let on = c.self.inside.tail + (5 + length c.as_bytes.result.now) in
    subst (λ s. Both (Moves s.list s.leftover (modeled_list new c.self.inside.ended on)
    (modeled_leftover new c.self.inside.ended c.self.inside.settled on)) (g.D.Disk.ghost_state s.disk).modeled new) c.self.view_is
    (frame_moves _ _ _ _ _ _ c.if-self.false c.self.invariant at.ensures.rests at.field-0-is at.ensures.found at.ensures.within
    c.as_bytes.ensures)

pub returns-in-Ok-End-clause-gives : goal.returns-in-Ok-End-clause-gives
returns-in-Ok-End-clause-gives g c =
    let at = c.in-Ok-End in
    subst (λ s. IfModeled (g.D.Disk.ghost_state s.disk).modeled (λ _. GivesNext None s.rest
    (modeled_rest (g.D.Disk.ghost_state c.read_frame.new.disk).modeled true c.self.inside.tail))) c.self.view_is
    (end_gives _ _ _ _ _ _ c.if-self.false c.self.invariant at.ensures.rests at.field-0-is at.ensures.found)

pub returns-in-Ok-End-clause-list : goal.returns-in-Ok-End-clause-list
returns-in-Ok-End-clause-list g c =
    let at = c.in-Ok-End in
    end_list _ _ _ _ _ _ c.if-self.false c.self.invariant at.ensures.rests at.field-0-is at.ensures.found
    ∙ ap (λ s. s.list) c.self.view_is

pub returns-in-Ok-End-clause-tail : goal.returns-in-Ok-End-clause-tail
returns-in-Ok-End-clause-tail g c =
    let at = c.in-Ok-End in
    subst (λ s. IfModeled (g.D.Disk.ghost_state s.disk).modeled (TailAtEnd None s.ended at.settled c.self.inside.tail)) c.self.view_is
    (end_tail _ _ _ _ _ _ c.if-self.false c.self.invariant at.ensures.rests at.field-0-is at.ensures.found)

pub returns-in-Ok-End-clause-leftover : goal.returns-in-Ok-End-clause-leftover
returns-in-Ok-End-clause-leftover g c =
    let at = c.in-Ok-End in
    end_leftover _ _ _ _ _ _ c.if-self.false c.self.invariant at.ensures.rests at.field-0-is at.ensures.found
    ∙ ap (λ s. s.leftover) c.self.view_is

pub returns-in-Ok-End-clause-moves : goal.returns-in-Ok-End-clause-moves
returns-in-Ok-End-clause-moves g c =
    let at = c.in-Ok-End in
    let new = (g.D.Disk.ghost_state c.read_frame.new.disk).modeled in
    let tail = c.self.inside.tail in
    subst (λ s. Both (Moves s.list s.leftover (modeled_list new true tail) (modeled_leftover new true at.settled tail))
    (g.D.Disk.ghost_state s.disk).modeled new) c.self.view_is
    (end_moves _ _ _ _ _ _ c.if-self.false c.self.invariant at.ensures.rests at.field-0-is at.ensures.found)

pub returns-in-Err-clause-moves : goal.returns-in-Err-clause-moves
returns-in-Err-clause-moves g c =
    let new = (g.D.Disk.ghost_state c.read_frame.new.disk).modeled in
    let tail = c.self.inside.tail in
    subst (λ s. Both (Moves s.list s.leftover (modeled_list new c.self.inside.ended tail)
    (modeled_leftover new c.self.inside.ended c.self.inside.settled tail)) (g.D.Disk.ghost_state s.disk).modeled new)
    c.self.view_is (fault_moves _ _ _ _ _ _ c.if-self.false c.self.invariant c.in-Err.ensures.rests)

pub returns-then-self-clause-files : goal.returns-then-self-clause-files
returns-then-self-clause-files g c = modeled_stay _

pub returns-in-Ok-Payload-clause-files : goal.returns-in-Ok-Payload-clause-files
returns-in-Ok-Payload-clause-files g c =
    subst (λ s. Both SameFiles (g.D.Disk.ghost_state s.disk).modeled (g.D.Disk.ghost_state c.read_frame.new.disk).modeled)
    c.self.view_is (modeled_rests _ _ c.in-Ok-Payload.ensures.rests)

pub returns-in-Ok-End-clause-files : goal.returns-in-Ok-End-clause-files
returns-in-Ok-End-clause-files g c =
    subst (λ s. Both SameFiles (g.D.Disk.ghost_state s.disk).modeled (g.D.Disk.ghost_state c.read_frame.new.disk).modeled)
    c.self.view_is (modeled_rests _ _ c.in-Ok-End.ensures.rests)

pub returns-in-Err-clause-files : goal.returns-in-Err-clause-files
returns-in-Err-clause-files g c =
    subst (λ s. Both SameFiles (g.D.Disk.ghost_state s.disk).modeled (g.D.Disk.ghost_state c.read_frame.new.disk).modeled)
    c.self.view_is (modeled_rests _ _ c.in-Err.ensures.rests)

pub returns-then-self-clause-adds : goal.returns-then-self-clause-adds
returns-then-self-clause-adds g c = modeled_adds_none _

pub returns-in-Ok-Payload-clause-adds : goal.returns-in-Ok-Payload-clause-adds
returns-in-Ok-Payload-clause-adds g c =
    subst (λ s. Both (Adds may_read) (g.D.Disk.ghost_state s.disk).modeled (g.D.Disk.ghost_state c.read_frame.new.disk).modeled)
    c.self.view_is (modeled_adds _ _ c.in-Ok-Payload.ensures.rests)

pub returns-in-Ok-End-clause-adds : goal.returns-in-Ok-End-clause-adds
returns-in-Ok-End-clause-adds g c =
    subst (λ s. Both (Adds may_read) (g.D.Disk.ghost_state s.disk).modeled (g.D.Disk.ghost_state c.read_frame.new.disk).modeled)
    c.self.view_is (modeled_adds _ _ c.in-Ok-End.ensures.rests)

pub returns-in-Err-clause-adds : goal.returns-in-Err-clause-adds
returns-in-Err-clause-adds g c =
    subst (λ s. Both (Adds may_read) (g.D.Disk.ghost_state s.disk).modeled (g.D.Disk.ghost_state c.read_frame.new.disk).modeled)
    c.self.view_is (modeled_adds _ _ c.in-Err.ensures.rests)

pub returns-then-self-clause-forth : goal.returns-then-self-clause-forth
returns-then-self-clause-forth g c = modeled_until_none _ _ _ _ (omega arith)

pub returns-in-Ok-Payload-clause-forth : goal.returns-in-Ok-Payload-clause-forth
returns-in-Ok-Payload-clause-forth g c =
    let at = c.in-Ok-Payload in
    let old = (g.D.Disk.ghost_state c.self.inside.disk).modeled in
    let new = (g.D.Disk.ghost_state c.read_frame.new.disk).modeled in
    let on = c.self.inside.tail + (5 + length c.as_bytes.result.now) in
    subst (λ s. Both (IsReadForth (frames_read s) s.reach (read_of new c.self.inside.ended on) (reach_of (Some at.window)))
    (g.D.Disk.ghost_state s.disk).modeled new) c.self.view_is
    (frame_forth _ _ _ _ _ _ c.if-self.false c.self.invariant at.ensures.rests at.field-0-is at.ensures.found at.ensures.within
    c.as_bytes.ensures (reach_of c.self.inside.window)
    (subst (λ held. Both (ReadsFrame c.self.inside.tail (reach_of held) at.field-0) old new) c.take-window.ensures.value
    at.ensures.forth))

pub returns-in-Ok-End-clause-forth : goal.returns-in-Ok-End-clause-forth
returns-in-Ok-End-clause-forth g c =
    let at = c.in-Ok-End in
    let old = (g.D.Disk.ghost_state c.self.inside.disk).modeled in
    let new = (g.D.Disk.ghost_state c.read_frame.new.disk).modeled in
    subst (λ s. Both (IsReadUntil (frames_read s) s.reach (frames_read s + 1)) (g.D.Disk.ghost_state s.disk).modeled new)
    c.self.view_is
    (end_until _ _ _ _ _ _ c.if-self.false c.self.invariant at.ensures.rests at.field-0-is at.ensures.found
    (reach_of c.self.inside.window)
    (subst (λ held. Both (ReadsFrame c.self.inside.tail (reach_of held) at.field-0) old new) c.take-window.ensures.value
    at.ensures.forth))

pub returns-in-Err-clause-forth : goal.returns-in-Err-clause-forth
returns-in-Err-clause-forth g c =
    let old = (g.D.Disk.ghost_state c.self.inside.disk).modeled in
    let new = (g.D.Disk.ghost_state c.read_frame.new.disk).modeled in
    subst (λ s. Both (IsReadUntil (frames_read s) s.reach (frames_read s + 1)) (g.D.Disk.ghost_state s.disk).modeled new)
    c.self.view_is
    (fault_until _ _ _ _ _ _ c.if-self.false c.self.invariant c.in-Err.ensures.rests (reach_of c.self.inside.window)
    (subst (λ held. Both (ReadsUntil c.self.inside.tail (reach_of held)) old new) c.take-window.ensures.value
    c.in-Err.ensures.until))
