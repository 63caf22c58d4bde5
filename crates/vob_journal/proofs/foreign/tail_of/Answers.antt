use Rattle.std.proofs.Common.{◌≡◌, ◌≤◌, ◌+◌, Some, None, length, drop, sym, ◌∙◌, subst, arith}
use Rattle.disk_model.specs.Devices.{bytes_now}
use Rattle.disk_model.specs.DiskStates.{IfModeled, Both}
use Rattle.vob_journal.specs.Found.{BeginsBy, FindsAtHead, IsFrameWithin, ShowsOn}
use Rattle.vob_journal.specs.Frames.{head, is_shut}
use Rattle.vob_journal.specs.Pieces.{ReadsFrame}
use Rattle.vob_journal.specs.Windows.{reach_of}
use Rattle.vob_journal.proofs.Leaving.{found_first, modeled_further, modeled_behind}
use Rattle.vob_journal.proofs.Looking.{modeled_to_next, modeled_to_end, modeled_to_fault}
use Rattle.vob_journal.proofs.Staying.{modeled_rest_on}
use Rattle.vob_journal.proofs.Telling.{modeled_map}
use Rattle.vob_journal.proofs.foreign.tail_of.Goals as goal

pub frames-preserved : goal.frames-preserved
frames-preserved g c =
    let first = (g.D.Disk.ghost_state c.args.disk.now).modeled in
    let old = (g.D.Disk.ghost_state c.frames.disk).modeled in
    let new = (g.D.Disk.ghost_state c.read_frame.new.disk).modeled in
    let tail = c.frames.tail in
    let kept = c.frames.invariant in
    let answer = c.in-Ok-Payload.ensures in
    let is_payload : IfModeled old (λ d. head (drop tail (bytes_now 0 d)) ≡ Some c.in-Ok-Payload.payload) =
    subst (λ f. IfModeled old (λ d. FindsAtHead f (drop tail (bytes_now 0 d)))) c.in-Ok-Payload.field-0-is answer.found in
    let found = subst (λ p. IfModeled old (λ d. head (drop tail (bytes_now 0 d)) ≡ Some p)) (sym c.as_bytes.ensures) is_payload in
    let is_within : tail + (5 + length c.in-Ok-Payload.payload) ≤ c.args.size =
    subst (IsFrameWithin tail c.args.size) c.in-Ok-Payload.field-0-is answer.within in
    let begins : c.in-Ok-Payload.seen.start ≤ tail = subst (BeginsBy tail) c.in-Ok-Payload.field-0-is answer.begins in
    record {
      within = subst (λ p. tail + (5 + length p) ≤ c.args.size) (sym c.as_bytes.ensures) is_within;
      starts = omega (arith, begins);
      shows = subst (ShowsOn new) c.in-Ok-Payload.field-0-is answer.shows;
      rests = modeled_rest_on first old new kept.rests answer.rests;
      so_far = modeled_further tail c.as_bytes.result.now first old kept.rests found kept.so_far;
      read = modeled_to_next tail (reach_of c.frames.window) c.in-Ok-Payload.seen c.as_bytes.result.now first old new
          (found_first (Some c.as_bytes.result.now) tail first old kept.rests found) kept.read
          (subst (λ f. Both (ReadsFrame tail (reach_of c.frames.window) f) old new) c.in-Ok-Payload.field-0-is answer.forth);
      ticks = omega (arith, kept.ticks, answer.counts.0);
      faults = answer.counts.2 ∙ kept.faults;
    }

pub returns-in-Ok-End-clause-rests : goal.returns-in-Ok-End-clause-rests
returns-in-Ok-End-clause-rests g c = modeled_rest_on _ _ _ c.frames.invariant.rests c.in-Ok-End.ensures.rests

pub returns-in-Err-clause-rests : goal.returns-in-Err-clause-rests
returns-in-Err-clause-rests g c = modeled_rest_on _ _ _ c.frames.invariant.rests c.in-Err.ensures.rests

pub returns-in-Ok-End-clause-behind : goal.returns-in-Ok-End-clause-behind
returns-in-Ok-End-clause-behind g c =
    let old = (g.D.Disk.ghost_state c.frames.disk).modeled in
    let tail = c.frames.tail in
    let found : IfModeled old (λ d. (head (drop tail (bytes_now 0 d)) ≡ None)
    × (c.in-Ok-End.field-0-0 ≡ is_shut (drop tail (bytes_now 0 d)))) =
    subst (λ f. IfModeled old (λ d. FindsAtHead f (drop tail (bytes_now 0 d)))) c.in-Ok-End.field-0-is c.in-Ok-End.ensures.found
    in
    modeled_behind tail _ old c.frames.invariant.rests
    (modeled_map (λ d. (head (drop tail (bytes_now 0 d)) ≡ None) × (c.in-Ok-End.field-0-0 ≡ is_shut (drop tail (bytes_now 0 d))))
    (λ d. head (drop tail (bytes_now 0 d)) ≡ None) old (λ d h. h.0) found)
    c.frames.invariant.so_far

pub returns-in-Ok-End-clause-forth : goal.returns-in-Ok-End-clause-forth
returns-in-Ok-End-clause-forth g c =
    let old = (g.D.Disk.ghost_state c.frames.disk).modeled in
    let new = (g.D.Disk.ghost_state c.read_frame.new.disk).modeled in
    let tail = c.frames.tail in
    modeled_to_end tail (reach_of c.frames.window) c.in-Ok-End.field-0-0 _ old new c.frames.invariant.read
    (subst (λ f. Both (ReadsFrame tail (reach_of c.frames.window) f) old new) c.in-Ok-End.field-0-is c.in-Ok-End.ensures.forth)

pub returns-in-Err-clause-until : goal.returns-in-Err-clause-until
returns-in-Err-clause-until g c =
    modeled_to_fault c.frames.tail (reach_of c.frames.window) _ _ _ c.frames.invariant.read c.in-Err.ensures.until
