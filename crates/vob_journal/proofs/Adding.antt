-- Which calls are added along calls.
use Rattle.std.proofs.Common.{◌≡◌, ◌+◌, ℕ, Bool, true, false, ◌&&◌, List, [], ◌∷◌, ◌++◌, refl, sym, ◌∙◌, ap, ap₂, subst, inl}
use Rattle.std.proofs.Common.{inr, append_assoc, length}
use Rattle.std.proofs.lemmas.List.Folds.{list_all-append}
use Rattle.std.specs.List.{list_all}
use Rattle.disk_model.specs.Devices.{Device, Event, Measured, Tore, Synced, Failed, Measures, with_call}
use Rattle.vob_journal.specs.Added.{Adds, WritesOn, may_read, may_write}
use Rattle.vob_journal.specs.Calls.{put_down, settled_first, device_after_commit, Settles, LeavesLeftover, CommitsFrame}
use Rattle.vob_journal.specs.Calls.{FailsToAppend, FailsToPut}
use Rattle.vob_journal.specs.Frames.{frame_after_gate}
use Rattle.vob_journal.specs.declared.left.Left.{Left}

pub adds_none : (kind : Event → Bool) (d : Device) → Adds kind d d
adds_none kind d = record { more = []; calls = refl; kinds = refl }

pub adds_then : (kind : Event → Bool) (d e f : Device) → Adds kind d e → Adds kind e f → Adds kind d f
adds_then kind d e f one two = record {
  more = two.more ++ one.more;
  calls = two.calls ∙ ap (λ calls. two.more ++ calls) one.calls ∙ sym (append_assoc two.more one.more d.calls);
  kinds = list_all-append kind two.more one.more ∙ ap₂ (λ a b. a && b) two.kinds one.kinds;
}

-- one call, or two
pub adds_one : (kind : Event → Bool) (event : Event) (d : Device) → list_all kind (event ∷ []) ≡ true
    → Adds kind d (with_call event d)
adds_one kind event d is = record { more = event ∷ []; calls = refl; kinds = is }

pub adds_two : (kind : Event → Bool) (event next : Event) (d : Device) → list_all kind (next ∷ event ∷ []) ≡ true
    → Adds kind d (with_call next (with_call event d))
adds_two kind event next d is = record { more = next ∷ event ∷ []; calls = refl; kinds = is }

-- a piece that was put down, or not
pub put_adds : (place : ℕ) (piece : List ℕ) (d e : Device) → e ≡ put_down place piece d → Adds may_write d e
put_adds place piece d e made = subst (Adds may_write d) (sym made) (adds_two may_write _ (Synced 0) d refl)

pub failed_adds : (place : ℕ) (piece : List ℕ) (d e : Device) → FailsToPut place piece d e → Adds may_write d e
failed_adds place piece d e (inl same) = subst (Adds may_write d) (sym same) (adds_none may_write d)
failed_adds place piece d e (inr (inl missed)) = subst (Adds may_write d) (sym missed) (adds_one may_write Failed d refl)
failed_adds place piece d e (inr (inr (inl tore))) = subst (Adds may_write d) (sym tore.2)
    (adds_one may_write (Tore 0 place (length piece) tore.0) d refl)
failed_adds place piece d e (inr (inr (inr (inl wrote)))) =
    subst (Adds may_write d) (sym wrote) (adds_one may_write _ d refl)
failed_adds place piece d e (inr (inr (inr (inr missed)))) =
    subst (Adds may_write d) (sym missed) (adds_two may_write _ Failed d refl)

-- settling and a commit
pub settled_adds : (settled : Bool) (tail : ℕ) (d : Device) → Adds may_write d (settled_first settled tail d)
settled_adds true tail d = adds_none may_write d
settled_adds false tail d = put_adds tail (0 ∷ []) d (put_down tail (0 ∷ []) d) refl

pub committed_adds : (settled : Bool) (tail : ℕ) (payload : List ℕ) (d e : Device)
    → e ≡ device_after_commit settled tail payload d → Adds may_write d e
committed_adds settled tail payload d e made =
    let one = settled_first settled tail d in
    let two = put_down (tail + 1) (frame_after_gate payload) one in
    subst (Adds may_write d) (sym made)
    (adds_then may_write d two (put_down tail (1 ∷ []) two)
    (adds_then may_write d one two (settled_adds settled tail d) (put_adds (tail + 1) (frame_after_gate payload) one two refl))
    (put_adds tail (1 ∷ []) two (put_down tail (1 ∷ []) two) refl))

-- what reads
pub measured_adds : (d e : Device) → Measures 0 d e → Adds may_read d e
measured_adds d e made = subst (Adds may_read d) (sym made) (adds_one may_read (Measured 0) d refl)

-- what the calls of a journal's tail do
pub commits_writes : (settled : Bool) (tail : ℕ) (payload : List ℕ) (d e : Device) → CommitsFrame settled tail payload d e
    → WritesOn d e
commits_writes settled tail payload d e h = record {
  adds = committed_adds settled tail payload d e h.calls;
  objects = h.moves.passes.objects;
}

pub fails_writes : (settled : Bool) (tail : ℕ) (payload : List ℕ) (left : Left) (d e : Device)
    → FailsToAppend settled tail payload left d e → WritesOn d e
fails_writes settled tail payload left d e h = record { adds = h.keeps.adds; objects = h.keeps.moves.passes.objects }

pub settles_writes : (settled : Bool) (tail : ℕ) (d e : Device) → Settles settled tail d e → WritesOn d e
settles_writes settled tail d e h = record { adds = h.keeps.adds; objects = h.keeps.moves.passes.objects }

pub stays_writes : (settled : Bool) (tail : ℕ) (d e : Device) → LeavesLeftover settled tail d e → WritesOn d e
stays_writes settled tail d e h = record { adds = h.keeps.adds; objects = h.keeps.moves.passes.objects }
