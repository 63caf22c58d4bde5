-- How stops are told along calls.
use Rattle.std.proofs.Common.{◌≡◌, ℕ, Option, Result, Ok, Err, MatchResult, List, length, refl, sym, ◌∙◌, ap, subst, inl, inr}
use Rattle.std.proofs.Common.{arith}
use Rattle.disk_model.specs.Files.{File, IsImage, IsTorn, overwritten}
use Rattle.disk_model.specs.Devices.{Device, Event, Wrote, Tore, Synced, Failed, with_call, file_of, bytes_now, written_to}
use Rattle.disk_model.specs.Devices.{during, LeavesNow, Writes, Syncs, Idles, Tears}
use Rattle.disk_model.specs.DiskStates.{Both}
use Rattle.disk_model.proofs.Torn.{torn_overwritten}
use Rattle.vob_journal.specs.Calls.{FailsToPut, put, put_down}
use Rattle.vob_journal.specs.Moves.{Passes}
use Rattle.vob_journal.specs.Phases.{PutsDown}
use Rattle.vob_journal.proofs.Telling.{both_map, both_then}

pub passes_none : (d : Device) (P : List ℕ → Type 0) → Passes d d P
passes_none d P = record {
  no_fewer = omega arith;
  each = λ k image left. inl left;
  others = λ k image left. inl left;
  objects = refl;
}

pub passes_then : (d e f : Device) (P : List ℕ → Type 0) → Passes d e P → Passes e f P → Passes d f P
passes_then d e f P one two = record {
  no_fewer = omega (arith, one.no_fewer, two.no_fewer);
  each = λ k image left. elim (two.each k image left) [
    | inl earlier ↦ one.each k image earlier
    | inr now ↦ inr (omega (arith, one.no_fewer, now.0), now.1)
  ];
  others = λ k image left. elim (two.others k image left) [
    | inl earlier ↦ one.others k image earlier
    | inr now ↦ inr (omega (arith, one.no_fewer, now.0), subst (λ s. IsImage s image) one.objects now.1)
  ];
  objects = two.objects ∙ one.objects;
}

pub passes_weaker : (d e : Device) (P Q : List ℕ → Type 0) → ((image : List ℕ) → P image → Q image) → Passes d e P → Passes d e Q
passes_weaker d e P Q f passes = record {
  no_fewer = passes.no_fewer;
  each = λ k image left. elim (passes.each k image left) [ inl earlier ↦ inl earlier | inr now ↦ inr (now.0, f image now.1) ];
  others = passes.others;
  objects = passes.objects;
}

-- one call that leaves the objects alone
pub passes_call : (event : Event) (d : Device) (P : List ℕ → Type 0)
    → ((image : List ℕ) → IsImage (during 0 event (file_of 0 d)) image → P image)
    → ((image : List ℕ) → IsImage (during 1 event (file_of 1 d)) image → LeavesNow 1 d image)
    → file_of 1 (with_call event d) ≡ file_of 1 d → Passes d (with_call event d) P
passes_call event d P here there objects = record {
  no_fewer = omega arith;
  each = λ k image left. elim left [ inl now ↦ inr (omega (arith, now.0), here image now.1) | inr earlier ↦ inl earlier ];
  others = λ k image left. elim left [ inl now ↦ inr (omega (arith, now.0), there image now.1) | inr earlier ↦ inl earlier ];
  objects = objects;
}

-- A piece is put down on the journal, or part of it: T is what holds of the file, whatever of the piece landed, and P of
-- its images.
module _ (T : File → Type 0) (P : List ℕ → Type 0) (place size : ℕ)
    (images : (s : File) → T s → (image : List ℕ) → IsImage s image → P image)
    (torn : (s : File) (left : List ℕ) → T s → IsTorn place size s.bytes left → T (written_to s place size left)) where
  failed_passes : (d : Device) → T (file_of 0 d) → Passes d (with_call Failed d) P
  failed_passes d t = passes_call Failed d P (images (file_of 0 d) t) (λ image h. h) refl

  wrote_passes : (d : Device) (left : List ℕ) → T (file_of 0 d) → IsTorn place size (bytes_now 0 d) left
      → Passes d (with_call (Wrote 0 place size left) d) P
  wrote_passes d left t h =
      passes_call (Wrote 0 place size left) d P (images (written_to (file_of 0 d) place size left) (torn (file_of 0 d) left t h))
      (λ image i. i) refl

  tore_passes : (d : Device) (left : List ℕ) → T (file_of 0 d) → IsTorn place size (bytes_now 0 d) left
      → Passes d (with_call (Tore 0 place size left) d) P
  tore_passes d left t h =
      passes_call (Tore 0 place size left) d P (images (written_to (file_of 0 d) place size left) (torn (file_of 0 d) left t h))
      (λ image i. i) refl

  pub failed_put : (d e : Device) (piece : List ℕ) → length piece ≡ size → T (file_of 0 d) → FailsToPut place piece d e
      → Passes d e P × T (file_of 0 e)
  failed_put d e piece is t (inl same) = subst (λ f. Passes d f P × T (file_of 0 f)) (sym same) (passes_none d P, t)
  failed_put d e piece is t (inr (inl missed)) = subst (λ f. Passes d f P × T (file_of 0 f)) (sym missed) (failed_passes d t, t)
  failed_put d e piece is t (inr (inr (inl tore))) =
      let left = tore.0 in
      let whole : IsTorn place size (bytes_now 0 d) left = subst (λ n. IsTorn place n (bytes_now 0 d) left) is tore.1 in
      let call : e ≡ with_call (Tore 0 place size left) d = tore.2 ∙ ap (λ n. with_call (Tore 0 place n left) d) is in
      subst (λ f. Passes d f P × T (file_of 0 f)) (sym call) (tore_passes d left t whole, torn (file_of 0 d) left t whole)
  failed_put d e piece is t (inr (inr (inr wrote))) =
      let left = overwritten place piece (bytes_now 0 d) in
      let whole : IsTorn place size (bytes_now 0 d) left = torn_overwritten place size piece (bytes_now 0 d) (omega arith) in
      let mid = with_call (Wrote 0 place size left) d in
      let one = wrote_passes d left t whole in
      let kept = torn (file_of 0 d) left t whole in
      let made : put place piece d ≡ mid = ap (λ n. with_call (Wrote 0 place n left) d) is in
      elim wrote [
        | inl done ↦ subst (λ f. Passes d f P × T (file_of 0 f)) (sym (done ∙ made)) (one, kept)
        | inr missed ↦ subst (λ f. Passes d f P × T (file_of 0 f)) (sym (missed ∙ ap (with_call Failed) made))
            (passes_then d mid (with_call Failed mid) P one (failed_passes mid kept), kept)
      ]

  pub put_passes : (d : Device) (piece : List ℕ) → length piece ≡ size → T (file_of 0 d) → Passes d (put_down place piece d) P
  put_passes d piece is t =
      let left = overwritten place piece (bytes_now 0 d) in
      let whole : IsTorn place size (bytes_now 0 d) left = torn_overwritten place size piece (bytes_now 0 d) (omega arith) in
      let mid = with_call (Wrote 0 place size left) d in
      let kept = torn (file_of 0 d) left t whole in
      subst (λ n. Passes d (with_call (Synced 0) (with_call (Wrote 0 place n left) d)) P) (sym is)
      (passes_then d mid (with_call (Synced 0) mid) P (wrote_passes d left t whole)
      (passes_call (Synced 0) mid P (images (file_of 0 mid) kept) (λ image i. i) refl))

-- a piece was written, and then synced or not
unsynced : (place : ℕ) (piece : List ℕ) (d e f : Device) → Writes 0 place piece d e → Idles e f → FailsToPut place piece d f
unsynced place piece d e f wrote (inl same) = inr (inr (inr (inl (same ∙ wrote))))
unsynced place piece d e f wrote (inr missed) = inr (inr (inr (inr (missed ∙ ap (with_call Failed) wrote))))

unwritten : (place : ℕ) (piece : List ℕ) (d e : Device) → Tears 0 place (length piece) d e → FailsToPut place piece d e
unwritten place piece d e (inl (inl same)) = inl same
unwritten place piece d e (inl (inr missed)) = inr (inl missed)
unwritten place piece d e (inr tore) = inr (inr (inl tore))

pub modeled_unwritten : (place : ℕ) (piece : List ℕ) (old new : Option Device) → Both (Tears 0 place (length piece)) old new
    → Both (FailsToPut place piece) old new
modeled_unwritten place piece old new tears =
    both_map (Tears 0 place (length piece)) (FailsToPut place piece) old new (unwritten place piece) tears

pub modeled_put : {T E : Type 0} (r : Result T E) (place : ℕ) (piece : List ℕ) (old mid new : Option Device)
    → Both (Writes 0 place piece) old mid
    → MatchResult r (λ _. Both (Syncs 0) mid new) (λ _. Both Idles mid new)
    → MatchResult r (λ _. Both (PutsDown place piece) old new) (λ _. Both (FailsToPut place piece) old new)
modeled_put (Ok done) place piece old mid new wrote synced =
    both_then (Writes 0 place piece) (Syncs 0) (PutsDown place piece) old mid new (λ d e f w s. s
    ∙ ap (with_call (Synced 0)) w) wrote synced
modeled_put (Err fault) place piece old mid new wrote idles =
    both_then (Writes 0 place piece) Idles (FailsToPut place piece) old mid new (unsynced place piece) wrote idles
