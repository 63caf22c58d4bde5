-- How a picture of a file follows the calls.
use Rattle.std.proofs.Common.{◌≡◌, ◌⊎◌, ◌+◌, ℕ, List, length, Result, Ok, Err, OnOk, slice_index, inl, inr, refl, sym, ◌∙◌, ap}
use Rattle.std.proofs.Common.{subst, arith}
use Rattle.std.proofs.lemmas.Bool.{eq-eqb}
use Rattle.disk_model.specs.Files.{File, stable, overwritten, IsTorn}
use Rattle.disk_model.specs.Devices.{Device, Wrote, Tore, with_call, file_of, bytes_now, written_to, during, Idles, Tears}
use Rattle.disk_model.specs.Records.{event_of, with_traced_call}
use Rattle.disk_model.specs.declared.calls.Call.{Call}
use Rattle.disk_model.specs.declared.calls.Call.TheVariants as calls
use Rattle.disk_model.specs.Picks.{IsPicture}
use Rattle.disk_model.proofs.Torn.{torn_overwritten, image_torn}

written : (s : File) (place : ℕ) (landed : List ℕ) (lost : ℕ) (bytes image bytes' image' : List ℕ)
    → bytes' ≡ overwritten place landed bytes → IsTorn place (length landed + lost) image image' → IsPicture s bytes image
    → IsPicture (written_to s place (length landed + lost) (overwritten place landed s.bytes)) bytes' image'
written s place landed lost bytes image bytes' image' wrote torn picture =
    let left = overwritten place landed s.bytes in
    let size = length landed + lost in
    let here : IsTorn place size s.bytes left = torn_overwritten place size landed s.bytes (omega arith) in
    record {
      reads = wrote ∙ ap (overwritten place landed) picture.reads;
      now = image_torn s place size left s.bytes left picture.now.no_shorter here here picture.now;
      picked = image_torn s place size left image image' picture.now.no_shorter here torn picture.picked;
    }

-- How a file reads and what a stop may leave of it, before a write and after it.
module _ (file : ℕ) (bytes image bytes' image' : List ℕ) where
  -- a write that failed
  torn_picture : (other : ℕ) (d : Device) (place : ℕ) (landed : List ℕ) (lost : ℕ)
      → other ≡ file → bytes' ≡ overwritten place landed bytes → IsTorn place (length landed + lost) image image'
      → IsPicture (file_of file d) bytes image
      → IsPicture (during file (Tore other place (length landed + lost) (overwritten place landed (bytes_now other d)))
      (file_of file d)) bytes' image'
  torn_picture other d place landed lost same wrote torn picture =
      let here : IsPicture (during file (Tore file place (length landed + lost) (overwritten place landed (bytes_now file d)))
      (file_of file d)) bytes' image' =
      rw (eq-eqb file file refl) (written (file_of file d) place landed lost bytes image bytes' image' wrote torn picture) in
      subst (λ o. IsPicture (during file (Tore o place (length landed + lost) (overwritten place landed (bytes_now o d)))
      (file_of file d)) bytes' image')
      (sym same) here

  -- a write of a whole piece
  written_picture : (other : ℕ) (d : Device) (place : ℕ) (piece : List ℕ)
      → other ≡ file → bytes' ≡ overwritten place piece bytes → IsTorn place (length piece + 0) image image'
      → IsPicture (file_of file d) bytes image
      → IsPicture (during file (Wrote other place (length piece) (overwritten place piece (bytes_now other d))) (file_of file d))
      bytes' image'
  written_picture other d place piece same wrote torn picture =
      let size : length piece + 0 ≡ length piece = omega arith in
      let whole = subst (λ n. IsPicture (written_to (file_of file d) place n (overwritten place piece (bytes_now file d))) bytes'
      image') size
      (written (file_of file d) place piece 0 bytes image bytes' image' wrote torn picture) in
      let here : IsPicture (during file (Wrote file place (length piece) (overwritten place piece (bytes_now file d)))
      (file_of file d)) bytes' image' =
      rw (eq-eqb file file refl) whole in
      subst (λ o. IsPicture (during file (Wrote o place (length piece) (overwritten place piece (bytes_now o d))) (file_of file d))
      bytes' image')
      (sym same) here

  -- the same of calls as they are recorded, where the answer is Ok
  pub picture_torn : {T E : Type 0} (r : Result T E) (call : Call) (other place : ℕ) (landed piece : List ℕ) (lost : ℕ)
      → call ≡ calls.Tear other place landed lost → piece ≡ landed → other ≡ file
      → OnOk r (bytes' ≡ overwritten place piece bytes) → OnOk r (IsTorn place (length piece + lost) image image')
      → OnOk r ((d : Device) → IsPicture (file_of file d) bytes image → IsPicture (during file (event_of call d) (file_of file d))
      bytes' image')
  picture_torn (Ok done) call other place landed piece lost is same here wrote torn = λ d picture.
      let wrote' : bytes' ≡ overwritten place landed bytes = wrote ∙ ap (λ p. overwritten place p bytes) same in
      let torn' : IsTorn place (length landed + lost) image image' =
      subst (λ p. IsTorn place (length p + lost) image image') same torn in
      subst (λ c. IsPicture (during file (event_of c d) (file_of file d)) bytes' image') (sym is)
      (torn_picture other d place landed lost here wrote' torn' picture)
  picture_torn (Err fault) call other place landed piece lost is same here wrote torn = tt

  pub picture_written : {T E : Type 0} (r : Result T E) (call : Call) (other place : ℕ) (whole piece : List ℕ)
      → call ≡ calls.Write other place whole → piece ≡ whole → other ≡ file
      → OnOk r (bytes' ≡ overwritten place piece bytes) → OnOk r (IsTorn place (length piece + 0) image image')
      → OnOk r ((d : Device) → IsPicture (file_of file d) bytes image → IsPicture (during file (event_of call d) (file_of file d))
      bytes' image')
  picture_written (Ok done) call other place whole piece is same here wrote torn = λ d picture.
      let wrote' : bytes' ≡ overwritten place whole bytes = wrote ∙ ap (λ p. overwritten place p bytes) same in
      let torn' : IsTorn place (length whole + 0) image image' = subst (λ p. IsTorn place (length p + 0) image image') same torn in
      subst (λ c. IsPicture (during file (event_of c d) (file_of file d)) bytes' image') (sym is)
      (written_picture other d place whole here wrote' torn' picture)
  picture_written (Err fault) call other place whole piece is same here wrote torn = tt

-- what a write that failed leaves, a prefix of its piece having landed
pub tears_prefix : (file place lost : ℕ) (piece landed : List ℕ) (d e : Device) → length landed + lost ≡ length piece
    → Idles d e ⊎ (e ≡ with_traced_call (calls.Tear file place landed lost) d) → Tears file place (length piece) d e
tears_prefix file place lost piece landed d e size (inl idles) = inl idles
tears_prefix file place lost piece landed d e size (inr made) =
    let left = overwritten place landed (bytes_now file d) in
    inr (
      left,
      torn_overwritten place (length piece) landed (bytes_now file d) (omega arith),
      subst (λ n. e ≡ with_call (Tore file place n left) d) size made,
    )

pub stable_picture : (s : File) (bytes image : List ℕ) → bytes ≡ s.bytes → image ≡ s.bytes
    → IsPicture (stable s.bytes) bytes image
stable_picture s bytes image reads picked = record {
  reads = reads;
  now = record { no_shorter = omega arith; no_longer = omega arith; kept = λ i within none. refl };
  picked = record {
    no_shorter = omega (arith, ap length picked);
    no_longer = omega (arith, ap length picked);
    kept = λ i within none. ap (λ xs. slice_index xs i) picked;
  };
}
