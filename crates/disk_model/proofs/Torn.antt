-- What a write leaves, and the images of a file that was written.
use Rattle.std.proofs.Common.{◌≡◌, ◌<◌, ◌≤◌, ◌+◌, ◌-◌, ◌⊎◌, ℕ, min, max, Bool, false, ◌&&◌, ◌||◌, nat_le, nat_lt, List, ◌++◌}
use Rattle.std.proofs.Common.{length, take, drop, get_or, refl, sym, ◌∙◌, ap, inl, inr, arith, length-append, length-take}
use Rattle.std.proofs.Common.{length-drop}
use Rattle.std.proofs.lemmas.List.{get_or_append_left, get_or-append_right, get_or-take, get_or-drop}
use Rattle.std.proofs.lemmas.Grind.{common_steps}
use Rattle.disk_model.specs.Files.{File, is_written, overwritten, IsImage, IsTorn}
use Rattle.disk_model.specs.Devices.{written_to}

pub length_overwritten : (place : ℕ) (piece bytes : List ℕ)
    → length (overwritten place piece bytes) ≡ max (length bytes) (min place (length bytes) + length piece)
length_overwritten place piece bytes = simp (length-append, length-take, length-drop) (omega arith)

pub overwritten_below : (place : ℕ) (piece bytes : List ℕ) (i : ℕ) → i < length bytes → i < place
    → get_or (overwritten place piece bytes) i 0 ≡ get_or bytes i 0
overwritten_below place piece bytes i within below =
    let prefix : i < length (take place bytes) = simp length-take (omega arith) in
    let more : i < length (take place bytes ++ piece) = simp length-append (omega arith) in
    get_or_append_left (take place bytes ++ piece) (drop (place + length piece) bytes) 0 i more
    ∙ get_or_append_left (take place bytes) piece 0 i prefix
    ∙ get_or-take place bytes i 0 below

pub overwritten_above : (place : ℕ) (piece bytes : List ℕ) (i : ℕ) → i < length bytes → place + length piece ≤ i
    → get_or (overwritten place piece bytes) i 0 ≡ get_or bytes i 0
overwritten_above place piece bytes i within above =
    let len : length (take place bytes ++ piece) ≡ place + length piece = simp (length-append, length-take) (omega arith) in
    let at : (place + length piece) + (i - (place + length piece)) ≡ i = omega arith in
    get_or-append_right (take place bytes ++ piece) (drop (place + length piece) bytes) (place + length piece) i 0 len above
    ∙ get_or-drop (place + length piece) bytes (i - (place + length piece)) 0
    ∙ ap (λ k. get_or bytes k 0) at

-- a write leaves its range torn, however much of it landed
pub torn_overwritten : (place size : ℕ) (piece bytes : List ℕ) → length piece ≤ size
    → IsTorn place size bytes (overwritten place piece bytes)
torn_overwritten place size piece bytes fits = record {
  no_shorter = omega (arith, length_overwritten place piece bytes);
  no_longer = omega (arith, length_overwritten place piece bytes);
  below = λ i within below. overwritten_below place piece bytes i within below;
  above = λ i within above. overwritten_above place piece bytes i within (omega arith);
}

-- nothing landed
pub torn_same : (place size : ℕ) (bytes : List ℕ) → IsTorn place size bytes bytes
torn_same place size bytes = record {
  no_shorter = omega arith;
  no_longer = omega arith;
  below = λ i within below. refl;
  above = λ i within above. refl;
}

-- a place that is in none of the ranges is in none of the earlier ones, and on one side of the last
outside : (place size i : ℕ) (b : Bool) → (nat_le place i && nat_lt i (place + size)) || b ≡ false
    → ((i < place) ⊎ (place + size ≤ i)) × (b ≡ false)
outside place size i b none = grind (arith, common_steps)

-- where a file and an image of it are torn by one write, the second is an image of the first
pub image_torn : (s : File) (place size : ℕ) (left image torn : List ℕ) → s.least ≤ length s.bytes
    → IsTorn place size s.bytes left → IsTorn place size image torn → IsImage s image
    → IsImage (written_to s place size left) torn
image_torn s place size left image torn reads file other is_image = record {
  no_shorter = omega arith;
  no_longer = omega arith;
  kept = λ i within none.
      let sides = outside place size i (is_written s.written i) none in
      let in_image : i < length image = omega (arith, is_image.no_shorter) in
      let in_bytes : i < length s.bytes = omega arith in
      elim sides.0 [
        | inl below ↦ other.below i in_image below ∙ is_image.kept i within sides.1 ∙ sym (file.below i in_bytes below)
        | inr above ↦ other.above i in_image above ∙ is_image.kept i within sides.1 ∙ sym (file.above i in_bytes above)
      ];
}
