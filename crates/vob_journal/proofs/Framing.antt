-- The frames of bytes that are put together or taken apart.
use Rattle.std.proofs.Common.{◌≡◌, ◌≢◌, ◌<◌, ◌≤◌, ◌+◌, ◌^◌, ℕ, zero, suc, Bool, true, false, ◌==◌, ◌&&◌, nat_le, if◌then◌else◌}
use Rattle.std.proofs.Common.{Option, Some, None, List, [], ◌∷◌, ◌++◌, length, take, drop, slice_index, refl, sym, ◌∙◌, ap}
use Rattle.std.proofs.Common.{arith, length-append, length-take, length-drop}
use Rattle.std.specs.Int.{w32, from_le_bytes, to_le_bytes}
use Rattle.std.proofs.lemmas.List.{append_assoc, append-nil, take-append-le, drop-append-le, take-take, drop-take}
use Rattle.std.proofs.lemmas.List.{get_or_append_left, get_or-take, drop_at, take_all}
use Rattle.std.proofs.lemmas.Nat.{from_le_bytes-to_le_bytes_4}
use Rattle.std.proofs.lemmas.Grind.{common_steps}
use Rattle.vob_journal.specs.Frames.{size_of, head, frames_behind, frames_within, frames}
use Rattle.vob_journal.specs.Tails.{IsWhole}

if_some : {A : Type 0} (b : Bool) (x p : A) → (if b then Some x else None) ≡ Some p → (b ≡ true) × (p ≡ x)
if_some true x p e = (refl, cc)
if_some false x p e = absurd (cc)

both_true : (m n k : ℕ) → ((m == 1) && nat_le n k) ≡ true → (m ≡ 1) × (n ≤ k)
both_true m n k e = grind (arith, common_steps)

-- what a whole frame at the head is
pub record IsHead (bytes payload : List ℕ) : Type 0 where
  pub gate : slice_index bytes 0 ≡ 1
  pub fits : 5 + size_of bytes ≤ length bytes
  pub is : payload ≡ take (size_of bytes) (drop 5 bytes)

pub head_is : (bytes payload : List ℕ) → head bytes ≡ Some payload → IsHead bytes payload
head_is bytes payload e =
    let found = if_some ((slice_index bytes 0 == 1) && nat_le (5 + size_of bytes) (length bytes))
    (take (size_of bytes) (drop 5 bytes)) payload e in
    let tests = both_true (slice_index bytes 0) (5 + size_of bytes) (length bytes) found.0 in
    record { gate = tests.0; fits = tests.1; is = found.1 }

true_both : (m n k : ℕ) → m ≡ 1 → n ≤ k → ((m == 1) && nat_le n k) ≡ true
true_both m n k e h = grind (arith, common_steps)

pub head_makes : (bytes payload : List ℕ) → IsHead bytes payload → head bytes ≡ Some payload
head_makes bytes payload h =
    rw (true_both (slice_index bytes 0) (5 + size_of bytes) (length bytes) h.gate h.fits) (ap Some (sym h.is))

pub head_length : (bytes payload : List ℕ) → IsHead bytes payload → (length payload ≡ size_of bytes)
    × (5 + length payload ≤ length bytes)
head_length bytes payload h =
    let len : length payload ≡ size_of bytes = ap length h.is ∙ simp (length-take, length-drop) (omega (arith, h.fits)) in
    (len, omega (arith, h.fits))

-- what is at the head stays there with more after it
pub head_more : (bytes payload rest : List ℕ) → IsHead bytes payload → IsHead (bytes ++ rest) payload
head_more bytes payload rest h =
    let some : 1 ≤ length bytes = omega (arith, h.fits) in
    let five : 5 ≤ length bytes = omega (arith, h.fits) in
    let four : 4 ≤ length (drop 1 bytes) = simp length-drop (omega arith) in
    let behind : size_of bytes ≤ length (drop 5 bytes) = simp length-drop (omega (arith, h.fits)) in
    let size : size_of (bytes ++ rest) ≡ size_of bytes = ap (from_le_bytes w32) (ap (take 4) (drop-append-le 1 bytes rest some)
    ∙ take-append-le 4 (drop 1 bytes) rest four) in
    record {
      gate = get_or_append_left bytes rest 0 0 (omega arith) ∙ h.gate;
      fits = omega (arith, size, h.fits, length-append bytes rest);
      is = h.is ∙ sym (take-append-le (size_of bytes) (drop 5 bytes) rest behind)
          ∙ ap (take (size_of bytes)) (sym (drop-append-le 5 bytes rest five))
          ∙ ap (λ n. take n (drop 5 (bytes ++ rest))) (sym size);
    }

-- the frame alone
pub head_take : (bytes payload : List ℕ) → IsHead bytes payload → IsHead (take (5 + length payload) bytes) payload
head_take bytes payload h =
    let len = head_length bytes payload h in
    let n = 5 + length payload in
    let at_one : 1 + (4 + length payload) ≡ n = omega arith in
    let rests : take 4 (drop 1 (take n bytes)) ≡ take 4 (drop 1 bytes) =
    ap (λ k. take 4 (drop 1 (take k bytes))) (sym at_one) ∙ ap (take 4) (drop-take 1 (4 + length payload) bytes)
    ∙ take-take 4 (4 + length payload) (drop 1 bytes) (omega arith) in
    let size : size_of (take n bytes) ≡ size_of bytes = ap (from_le_bytes w32) rests in
    record {
      gate = get_or-take n bytes 0 0 (omega arith) ∙ h.gate;
      fits = omega (arith, size, len.0, len.1, length-take n bytes);
      is = h.is ∙ sym (take-take (size_of bytes) (length payload) (drop 5 bytes) (omega (arith, len.0)))
          ∙ ap (take (size_of bytes)) (sym (drop-take 5 (length payload) bytes))
          ∙ ap (λ k. take k (drop 5 (take n bytes))) (sym size);
    }

-- nothing at the head
pub head_shut : (bytes : List ℕ) → slice_index bytes 0 ≢ 1 → head bytes ≡ None
head_shut bytes ne = grind (arith, common_steps)

pub head_short : (bytes : List ℕ) → length bytes < 5 + size_of bytes → head bytes ≡ None
head_short bytes short = grind (arith, common_steps)

listed_same : (found : Option (List ℕ)) (f g : ℕ → List (List ℕ)) → ((payload : List ℕ)
    → f (5 + length payload) ≡ g (5 + length payload)) → frames_behind found f ≡ frames_behind found g
listed_same None f g same = refl
listed_same (Some payload) f g same = ap (λ rest. payload ∷ rest) (same payload)

enough : (m n : ℕ) (bytes : List ℕ) → length bytes ≤ m → length bytes ≤ n → frames_within m bytes ≡ frames_within n bytes
enough zero zero bytes hm hn = refl
enough zero (suc n) bytes hm hn = rw (head_short bytes (omega arith)) refl
enough (suc m) zero bytes hm hn = rw (head_short bytes (omega arith)) refl
enough (suc m) (suc n) bytes hm hn = listed_same (head bytes) (λ k. frames_within m (drop k bytes))
    (λ k. frames_within n (drop k bytes))
    (λ payload. enough m n (drop (5 + length payload) bytes) (simp length-drop (omega arith)) (simp length-drop (omega arith)))

-- the laws of frames: a whole frame at the head, and nothing there
pub frames_some : (bytes payload : List ℕ) → head bytes ≡ Some payload
    → frames bytes ≡ payload ∷ frames (drop (5 + length payload) bytes)
unfolding frames
frames_some bytes payload e =
    enough (length bytes) (suc (length bytes)) bytes (omega arith) (omega arith)
    ∙ ap (λ found. frames_behind found (λ n. frames_within (length bytes) (drop n bytes))) e
    ∙ ap (λ rest. payload ∷ rest) (enough (length bytes) (length (drop (5 + length payload) bytes))
    (drop (5 + length payload) bytes) (simp length-drop (omega arith)) (omega arith))

pub frames_none : (bytes : List ℕ) → head bytes ≡ None → frames bytes ≡ []
unfolding frames
frames_none bytes e =
    enough (length bytes) (suc (length bytes)) bytes (omega arith) (omega arith)
    ∙ ap (λ found. frames_behind found (λ n. frames_within (length bytes) (drop n bytes))) e

pub frames_nil : frames [] ≡ []
frames_nil = frames_none [] (head_short [] (omega arith))

-- one frame, and what follows it
pub frames_frame : (frame payload rest : List ℕ) → IsHead frame payload → length frame ≡ 5 + length payload
    → frames (frame ++ rest) ≡ payload ∷ frames rest
frames_frame frame payload rest h all =
    frames_some (frame ++ rest) payload (head_makes (frame ++ rest) payload (head_more frame payload rest h))
    ∙ ap (λ bytes. payload ∷ frames bytes) (drop_at frame rest (5 + length payload) all)

pub whole_nil : IsWhole []
whole_nil = record { goes_on = λ rest. ap (λ list. list ++ frames rest) (sym frames_nil) }

pub frames_more : (prefix frame payload : List ℕ) → IsWhole prefix → IsHead frame payload → length frame ≡ 5 + length payload
    → frames (prefix ++ frame) ≡ frames prefix ++ payload ∷ []
frames_more prefix frame payload whole h all =
    whole.goes_on frame
    ∙ ap (λ list. frames prefix ++ list) (ap frames (sym (append-nil frame)) ∙ frames_frame frame payload [] h all
    ∙ ap (λ list. payload ∷ list) frames_nil)

pub whole_more : (prefix frame payload : List ℕ) → IsWhole prefix → IsHead frame payload → length frame ≡ 5 + length payload
    → IsWhole (prefix ++ frame)
whole_more prefix frame payload whole h all = record {
  goes_on = λ rest.
      ap frames (append_assoc prefix frame rest)
      ∙ whole.goes_on (frame ++ rest)
      ∙ ap (λ list. frames prefix ++ list) (frames_frame frame payload rest h all)
      ∙ sym (append_assoc (frames prefix) (payload ∷ []) (frames rest))
      ∙ ap (λ list. list ++ frames rest) (sym (frames_more prefix frame payload whole h all));
}

-- a frame as it is written
pub head_written : (payload : List ℕ) → length payload < 2 ^ 32 → IsHead (1 ∷ to_le_bytes w32 (length payload) ++ payload) payload
head_written payload short =
    let size : size_of (1 ∷ to_le_bytes w32 (length payload) ++ payload) ≡ length payload =
    from_le_bytes-to_le_bytes_4 (length payload) short in
    record {
      gate = refl;
      fits = omega (arith, size, length-append (to_le_bytes w32 (length payload)) payload);
      is = sym (take_all (length payload) payload (omega arith)) ∙ ap (λ n. take n payload) (sym size);
    }

pub length_written : (payload : List ℕ) → length (1 ∷ to_le_bytes w32 (length payload) ++ payload) ≡ 5 + length payload
length_written payload = omega arith
