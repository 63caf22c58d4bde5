-- The tail of a journal: its images, and what a write leaves of it.
use Rattle.std.proofs.Common.{◌≡◌, ◌≢◌, ◌<◌, ◌≤◌, ◌+◌, ◌-◌, ◌^◌, ◌⊎◌, ℕ, Bool, false, ◌&&◌, ◌||◌, nat_le, nat_lt, List, [], ◌∷◌}
use Rattle.std.proofs.Common.{◌++◌, length, take, drop, get_or, slice_index, refl, sym, ◌∙◌, ap, subst, inl, inr, arith}
use Rattle.std.proofs.Common.{length-append, length-take, length-drop}
use Rattle.std.proofs.Math.Seq.{take-add}
use Rattle.std.specs.Int.{w32, to_le_bytes}
use Rattle.std.proofs.lemmas.List.{append_assoc, append-nil, take-append-drop, take_at, drop_at, drop_all, get_or-take}
use Rattle.std.proofs.lemmas.List.{get_or-drop, get_or_past, ext_get_or, get_or_at, drop_more, length-take-le}
use Rattle.std.proofs.lemmas.Bool.{cases_eq, cases_lt}
use Rattle.std.proofs.lemmas.Grind.{common_steps}
use Rattle.disk_model.specs.Files.{File, stable, is_written, overwritten, IsImage, IsTorn}
use Rattle.disk_model.specs.Devices.{written_to}
use Rattle.disk_model.proofs.Torn.{torn_overwritten, length_overwritten}
use Rattle.vob_journal.specs.Frames.{frames, frame_after_gate}
use Rattle.vob_journal.specs.Moves.{Stands}
use Rattle.vob_journal.specs.Tails.{IsWhole, HoldsPrefix, IsShut, IsAjar}
use Rattle.vob_journal.specs.Phases.{IsStaged}
use Rattle.vob_journal.proofs.Framing.{head_shut, frames_none, frames_frame, frames_more, whole_more, head_written}
use Rattle.vob_journal.proofs.Framing.{length_written}

pub same_prefix : (n : ℕ) (xs ys : List ℕ) → n ≤ length xs → n ≤ length ys → ((i : ℕ) → i < n → get_or xs i 0 ≡ get_or ys i 0)
    → take n xs ≡ take n ys
same_prefix n xs ys hx hy same = ext_get_or 0 (take n xs) (take n ys) (length-take-le n xs hx ∙ sym (length-take-le n ys hy))
    (λ i h. let below : i < n = omega (arith, h, length-take n xs) in get_or-take n xs i 0 below ∙ same i below
    ∙ sym (get_or-take n ys i 0 below))

pub same_back : (n : ℕ) (xs ys : List ℕ) → length xs ≡ length ys → ((i : ℕ) → n ≤ i → i < length xs
    → get_or xs i 0 ≡ get_or ys i 0) → drop n xs ≡ drop n ys
same_back n xs ys len same = ext_get_or 0 (drop n xs) (drop n ys) (simp length-drop (omega (arith, len)))
    (λ i h. get_or-drop n xs i 0 ∙ same (n + i) (omega arith) (omega (arith, h, length-drop n xs)) ∙ sym (get_or-drop n ys i 0))

-- a prefix that is the same in another file
prefix_in : (list : List (List ℕ)) (tail : ℕ) (s s' : File) → HoldsPrefix list tail s → take tail s'.bytes ≡ take tail s.bytes
    → tail ≤ s'.least → s'.least ≤ length s'.bytes → HoldsPrefix list tail s'
prefix_in list tail s s' prefix same synced reads = record {
  synced = synced;
  reads = reads;
  whole = subst IsWhole (sym same) prefix.whole;
  lists = ap frames same ∙ prefix.lists;
}

prefix_torn : (list : List (List ℕ)) (tail place n : ℕ) (s : File) (left : List ℕ) → HoldsPrefix list tail s → tail ≤ place
    → IsTorn place n s.bytes left
    → take tail left ≡ take tail s.bytes
prefix_torn list tail place n s left prefix behind torn =
    same_prefix tail left s.bytes (omega (arith, prefix.synced, prefix.reads, torn.no_shorter))
    (omega (arith, prefix.synced, prefix.reads))
    (λ i below. torn.below i (omega (arith, prefix.synced, prefix.reads)) (omega arith))

-- a prefix, and what is found after it
prefix_split : (list : List (List ℕ)) (tail : ℕ) (s : File) (image : List ℕ) → HoldsPrefix list tail s
    → take tail image ≡ take tail s.bytes
    → frames image ≡ list ++ frames (drop tail image)
prefix_split list tail s image prefix same =
    ap frames (sym (take-append-drop tail image))
    ∙ ap (λ prefix. frames (prefix ++ drop tail image)) same
    ∙ prefix.whole.goes_on (drop tail image)
    ∙ ap (λ list. list ++ frames (drop tail image)) prefix.lists

gate_of : (tail : ℕ) (image : List ℕ) → slice_index (drop tail image) 0 ≡ slice_index image tail
gate_of tail image = get_or-drop tail image 0 0 ∙ ap (λ n. get_or image n 0) (omega arith)

-- a prefix after which no gate is open
prefix_alone : (list : List (List ℕ)) (tail : ℕ) (s : File) (image : List ℕ) → HoldsPrefix list tail s
    → take tail image ≡ take tail s.bytes
    → slice_index image tail ≢ 1 → frames image ≡ list
prefix_alone list tail s image prefix same shut =
    prefix_split list tail s image prefix same
    ∙ ap (λ rest. list ++ rest) (frames_none (drop tail image) (head_shut (drop tail image) (λ e. shut (sym (gate_of tail image)
    ∙ e))))
    ∙ append-nil list

-- an open gate and what is after it
open_at : (tail : ℕ) (image : List ℕ) → slice_index image tail ≡ 1 → (drop tail image ≡ 1 ∷ drop (tail + 1) image)
    × (tail < length image)
open_at tail image is_open = elim (cases_lt tail (length image)) [
  | inl within ↦ (drop_more image tail 0 within ∙ ap (λ gate. gate ∷ drop (tail + 1) image) is_open, within)
  | inr past ↦ absurd (let zero = get_or_past image tail 0 past in omega (arith, zero, is_open))
]

-- each image of a settled tail has the list
pub shut_image : (list : List (List ℕ)) (tail : ℕ) (s : File) → IsShut list tail s → (image : List ℕ) → IsImage s image
    → frames image ≡ list
shut_image list tail s shut image is_image =
    let same = same_prefix tail image s.bytes (omega (arith, shut.gate_synced, is_image.no_shorter))
    (omega (arith, shut.prefix.synced, shut.prefix.reads))
    (λ i below. is_image.kept i (omega (arith, shut.gate_synced)) (shut.untouched i (omega arith))) in
    let gate = is_image.kept tail shut.gate_synced (shut.untouched tail (omega arith)) in
    prefix_alone list tail s image shut.prefix same (λ e. shut.gate (sym gate ∙ e))

-- the bytes after the gate are the same in each image of a tail that is not settled
ajar_back : (list leftover : List (List ℕ)) (tail : ℕ) (s : File) → IsAjar list leftover tail s → (image : List ℕ)
    → IsImage s image
    → drop (tail + 1) image ≡ drop (tail + 1) s.bytes
ajar_back list leftover tail s ajar image is_image = elim (cases_lt tail s.least) [
  | inl within ↦ same_back (tail + 1) image s.bytes (omega (
    arith,
    ajar.prefix.reads,
    ajar.longest,
    ajar.gate_last,
    is_image.no_shorter,
    is_image.no_longer,
  ))
      (λ i behind below. is_image.kept i (omega (arith, ajar.prefix.reads, ajar.longest, ajar.gate_last, is_image.no_longer))
      (ajar.untouched i (omega arith)))
  | inr past ↦ drop_all (tail + 1) image (omega (arith, ajar.prefix.synced, ajar.gate_last, is_image.no_longer))
      ∙ sym (drop_all (tail + 1) s.bytes (omega (arith, ajar.prefix.synced, ajar.longest, ajar.gate_last)))
]

-- each image of a tail that is not settled has the list, or the list and what is left over
pub ajar_image : (list leftover : List (List ℕ)) (tail : ℕ) (s : File) → IsAjar list leftover tail s → (image : List ℕ)
    → IsImage s image → Stands list leftover image
ajar_image list leftover tail s ajar image is_image =
    let same = same_prefix tail image s.bytes (omega (arith, ajar.prefix.synced, is_image.no_shorter))
    (omega (arith, ajar.prefix.synced, ajar.prefix.reads))
    (λ i below. is_image.kept i (omega (arith, ajar.prefix.synced)) (ajar.untouched i (omega arith))) in
    elim (cases_eq (slice_index image tail) 1) [
      | inl is_open ↦ inr (prefix_split list tail s image ajar.prefix same
          ∙ ap (λ rest. list ++ frames rest) ((open_at tail image is_open).0
          ∙ ap (λ rest. 1 ∷ rest) (ajar_back list leftover tail s ajar image is_image))
          ∙ ap (λ rest. list ++ rest) ajar.behind)
      | inr shut ↦ inl (prefix_alone list tail s image ajar.prefix same shut)
    ]

uncovered : (place n i : ℕ) (b : Bool) → (i < place) ⊎ (place + n ≤ i) → b ≡ false
    → (nat_le place i && nat_lt i (place + n)) || b ≡ false
uncovered place n i b (inl below) none = grind (arith, common_steps)
uncovered place n i b (inr above) none = grind (arith, common_steps)

-- a write after the gate leaves a settled tail settled
pub shut_torn : (list : List (List ℕ)) (tail n : ℕ) (s : File) (left : List ℕ) → IsShut list tail s
    → IsTorn (tail + 1) n s.bytes left
    → IsShut list tail (written_to s (tail + 1) n left)
shut_torn list tail n s left shut torn = record {
  prefix = prefix_in list tail s (written_to s (tail + 1) n left) shut.prefix
      (prefix_torn list tail (tail + 1) n s left shut.prefix (omega arith) torn)
      shut.prefix.synced (omega (arith, shut.prefix.reads, torn.no_shorter));
  gate_synced = shut.gate_synced;
  gate = λ e. shut.gate (sym (torn.below tail (omega (arith, shut.gate_synced, shut.prefix.reads)) (omega arith)) ∙ e);
  untouched = λ i below. uncovered (tail + 1) n i (is_written s.written i) (inl (omega arith)) (shut.untouched i below);
}

either_side : (i tail : ℕ) → i ≢ tail → (i < tail) ⊎ (tail + 1 ≤ i)
either_side i tail ne = grind arith

-- a write of the gate alone leaves after a tail that is not settled what was there
pub ajar_torn : (list leftover : List (List ℕ)) (tail : ℕ) (s : File) (left : List ℕ) → IsAjar list leftover tail s
    → IsTorn tail 1 s.bytes left
    → IsAjar list leftover tail (written_to s tail 1 left)
ajar_torn list leftover tail s left ajar torn = record {
  prefix = prefix_in list tail s (written_to s tail 1 left) ajar.prefix
      (prefix_torn list tail tail 1 s left ajar.prefix (omega arith) torn)
      ajar.prefix.synced (omega (arith, ajar.prefix.reads, torn.no_shorter));
  longest = omega (arith, ajar.longest, torn.no_longer);
  gate_last = omega (arith, ajar.gate_last);
  untouched = λ i ne. uncovered tail 1 i (is_written s.written i) (either_side i tail ne) (ajar.untouched i ne);
  behind = ap (λ rest. frames (1 ∷ rest)) (elim (cases_lt tail (length s.bytes)) [
    | inl within ↦ same_back (tail + 1) left s.bytes (omega (arith, torn.no_shorter, torn.no_longer))
        (λ i behind below. torn.above i (omega (arith, torn.no_longer)) behind)
    | inr past ↦ drop_all (tail + 1) left (omega (arith, torn.no_longer)) ∙ sym (drop_all (tail + 1) s.bytes (omega arith))
  ]) ∙ ajar.behind;
}

-- a piece that was written over bytes, cut at its ends
pub split_overwritten : (place : ℕ) (piece bytes : List ℕ) → place ≤ length bytes
    → (take place (overwritten place piece bytes) ≡ take place bytes) × (drop place (overwritten place piece bytes) ≡ piece
    ++ drop (place + length piece) bytes)
split_overwritten place piece bytes within =
    let len = length-take-le place bytes within in
    let whole = append_assoc (take place bytes) piece (drop (place + length piece) bytes) in (
      ap (take place) whole ∙ take_at (take place bytes) (piece ++ drop (place + length piece) bytes) place len,
      ap (drop place) whole ∙ drop_at (take place bytes) (piece ++ drop (place + length piece) bytes) place len,
    )

stable_prefix : (list : List (List ℕ)) (tail place : ℕ) (s : File) (piece : List ℕ) → HoldsPrefix list tail s → tail ≤ place
    → HoldsPrefix list tail (stable (overwritten place piece s.bytes))
stable_prefix list tail place s piece prefix behind =
    let torn = torn_overwritten place (length piece) piece s.bytes (omega arith) in
    prefix_in list tail s (stable (overwritten place piece s.bytes)) prefix
    (prefix_torn list tail place (length piece) s (overwritten place piece s.bytes) prefix behind torn)
    (omega (arith, prefix.synced, prefix.reads, torn.no_shorter)) (omega arith)

-- a shut gate that was written and synced settles the tail
pub shut_closed : (list leftover : List (List ℕ)) (tail : ℕ) (s : File) → IsAjar list leftover tail s
    → IsShut list tail (stable (overwritten tail (0 ∷ []) s.bytes))
shut_closed list leftover tail s ajar =
    let within : tail ≤ length s.bytes = omega (arith, ajar.prefix.synced, ajar.prefix.reads) in
    let gate : slice_index (overwritten tail (0 ∷ []) s.bytes) tail ≡ 0 =
    sym (gate_of tail (overwritten tail (0 ∷ []) s.bytes)) ∙ ap (λ rest. slice_index rest 0)
    (split_overwritten tail (0 ∷ []) s.bytes within).1 in
    record {
      prefix = stable_prefix list tail tail s (0 ∷ []) ajar.prefix (omega arith);
      gate_synced = omega (arith, length_overwritten tail (0 ∷ []) s.bytes);
      gate = λ e. absurd (omega (arith, gate, e));
      untouched = λ i below. refl;
    }

-- a payload that was written and synced after a shut gate
pub staged_put : (list : List (List ℕ)) (payload : List ℕ) (tail : ℕ) (s : File) → IsShut list tail s
    → IsStaged list payload tail (stable (overwritten (tail + 1) (frame_after_gate payload) s.bytes))
staged_put list payload tail s shut =
    let piece = frame_after_gate payload in
    let within : tail + 1 ≤ length s.bytes = omega (arith, shut.gate_synced, shut.prefix.reads) in
    let torn = torn_overwritten (tail + 1) (length piece) piece s.bytes (omega arith) in
    record {
      synced = refl;
      shut = record {
        prefix = stable_prefix list tail (tail + 1) s piece shut.prefix (omega arith);
        gate_synced = omega (arith, torn.no_shorter);
        gate = λ e. shut.gate (sym (torn.below tail (omega arith) (omega arith)) ∙ e);
        untouched = λ i below. refl;
      };
      frame = (drop ((tail + 1) + length piece) s.bytes, (split_overwritten (tail + 1) piece s.bytes within).1);
    }

-- the frame of a staged payload, its gate open, and the shut gate after it
staged_frame : (payload rest : List ℕ) → 1 ∷ (frame_after_gate payload ++ rest)
    ≡ (1 ∷ to_le_bytes w32 (length payload) ++ payload) ++ 0 ∷ rest
staged_frame payload rest = ap (λ bytes. 1 ∷ bytes) (append_assoc (to_le_bytes w32 (length payload) ++ payload) (0 ∷ []) rest)

shut_alone : (rest : List ℕ) → frames (0 ∷ rest) ≡ []
shut_alone rest = frames_none (0 ∷ rest) (head_shut (0 ∷ rest) (λ e. absurd (omega (arith, e))))

-- a staged payload is left over once its gate may be open
pub staged_ajar : (list : List (List ℕ)) (payload : List ℕ) (tail : ℕ) (s : File) → length payload < 2 ^ 32
    → IsStaged list payload tail s → IsAjar list (payload ∷ []) tail s
staged_ajar list payload tail s short staged =
    let frame = 1 ∷ to_le_bytes w32 (length payload) ++ payload in
    let rest = staged.frame.0 in
    record {
      prefix = staged.shut.prefix;
      longest = omega (arith, ap (λ f. f.most) staged.synced);
      gate_last = omega (arith, ap (λ f. f.most) staged.synced, ap (λ f. f.least) staged.synced);
      untouched = λ i ne. ap (λ f. is_written f.written i) staged.synced;
      behind = ap (λ bytes. frames (1 ∷ bytes)) staged.frame.1
          ∙ ap frames (staged_frame payload rest)
          ∙ frames_frame frame payload (0 ∷ rest) (head_written payload short) (length_written payload)
          ∙ ap (λ list. payload ∷ list) (shut_alone rest);
    }

-- a gate that was opened and synced before a staged payload: the tail is after it, settled
pub staged_opened : (list : List (List ℕ)) (payload : List ℕ) (tail : ℕ) (s : File) → length payload < 2 ^ 32
    → IsStaged list payload tail s
    → IsShut (list ++ payload ∷ []) (tail + (5 + length payload)) (stable (overwritten tail (1 ∷ []) s.bytes))
staged_opened list payload tail s short staged =
    let frame = 1 ∷ to_le_bytes w32 (length payload) ++ payload in
    let rest = staged.frame.0 in
    let n = 5 + length payload in
    let bytes = overwritten tail (1 ∷ []) s.bytes in
    let prefix = staged.shut.prefix in
    let within : tail ≤ length s.bytes = omega (arith, prefix.synced, prefix.reads) in
    let split = split_overwritten tail (1 ∷ []) s.bytes within in
    let behind : drop tail bytes ≡ frame ++ 0 ∷ rest = split.1 ∙ ap (λ r. 1 ∷ r) staged.frame.1 ∙ staged_frame payload rest in
    let whole_frame : length frame ≡ n = length_written payload in
    let up_to : take (tail + n) bytes ≡ take tail s.bytes ++ frame =
    take-add tail n bytes ∙ ap (λ r. r ++ take n (drop tail bytes)) split.0 ∙ ap (λ r. take tail s.bytes ++ take n r) behind
    ∙ ap (λ r. take tail s.bytes ++ r) (take_at frame (0 ∷ rest) n whole_frame) in
    let long : length bytes - tail ≡ n + (1 + length rest) = sym (length-drop tail bytes) ∙ ap length behind
    ∙ simp length-append (omega (arith, whole_frame)) in
    let gate : slice_index bytes (tail + n) ≡ 0 =
    sym (get_or-drop tail bytes n 0) ∙ ap (λ r. get_or r n 0) behind ∙ get_or_at frame 0 rest 0 n whole_frame in
    let is_head = head_written payload short in
    record {
      prefix = record {
        synced = omega (arith, long);
        reads = omega arith;
        whole = subst IsWhole (sym up_to) (whole_more (take tail s.bytes) frame payload prefix.whole is_head whole_frame);
        lists = ap frames up_to ∙ frames_more (take tail s.bytes) frame payload prefix.whole is_head whole_frame
            ∙ ap (λ l. l ++ payload ∷ []) prefix.lists;
      };
      gate_synced = omega (arith, long);
      gate = λ e. absurd (omega (arith, gate, e));
      untouched = λ i below. refl;
    }
