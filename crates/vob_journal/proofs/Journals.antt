-- A journal as it is opened and read.
use Rattle.std.proofs.Common.{◌≡◌, ◌≢◌, ◌<◌, ◌≤◌, ◌+◌, ◌^◌, ◌==◌, ℕ, Bool, true, false, not, Option, Some, None, List, [], ◌∷◌}
use Rattle.std.proofs.Common.{◌++◌, length, take, drop, slice_index, get_or, refl, sym, ◌∙◌, ap, subst, inl, inr, arith}
use Rattle.std.proofs.Common.{◌-◌, suc, length-append, length-drop}
use Rattle.std.proofs.Math.Seq.{take-add}
use Rattle.std.proofs.lemmas.Grind.{common_steps}
use Rattle.std.proofs.lemmas.Bool.{cases_lt}
use Rattle.std.proofs.lemmas.List.{append-nil, take-append-drop, drop_all, drop-drop, drop_more, get_or-drop, ext_get_or}
use Rattle.std.proofs.lemmas.List.{length-take-le}
use Rattle.disk_model.specs.Files.{stable, is_written, IsImage}
use Rattle.disk_model.specs.Devices.{Device, Measured, file_of, bytes_now, LeavesNow, Measures}
use Rattle.disk_model.specs.DiskStates.{IfModeled, Both}
use Rattle.vob_journal.specs.Frames.{end_of_frames, frames, head, is_shut, place_after}
use Rattle.vob_journal.specs.Moves.{Stands, Moves}
use Rattle.vob_journal.specs.Pieces.{IsReadForth, IsReadUntil, ReadsAt, ReadsFrame, ReadsUntil}
use Rattle.vob_journal.specs.Reads.{Rests}
use Rattle.vob_journal.specs.Shown.{modeled_list, modeled_rest, modeled_leftover, rest_at, JournalInvariant}
use Rattle.vob_journal.specs.Tails.{IsWhole, HoldsPrefix, IsTail, IsStillRead, list_at, leftover_at}
use Rattle.vob_journal.specs.Windows.{IfShows, StartsBy}
use Rattle.vob_journal.specs.declared.window.Window.{Window}
use Rattle.vob_journal.specs.declared.reading.Found.TheVariants.{End}
use Rattle.vob_journal.specs.Added.{may_read}
use Rattle.vob_journal.proofs.Adding.{adds_one}
use Rattle.vob_journal.proofs.Framing.{head_is, head_length, head_take, head_short, frames_some, frames_none, frames_nil}
use Rattle.vob_journal.proofs.Framing.{frames_more, whole_nil, whole_more}
use Rattle.vob_journal.proofs.Pieces.{lower_forth, lower_until, place_next, until_of}
use Rattle.vob_journal.proofs.Passing.{passes_none, passes_weaker, passes_call}
use Rattle.vob_journal.proofs.Settling.{shut_image, ajar_image}

-- the one image of a file that is stable
pub stable_image : (bytes image : List ℕ) → IsImage (stable bytes) image → image ≡ bytes
stable_image bytes image is = ext_get_or 0 image bytes (omega (arith, is.no_shorter, is.no_longer))
    (λ i h. is.kept i (omega (arith, h, is.no_longer)) refl)

opened_image : (d : Device) → file_of 0 d ≡ stable (bytes_now 0 d) → (image : List ℕ) → LeavesNow 0 d image
    → frames image ≡ frames (bytes_now 0 d)
opened_image d is image left = ap frames (stable_image (bytes_now 0 d) image (subst (λ s. IsImage s image) is left))

-- what is read and what is not make the whole list
pub reading_list : (tail size : ℕ) (d : Device) → IsStillRead tail size d
    → modeled_list (Some d) false tail ≡ frames (bytes_now 0 d)
reading_list tail size d reading = sym (reading.whole.goes_on (drop tail (bytes_now 0 d)))
    ∙ ap frames (take-append-drop tail (bytes_now 0 d))

-- a stop now
pub unchanged_now : (modeled : Option Device) (ended settled : Bool) (tail size : ℕ) (window : Option Window)
    → JournalInvariant modeled ended settled tail size window
    → IfModeled modeled (λ d. (image : List ℕ) → LeavesNow 0 d image → Stands (modeled_list modeled ended tail)
    (modeled_leftover modeled ended settled tail) image)
unchanged_now None ended settled tail size window kept = tt
unchanged_now (Some d) true true tail size window kept = λ image left.
    inl (shut_image (list_at tail d) tail (file_of 0 d) kept.1 image left ∙ sym (append-nil (list_at tail d)))
unchanged_now (Some d) true false tail size window kept = λ image left.
    subst (λ l. Stands l (leftover_at false tail d) image) (sym (append-nil (list_at tail d)))
    (ajar_image (list_at tail d) (leftover_at false tail d) tail (file_of 0 d) kept.1 image left)
unchanged_now (Some d) false settled tail size window kept = λ image left.
    inl (opened_image d kept.3.as_opened image left ∙ sym (reading_list tail size d kept.3))

-- opening: the journal was measured
pub opened_reading : (size : ℕ) (old new : Option Device) → IfModeled old (λ d. file_of 0 d ≡ stable (bytes_now 0 d))
    → IfModeled old (λ d. size ≡ length (bytes_now 0 d))
    → Both (Measures 0) old new → IfModeled new (IsStillRead 0 size)
opened_reading size None None is all modeled = tt
opened_reading size None (Some e) is all modeled = absurd modeled
opened_reading size (Some d) None is all modeled = tt
opened_reading size (Some d) (Some e) is all modeled = subst (IsStillRead 0 size) (sym modeled)
    (record {
      as_opened = is;
      within = omega arith;
      all = all;
      whole = whole_nil;
      after = ap (λ list. place_after (length list) (bytes_now 0 d)) (sym frames_nil);
    })

pub opened_list : (old new : Option Device) → Both (Measures 0) old new
    → IfModeled old (λ d. modeled_list new false 0 ≡ frames (bytes_now 0 d))
opened_list None None modeled = tt
opened_list None (Some e) modeled = tt
opened_list (Some d) None modeled = absurd modeled
opened_list (Some d) (Some e) modeled = subst (λ f. modeled_list (Some f) false 0 ≡ frames (bytes_now 0 d)) (sym modeled)
    (ap (λ l. l ++ frames (bytes_now 0 d)) frames_nil)

pub opened_rest : (modeled : Option Device) → modeled_rest modeled false 0 ≡ modeled_list modeled false 0
opened_rest None = refl
opened_rest (Some d) = ap (λ l. l ++ frames (bytes_now 0 d)) (sym frames_nil)

pub no_leftover : (modeled : Option Device) (settled : Bool) (tail : ℕ) → modeled_leftover modeled false settled tail ≡ []
no_leftover None settled tail = refl
no_leftover (Some d) settled tail = refl

-- calls after which the file is as it was handed in
rests_moves : (list leftover list' leftover' : List (List ℕ)) (d e : Device) → file_of 0 d ≡ stable (bytes_now 0 d) → Rests d e
    → list ≡ frames (bytes_now 0 d) → list' ≡ list
    → Moves list leftover list' leftover' d e
rests_moves list leftover list' leftover' d e is rests same new = record {
  passes = passes_weaker d e (LeavesNow 0 d) _ (λ image left. inl (inl (opened_image d is image left ∙ sym same))) rests.passes;
  now = λ image left. inl (opened_image d is image (subst (λ s. IsImage s image) rests.same left) ∙ sym same ∙ sym new);
}

pub measured_rests : (d e : Device) → Measures 0 d e → Rests d e
measured_rests d e modeled = subst (Rests d) (sym modeled) (record {
  adds = adds_one may_read (Measured 0) d refl;
  same = refl;
  passes = passes_call (Measured 0) d (LeavesNow 0 d) (λ image left. left) (λ image left. left) refl;
})

pub opened_moves : (old new : Option Device) → IfModeled old (λ d. file_of 0 d ≡ stable (bytes_now 0 d))
    → Both (Measures 0) old new
    → Both (Moves (modeled_list new false 0) [] (modeled_list new false 0) (modeled_leftover new false false 0)) old new
opened_moves None None is modeled = tt
opened_moves None (Some e) is modeled = modeled
opened_moves (Some d) None is modeled = modeled
opened_moves (Some d) (Some e) is modeled =
    rests_moves (modeled_list (Some e) false 0) [] (modeled_list (Some e) false 0) [] d e is (measured_rests d e modeled)
    (opened_list (Some d) (Some e) modeled) refl

-- nothing was done
pub same_moves : (modeled : Option Device) (list leftover : List (List ℕ))
    → IfModeled modeled (λ d. (image : List ℕ) → LeavesNow 0 d image → Stands list leftover image)
    → Both (Moves list leftover list leftover) modeled modeled
same_moves None list leftover now = tt
same_moves (Some d) list leftover now = record { passes = passes_none d _; now = now }

-- what is known while a journal is read
pub reading_of : (modeled : Option Device) (ended settled : Bool) (tail size : ℕ) (window : Option Window) → ended ≡ false
    → JournalInvariant modeled ended settled tail size window
    → (tail ≤ size) × (size ≤ 2 ^ 62) × (StartsBy window tail × IfShows window modeled)
    × IfModeled modeled (IsStillRead tail size)
reading_of modeled ended settled tail size window is kept = subst (λ b. JournalInvariant modeled b settled tail size window) is
    kept

-- a read that found nothing new
pub missed_list : (old new : Option Device) (tail : ℕ) → Both Rests old new
    → modeled_list new false tail ≡ modeled_list old false tail
missed_list None None tail rests = refl
missed_list None (Some e) tail rests = absurd rests
missed_list (Some d) None tail rests = absurd rests
missed_list (Some d) (Some e) tail rests = ap (λ f. frames (take tail f.bytes) ++ frames (drop tail f.bytes)) rests.same

pub missed_rest : (old new : Option Device) (tail : ℕ) → Both Rests old new
    → modeled_rest new false tail ≡ modeled_rest old false tail
missed_rest None None tail rests = refl
missed_rest None (Some e) tail rests = absurd rests
missed_rest (Some d) None tail rests = absurd rests
missed_rest (Some d) (Some e) tail rests = ap (λ f. frames (drop tail f.bytes)) rests.same

pub rest_moves : (tail size : ℕ) (list' leftover' : List (List ℕ)) (old new : Option Device)
    → IfModeled old (IsStillRead tail size) → Both Rests old new → list' ≡ modeled_list old false tail
    → Both (Moves (modeled_list old false tail) [] list' leftover') old new
rest_moves tail size list' leftover' None None reading rests same = tt
rest_moves tail size list' leftover' None (Some e) reading rests same = rests
rest_moves tail size list' leftover' (Some d) None reading rests same = rests
rest_moves tail size list' leftover' (Some d) (Some e) reading rests same =
    rests_moves (modeled_list (Some d) false tail) [] list' leftover' d e reading.as_opened rests
    (reading_list tail size d reading) same

still_opened : (tail size : ℕ) (d e : Device) → IsStillRead tail size d → Rests d e → file_of 0 e ≡ stable (bytes_now 0 e)
still_opened tail size d e reading rests = rests.same ∙ reading.as_opened ∙ ap (λ f. stable f.bytes) (sym rests.same)

-- a payload was read
count_more : (tail : ℕ) (bytes payload : List ℕ) → IsWhole (take tail bytes) → head (drop tail bytes) ≡ Some payload
    → length (frames (take (tail + (5 + length payload)) bytes)) ≡ suc (length (frames (take tail bytes)))
count_more tail bytes payload whole found =
    let n = 5 + length payload in
    let is_head = head_is (drop tail bytes) payload found in
    let long = head_length (drop tail bytes) payload is_head in
    let list : frames (take (tail + n) bytes) ≡ frames (take tail bytes) ++ payload ∷ [] = ap frames (take-add tail n bytes)
    ∙ frames_more (take tail bytes) (take n (drop tail bytes)) payload whole (head_take (drop tail bytes) payload is_head)
    (length-take-le n (drop tail bytes) long.1) in
    omega (arith, ap length list, length-append (frames (take tail bytes)) (payload ∷ []))

after_more : (tail : ℕ) (bytes payload : List ℕ) → IsWhole (take tail bytes) → head (drop tail bytes) ≡ Some payload
    → tail ≡ place_after (length (frames (take tail bytes))) bytes
    → tail + (5 + length payload) ≡ place_after (length (frames (take (tail + (5 + length payload)) bytes))) bytes
after_more tail bytes payload whole found after =
    let n = length (frames (take tail bytes)) in
    ap (λ k. k + (5 + length payload)) after
    ∙ sym (place_next n bytes payload (ap (λ k. head (drop k bytes)) (sym after) ∙ found))
    ∙ ap (λ k. place_after k bytes) (sym (count_more tail bytes payload whole found))

pub reading_more : (tail size : ℕ) (payload : List ℕ) (d e : Device) → IsStillRead tail size d → Rests d e
    → head (drop tail (bytes_now 0 d)) ≡ Some payload
    → tail + (5 + length payload) ≤ size → IsStillRead (tail + (5 + length payload)) size e
reading_more tail size payload d e reading rests found fits =
    let bytes = bytes_now 0 d in
    let n = 5 + length payload in
    let is_head = head_is (drop tail bytes) payload found in
    let long = head_length (drop tail bytes) payload is_head in
    let whole = whole_more (take tail bytes) (take n (drop tail bytes)) payload reading.whole
    (head_take (drop tail bytes) payload is_head) (length-take-le n (drop tail bytes) long.1) in
    let same = ap (λ f. f.bytes) rests.same in
    record {
      as_opened = still_opened tail size d e reading rests;
      within = omega (arith, ap length same, reading.all);
      all = reading.all ∙ ap length (sym same);
      whole = subst (λ b. IsWhole (take (tail + n) b)) (sym same) (subst IsWhole (sym (take-add tail n bytes)) whole);
      after = subst (λ b. tail + n ≡ place_after (length (frames (take (tail + n) b))) b) (sym same)
          (after_more tail bytes payload reading.whole found reading.after);
    }

pub modeled_more : (tail size : ℕ) (payload : List ℕ) (old new : Option Device) → IfModeled old (IsStillRead tail size)
    → Both Rests old new
    → IfModeled old (λ d. head (drop tail (bytes_now 0 d)) ≡ Some payload) → tail + (5 + length payload) ≤ size
    → IfModeled new (IsStillRead (tail + (5 + length payload)) size)
modeled_more tail size payload None None reading rests found fits = tt
modeled_more tail size payload None (Some e) reading rests found fits = absurd rests
modeled_more tail size payload (Some d) None reading rests found fits = tt
modeled_more tail size payload (Some d) (Some e) reading rests found fits =
    reading_more tail size payload d e reading rests found fits

pub more_list : (tail size : ℕ) (payload : List ℕ) (old new : Option Device) → IfModeled old (IsStillRead tail size)
    → Both Rests old new
    → IfModeled old (λ d. head (drop tail (bytes_now 0 d)) ≡ Some payload) → tail + (5 + length payload) ≤ size
    → modeled_list new false (tail + (5 + length payload)) ≡ modeled_list old false tail
more_list tail size payload None None reading rests found fits = refl
more_list tail size payload None (Some e) reading rests found fits = absurd rests
more_list tail size payload (Some d) None reading rests found fits = absurd rests
more_list tail size payload (Some d) (Some e) reading rests found fits =
    reading_list (tail + (5 + length payload)) size e (reading_more tail size payload d e reading rests found fits)
    ∙ ap (λ f. frames f.bytes) rests.same ∙ sym (reading_list tail size d reading)

pub more_rest : (tail : ℕ) (payload : List ℕ) (old new : Option Device) → Both Rests old new
    → IfModeled old (λ d. head (drop tail (bytes_now 0 d)) ≡ Some payload)
    → IfModeled old (λ d. modeled_rest old false tail ≡ payload ∷ modeled_rest new false (tail + (5 + length payload)))
more_rest tail payload None new rests found = tt
more_rest tail payload (Some d) None rests found = absurd rests
more_rest tail payload (Some d) (Some e) rests found =
    frames_some (drop tail (bytes_now 0 d)) payload found
    ∙ ap (λ bytes. payload ∷ frames bytes) (drop-drop (5 + length payload) tail (bytes_now 0 d)
    ∙ ap (λ f. drop (tail + (5 + length payload)) f.bytes) (sym rests.same))

-- the end of the list was read
shut_gate : (rest : List ℕ) → is_shut rest ≡ true → (0 < length rest) × (slice_index rest 0 ≢ 1)
shut_gate [] e = absurd (cc)
shut_gate (gate ∷ rest) e = (omega arith, λ one. grind (arith, common_steps))

prefix_of : (tail size : ℕ) (d e : Device) → IsStillRead tail size d → Rests d e → HoldsPrefix (list_at tail e) tail (file_of 0 e)
prefix_of tail size d e reading rests =
    let is = still_opened tail size d e reading rests in
    let same = ap (λ f. f.bytes) rests.same in
    record {
      synced = omega (arith, ap (λ f. f.least) is, ap length same, reading.within);
      reads = omega (arith, ap (λ f. f.least) is);
      whole = subst (λ b. IsWhole (take tail b)) (sym same) reading.whole;
      lists = refl;
    }

pub reading_ends : (settled : Bool) (tail size : ℕ) (d e : Device) → IsStillRead tail size d → Rests d e
    → settled ≡ is_shut (drop tail (bytes_now 0 d)) → IsTail settled tail e
reading_ends true tail size d e reading rests is =
    let stays = still_opened tail size d e reading rests in
    let same = ap (λ f. f.bytes) rests.same in
    let gate = shut_gate (drop tail (bytes_now 0 d)) (sym is) in
    let at : slice_index (bytes_now 0 e) tail ≡ slice_index (drop tail (bytes_now 0 d)) 0 =
    ap (λ b. get_or b tail 0) same ∙ sym (get_or-drop tail (bytes_now 0 d) 0 0
    ∙ ap (λ n. get_or (bytes_now 0 d) n 0) (omega arith)) in
    record {
      prefix = prefix_of tail size d e reading rests;
      gate_synced = omega (arith, ap (λ f. f.least) stays, ap length same, gate.0, length-drop tail (bytes_now 0 d));
      gate = λ one. gate.1 (sym at ∙ one);
      untouched = λ i below. ap (λ f. is_written f.written i) stays;
    }
reading_ends false tail size d e reading rests is =
    let stays = still_opened tail size d e reading rests in
    record {
      prefix = prefix_of tail size d e reading rests;
      longest = omega (arith, ap (λ f. f.most) stays);
      gate_last = omega (arith, ap (λ f. f.most) stays, ap (λ f. f.least) stays);
      untouched = λ i ne. ap (λ f. is_written f.written i) stays;
      behind = refl;
    }

pub modeled_ends : (settled : Bool) (tail size : ℕ) (old new : Option Device) → IfModeled old (IsStillRead tail size)
    → Both Rests old new
    → IfModeled old (λ d. (head (drop tail (bytes_now 0 d)) ≡ None) × (settled ≡ is_shut (drop tail (bytes_now 0 d))))
    → IfModeled new (IsTail settled tail)
modeled_ends settled tail size None None reading rests found = tt
modeled_ends settled tail size None (Some e) reading rests found = absurd rests
modeled_ends settled tail size (Some d) None reading rests found = tt
modeled_ends settled tail size (Some d) (Some e) reading rests found = reading_ends settled tail size d e reading rests found.1

pub ended_list : (settled : Bool) (tail size : ℕ) (old new : Option Device) → IfModeled old (IsStillRead tail size)
    → Both Rests old new
    → IfModeled old (λ d. (head (drop tail (bytes_now 0 d)) ≡ None) × (settled ≡ is_shut (drop tail (bytes_now 0 d))))
    → modeled_list new true tail ≡ modeled_list old false tail
ended_list settled tail size None None reading rests found = refl
ended_list settled tail size None (Some e) reading rests found = absurd rests
ended_list settled tail size (Some d) None reading rests found = absurd rests
ended_list settled tail size (Some d) (Some e) reading rests found =
    ap (λ f. frames (take tail f.bytes) ++ []) rests.same ∙ ap (λ l. list_at tail d ++ l)
    (sym (frames_none (drop tail (bytes_now 0 d)) found.0))

-- where the list ends, and whether the tail is settled there
pub ended_tail : (settled : Bool) (tail size : ℕ) (old : Option Device) → IfModeled old (IsStillRead tail size)
    → IfModeled old (λ d. (head (drop tail (bytes_now 0 d)) ≡ None) × (settled ≡ is_shut (drop tail (bytes_now 0 d))))
    → IfModeled old (λ d. (tail ≡ end_of_frames (bytes_now 0 d)) × (settled ≡ is_shut (drop tail (bytes_now 0 d))))
ended_tail settled tail size None reading found = tt
ended_tail settled tail size (Some d) reading found =
    let bytes = bytes_now 0 d in
    let all : frames (take tail bytes) ≡ frames bytes = sym (append-nil (frames (take tail bytes)))
    ∙ ap (λ l. frames (take tail bytes) ++ l) (sym (frames_none (drop tail bytes) found.0))
    ∙ sym (reading.whole.goes_on (drop tail bytes)) ∙ ap frames (take-append-drop tail bytes) in
    (reading.after ∙ ap (λ list. place_after (length list) bytes) all, found.1)

gate_ajar : (gate : ℕ) → not (gate == 1) ≡ false → gate ≡ 1
gate_ajar gate e = grind (arith, common_steps)

-- after a gate that is not shut nothing whole is found
cut_leftover : (tail : ℕ) (bytes : List ℕ) → head (drop tail bytes) ≡ None → is_shut (drop tail bytes) ≡ false
    → frames (1 ∷ drop (tail + 1) bytes) ≡ []
cut_leftover tail bytes none is = elim (cases_lt tail (length bytes)) [
  | inl within ↦
      let split = drop_more bytes tail 0 within in
      let ajar : is_shut (get_or bytes tail 0 ∷ drop (tail + 1) bytes) ≡ false = ap is_shut (sym split) ∙ is in
      ap (λ gate. frames (gate ∷ drop (tail + 1) bytes)) (sym (gate_ajar (get_or bytes tail 0) ajar)) ∙ ap frames (sym split)
      ∙ frames_none (drop tail bytes) none
  | inr past ↦ ap (λ rest. frames (1 ∷ rest)) (drop_all (tail + 1) bytes (omega arith))
      ∙ frames_none (1 ∷ []) (head_short (1 ∷ []) (omega arith))
]

pub ended_leftover : (settled : Bool) (tail : ℕ) (old new : Option Device) → Both Rests old new
    → IfModeled old (λ d. (head (drop tail (bytes_now 0 d)) ≡ None) × (settled ≡ is_shut (drop tail (bytes_now 0 d))))
    → modeled_leftover new true settled tail ≡ []
ended_leftover settled tail None None rests found = refl
ended_leftover settled tail None (Some e) rests found = absurd rests
ended_leftover settled tail (Some d) None rests found = refl
ended_leftover true tail (Some d) (Some e) rests found = refl
ended_leftover false tail (Some d) (Some e) rests found = ap (λ f. frames (1 ∷ drop (tail + 1) f.bytes)) rests.same
    ∙ cut_leftover tail (bytes_now 0 d) found.0 (sym found.1)

pub ended_rest : (settled : Bool) (tail : ℕ) (old new : Option Device)
    → IfModeled old (λ d. (head (drop tail (bytes_now 0 d)) ≡ None) × (settled ≡ is_shut (drop tail (bytes_now 0 d))))
    → IfModeled old (λ d. (modeled_rest old false tail ≡ []) × (modeled_rest new true tail ≡ []))
ended_rest settled tail None new found = tt
ended_rest settled tail (Some d) None found = (frames_none (drop tail (bytes_now 0 d)) found.0, refl)
ended_rest settled tail (Some d) (Some e) found = (frames_none (drop tail (bytes_now 0 d)) found.0, refl)

-- how many frames were read
abbrev pub read_of : Option Device → Bool → ℕ → ℕ
read_of modeled ended tail = length (modeled_list modeled ended tail) - length (modeled_rest modeled ended tail)

read_is : (tail : ℕ) (d : Device) → read_of (Some d) false tail ≡ length (list_at tail d)
read_is tail d = omega (arith, length-append (list_at tail d) (rest_at false tail d))

-- a frame was read, the next of those
pub payload_forth : (tail size had has : ℕ) (payload : List ℕ) (old new : Option Device) → IfModeled old (IsStillRead tail size)
    → Both Rests old new
    → IfModeled old (λ d. head (drop tail (bytes_now 0 d)) ≡ Some payload) → tail + (5 + length payload) ≤ size
    → Both (ReadsAt tail had has) old new
    → Both (IsReadForth (read_of old false tail) had (read_of new false (tail + (5 + length payload))) has) old new
payload_forth tail size had has payload None None reading rests found fits h = tt
payload_forth tail size had has payload None (Some e) reading rests found fits h = absurd rests
payload_forth tail size had has payload (Some d) None reading rests found fits h = absurd rests
payload_forth tail size had has payload (Some d) (Some e) reading rests found fits h =
    let n = length (list_at tail d) in
    let further = tail + (5 + length payload) in
    let to : read_of (Some e) false further ≡ n + 1 = omega (
      arith,
      read_is further e,
      ap (λ f. length (frames (take further f.bytes))) rests.same,
      count_more tail (bytes_now 0 d) payload reading.whole found,
    ) in
    subst (λ k. IsReadForth k had (read_of (Some e) false further) has d e) (sym (read_is tail d))
    (subst (λ k. IsReadForth n had k has d e) (sym to)
    (lower_forth n (n + 1) had (n + 1) has d e (omega arith) (h n reading.after)))

-- none was, and the reads are those of one place
pub missed_until : (tail size had : ℕ) (old new : Option Device) → IfModeled old (IsStillRead tail size)
    → Both (ReadsUntil tail had) old new
    → Both (IsReadUntil (read_of old false tail) had (read_of old false tail + 1)) old new
missed_until tail size had None None reading h = tt
missed_until tail size had None (Some e) reading h = h
missed_until tail size had (Some d) None reading h = h
missed_until tail size had (Some d) (Some e) reading h =
    let n = length (list_at tail d) in
    subst (λ k. IsReadUntil k had (k + 1) d e) (sym (read_is tail d))
    (lower_until n (n + 1) had (n + 1) d e (omega arith) (h n reading.after))

pub ended_until : (settled : Bool) (tail size had : ℕ) (old new : Option Device) → IfModeled old (IsStillRead tail size)
    → Both (ReadsFrame tail had (End settled)) old new
    → Both (IsReadUntil (read_of old false tail) had (read_of old false tail + 1)) old new
ended_until settled tail size had None None reading h = tt
ended_until settled tail size had None (Some e) reading h = h
ended_until settled tail size had (Some d) None reading h = h
ended_until settled tail size had (Some d) (Some e) reading h =
    missed_until tail size had (Some d) (Some e) reading
    (λ number at. until_of (number + 1) had (number + 1) h.0 d e (h.1 number at))
