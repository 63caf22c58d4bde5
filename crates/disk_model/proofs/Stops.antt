-- What stops leave, along the trace of calls.
use Rattle.std.proofs.Common.{◌≡◌, ◌<◌, ◌≤◌, ◌+◌, ◌⊎◌, ℕ, zero, suc, List, [], ◌∷◌, length, refl, sym, ◌∙◌, ap, subst, inl, inr}
use Rattle.std.proofs.Common.{arith, fold, take, drop, ◌-◌, get_or}
use Rattle.std.proofs.lemmas.List.{take-append-drop, take_more, take_all}
use Rattle.std.proofs.lemmas.List.Sums.{fold-append}
use Rattle.disk_model.specs.Files.{IsImage}
use Rattle.disk_model.specs.Devices.{Device, new_device, file_of, during, file_after_call, Leaves, MayLeave}
use Rattle.disk_model.specs.Records.{failing, event_of, with_traced_calls, device_of}
use Rattle.disk_model.specs.Picks.{IsPicture}
use Rattle.disk_model.specs.declared.calls.TracedCall.{TracedCall}

pub length_failing : (n : ℕ) (d : Device) → length (failing n d).calls ≡ n + length d.calls
length_failing zero d = omega arith
length_failing (suc n) d = let more = length_failing n d in omega arith

-- calls that change nothing leave both files as they were
pub file_failing : (file n : ℕ) (d : Device) → file_of file (failing n d) ≡ file_of file d
file_failing file zero d = refl
file_failing file (suc n) d = file_failing file n d

pub first_failing : (file n : ℕ) (d : Device) → (failing n d).journal ≡ d.journal
first_failing file zero d = refl
first_failing file (suc n) d = first_failing file n d

reaches : (k n : ℕ) → k ≤ n + 1 → (k ≤ n) ⊎ (k ≡ n + 1)
reaches k n most = grind arith

-- a stop within one of the calls that fail leaves what a stop before them may leave
pub stop_failing : (file n : ℕ) (d : Device) (k : ℕ) (image : List ℕ) → IsImage (file_of file d) image
    → length d.calls < k → k ≤ length d.calls + n → Leaves file (failing n d) k image
stop_failing file zero d k image is_image above below = absurd (omega arith)
stop_failing file (suc n) d k image is_image above below =
    let within : k ≤ (length d.calls + n) + 1 = omega arith in
    elim (reaches k (length d.calls + n) within) [
      | inl earlier ↦ inr (stop_failing file n d k image is_image above earlier)
      | inr last ↦ inl (
        omega (arith, last, length_failing n d),
        subst (λ s. IsImage s image) (sym (file_failing file n d))
            is_image,
      )
    ]

-- a stop at an earlier call leaves what it left
pub leaves_failing : (file n : ℕ) (d : Device) (k : ℕ) (image : List ℕ) → Leaves file d k image
    → Leaves file (failing n d) k image
leaves_failing file zero d k image left = left
leaves_failing file (suc n) d k image left = inr (leaves_failing file n d k image left)

pub leaves_recorded : (file : ℕ) (traced : TracedCall) (d : Device) (k : ℕ) (image : List ℕ) → Leaves file d k image
    → Leaves file (with_traced_calls d traced) k image
leaves_recorded file traced d k image left = inr (leaves_failing file traced.failed_before d k image left)

pub leaves_later : (file : ℕ) (trace : List TracedCall) (d : Device) (k : ℕ) (image : List ℕ) → Leaves file d k image
    → Leaves file (fold with_traced_calls d trace) k image
leaves_later file [] d k image left = left
leaves_later file (traced ∷ trace) d k image left = leaves_later file trace (with_traced_calls d traced) k image
    (leaves_recorded file traced d k image left)

-- the device of a trace, cut at a call of it
pub cut_at : (journal objects : List ℕ) (trace : List TracedCall) (i failed : ℕ)
    → device_of journal objects trace failed ≡ failing failed (fold with_traced_calls (device_of journal objects (take i trace) 0)
    (drop i trace))
cut_at journal objects trace i failed =
    ap (λ es. device_of journal objects es failed) (sym (take-append-drop i trace))
    ∙ ap (failing failed) (fold-append with_traced_calls (new_device journal objects) (take i trace) (drop i trace))

-- a stop among the first traced calls leaves what it left
pub leaves_in_all : (file : ℕ) (journal objects : List ℕ) (trace : List TracedCall) (i failed k : ℕ) (image : List ℕ)
    → Leaves file (device_of journal objects (take i trace) 0) k image
    → MayLeave file (device_of journal objects trace failed) k image
leaves_in_all file journal objects trace i failed k image left =
    let d = device_of journal objects (take i trace) 0 in
    inl (subst (λ e. Leaves file e k image) (sym (cut_at journal objects trace i failed))
    (leaves_failing file failed (fold with_traced_calls d (drop i trace)) k image
    (leaves_later file (drop i trace) d k image left)))

-- the device after one traced call more
pub device_more : (journal objects : List ℕ) (trace : List TracedCall) (i : ℕ) (traced : TracedCall) → i < length trace
    → traced ≡ get_or trace i traced
    → device_of journal objects (take (i + 1) trace) 0 ≡ with_traced_calls (device_of journal objects (take i trace) 0) traced
device_more journal objects trace i traced within is =
    ap (fold with_traced_calls (new_device journal objects)) (take_more trace i traced within)
    ∙ fold-append with_traced_calls (new_device journal objects) (take i trace) (get_or trace i traced ∷ [])
    ∙ ap (with_traced_calls (device_of journal objects (take i trace) 0)) (sym is)

module _ (file : ℕ) (journal objects : List ℕ) (trace : List TracedCall) (i failed call made : ℕ) (traced : TracedCall)
    (bytes image : List ℕ)
    (within : i < length trace) (is : traced ≡ get_or trace i traced)
    (picture : IsPicture (file_of file (device_of journal objects (take i trace) 0)) bytes image)
    (count : made ≡ length (device_of journal objects (take i trace) 0).calls) where
  in_traced : (other : List ℕ) → Leaves file (with_traced_calls (device_of journal objects (take i trace) 0) traced) call other
      → MayLeave file (device_of journal objects trace failed) call other
  in_traced other left = leaves_in_all file journal objects trace (i + 1) failed call other
      (subst (λ e. Leaves file e call other) (sym (device_more journal objects trace i traced within is)) left)

  -- a stop within a call that failed before the traced one
  pub stop_before : made < call → call - made ≤ traced.failed_before → MayLeave file (device_of journal objects trace failed) call
      image
  stop_before before most = in_traced image
      (inr (stop_failing file traced.failed_before (device_of journal objects (take i trace) 0) call image picture.picked
      (omega arith) (omega arith)))

  -- the picture before the traced call
  pub picture_failed : IsPicture (file_of file (failing traced.failed_before (device_of journal objects (take i trace) 0))) bytes
      image
  picture_failed = subst (λ s. IsPicture s bytes image) (sym (file_failing file traced.failed_before
      (device_of journal objects (take i trace) 0))) picture

  -- a stop within the traced call
  pub stop_at : (bytes' image' : List ℕ) → made + (traced.failed_before + 1) ≡ call
      → ((d : Device) → IsPicture (file_of file d) bytes image → IsPicture (during file (event_of traced.call d) (file_of file d))
      bytes' image')
      → MayLeave file (device_of journal objects trace failed) call image'
  stop_at bytes' image' last entered =
      let d = device_of journal objects (take i trace) 0 in
      let after_it = entered (failing traced.failed_before d) picture_failed in
      in_traced image' (inl (omega (arith, length_failing traced.failed_before d), after_it.picked))

  -- the picture after the traced call
  pub picture_more : (bytes' image' : List ℕ)
      → ((d : Device) → IsPicture (file_of file d) bytes image → IsPicture
      (file_after_call file (event_of traced.call d) (file_of file d)) bytes' image')
      → IsPicture (file_of file (device_of journal objects (take (i + 1) trace) 0)) bytes' image'
      × (made + (traced.failed_before + 1) ≡ length (device_of journal objects (take (i + 1) trace) 0).calls)
  picture_more bytes' image' gone_over =
      let d = device_of journal objects (take i trace) 0 in
      subst (λ e. IsPicture (file_of file e) bytes' image' × (made + (traced.failed_before + 1) ≡ length e.calls))
      (sym (device_more journal objects trace i traced within is))
      (gone_over (failing traced.failed_before d) picture_failed, omega (arith, length_failing traced.failed_before d))

-- a stop after the last traced call
pub stop_behind : (file : ℕ) (d : Device) (failed call : ℕ) (image : List ℕ) → IsImage (file_of file d) image
    → length d.calls < call
    → call ≤ length (failing failed d).calls + 1 → MayLeave file (failing failed d) call image
stop_behind file d failed call image is_image above most =
    let within : call ≤ (length d.calls + failed) + 1 = omega (arith, length_failing failed d) in
    elim (reaches call (length d.calls + failed) within) [
      | inl below ↦ inl (stop_failing file failed d call image is_image above below)
      | inr last ↦ inr (
        omega (arith, last, length_failing failed d),
        subst (λ s. IsImage s image)
            (sym (file_failing file failed d)) is_image,
      )
    ]

pub stop_in_all : (file : ℕ) (journal objects : List ℕ) (trace : List TracedCall) (i failed call made : ℕ) (bytes image : List ℕ)
    → length trace ≤ i → IsPicture (file_of file (device_of journal objects (take i trace) 0)) bytes image
    → made ≡ length (device_of journal objects (take i trace) 0).calls → made < call
    → call ≤ length (device_of journal objects trace failed).calls + 1
    → MayLeave file (device_of journal objects trace failed) call image
stop_in_all file journal objects trace i failed call made bytes image end picture count before most =
    let all : take i trace ≡ trace = take_all i trace end in
    let picked = subst (λ es. IsImage (file_of file (device_of journal objects es 0)) image) all picture.picked in
    let counted = subst (λ es. made ≡ length (device_of journal objects es 0).calls) all count in
    stop_behind file (device_of journal objects trace 0) failed call image picked (omega arith) most
