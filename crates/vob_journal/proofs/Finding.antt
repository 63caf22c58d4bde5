-- What a window shows of a journal, and what is found in it.
use Rattle.std.proofs.Common.{◌≡◌, ◌≤◌, ◌+◌, ◌-◌, ℕ, min, Option, Some, Result, Ok, Err, IfOk, List, length, take, drop, sym}
use Rattle.std.proofs.Common.{◌∙◌, ap, subst, arith, length-drop}
use Rattle.std.proofs.lemmas.List.{drop-take, drop-drop, take-take, length-take-le}
use Rattle.disk_model.specs.Devices.{Device, bytes_now}
use Rattle.disk_model.specs.DiskStates.{IfModeled, Both}
use Rattle.vob_journal.specs.declared.reading.Head.{Head}
use Rattle.vob_journal.specs.declared.reading.Head.TheVariants.{Whole}
use Rattle.vob_journal.specs.declared.reading.Found.{Found}
use Rattle.vob_journal.specs.declared.reading.Found.TheVariants.{Payload, End}
use Rattle.vob_journal.specs.declared.window.Window.{Window}
use Rattle.vob_journal.specs.Found.{HeadTells, FindsAtHead, IsPayload}
use Rattle.vob_journal.specs.Frames.{head}
use Rattle.vob_journal.specs.Pieces.{needed, needed_by}
use Rattle.vob_journal.specs.Reads.{Rests}
use Rattle.vob_journal.specs.Windows.{Shows, IfShows}
use Rattle.vob_journal.proofs.Telling.{modeled_map, modeled_both, modeled_back, modeled_from}

-- a part of a piece of a list is a part of the list
part_of : (start place size n : ℕ) (bytes : List ℕ) → start ≤ place → place + size ≤ start + n
    → take size (drop (place - start) (take n (drop start bytes))) ≡ take size (drop place bytes)
part_of start place size n bytes from to =
    let k = place - start in
    let m = n - k in
    let whole : k + m ≡ n = omega arith in
    let at : start + k ≡ place = omega arith in
    ap (λ i. take size (drop k (take i (drop start bytes)))) (sym whole)
    ∙ ap (take size) (drop-take k m (drop start bytes))
    ∙ take-take size m (drop k (drop start bytes)) (omega arith)
    ∙ ap (take size) (drop-drop k start bytes ∙ ap (λ i. drop i bytes) at)

pub shows_part : (w : Window) (place size : ℕ) → w.start ≤ place → place + size ≤ w.start + length w.bytes.items → (d : Device)
    → Shows w d
    → take size (drop (place - w.start) w.bytes.items) ≡ take size (drop place (bytes_now 0 d))
shows_part w place size from to d shows =
    ap (λ bytes. take size (drop (place - w.start) bytes)) shows.same ∙ part_of w.start place size (length w.bytes.items)
    (bytes_now 0 d) from to

-- the same, as it was reported before the window was read
pub modeled_part : (w : Window) (place size : ℕ) (old new : Option Device) → w.start ≤ place
    → place + size ≤ w.start + length w.bytes.items
    → Both Rests old new → IfShows (Some w) new → IfModeled old (λ d. take size (drop (place - w.start) w.bytes.items)
    ≡ take size (drop place (bytes_now 0 d)))
modeled_part w place size old new from to rests shows =
    modeled_back Rests (λ d. take size (drop (place - w.start) w.bytes.items) ≡ take size (drop place (bytes_now 0 d))) (Shows w)
    old new
    (λ d e r s. shows_part w place size from to e s ∙ ap (λ f. take size (drop place f.bytes)) r.same) rests shows

-- the payload that was read in a window
pub modeled_payload : (w : Window) (tail count : ℕ) (payload part : List ℕ) (old new : Option Device) → w.start ≤ tail
    → tail + (5 + count) ≤ w.start + length w.bytes.items
    → payload ≡ part → part ≡ take count (drop ((tail + 5) - w.start) w.bytes.items) → Both Rests old new → IfShows (Some w) new
    → IfModeled old (λ d. payload ≡ take count (drop 5 (drop tail (bytes_now 0 d))))
modeled_payload w tail count payload part old new from to is is_part rests shows =
    modeled_map (λ d. take count (drop ((tail + 5) - w.start) w.bytes.items) ≡ take count (drop (tail + 5) (bytes_now 0 d)))
    (λ d. payload ≡ take count (drop 5 (drop tail (bytes_now 0 d)))) old
    (λ d h. is ∙ is_part ∙ h ∙ ap (take count) (sym (drop-drop 5 tail (bytes_now 0 d))))
    (modeled_part w (tail + 5) count old new (omega arith) (omega arith) rests shows)

-- what stands at the head of the rest
pub modeled_head : (head : Head) (w : Window) (size tail left : ℕ) (part : List ℕ) (old new : Option Device)
    → left ≡ size - tail → tail ≤ size → w.start ≤ tail → tail + min left 5 ≤ w.start + length w.bytes.items
    → part ≡ take (min left 5) (drop (tail - w.start) w.bytes.items)
    → IfModeled old (λ d. size ≡ length (bytes_now 0 d)) → Both Rests old new → IfShows (Some w) new
    → ((rest : List ℕ) → length rest ≡ left → part ≡ take (min left 5) rest → HeadTells head rest)
    → IfModeled old (λ d. HeadTells head (drop tail (bytes_now 0 d)))
modeled_head head w size tail left part old new is_left within from to is_part all rests shows tells =
    modeled_both (λ d. size ≡ length (bytes_now 0 d)) (λ d. take (min left 5) (drop (tail - w.start) w.bytes.items)
    ≡ take (min left 5) (drop tail (bytes_now 0 d)))
    (λ d. HeadTells head (drop tail (bytes_now 0 d))) old
    (λ d s h. tells (drop tail (bytes_now 0 d)) (length-drop tail (bytes_now 0 d) ∙ omega (arith, s, is_left)) (is_part ∙ h))
    all (modeled_part w tail (min left 5) old new from to rests shows)

pub finds_payload : (found : Found) (size : ℕ) (rest : List ℕ) → HeadTells (Whole size) rest
    → IsPayload found (take size (drop 5 rest)) → FindsAtHead found rest
finds_payload (Payload payload window) size rest tells is = tells.0 ∙ ap Some (sym is)
finds_payload (End settled) size rest tells is = absurd is

-- the frame that was found, where its payload was read after its head
pub modeled_frame : {E : Type 0} (r : Result Found E) (count tail : ℕ) (old new : Option Device) → Both Rests old new
    → IfModeled old (λ d. HeadTells (Whole count) (drop tail (bytes_now 0 d)))
    → IfOk r (λ found. IfModeled new (λ d. IsPayload found (take count (drop 5 (drop tail (bytes_now 0 d))))))
    → IfOk r (λ found. IfModeled old (λ d. FindsAtHead found (drop tail (bytes_now 0 d))))
modeled_frame (Ok found) count tail old new rests tells is =
    modeled_both (λ d. HeadTells (Whole count) (drop tail (bytes_now 0 d)))
    (λ d. IsPayload found (take count (drop 5 (drop tail (bytes_now 0 d)))))
    (λ d. FindsAtHead found (drop tail (bytes_now 0 d))) old
    (λ d t p. finds_payload found count (drop tail (bytes_now 0 d)) t p) tells
    (modeled_back Rests (λ d. IsPayload found (take count (drop 5 (drop tail (bytes_now 0 d)))))
    (λ d. IsPayload found (take count (drop 5 (drop tail (bytes_now 0 d))))) old new
    (λ d e r p. subst (λ f. IsPayload found (take count (drop 5 (drop tail f.bytes)))) r.same p) rests is)
modeled_frame (Err fault) count tail old new rests tells is = tt

-- so many bytes are needed for it
whole_needed : (size : ℕ) (rest : List ℕ) → HeadTells (Whole size) rest → 5 + size ≡ needed rest
whole_needed size rest tells =
    let long : length (take size (drop 5 rest)) ≡ size =
    length-take-le size (drop 5 rest) (omega (arith, tells.1, length-drop 5 rest)) in
    ap (λ n. 5 + n) (sym long) ∙ ap (λ found. needed_by found rest) (sym tells.0)

pub modeled_needed : (size tail : ℕ) (old new : Option Device) → Both Rests old new
    → IfModeled old (λ d. HeadTells (Whole size) (drop tail (bytes_now 0 d)))
    → IfModeled new (λ d. 5 + size ≡ needed (drop tail (bytes_now 0 d)))
modeled_needed size tail old new rests tells =
    modeled_from Rests (λ d. HeadTells (Whole size) (drop tail (bytes_now 0 d)))
    (λ d. 5 + size ≡ needed (drop tail (bytes_now 0 d))) old new
    (λ d e h r. whole_needed size (drop tail (bytes_now 0 d)) h
    ∙ ap (λ f. needed (drop tail f.bytes)) (sym r.same)) tells rests
