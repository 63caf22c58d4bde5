-- What follows the frames of a journal, and that reading leaves it.
use Rattle.std.proofs.Common.{◌≡◌, ◌≤◌, ◌+◌, ◌-◌, ℕ, zero, suc, min, Option, Some, None, List, length, take, drop, refl, sym}
use Rattle.std.proofs.Common.{◌∙◌, ap, subst, arith, length-drop}
use Rattle.std.proofs.lemmas.List.{drop-drop}
use Rattle.disk_model.specs.Devices.{Device, bytes_now}
use Rattle.disk_model.specs.DiskStates.{IfModeled, Both}
use Rattle.vob_journal.specs.Foreign.{past, behind_within, behind, foreign_of}
use Rattle.vob_journal.specs.Frames.{head}
use Rattle.vob_journal.specs.Reads.{Rests}
use Rattle.vob_journal.specs.Windows.{IfShows}
use Rattle.vob_journal.specs.declared.window.Window.{Window}
use Rattle.vob_journal.proofs.Finding.{modeled_part}
use Rattle.vob_journal.proofs.Framing.{head_short}
use Rattle.vob_journal.proofs.Telling.{modeled_both, modeled_from, modeled_back}

past_same : (found : Option (List ℕ)) (bytes : List ℕ) (f g : ℕ → List ℕ)
    → ((payload : List ℕ) → f (5 + length payload) ≡ g (5 + length payload)) → past found bytes f ≡ past found bytes g
past_same None bytes f g same = refl
past_same (Some payload) bytes f g same = same payload

enough : (m n : ℕ) (bytes : List ℕ) → length bytes ≤ m → length bytes ≤ n → behind_within m bytes ≡ behind_within n bytes
enough zero zero bytes hm hn = refl
enough zero (suc n) bytes hm hn = rw (head_short bytes (omega arith)) refl
enough (suc m) zero bytes hm hn = rw (head_short bytes (omega arith)) refl
enough (suc m) (suc n) bytes hm hn = past_same (head bytes) bytes (λ k. behind_within m (drop k bytes))
    (λ k. behind_within n (drop k bytes))
    (λ payload. enough m n (drop (5 + length payload) bytes) (simp length-drop (omega arith)) (simp length-drop (omega arith)))

-- after a whole frame stands what follows the rest, and where there is none, all stands after the frames
pub behind_some : (bytes payload : List ℕ) → head bytes ≡ Some payload → behind bytes ≡ behind (drop (5 + length payload) bytes)
unfolding behind
behind_some bytes payload e =
    enough (length bytes) (suc (length bytes)) bytes (omega arith) (omega arith)
    ∙ ap (λ found. past found bytes (λ n. behind_within (length bytes) (drop n bytes))) e
    ∙ enough (length bytes) (length (drop (5 + length payload) bytes)) (drop (5 + length payload) bytes)
    (simp length-drop (omega arith)) (omega arith)

pub behind_none : (bytes : List ℕ) → head bytes ≡ None → behind bytes ≡ bytes
unfolding behind
behind_none bytes e =
    enough (length bytes) (suc (length bytes)) bytes (omega arith) (omega arith)
    ∙ ap (λ found. past found bytes (λ n. behind_within (length bytes) (drop n bytes))) e

behind_next : (bytes payload : List ℕ) (tail : ℕ) → head (drop tail bytes) ≡ Some payload
    → behind (drop tail bytes) ≡ behind (drop (tail + (5 + length payload)) bytes)
behind_next bytes payload tail e = behind_some (drop tail bytes) payload e ∙ ap behind (drop-drop (5 + length payload) tail bytes)

-- what was found on a device that reads as the first one, said of the first
pub found_first : (found : Option (List ℕ)) (tail : ℕ) (first old : Option Device) → Both Rests first old
    → IfModeled old (λ d. head (drop tail (bytes_now 0 d)) ≡ found) → IfModeled first
    (λ d. head (drop tail (bytes_now 0 d)) ≡ found)
found_first found tail first old same is =
    modeled_back Rests (λ d. head (drop tail (bytes_now 0 d)) ≡ found) (λ d. head (drop tail (bytes_now 0 d)) ≡ found) first old
    (λ d e s h. subst (λ f. head (drop tail f.bytes) ≡ found) s.same h) same is

-- one frame further on
pub modeled_further : (tail : ℕ) (payload : List ℕ) (first old : Option Device) → Both Rests first old
    → IfModeled old (λ d. head (drop tail (bytes_now 0 d)) ≡ Some payload)
    → IfModeled first (λ d. behind (bytes_now 0 d) ≡ behind (drop tail (bytes_now 0 d)))
    → IfModeled first (λ d. behind (bytes_now 0 d) ≡ behind (drop (tail + (5 + length payload)) (bytes_now 0 d)))
modeled_further tail payload first old same is so_far =
    modeled_both (λ d. head (drop tail (bytes_now 0 d)) ≡ Some payload)
    (λ d. behind (bytes_now 0 d) ≡ behind (drop tail (bytes_now 0 d)))
    (λ d. behind (bytes_now 0 d) ≡ behind (drop (tail + (5 + length payload)) (bytes_now 0 d))) first
    (λ d h b. b ∙ behind_next (bytes_now 0 d) payload tail h) (found_first (Some payload) tail first old same is) so_far

-- no frame is left
pub modeled_behind : (tail : ℕ) (first old : Option Device) → Both Rests first old
    → IfModeled old (λ d. head (drop tail (bytes_now 0 d)) ≡ None)
    → IfModeled first (λ d. behind (bytes_now 0 d) ≡ behind (drop tail (bytes_now 0 d)))
    → IfModeled first (λ d. behind (bytes_now 0 d) ≡ drop tail (bytes_now 0 d))
modeled_behind tail first old same is so_far =
    modeled_both (λ d. head (drop tail (bytes_now 0 d)) ≡ None) (λ d. behind (bytes_now 0 d) ≡ behind (drop tail (bytes_now 0 d)))
    (λ d. behind (bytes_now 0 d) ≡ drop tail (bytes_now 0 d)) first
    (λ d h b. b ∙ behind_none (drop tail (bytes_now 0 d)) h) (found_first None tail first old same is) so_far

-- the length is as it was
pub modeled_size : (size : ℕ) (first old : Option Device) → Both Rests first old
    → IfModeled first (λ d. size ≡ length (bytes_now 0 d)) → IfModeled old (λ d. size ≡ length (bytes_now 0 d))
modeled_size size first old same is =
    modeled_from Rests (λ d. size ≡ length (bytes_now 0 d)) (λ d. size ≡ length (bytes_now 0 d)) first old
    (λ d e h s. h ∙ ap (λ f. length f.bytes) (sym s.same)) is same

-- how many bytes at a tail are foreign, by the first five
pub modeled_foreign : (w : Window) (size tail left count : ℕ) (part : List ℕ) (old new : Option Device)
    → left ≡ size - tail → tail ≤ size → w.start ≤ tail → tail + min left 5 ≤ w.start + length w.bytes.items
    → part ≡ take (min left 5) (drop (tail - w.start) w.bytes.items)
    → IfModeled old (λ d. size ≡ length (bytes_now 0 d)) → Both Rests old new → IfShows (Some w) new
    → ((rest : List ℕ) → length rest ≡ left → part ≡ take (min left 5) rest → count ≡ foreign_of rest)
    → IfModeled old (λ d. count ≡ foreign_of (drop tail (bytes_now 0 d)))
modeled_foreign w size tail left count part old new is_left within from to is_part all rests shows tells =
    modeled_both (λ d. size ≡ length (bytes_now 0 d)) (λ d. take (min left 5) (drop (tail - w.start) w.bytes.items)
    ≡ take (min left 5) (drop tail (bytes_now 0 d)))
    (λ d. count ≡ foreign_of (drop tail (bytes_now 0 d))) old
    (λ d s h. tells (drop tail (bytes_now 0 d)) (length-drop tail (bytes_now 0 d) ∙ omega (arith, s, is_left)) (is_part ∙ h))
    all (modeled_part w tail (min left 5) old new from to rests shows)
