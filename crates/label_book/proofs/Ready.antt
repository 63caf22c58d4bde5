-- Which labels on which elements have room.
use Rattle.std.proofs.Common.{◌≡◌, ◌≢◌, ℕ, zero, suc, ◌<◌, Bool, true, false, ◌||◌, ltb, List, [], ◌∷◌, ◌++◌, length, get_or}
use Rattle.std.proofs.Common.{set, vec_len, vec_capacity, refl, ap, arith}
use Rattle.std.specs.List.{list_any}
use Rattle.cc_names.specs.Versions.{put_if}
use Rattle.cc_names.proofs.Common.{or_true}
use Rattle.label_book.specs.Marks.{Pair, is_that}
use Rattle.label_book.specs.Holding.{Held, is_pair, ready_pairs}

-- whether one has room
abbrev pub has_room : Held → Bool
has_room held = ltb (vec_len held.moves) (vec_capacity held.moves)

abbrev pub pair_of : Held → Pair
pair_of held = record { label = held.label; element = held.element }

any_put : (q : Pair → Bool) (t : Bool) (x : Pair) (xs : List Pair) → list_any q xs ≡ true → list_any q (put_if t x xs) ≡ true
any_put q true x xs any = rw any (or_true (q x))
any_put q false x xs any = any

none_put : (q : Pair → Bool) (t : Bool) (x : Pair) (xs : List Pair) → q x ≡ false → list_any q xs ≡ false
    → list_any q (put_if t x xs) ≡ false
none_put q true x xs fails none = rw fails none
none_put q false x xs fails none = none

any_more : (q : Pair → Bool) (t : Bool) (x : Pair) (xs ys : List Pair) → (list_any q xs ≡ true → list_any q ys ≡ true)
    → list_any q (put_if t x xs) ≡ true → list_any q (put_if t x ys) ≡ true
any_more q true x xs ys more any = or_keeps (q x) (list_any q xs) more any
  where
    or_keeps : (a b : Bool) {c : Bool} → (b ≡ true → c ≡ true) → (a || b) ≡ true → (a || c) ≡ true
    or_keeps true b f is = refl
    or_keeps false b f is = f is
any_more q false x xs ys more any = more any

any_behind : (q : Pair → Bool) (t : Bool) (x : Pair) (xs : List Pair) → q x ≡ false → list_any q (put_if t x xs) ≡ true
    → list_any q xs ≡ true
any_behind q true x xs fails any = rw fails at any
any_behind q false x xs fails any = any

module _ (l : List ℕ) (e : ℕ) where
  -- what stands nowhere has no room
  pub none_ready : (all : List Held) → ((k : ℕ) (d : Held) → k < length all → is_pair l e (get_or all k d) ≡ false)
      → list_any (is_that l e) (ready_pairs all) ≡ false
  none_ready [] none = refl
  none_ready (h ∷ all) none = none_put (is_that l e) (has_room h) (pair_of h) (ready_pairs all) (none 0 h (omega arith))
      (none_ready all (λ k d lt. none (suc k) d (omega arith)))

  -- what is ready has room where it stands
  pub ready_room : (all : List Held) (p : ℕ) (d : Held) → p < length all
      → ((k : ℕ) (f : Held) → k < length all → k ≢ p → is_pair l e (get_or all k f) ≡ false)
      → list_any (is_that l e) (ready_pairs all) ≡ true → has_room (get_or all p d) ≡ true
  ready_room [] p d lt others any = absurd (omega arith)
  ready_room (h ∷ all) zero d lt others any = at (has_room h) (none_ready all
      (λ k f in_range. others (suc k) f (omega arith) (λ same. cc same))) any
    where
      at : (t : Bool) → list_any (is_that l e) (ready_pairs all) ≡ false
          → list_any (is_that l e) (put_if t (pair_of h) (ready_pairs all)) ≡ true → t ≡ true
      at true none any = refl
      at false none any = cc
  ready_room (h ∷ all) (suc p) d lt others any =
      ready_room all p d (omega arith) (λ k f in_range apart. others (suc k) f (omega arith) (λ same. apart (omega arith)))
      (any_behind (is_that l e) (has_room h) (pair_of h) (ready_pairs all) (others 0 h (omega arith) (λ same. cc same)) any)

  -- one that has room is ready
  pub set_ready : (all : List Held) (p : ℕ) (held : Held) → p < length all → is_pair l e held ≡ true → has_room held ≡ true
      → list_any (is_that l e) (ready_pairs (set all p held)) ≡ true
  set_ready [] p held lt is room = absurd (omega arith)
  set_ready (h ∷ all) zero held lt is room = rw (room, is) refl
  set_ready (h ∷ all) (suc p) held lt is room = any_put (is_that l e) (has_room h) (pair_of h) (ready_pairs (set all p held))
      (set_ready all p held (omega arith) is room)

  pub push_ready : (all : List Held) (held : Held) → is_pair l e held ≡ true → has_room held ≡ true
      → list_any (is_that l e) (ready_pairs (all ++ held ∷ [])) ≡ true
  push_ready [] held is room = rw (room, is) refl
  push_ready (h ∷ all) held is room = any_put (is_that l e) (has_room h) (pair_of h) (ready_pairs (all ++ held ∷ []))
      (push_ready all held is room)

  -- what was ready stays so
  pub set_keeps : (all : List Held) (p : ℕ) (held : Held) → p < length all
      → ((d : Held) → pair_of held ≡ pair_of (get_or all p d)) → ((d : Held) → has_room (get_or all p d) ≡ true
      → has_room held ≡ true)
      → list_any (is_that l e) (ready_pairs all) ≡ true → list_any (is_that l e) (ready_pairs (set all p held)) ≡ true
  set_keeps [] p held lt same more any = absurd (omega arith)
  set_keeps (h ∷ all) zero held lt same more any = at (has_room h) (has_room held) (more h) (ap (λ x. is_that l e x) (same h)) any
    where
      at : (t u : Bool) → (t ≡ true → u ≡ true) → is_that l e (pair_of held) ≡ is_that l e (pair_of h)
          → list_any (is_that l e) (put_if t (pair_of h) (ready_pairs all)) ≡ true
          → list_any (is_that l e) (put_if u (pair_of held) (ready_pairs all)) ≡ true
      at true true grows is any = rw is any
      at true false grows is any = cc (grows refl)
      at false true grows is any = rw any (or_true (is_that l e (pair_of held)))
      at false false grows is any = any
  set_keeps (h ∷ all) (suc p) held lt same more any =
      any_more (is_that l e) (has_room h) (pair_of h) (ready_pairs all) (ready_pairs (set all p held))
      (set_keeps all p held (omega arith) same more) any

  -- and what is ready elsewhere
  pub others_keep : (all : List Held) (p : ℕ) (held : Held) → p < length all → ((d : Held) → is_pair l e (get_or all p d) ≡ false)
      → list_any (is_that l e) (ready_pairs all) ≡ true → list_any (is_that l e) (ready_pairs (set all p held)) ≡ true
  others_keep [] p held lt other any = absurd (omega arith)
  others_keep (h ∷ all) zero held lt other any =
      any_put (is_that l e) (has_room held) (pair_of held) (ready_pairs all)
      (any_behind (is_that l e) (has_room h) (pair_of h) (ready_pairs all) (other h) any)
  others_keep (h ∷ all) (suc p) held lt other any =
      any_more (is_that l e) (has_room h) (pair_of h) (ready_pairs all) (ready_pairs (set all p held))
      (others_keep all p held (omega arith) other) any

  pub push_keeps : (all : List Held) (held : Held) → list_any (is_that l e) (ready_pairs all) ≡ true
      → list_any (is_that l e) (ready_pairs (all ++ held ∷ [])) ≡ true
  push_keeps [] held any = cc
  push_keeps (h ∷ all) held any =
      any_more (is_that l e) (has_room h) (pair_of h) (ready_pairs all) (ready_pairs (all ++ held ∷ [])) (push_keeps all held) any
