-- A branch that has room for one more version keeps it, where another one gets or uses some.
use Rattle.std.proofs.Common.{◌≡◌, ℕ, zero, suc, ◌<◌, Bool, true, false, ◌||◌, eqb, ltb, List, [], ◌∷◌, ◌++◌, length, get_or}
use Rattle.std.proofs.Common.{set, vec_len, vec_capacity, refl, ap, arith}
use Rattle.std.specs.List.{list_any}
use Rattle.cc_names.specs.Versions.{put_if}
use Rattle.version_tree.specs.TreeFields.{ready_branches}
use Rattle.version_tree.specs.declared.branches.Branch.{Branch}

-- whether a branch has room
abbrev pub has_room : Branch → Bool
has_room branch = ltb (vec_len branch.later) (vec_capacity branch.later)

module _ (q : ℕ) where
  or_true : (t : Bool) → (t || true) ≡ true
  or_true true = refl
  or_true false = refl

  or_keeps : (a b : Bool) {c : Bool} → (b ≡ true → c ≡ true) → (a || b) ≡ true → (a || c) ≡ true
  or_keeps true b f is = refl
  or_keeps false b f is = f is

  -- in a list of rows, after one that is there or not
  any_more : (t : Bool) (x : ℕ) (xs ys : List ℕ) → (list_any (λ b. eqb b q) xs ≡ true → list_any (λ b. eqb b q) ys ≡ true)
      → list_any (λ b. eqb b q) (put_if t x xs) ≡ true → list_any (λ b. eqb b q) (put_if t x ys) ≡ true
  any_more true x xs ys more any = or_keeps (eqb x q) (list_any (λ b. eqb b q) xs) more any
  any_more false x xs ys more any = more any

  -- where one branch gets more room, each that has room keeps it
  pub room_keeps : (items : List Branch) (p : ℕ) (b' : Branch) → p < length items
      → ((d : Branch) → b'.row ≡ (get_or items p d).row)
      → ((d : Branch) → has_room (get_or items p d) ≡ true → has_room b' ≡ true)
      → list_any (λ b. eqb b q) (ready_branches items) ≡ true → list_any (λ b. eqb b q) (ready_branches (set items p b')) ≡ true
  room_keeps [] p b' within same more any = absurd (omega arith)
  room_keeps (x ∷ items) zero b' within same more any = at (has_room x) (has_room b') (more x) (ap (λ r. eqb r q) (same x)) any
    where
      at : (t u : Bool) → (t ≡ true → u ≡ true) → eqb b'.row q ≡ eqb x.row q
          → list_any (λ b. eqb b q) (put_if t x.row (ready_branches items)) ≡ true
          → list_any (λ b. eqb b q) (put_if u b'.row (ready_branches items)) ≡ true
      at true true grows is any = rw is any
      at true false grows is any = cc (grows refl)
      at false true grows is any = rw any (or_true (eqb b'.row q))
      at false false grows is any = any
  room_keeps (x ∷ items) (suc p) b' within same more any =
      any_more (has_room x) x.row (ready_branches items) (ready_branches (set items p b'))
      (room_keeps items p b' (omega arith) same more) any

  -- a branch that has room keeps it where one is added
  pub push_keeps : (items : List Branch) (b : Branch)
      → list_any (λ x. eqb x q) (ready_branches items) ≡ true → list_any (λ x. eqb x q) (ready_branches (items ++ b ∷ [])) ≡ true
  push_keeps [] b any = cc
  push_keeps (x ∷ items) b any = any_more (has_room x) x.row (ready_branches items) (ready_branches (items ++ b ∷ []))
      (push_keeps items b) any

  -- and where another one is put back with one version more
  pub others_keep : (items : List Branch) (p : ℕ) (b' : Branch) → p < length items
      → ((d : Branch) → eqb (get_or items p d).row q ≡ false)
      → list_any (λ b. eqb b q) (ready_branches items) ≡ true → list_any (λ b. eqb b q) (ready_branches (set items p b')) ≡ true
  others_keep [] p b' within other any = absurd (omega arith)
  others_keep (x ∷ items) zero b' within other any = any_put (has_room b') (any_behind (has_room x) (other x) any)
    where
      any_put : (t : Bool) → list_any (λ b. eqb b q) (ready_branches items) ≡ true
          → list_any (λ b. eqb b q) (put_if t b'.row (ready_branches items)) ≡ true
      any_put true rest = rw rest (or_true (eqb b'.row q))
      any_put false rest = rest

      any_behind : (t : Bool) → eqb x.row q ≡ false → list_any (λ b. eqb b q) (put_if t x.row (ready_branches items)) ≡ true
          → list_any (λ b. eqb b q) (ready_branches items) ≡ true
      any_behind true fails listed = rw fails at listed
      any_behind false fails listed = listed
  others_keep (x ∷ items) (suc p) b' within other any =
      any_more (has_room x) x.row (ready_branches items) (ready_branches (set items p b'))
      (others_keep items p b' (omega arith) other) any
