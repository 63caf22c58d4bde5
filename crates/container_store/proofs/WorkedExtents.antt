-- Worked rows: which extents lie apart, which may be taken, and which fits first.
use Rattle.std.proofs.Common.{◌≡◌, ℕ, zero, suc, ◌<◌, true, false, [], ◌∷◌, refl, arith}
use Rattle.container_store.specs.Extents.{are_apart, is_free, end_of, may_take, extent_at, IsFirstFit}

-- they touch, or share one byte
touching : are_apart (extent_at 0 4) (extent_at 4 1) ≡ true
touching = refl

touching_above : are_apart (extent_at 4 1) (extent_at 0 4) ≡ true
touching_above = refl

sharing : are_apart (extent_at 0 5) (extent_at 4 1) ≡ false
sharing = refl

within : are_apart (extent_at 2 1) (extent_at 0 4) ≡ false
within = refl

-- extents in no order, with a hole of two bytes
ends : end_of (extent_at 6 2 ∷ extent_at 0 4 ∷ []) ≡ 8
ends = refl

none_ends : end_of [] ≡ 0
none_ends = refl

free : is_free (extent_at 6 2 ∷ extent_at 0 4 ∷ []) (extent_at 4 2) ≡ true
free = refl

not_free : is_free (extent_at 6 2 ∷ extent_at 0 4 ∷ []) (extent_at 4 3) ≡ false
not_free = refl

-- a file that just has them, one that is short by a byte, and two that overlap
all : may_take 8 [] (extent_at 6 2 ∷ extent_at 0 4 ∷ extent_at 4 2 ∷ []) ≡ true
all = refl

short : may_take 7 [] (extent_at 6 2 ∷ extent_at 0 4 ∷ []) ≡ false
short = refl

overlap : may_take 9 [] (extent_at 6 2 ∷ extent_at 0 4 ∷ extent_at 7 2 ∷ []) ≡ false
overlap = refl

-- two bytes fit into the hole, and three do not
exact : IsFirstFit (extent_at 6 2 ∷ extent_at 0 4 ∷ []) 2 (extent_at 4 2)
exact = record { long = refl; free = refl; first = below }
  where
    below : (place : ℕ) → place < 4 → is_free (extent_at 6 2 ∷ extent_at 0 4 ∷ []) (extent_at place 2) ≡ false
    below zero lt = refl
    below (suc zero) lt = refl
    below (suc (suc zero)) lt = refl
    below (suc (suc (suc zero))) lt = refl
    below (suc (suc (suc (suc place)))) lt = absurd (omega arith)

behind_all : is_free (extent_at 6 2 ∷ extent_at 0 4 ∷ []) (extent_at 8 3) ≡ true
behind_all = refl
