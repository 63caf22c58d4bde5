-- The versions that the first rows of a base made, and the order of versions.
use Rattle.std.proofs.Common.{◌≡◌, ℕ, ◌+◌, ◌<◌, ◌≤◌, Bool, true, false, cond, eqb, ltb, List, [], ◌∷◌, length, map, Option, Some}
use Rattle.std.proofs.Common.{None, refl, inl, inr, ap, ◌∙◌, arith}
use Rattle.std.specs.Prelude.{filter, find}
use Rattle.std.proofs.lemmas.Bool.Decides.{nat_tests, Decides-eqb}
use Rattle.std.proofs.lemmas.Bool.{cases_Bool}
use Rattle.cc_names.specs.Versions.{Version, row_of_change, branch_of_change, row_of_version, version_of_change, of_first_rows}
use Rattle.cc_names.specs.Versions.{versions_on, put_if}
use Rattle.cc_names.specs.declared.changes.TreeChange.{TreeChange}
use Rattle.cc_names.specs.Falling.{IsAbove, Falls}
use Rattle.version_tree.specs.Branches.{row_of_later, versions_from}
use Rattle.version_tree.specs.declared.branches.Later.{Later}

-- a greater row is above as well
pub above_le : (row higher : ℕ) (rows : List ℕ) → row ≤ higher → IsAbove row rows → IsAbove higher rows
above_le row higher [] le above = tt
above_le row higher (r ∷ rows) le above = (omega (arith, above.0), above_le row higher rows le above.1)

-- all items of a list are among the first rows, where a row above them is
pub filter_all : {X : Type 0} (n : X → ℕ) (row rows : ℕ) (xs : List X) → IsAbove row (map n xs) → row ≤ rows
    → filter (λ x. ltb (n x) rows) xs ≡ xs
filter_all n row rows [] above le = refl
filter_all n row rows (x ∷ xs) above le =
    let early : ltb (n x) rows ≡ true = grind (arith, nat_tests, above.0) in
    rw early (ap (λ ys. x ∷ ys) (filter_all n row rows xs above.1 le))

-- an item that fails a test is filtered out, put in or not
filter_put : {X : Type 0} (p : X → Bool) (t : Bool) (x : X) (xs : List X) → p x ≡ false → filter p (put_if t x xs) ≡ filter p xs
filter_put p true x xs fails = rw fails refl
filter_put p false x xs fails = refl

above_put : (row : ℕ) (t : Bool) (v : Version) (vs : List Version) → v.row < row → IsAbove row (map row_of_version vs)
    → IsAbove row (map row_of_version (put_if t v vs))
above_put row true v vs lt above = (lt, above)
above_put row false v vs lt above = above

falls_put : (t : Bool) (v : Version) (vs : List Version) → IsAbove v.row (map row_of_version vs) → Falls (map row_of_version vs)
    → Falls (map row_of_version (put_if t v vs))
falls_put true v vs above falls = (above, falls)
falls_put false v vs above falls = falls

-- a row above all changes is above all versions
pub versions_above : (row : ℕ) (cs : List TreeChange) (b : ℕ) → IsAbove row (map row_of_change cs)
    → IsAbove row (map row_of_version (versions_on cs b))
versions_above row [] b above = tt
versions_above row (c ∷ older) b above =
    above_put row (eqb (branch_of_change c) b) (version_of_change c (length (versions_on older b))) (versions_on older b) above.0
    (versions_above row older b above.1)

-- the rows of the versions on a branch fall
pub versions_fall : (cs : List TreeChange) (b : ℕ) → Falls (map row_of_change cs) → Falls (map row_of_version (versions_on cs b))
versions_fall [] b falls = tt
versions_fall (c ∷ older) b falls =
    falls_put (eqb (branch_of_change c) b) (version_of_change c (length (versions_on older b))) (versions_on older b)
    (versions_above (row_of_change c) older b falls.0) (versions_fall older b falls.1)

-- the versions that the first rows made are those of all versions whose rows are among them
pub versions_of_first_rows : (rows : ℕ) (cs : List TreeChange) (b : ℕ) → Falls (map row_of_change cs)
    → filter (λ v. ltb v.row rows) (versions_on cs b) ≡ versions_on (of_first_rows rows cs) b
versions_of_first_rows rows [] b falls = refl
versions_of_first_rows rows (c ∷ older) b falls = elim (cases_Bool (ltb (row_of_change c) rows)) [
  | inl early ↦
      let below : row_of_change c + 1 ≤ rows = grind (arith, nat_tests) in
      let all_older : of_first_rows rows older ≡ older = filter_all row_of_change (row_of_change c) rows older falls.0
      (omega arith) in
      let above_all : IsAbove (row_of_change c + 1) (map row_of_version (versions_on (c ∷ older) b)) =
      above_put (row_of_change c + 1) (eqb (branch_of_change c) b) (version_of_change c (length (versions_on older b)))
      (versions_on older b) (omega arith)
      (above_le (row_of_change c) (row_of_change c + 1) (map row_of_version (versions_on older b)) (omega arith)
      (versions_above (row_of_change c) older b falls.0)) in
      filter_all row_of_version (row_of_change c + 1) rows (versions_on (c ∷ older) b) above_all below
      ∙ rw (early, all_older) refl
  | inr late ↦
      filter_put (λ v. ltb v.row rows) (eqb (branch_of_change c) b) (version_of_change c (length (versions_on older b)))
      (versions_on older b) late
      ∙ versions_of_first_rows rows older b falls.1 ∙ rw late refl
]

-- the versions after version 0 fall where all versions do
later_above : (row b moment : ℕ) (ls : List Later) → IsAbove row (map row_of_version (versions_from b moment ls))
    → IsAbove row (map row_of_later ls)
later_above row b moment [] above = tt
later_above row b moment (l ∷ older) above = (above.0, later_above row b moment older above.1)

pub later_falls : (b moment : ℕ) (ls : List Later) → Falls (map row_of_version (versions_from b moment ls))
    → Falls (map row_of_later ls)
later_falls b moment [] falls = tt
later_falls b moment (l ∷ older) falls = (later_above l.row b moment older falls.0, later_falls b moment older falls.1)

-- the branch of a version, where there is one
abbrev branch_in : Option Version → Option ℕ
branch_in None = None
branch_in (Some v) = Some v.branch

-- a version found on a branch is on it
pub found_on : (cs : List TreeChange) (b : ℕ) (p : Version → Bool) (v : Version) → find p (versions_on cs b) ≡ Some v
    → v.branch ≡ b
found_on [] b p v found = cc
found_on (c ∷ older) b p v found = elim (cases_Bool (eqb (branch_of_change c) b)) [
  | inl here ↦ on_it (found_on older b p v) (p (version_of_change c (length (versions_on older b)))) here (rw here at found)
  | inr elsewhere ↦ found_on older b p v (rw elsewhere at found)
]
  where
    on_it : (find p (versions_on older b) ≡ Some v → v.branch ≡ b) → (t : Bool) → eqb (branch_of_change c) b ≡ true
        → cond t (Some (version_of_change c (length (versions_on older b)))) (find p (versions_on older b)) ≡ Some v
        → v.branch ≡ b
    on_it rest true here is =
        let same : branch_of_change c ≡ b = (Decides-eqb (branch_of_change c) b).0 here in
        let branch : Some (branch_of_change c) ≡ Some v.branch = ap branch_in is in
        cc
    on_it rest false here is = rest is
