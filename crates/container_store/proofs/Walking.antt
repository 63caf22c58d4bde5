-- A walk over holes, and what fits first where it ends.
use Rattle.std.proofs.Common.{◌≡◌, ℕ, ◌+◌, ◌-◌, ◌<◌, ◌≤◌, max, List, [], ◌∷◌, length, get_or, take, drop, refl, sym, ap, ◌∙◌}
use Rattle.std.proofs.Common.{subst, arith}
use Rattle.std.proofs.lemmas.Bool.{and_left}
use Rattle.std.proofs.lemmas.List.{take_all}
use Rattle.cc_names.specs.declared.rows.Extent.{Extent}
use Rattle.container_store.specs.Extents.{is_free, end_of, extent_at, IsFirstFit}
use Rattle.container_store.specs.Places.{IsInPlace, last_behind, HasNoLonger}
use Rattle.container_store.specs.Walks.{IsFirstAt}
use Rattle.container_store.proofs.InOrder.{joined_holes, longer_holes, last_at_most, end_at_most, none_below}
use Rattle.container_store.proofs.Fitting.{prefix_of, free_is, prefix_more, rest_of, fits_free, fits_last, fits_before}

-- the last extent ends where they all end
pub last_is_end : (xs : List Extent) → IsInPlace 0 xs → last_behind 0 (take (length xs) xs) ≡ end_of xs
last_is_end xs h =
    let whole : last_behind 0 (take (length xs) xs) ≡ last_behind 0 xs =
    ap (last_behind 0) (take_all (length xs) xs (omega arith)) in
    let ends = end_at_most 0 xs h in
    omega (arith, whole, last_at_most 0 xs, ends.1)

-- a walk that came to an extent
module _ (xs : List Extent) (at : ℕ) (e : Extent) (from longest : ℕ) (within : at < length xs) (is : e ≡ get_or xs at e)
    (is_from : from ≡ last_behind 0 (take at xs)) (holes : HasNoLonger longest 0 (take at xs)) where
  -- it goes on after it
  pub walk_holes : HasNoLonger (max longest (e.place - from)) 0 (take (at + 1) xs)
  walk_holes =
      let prefix = longer_holes longest (max longest (e.place - from)) 0 (take at xs) (omega arith) holes in
      let first : e.place ≤ last_behind 0 (take at xs) + max longest (e.place - from) = omega (arith, is_from) in
      subst (HasNoLonger (max longest (e.place - from)) 0) (sym (prefix_more xs at e within is))
      (joined_holes (max longest (e.place - from)) 0 (take at xs) (e ∷ []) prefix (first, tt))

  -- it ends before it
  pub walk_found : (n : ℕ) → IsInPlace 0 xs → longest < n → n ≤ e.place - from → IsFirstAt xs n at
  walk_found n h shorter fits =
      let last = last_behind 0 (take at xs) in
      let rest = rest_of xs at e within is h in
      let before : last + n ≤ e.place = omega (arith, is_from, rest.0) in (
        record { longest = longest; holes = holes; shorter = shorter },
        fits_before xs at (extent_at last n) e within is h (omega arith) before,
      )

-- it ends after the last one
pub walk_missed : (xs : List Extent) (longest n : ℕ) → HasNoLonger longest 0 xs → longest < n → IsFirstAt xs n (length xs)
walk_missed xs longest n holes shorter =
    let whole = take_all (length xs) xs (omega arith) in (
      record { longest = longest; holes = subst (HasNoLonger longest 0) (sym whole) holes; shorter = shorter },
      fits_last xs (length xs) (extent_at (last_behind 0 (take (length xs) xs)) n) (omega arith) (omega arith) (omega arith),
    )

-- the place that was found is the first
pub first_fit : (xs : List Extent) (at n : ℕ) → IsInPlace 0 xs → IsFirstAt xs n at
    → IsFirstFit xs n (extent_at (last_behind 0 (take at xs)) n)
first_fit xs at n h fit = record {
  long = refl;
  free = fits_free xs at (extent_at (last_behind 0 (take at xs)) n) h fit.1;
  first = λ place below.
      let none = none_below fit.0.longest 0 place n (take at xs) (prefix_of xs at h) fit.0.holes fit.0.shorter (omega arith) below
      in
      free_is xs at (extent_at place n) ∙ and_left (is_free (take at xs) (extent_at place n))
      (is_free (drop at xs) (extent_at place n)) none;
}
