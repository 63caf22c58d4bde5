-- Extents in order: parts of such a list, its holes, and what is free among it.
use Rattle.std.proofs.Common.{◌≡◌, ℕ, zero, suc, ◌<◌, ◌≤◌, max, Bool, true, false, leb, List, [], ◌∷◌, ◌++◌, length, get_or}
use Rattle.std.proofs.Common.{refl, ap, ◌∙◌, inl, inr, arith}
use Rattle.std.specs.Prelude.{All, ◌&&◌}
use Rattle.std.proofs.lemmas.Bool.{cases_lt, leb-true, le-leb, lt-leb, and_parts, and_from, and_left, and_right, or_cases}
use Rattle.std.proofs.lemmas.Bool.{or_from, or_left, or_right}
use Rattle.std.proofs.lemmas.List.Elements.{All-head, All-tail}
use Rattle.cc_names.specs.declared.rows.Extent.{Extent}
use Rattle.container_store.specs.Extents.{place_behind, are_apart, is_free, end_of, extent_at}
use Rattle.container_store.specs.Places.{IsInPlace, last_behind, HasNoLonger, hole_before}

-- parts of a list
pub last_behind-append : (from : ℕ) (xs ys : List Extent) → last_behind from (xs ++ ys) ≡ last_behind (last_behind from xs) ys
last_behind-append from [] ys = refl
last_behind-append from (x ∷ xs) ys = last_behind-append (place_behind x) xs ys

pub prefix_in_place : (from : ℕ) (xs ys : List Extent) → IsInPlace from (xs ++ ys) → IsInPlace from xs
prefix_in_place from [] ys h = tt
prefix_in_place from (x ∷ xs) ys h = (h.0, h.1, prefix_in_place (place_behind x) xs ys h.2)

pub back_in_place : (from : ℕ) (xs ys : List Extent) → IsInPlace from (xs ++ ys) → IsInPlace (last_behind from xs) ys
back_in_place from [] ys h = h
back_in_place from (x ∷ xs) ys h = back_in_place (place_behind x) xs ys h.2

pub joined_in_place : (from : ℕ) (xs ys : List Extent) → IsInPlace from xs → IsInPlace (last_behind from xs) ys
    → IsInPlace from (xs ++ ys)
joined_in_place from [] ys prefix back = back
joined_in_place from (x ∷ xs) ys prefix back = (prefix.0, prefix.1, joined_in_place (place_behind x) xs ys prefix.2 back)

pub lower_in_place : (from low : ℕ) (xs : List Extent) → low ≤ from → IsInPlace from xs → IsInPlace low xs
lower_in_place from low [] le h = tt
lower_in_place from low (x ∷ xs) le h = (omega (arith, h.0), h.1, h.2)

pub prefix_holes : (m from : ℕ) (xs ys : List Extent) → HasNoLonger m from (xs ++ ys) → HasNoLonger m from xs
prefix_holes m from [] ys h = tt
prefix_holes m from (x ∷ xs) ys h = (h.0, prefix_holes m (place_behind x) xs ys h.1)

pub back_holes : (m from : ℕ) (xs ys : List Extent) → HasNoLonger m from (xs ++ ys) → HasNoLonger m (last_behind from xs) ys
back_holes m from [] ys h = h
back_holes m from (x ∷ xs) ys h = back_holes m (place_behind x) xs ys h.1

pub joined_holes : (m from : ℕ) (xs ys : List Extent) → HasNoLonger m from xs → HasNoLonger m (last_behind from xs) ys
    → HasNoLonger m from (xs ++ ys)
joined_holes m from [] ys prefix back = back
joined_holes m from (x ∷ xs) ys prefix back = (prefix.0, joined_holes m (place_behind x) xs ys prefix.1 back)

pub longer_holes : (m n from : ℕ) (xs : List Extent) → m ≤ n → HasNoLonger m from xs → HasNoLonger n from xs
longer_holes m n from [] le h = tt
longer_holes m n from (x ∷ xs) le h = (omega (arith, h.0), longer_holes m n (place_behind x) xs le h.1)

-- after another place only the first hole is another one
pub holes_from : (m n from low : ℕ) (xs : List Extent) → m ≤ n → hole_before low xs ≤ n → HasNoLonger m from xs
    → HasNoLonger n low xs
holes_from m n from low [] le first h = tt
holes_from m n from low (x ∷ xs) le first h = (omega (arith, first), longer_holes m n (place_behind x) xs le h.1)

-- ends
pub end_of-append : (xs ys : List Extent) → end_of (xs ++ ys) ≡ max (end_of xs) (end_of ys)
end_of-append [] ys = omega arith
end_of-append (x ∷ xs) ys = omega (arith, end_of-append xs ys)

pub last_at_most : (from : ℕ) (xs : List Extent) → last_behind from xs ≤ max from (end_of xs)
last_at_most from [] = omega arith
last_at_most from (x ∷ xs) = omega (arith, last_at_most (place_behind x) xs)

pub end_at_most : (from : ℕ) (xs : List Extent) → IsInPlace from xs → (from ≤ last_behind from xs)
    × (end_of xs ≤ last_behind from xs)
end_at_most from [] h = (omega arith, omega arith)
end_at_most from (x ∷ xs) h = let more = end_at_most (place_behind x) xs h.2 in
    (omega (arith, h.0, h.1, more.0, more.1), omega (arith, more.0, more.1))

pub end_holds : (xs : List Extent) (k : ℕ) (d : Extent) → k < length xs → place_behind (get_or xs k d) ≤ end_of xs
end_holds [] k d within = absurd (omega arith)
end_holds (x ∷ xs) zero d within = omega arith
end_holds (x ∷ xs) (suc k) d within = omega (arith, end_holds xs k d (omega arith))

-- places rise
pub place_from : (from : ℕ) (xs : List Extent) → IsInPlace from xs → (k : ℕ) (d : Extent) → k < length xs
    → from ≤ (get_or xs k d).place
place_from from [] h k d within = absurd (omega arith)
place_from from (x ∷ xs) h zero d within = h.0
place_from from (x ∷ xs) h (suc k) d within = omega (arith, h.0, h.1, place_from (place_behind x) xs h.2 k d (omega arith))

pub places_rise : (from : ℕ) (xs : List Extent) → IsInPlace from xs → (i j : ℕ) (d : Extent) → i < j → j < length xs
    → (get_or xs i d).place < (get_or xs j d).place
places_rise from [] h i j d lt within = absurd (omega arith)
places_rise from (x ∷ xs) h i zero d lt within = absurd (omega arith)
places_rise from (x ∷ xs) h zero (suc j) d lt within = omega (arith, h.1, place_from (place_behind x) xs h.2 j d (omega arith))
places_rise from (x ∷ xs) h (suc i) (suc j) d lt within = places_rise (place_behind x) xs h.2 i j d (omega arith) (omega arith)

-- what is free
pub is_free-append : (xs ys : List Extent) (e : Extent) → is_free (xs ++ ys) e ≡ (is_free xs e && is_free ys e)
is_free-append [] ys e = refl
is_free-append (x ∷ xs) ys e =
    ap (λ (b : Bool). are_apart e x && b) (is_free-append xs ys e) ∙ regrouped (are_apart e x) (is_free xs e) (is_free ys e)
  where
    regrouped : (a b c : Bool) → (a && (b && c)) ≡ ((a && b) && c)
    regrouped true b c = refl
    regrouped false b c = refl

-- two extents
apart_behind : (e x : Extent) → place_behind x ≤ e.place → are_apart e x ≡ true
apart_behind e x le = or_right (leb (place_behind e) x.place) (leb (place_behind x) e.place) (le-leb (place_behind x) e.place le)

apart_before : (e x : Extent) → place_behind e ≤ x.place → are_apart e x ≡ true
apart_before e x le = or_left (leb (place_behind e) x.place) (leb (place_behind x) e.place) (le-leb (place_behind e) x.place le)

overlapping : (e x : Extent) → x.place < place_behind e → e.place < place_behind x → are_apart e x ≡ false
overlapping e x before after =
    or_from (leb (place_behind e) x.place) (leb (place_behind x) e.place) (lt-leb (place_behind e) x.place before)
    (lt-leb (place_behind x) e.place after)

behind_lower : (e x : Extent) → 0 < e.length → x.place < e.place → are_apart e x ≡ true → place_behind x ≤ e.place
behind_lower e x some lower apart = elim (or_cases (leb (place_behind e) x.place) (leb (place_behind x) e.place) apart) [
  | inl before ↦ let le : place_behind e ≤ x.place = leb-true (place_behind e) x.place before in absurd (omega arith)
  | inr after ↦ leb-true (place_behind x) e.place after
]

before_higher : (e x : Extent) → 0 < x.length → e.place ≤ x.place → are_apart e x ≡ true → place_behind e ≤ x.place
before_higher e x some higher apart = elim (or_cases (leb (place_behind e) x.place) (leb (place_behind x) e.place) apart) [
  | inl before ↦ leb-true (place_behind e) x.place before
  | inr after ↦ let le : place_behind x ≤ e.place = leb-true (place_behind x) e.place after in absurd (omega arith)
]

-- an extent after a prefix, and one before a back
pub free_behind : (from : ℕ) (xs : List Extent) (e : Extent) → IsInPlace from xs → last_behind from xs ≤ e.place
    → is_free xs e ≡ true
free_behind from [] e h le = refl
free_behind from (x ∷ xs) e h le =
    let more = end_at_most (place_behind x) xs h.2 in
    and_from (are_apart e x) (is_free xs e) (apart_behind e x (omega (arith, more.0, le)))
    (free_behind (place_behind x) xs e h.2 le)

pub free_before : (from : ℕ) (xs : List Extent) (e : Extent) → place_behind e ≤ from → IsInPlace from xs → is_free xs e ≡ true
free_before from [] e le h = refl
free_before from (x ∷ xs) e le h =
    and_from (are_apart e x) (is_free xs e) (apart_before e x (omega (arith, h.0)))
    (free_before (place_behind x) xs e (omega (arith, h.0)) h.2)

-- what is free lies after those that begin below it, and before the others
pub behind_if_free : (from : ℕ) (xs : List Extent) (e : Extent) → 0 < e.length → from ≤ e.place
    → All (λ (x : Extent). x.place < e.place) xs
    → is_free xs e ≡ true → last_behind from xs ≤ e.place
behind_if_free from [] e some le below free = le
behind_if_free from (x ∷ xs) e some le below free =
    let lower : x.place < e.place = All-head (λ (y : Extent). y.place < e.place) x xs below in
    let each = and_parts (are_apart e x) (is_free xs e) free in
    behind_if_free (place_behind x) xs e some (behind_lower e x some lower each.0)
    (All-tail (λ (y : Extent). y.place < e.place) x xs below) each.1

pub before_if_free : (from : ℕ) (xs : List Extent) (e : Extent) → IsInPlace from xs → All (λ (x : Extent). e.place ≤ x.place) xs
    → is_free xs e ≡ true → IsInPlace (place_behind e) xs
before_if_free from [] e h above free = tt
before_if_free from (x ∷ xs) e h above free =
    let higher : e.place ≤ x.place = All-head (λ (y : Extent). e.place ≤ y.place) x xs above in
    let each = and_parts (are_apart e x) (is_free xs e) free in
    (before_higher e x h.1 higher each.0, h.1, h.2)

-- where all holes are shorter, nothing is free below the end
pub none_below : (m from place n : ℕ) (xs : List Extent) → IsInPlace from xs → HasNoLonger m from xs → m < n → from ≤ place
    → place < last_behind from xs → is_free xs (extent_at place n) ≡ false
none_below m from place n [] h holes lt le below = absurd (omega arith)
none_below m from place n (x ∷ xs) h holes lt le below = elim (cases_lt place (place_behind x)) [
  | inl inside ↦ and_left (are_apart (extent_at place n) x) (is_free xs (extent_at place n))
      (overlapping (extent_at place n) x (omega (arith, holes.0)) inside)
  | inr past ↦ and_right (are_apart (extent_at place n) x) (is_free xs (extent_at place n))
      (none_below m (place_behind x) place n xs h.2 holes.1 lt past below)
]
