-- The units of a build beside what they come to from nothing.
use Rattle.std.proofs.Common.{◌≡◌, refl, ap, ◌∙◌, ℕ, zero, suc, ◌+◌, Bool, true, false, Option, Some, None, List, [], ◌∷◌, ◌++◌}
use Rattle.std.proofs.Common.{length, map, take, arith}
use Rattle.std.proofs.lemmas.List.{reverse-append}
use Rattle.std.specs.Prelude.{reverse, slice_get}
use Rattle.std.specs.List.{list_any}
use Rattle.cc_names.specs.declared.units.Unit.{Unit}
use Rattle.base_model.specs.Rows.{Base}
use Rattle.legal_history.specs.Builds.Active.{Build, Came, came_to, unit_at}
use Rattle.legal_history.specs.Builds.Choices.{Member, members_from, members_before}
use Rattle.legal_history.specs.Builds.Fresh.{serial, sees_file, sees_directory}
use Rattle.base_model.specs.Texts.{texts}
use Rattle.legal_history.specs.Builds.Freshness.{done_in, outcome_in}
use Rattle.legal_history.specs.Builds.Serials.{Outcome, Finished, makes, needed_units}

-- a unit with what it has come to, and with what it comes to from nothing
pub record Pair : Type 0 where
  pub unit : Unit
  pub came : Option Came
  pub outcome : Outcome

abbrev pub unit_in : Pair → Unit
unit_in pair = pair.unit

abbrev pub member_of : Pair → Member
member_of pair = record { unit = pair.unit; came = pair.came }

abbrev pub finished_of : Pair → Finished
finished_of pair = record { unit = pair.unit; outcome = pair.outcome }

abbrev pub with_pair : Base → Build → ℕ → Option Unit → List Pair → List Pair
with_pair rows build n None pairs = pairs
with_pair rows build n (Some unit) pairs = record { unit = unit; came = came_to build n; outcome = outcome_in rows build n unit }
    ∷ pairs

-- the first n units, the last first
abbrev pub pairs_before : Base → Build → ℕ → List Pair
pairs_before rows build zero = []
pairs_before rows build (suc n) = with_pair rows build n (unit_at build n) (pairs_before rows build n)

-- one more unit
pub take_next : {A : Type 0} (xs : List A) (n : ℕ) (x : A) → slice_get xs n ≡ Some x → take (suc n) xs ≡ take n xs ++ (x ∷ [])
take_next [] n x h = absurd (cc)
take_next (y ∷ ys) zero x h = let same : y ≡ x = cc in ap (λ z. z ∷ []) same
take_next (y ∷ ys) (suc n) x h = ap (λ zs. y ∷ zs) (take_next ys n x h)

pub take_all : {A : Type 0} (xs : List A) (n : ℕ) → slice_get xs n ≡ None → take (suc n) xs ≡ take n xs
take_all [] zero h = refl
take_all [] (suc n) h = refl
take_all (y ∷ ys) zero h = absurd (cc)
take_all (y ∷ ys) (suc n) h = ap (λ zs. y ∷ zs) (take_all ys n h)

pub length_taken : {A : Type 0} (xs : List A) (n : ℕ) (x : A) → slice_get xs n ≡ Some x → length (take n xs) ≡ n
length_taken [] n x h = absurd (cc)
length_taken (y ∷ ys) zero x h = refl
length_taken (y ∷ ys) (suc n) x h = ap suc (length_taken ys n x h)

members_behind : (build : Build) (k : ℕ) (xs : List Unit) (u : Unit) (earlier : List Member) →
    members_from build k (xs ++ (u ∷ [])) earlier ≡ record { unit = u; came = came_to build (k + length xs) }
    ∷ members_from build k xs earlier
members_behind build k [] u earlier = ap (λ m. record { unit = u; came = came_to build m } ∷ earlier) zero_more
  where
    zero_more : k ≡ k + 0
    zero_more = omega arith
members_behind build k (x ∷ xs) u earlier =
    members_behind build (k + 1) xs u (record { unit = x; came = came_to build k } ∷ earlier)
    ∙ ap (λ m. record { unit = u; came = came_to build m } ∷ members_from build (k + 1) xs
    (record { unit = x; came = came_to build k } ∷ earlier)) later
  where
    later : (k + 1) + length xs ≡ k + suc (length xs)
    later = omega arith

members_next : (rows : Base) (build : Build) (n : ℕ) (o : Option Unit) → unit_at build n ≡ o
    → members_before build n ≡ map member_of (pairs_before rows build n) →
    members_before build (suc n) ≡ map member_of (with_pair rows build n o (pairs_before rows build n))
members_next rows build n None is h = ap (λ us. members_from build 0 us []) (take_all build.units n is) ∙ h
members_next rows build n (Some u) is h =
    ap (λ us. members_from build 0 us []) (take_next build.units n u is)
    ∙ members_behind build 0 (take n build.units) u []
    ∙ ap (λ m. record { unit = u; came = came_to build m } ∷ members_before build n) place
    ∙ ap (λ ms. record { unit = u; came = came_to build n } ∷ ms) h
  where
    place : 0 + length (take n build.units) ≡ n
    place = let e = length_taken build.units n u is in omega arith

pub members_paired : (rows : Base) (build : Build) (n : ℕ) → members_before build n ≡ map member_of (pairs_before rows build n)
members_paired rows build zero = refl
members_paired rows build (suc n) = members_next rows build n (unit_at build n) refl (members_paired rows build n)

done_next : (rows : Base) (build : Build) (n : ℕ) (o : Option Unit) → unit_at build n ≡ o
    → done_in rows build n ≡ map finished_of (pairs_before rows build n) →
    done_in rows build (suc n) ≡ map finished_of (with_pair rows build n o (pairs_before rows build n))
done_next rows build n None is h = ap (λ us. serial (texts rows build.view) (sees_file rows build.view)
    (sees_directory rows build.view) (reverse us)) (take_all build.units n is) ∙ h
done_next rows build n (Some u) is h =
    ap (λ us. serial (texts rows build.view) (sees_file rows build.view) (sees_directory rows build.view) (reverse us))
    (take_next build.units n u is)
    ∙ ap (serial (texts rows build.view) (sees_file rows build.view) (sees_directory rows build.view))
    (reverse-append (take n build.units) (u ∷ []))
    ∙ ap (λ fs. record { unit = u; outcome = outcome_in rows build n u } ∷ fs) h

pub done_paired : (rows : Base) (build : Build) (n : ℕ) → done_in rows build n ≡ map finished_of (pairs_before rows build n)
done_paired rows build zero = refl
done_paired rows build (suc n) = done_next rows build n (unit_at build n) refl (done_paired rows build n)

-- what is needed of mapped units
pub needed_mapped : {A B : Type 0} (f : A → B) (unit : B → Unit) (paths : List (List ℕ)) (xs : List A)
    → needed_units unit paths (map f xs) ≡ map f (needed_units (λ a. unit (f a)) paths xs)
needed_mapped f unit paths [] = refl
needed_mapped {A} {B} f unit paths (x ∷ xs) = elim (list_any (λ path. makes path (unit (f x))) paths) as (λ (b : Bool).
    elim b as (λ (b : Bool). List B) [
      | true ↦ f x ∷ needed_units unit (paths ++ (unit (f x)).prerequisites) (map f xs)
      | false ↦
          needed_units unit paths (map f xs)
    ]
    ≡ map f (elim b as (λ (b : Bool). List A) [
      | true ↦ x ∷ needed_units (λ a. unit (f a)) (paths ++ (unit (f x)).prerequisites)
          xs
      | false ↦ needed_units (λ a. unit (f a)) paths xs
    ])) [
      | true ↦ ap (λ ys. f x ∷ ys) (needed_mapped f unit (paths ++ (unit (f x)).prerequisites) xs)
      | false ↦ needed_mapped f unit paths xs
    ]
