-- The closures that are kept, one after the other.
use Rattle.std.proofs.Common.{◌≡◌, ◌⊎◌, inl, inr, refl, sym, ap, ◌∙◌, ℕ, zero, suc, ◌<◌, ◌==◌, nat_lt, Bool, true, false, ◌||◌}
use Rattle.std.proofs.Common.{◌&&◌, Option, Some, None, List, [], ◌∷◌, ◌++◌, length, map, take, get_or, arith}
use Rattle.std.proofs.lemmas.Bool.{ltb-true, lt-ltb}
use Rattle.std.proofs.lemmas.Option.{slice_get_within, slice_get-get_or, slice_get_read, slice_get-map}
use Rattle.std.proofs.lemmas.List.{length-take}
use Rattle.std.specs.List.{list_any}
use Rattle.std.specs.Option.{option_map}
use Rattle.std.specs.Prelude.{slice_get}
use Rattle.cc_names.specs.declared.units.Unit.{Unit}
use Rattle.make_graph.specs.NumberSets.{AreClosures, HaveRooms, is_brought, brings_marked, room_below}
use Rattle.make_graph.specs.Waits.{makers_of, prerequisites_of, prerequisites_at, closure_of, is_in, is_marked}
use Rattle.make_graph.proofs.ClosureSteps.{brings, closure_step}

-- the last of a list, or one before it
put_get : (sets : List (List Bool)) (set : List Bool) (k : ℕ) (found : List Bool) → slice_get (sets ++ set ∷ []) k ≡ Some found →
    (slice_get sets k ≡ Some found) ⊎ ((k ≡ length sets) × (found ≡ set))
put_get [] set zero found h = inr (refl, cc)
put_get [] set (suc k) found h = absurd (cc)
put_get (first ∷ sets) set zero found h = inl h
put_get (first ∷ sets) set (suc k) found h =
    elim (put_get sets set k found h) [ inl before ↦ inl before | inr (at, is) ↦ inr (ap suc at, is) ]

-- what a set brings is what its unit brings
same_brought : (units : List Unit) (sets : List (List Bool)) (n m : ℕ) → AreClosures units sets
    → brings_marked sets n m ≡ brings units (length sets) n m
same_brought units sets n m closures = by (slice_get sets m) refl
  where
    by : (o : Option (List Bool)) → slice_get sets m ≡ o → is_brought n m o ≡ brings units (length sets) n m
    by (Some set) is =
        ap (λ t. (n == m) || t) (closures m set is n)
        ∙ sym (ap (λ t. t && ((n == m) || is_in (closure_of units m) n)) (lt-ltb _ _ (slice_get_within sets m set is)))
    by None is = past (nat_lt m (length sets)) refl
      where
        past : (b : Bool) → nat_lt m (length sets) ≡ b → false ≡ brings units (length sets) n m
        past true h =
            let within : m < length sets = ltb-true _ _ h in
            let some : slice_get sets m ≡ Some (get_or sets m []) = slice_get-get_or sets m [] within in
            absurd (cc)
        past false h = sym (ap (λ t. t && ((n == m) || is_in (closure_of units m) n)) h)

all_brought : (units : List Unit) (sets : List (List Bool)) (n : ℕ) (makers : List ℕ) → AreClosures units sets →
    list_any (brings_marked sets n) makers ≡ list_any (brings units (length sets) n) makers
all_brought units sets n [] closures = refl
all_brought units sets n (m ∷ makers) closures =
    ap (λ t. t || list_any (brings_marked sets n) makers) (same_brought units sets n m closures)
    ∙ ap (λ t. brings units (length sets) n m || t) (all_brought units sets n makers closures)

-- one closure more
pub closure_put : (units : List Unit) (sets : List (List Bool)) (set : List Bool) (makers : List ℕ) → AreClosures units sets →
    makers ≡ makers_of units (prerequisites_at units (length sets)) →
    ((n : ℕ) → is_marked set n ≡ list_any (brings_marked sets n) makers) → AreClosures units (sets ++ set ∷ [])
closure_put units sets set makers closures made marks k found is n =
    elim (put_get sets set k found is) [
      | inl before ↦ closures k found before n
      | inr (at, last) ↦
          ap (λ (s : List Bool). is_marked s n) last
          ∙ (marks n
          ∙ (all_brought units sets n makers closures
          ∙ (ap (λ (l : List ℕ). list_any (brings units (length sets) n) l) made
          ∙ (sym (closure_step units (length sets) n)
          ∙ ap (λ j. is_in (closure_of units j) n) (sym at)))))
    ]

pub room_put : (sets : List (List Bool)) (set : List Bool) → HaveRooms sets → length set ≡ room_below (length sets)
    → HaveRooms (sets ++ set ∷ [])
room_put sets set rooms room k found is =
    elim (put_get sets set k found is) [
      | inl before ↦ rooms k found before
      | inr (at, last) ↦ ap length last ∙ (room ∙ ap room_below (sym at))
    ]

-- the units that make the prerequisites of the unit of a number
pub maker_at : (units : List Unit) (makers : List (List ℕ)) (k : ℕ) (made : List ℕ) →
    makers ≡ map (λ (unit : Unit). makers_of units unit.prerequisites) units → k < length makers → made ≡ get_or makers k made →
    made ≡ makers_of units (prerequisites_at units k)
maker_at units makers k made all within at =
    by (slice_get units k)
    (sym (slice_get-map (λ (unit : Unit). makers_of units unit.prerequisites) units k)
    ∙ (ap (λ (l : List (List ℕ)). slice_get l k) (sym all) ∙ slice_get_read makers (length makers) k made refl within at))
  where
    by : (o : Option Unit) → option_map (λ (unit : Unit). makers_of units unit.prerequisites) o ≡ Some made
        → made ≡ makers_of units (prerequisites_of o)
    by None h = absurd (cc)
    by (Some unit) h = cc

-- one number more, and then all of another set
pub put_two : (n maker : ℕ) (old one new other : List Bool) (sets : List (List Bool))
    → is_marked one n ≡ (is_marked old n || (n == maker)) →
    is_marked new n ≡ (is_marked one n || is_marked other n) → slice_get sets maker ≡ Some other →
    is_marked new n ≡ (is_marked old n || brings_marked sets n maker)
put_two n maker old one new other sets first second is =
    second
    ∙ (ap (λ t. t || is_marked other n) first
    ∙ (or_assoc (is_marked old n) (n == maker) (is_marked other n)
    ∙ ap (λ (o : Option (List Bool)). is_marked old n || is_brought n maker o) (sym is)))
  where
    or_assoc : (a b c : Bool) → ((a || b) || c) ≡ (a || (b || c))
    or_assoc true b c = refl
    or_assoc false b c = refl

pub put_none : (n maker : ℕ) (old : List Bool) (sets : List (List Bool)) → slice_get sets maker ≡ None →
    is_marked old n ≡ (is_marked old n || brings_marked sets n maker)
put_none n maker old sets is = sym (ap (λ (o : Option (List Bool)). is_marked old n || is_brought n maker o) is
    ∙ or_false (is_marked old n))
  where
    or_false : (x : Bool) → (x || false) ≡ x
    or_false true = refl
    or_false false = refl

-- a place in the first of a list
pub cached_within : (most k : ℕ) (lists : List (List ℕ)) → k < length (take most lists) → (k < most) × (k < length lists)
cached_within most k lists l =
    let count = length-take most lists in
    (grind (arith, count), grind (arith, count))
