-- The units that make a unit's prerequisites, by their numbers.
use Rattle.std.proofs.Common.{◌≡◌, refl, ap, ℕ, Bool, ◌||◌, ◌&&◌, Option, Some, None, List, [], ◌∷◌, ◌==◌, map}
use Rattle.std.proofs.Math.Path.{fun_ext}
use Rattle.std.specs.List.{list_all, cons_option, filter_map}
use Rattle.cc_names.specs.Versions.{is_number}
use Rattle.cc_names.specs.declared.units.Unit.{Unit}
use Rattle.make_graph.specs.Waits.{unit_of, makes_one, makers_of, is_in, is_done, are_done}

-- a number is one of theirs where its unit makes one of the paths
pub is_maker : (units : List Unit) (paths : List (List ℕ)) (n : ℕ) → is_in (makers_of units paths) n ≡ makes_one units paths n
is_maker units [] n = refl
is_maker units (path ∷ paths) n = by (unit_of units path) (is_maker units paths n)
  where
    by : (o : Option ℕ) → is_in (makers_of units paths) n ≡ makes_one units paths n
        → is_in (cons_option o (makers_of units paths)) n ≡ (is_number n o || makes_one units paths n)
    by None rest = rest
    by (Some m) rest = ap (λ t. (n == m) || t) rest

-- they are done where the units of the paths are
pub makers_done : (units : List Unit) (done : List Bool) (paths : List (List ℕ))
    → list_all (λ (n : ℕ). is_done done (Some n)) (makers_of units paths) ≡ are_done units paths done
makers_done units done [] = refl
makers_done units done (path ∷ paths) = by (unit_of units path) (makers_done units done paths)
  where
    by : (o : Option ℕ) → list_all (λ (n : ℕ). is_done done (Some n)) (makers_of units paths) ≡ are_done units paths done →
        list_all (λ (n : ℕ). is_done done (Some n)) (cons_option o (makers_of units paths))
        ≡ (is_done done o && are_done units paths done)
    by None rest = rest
    by (Some m) rest = ap (λ t. is_done done (Some m) && t) rest

-- the makers that are found by a function are those of the definition, where it finds the units that make paths
pub found_makers : (units : List Unit) (found : List ℕ → Option ℕ) → ((path : List ℕ) → found path ≡ unit_of units path) →
    map (λ (unit : Unit). filter_map found unit.prerequisites) units ≡ map (λ (unit : Unit). makers_of units unit.prerequisites)
    units
found_makers units found is = ap (λ (f : List ℕ → Option ℕ). map (λ (unit : Unit). filter_map f unit.prerequisites) units)
    (fun_ext is)
