-- What the units of a build wait for.
use Rattle.std.specs.Prelude.{ℕ, zero, suc, ◌==◌, Bool, true, false, List, [], ◌∷◌, ◌++◌, length, slice_get, filter, Option}
use Rattle.std.specs.Prelude.{Some, None, unwrap_or}
use Rattle.std.specs.List.{list_any, list_all, filter_map, range_with_len}
use Rattle.cc_names.specs.Versions.{is_number}
use Rattle.cc_names.specs.declared.units.Unit.{Unit}
use Rattle.make_grammar.specs.Numbers.{number_from}
use Rattle.make_grammar.specs.UnitLaws.{made_by_unit}

-- the number of the unit that makes a path
abbrev pub unit_of : List Unit → List ℕ → Option ℕ
unit_of units path = number_from made_by_unit 0 path units

-- the units that make these paths, by their numbers, in the order of the paths
abbrev pub makers_of : List Unit → List (List ℕ) → List ℕ
makers_of units paths = filter_map (unit_of units) paths

-- whether the unit of this number makes one of these paths
abbrev pub makes_one : List Unit → List (List ℕ) → ℕ → Bool
makes_one units paths n = list_any (λ path. is_number n (unit_of units path)) paths

-- the prerequisites of a unit, where there is one
abbrev pub prerequisites_of : Option Unit → List (List ℕ)
prerequisites_of None = []
prerequisites_of (Some unit) = unit.prerequisites

-- the prerequisites of the unit of this number
abbrev pub prerequisites_at : List Unit → ℕ → List (List ℕ)
prerequisites_at units n = prerequisites_of (slice_get units n)

-- the units one of whose prerequisites the unit of this number makes, by their numbers, from 0 on
abbrev pub dependants_of : List Unit → ℕ → List ℕ
dependants_of units m = filter (λ n. makes_one units (prerequisites_at units n) m) (range_with_len 0 (length units))

-- The units below a number that make what is wanted, and what those are made of in turn: down the units, the last one first,
-- since a unit stands after its prerequisites.
abbrev pub needed_units : List Unit → ℕ → List (List ℕ) → List ℕ
needed_units units zero wanted = []
needed_units units (suc n) wanted =
    elim (makes_one units wanted n) [
      | true ↦ n ∷ needed_units units n (wanted ++ prerequisites_at units n)
      | false ↦
          needed_units units n wanted
    ]

-- the units that a unit stands on, by their numbers, the last one first
abbrev pub closure_of : List Unit → ℕ → List ℕ
closure_of units number = needed_units units number (prerequisites_at units number)

-- whether a number is one of these
abbrev pub is_in : List ℕ → ℕ → Bool
is_in numbers n = list_any (λ m. n == m) numbers

-- whether a number is marked
abbrev pub is_marked : List Bool → ℕ → Bool
is_marked marks n = unwrap_or (slice_get marks n) false

-- whether a unit is done, if there is one
abbrev pub is_done : List Bool → Option ℕ → Bool
is_done done None = true
is_done done (Some n) = unwrap_or (slice_get done n) true

-- whether the units that make these paths are done
abbrev pub are_done : List Unit → List (List ℕ) → List Bool → Bool
are_done units paths done = list_all (λ path. is_done done (unit_of units path)) paths

-- whether the units that make a unit's prerequisites are done
abbrev pub is_ready : List Unit → ℕ → List Bool → Bool
is_ready units number done = are_done units (prerequisites_at units number) done
