-- The numbers of the units of a build by what they make, and by whose prerequisites they make.
use Rattle.std.specs.Prelude.{◌≡◌, ◌<◌, ◌^◌, ℕ, Bool, List, length, map}
use Rattle.std.specs.declared.random_state.RandomState.{RandomState}
use Rattle.std.specs.HashMap.{HashMap, get}
use Rattle.std.specs.List.{range_with_len}
use Rattle.std.specs.Str.{bytes_eq}
use Rattle.cc_names.specs.declared.units.Unit.{Unit}
use Rattle.make_grammar.specs.Numbers.{number_from}
use Rattle.make_grammar.specs.UnitLaws.{made_by_unit}
use Rattle.make_graph.specs.NumberSets.{AreClosures}
use Rattle.make_graph.specs.Waits.{makers_of, dependants_of}

-- the map has the number of each target of a unit, each unit has the numbers of those that make its prerequisites and of its
-- dependants, the first of them have their closures, and there are fewer than 2^31 units
pub record KnowsAll (numbers : HashMap (List ℕ) ℕ RandomState) (units : List Unit) (makers dependants : List (List ℕ))
    (closures : List (List Bool)) : Type 0 where
  pub few : length units < 2 ^ 31
  pub knows : (path : List ℕ) → get bytes_eq numbers path ≡ number_from made_by_unit 0 path units
  pub made_by : makers ≡ map (λ (unit : Unit). makers_of units unit.prerequisites) units
  pub wait : dependants ≡ map (dependants_of units) (range_with_len 0 (length units))
  pub stand : AreClosures units closures
