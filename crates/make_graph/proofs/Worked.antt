-- Units by hand: `c` is made of `b` and `in`, and `b` of `a`; `d` of nothing.
use Rattle.std.proofs.Common.{◌≡◌, List, [], ◌∷◌, true, false, refl}
use Rattle.std.specs.Prelude.{codes}
use Rattle.cc_names.specs.declared.units.Unit.{Unit}
use Rattle.cc_names.specs.declared.units.UnitScript.TheVariants.{Bare}
use Rattle.make_graph.specs.Waits.{closure_of, dependants_of, is_ready}

units : List Unit
units =
    record { targets = codes "a" ∷ []; prerequisites = []; script = Bare } ∷
    record { targets = codes "b" ∷ []; prerequisites = codes "a" ∷ []; script = Bare } ∷
    record { targets = codes "d" ∷ []; prerequisites = []; script = Bare } ∷
    record { targets = codes "c" ∷ []; prerequisites = codes "b" ∷ codes "in" ∷ []; script = Bare } ∷ []

first_stands_on_nothing : closure_of units 0 ≡ []
unfolding units
first_stands_on_nothing = refl

last_stands_on_two : closure_of units 3 ≡ 1 ∷ 0 ∷ []
unfolding units
last_stands_on_two = refl

last_is_ready : is_ready units 3 (false ∷ true ∷ false ∷ false ∷ []) ≡ true
unfolding units
last_is_ready = refl

last_waits : is_ready units 3 (true ∷ false ∷ true ∷ false ∷ []) ≡ false
unfolding units
last_waits = refl

first_has_one : dependants_of units 0 ≡ 1 ∷ []
unfolding units
first_has_one = refl

last_has_none : dependants_of units 3 ≡ []
unfolding units
last_has_none = refl

-- a tool, a unit that two of its targets go into, and one that one of them goes into
tools : List Unit
tools =
    record { targets = codes "t" ∷ codes "u" ∷ []; prerequisites = []; script = Bare } ∷
    record { targets = codes "v" ∷ []; prerequisites = codes "u" ∷ codes "in" ∷ codes "t" ∷ []; script = Bare } ∷
    record { targets = codes "w" ∷ []; prerequisites = codes "in" ∷ codes "t" ∷ []; script = Bare } ∷ []

each_is_named_once : dependants_of tools 0 ≡ 1 ∷ 2 ∷ []
unfolding tools
each_is_named_once = refl
