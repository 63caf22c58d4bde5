-- Builds worked out by hand, checked by computation: the units of a makefile that was read, and the refusals.
use Rattle.std.proofs.Common.{◌≡◌, ℕ, Bool, Some, None, Result, Ok, Err, List, [], ◌∷◌, refl}
use Rattle.std.specs.Prelude.{codes}
use Rattle.std.specs.Str.{bytes_eq}
use Rattle.std.specs.List.{list_any}
use Rattle.cc_names.specs.declared.refusals.GraphFault.{GraphFault}
use Rattle.cc_names.specs.declared.refusals.GraphFault.TheVariants.{NoGoal, Cycle, TargetIsSource}
use Rattle.cc_names.specs.declared.units.Unit.{Unit}
use Rattle.cc_names.specs.declared.units.UnitScript.TheVariants.{Bare, Lines}
use Rattle.make_grammar.specs.Graphs.{graph_of}
use Rattle.make_grammar.specs.Rules.{MakeRule, SuffixRule}

-- a rule with a script, a rule without one, and a suffix rule
abbrev made : List (List ℕ) → List (List ℕ) → MakeRule
made targets prerequisites = record { targets = targets; prerequisites = prerequisites; script = Some (codes "echo") }

abbrev bare : List ℕ → List (List ℕ) → MakeRule
bare target prerequisites = record { targets = target ∷ []; prerequisites = prerequisites; script = None }

abbrev suffix_rule : List ℕ → List ℕ → SuffixRule
suffix_rule from to = record { from = from; to = to; script = codes "cat" }

-- their units
abbrev unit_made : List (List ℕ) → List (List ℕ) → Unit
unit_made targets prerequisites = record { targets = targets; prerequisites = prerequisites; script = Lines (codes "echo") }

abbrev unit_served : List ℕ → List (List ℕ) → Unit
unit_served target prerequisites = record { targets = target ∷ []; prerequisites = prerequisites; script = Lines (codes "cat") }

abbrev unit_bare : List ℕ → List (List ℕ) → Unit
unit_bare target prerequisites = record { targets = target ∷ []; prerequisites = prerequisites; script = Bare }

-- the files of a view
abbrev among : List (List ℕ) → List ℕ → Bool
among files path = list_any (bytes_eq path) files

-- the units of goals by rules alone, and with suffix rules and phony targets
abbrev by_rules : List MakeRule → List (List ℕ) → List (List ℕ) → Result (List Unit) GraphFault
by_rules rules files goals = graph_of (record { rules = rules; suffix_rules = []; phony = []; macros = [] }) goals (among files)

abbrev by_suffixes : List MakeRule → List SuffixRule → List (List ℕ) → List (List ℕ) → List (List ℕ)
    → Result (List Unit) GraphFault
by_suffixes rules suffix_rules phony files goals =
    graph_of (record { rules = rules; suffix_rules = suffix_rules; phony = phony; macros = [] }) goals (among files)

-- names of files
abbrev a : List ℕ
a = codes "a"

abbrev b : List ℕ
b = codes "b"

abbrev c : List ℕ
c = codes "c"

abbrev d : List ℕ
d = codes "d"

-- prerequisites stand before what is made of them, each once; with no goal, the first target without a period is the goal
abbrev diamond : List MakeRule
diamond = bare (codes ".first") (d ∷ []) ∷ bare d (a ∷ b ∷ []) ∷ made (a ∷ []) (c ∷ []) ∷ made (b ∷ []) (c ∷ codes "in" ∷ [])
    ∷ made (c ∷ []) [] ∷ []

abbrev diamond_units : List Unit
diamond_units = unit_made (c ∷ []) [] ∷ unit_made (a ∷ []) (c ∷ []) ∷ unit_made (b ∷ []) (c ∷ codes "in" ∷ [])
    ∷ unit_bare d (a ∷ b ∷ []) ∷ []

no_goal_named : by_rules diamond [] [] ≡ Ok diamond_units
no_goal_named = refl

each_once : by_rules diamond [] (c ∷ d ∷ a ∷ []) ≡ Ok diamond_units
each_once = refl

one_goal : by_rules diamond [] (a ∷ []) ≡ Ok (unit_made (c ∷ []) [] ∷ unit_made (a ∷ []) (c ∷ []) ∷ [])
one_goal = refl

a_file : by_rules diamond (codes "in" ∷ []) (codes "in" ∷ []) ≡ Ok []
a_file = refl

no_default : by_rules [] [] [] ≡ Err (NoGoal (codes "."))
no_default = refl

first_missing : by_rules diamond [] (a ∷ codes "x" ∷ codes "y" ∷ []) ≡ Err (NoGoal (codes "x"))
first_missing = refl

-- a unit that is met again while it is still being walked
abbrev circle : List MakeRule
circle = made (a ∷ []) (b ∷ []) ∷ made (b ∷ []) (c ∷ []) ∷ made (c ∷ []) (codes "in" ∷ b ∷ []) ∷ made (d ∷ []) [] ∷ []

met_again : by_rules circle (d ∷ []) (d ∷ a ∷ []) ≡ Err (Cycle b)
met_again = refl

of_itself : by_rules (made (a ∷ []) (a ∷ []) ∷ []) [] (a ∷ []) ≡ Err (Cycle a)
of_itself = refl

no_goal_first : by_rules circle [] (a ∷ codes "x" ∷ []) ≡ Err (NoGoal (codes "x"))
no_goal_first = refl

source_last : by_rules circle (d ∷ []) (d ∷ []) ≡ Err (TargetIsSource d)
source_last = refl

-- a group is one unit, whichever of its targets is met
abbrev siblings : List MakeRule
siblings = made (c ∷ []) (b ∷ []) ∷ made (a ∷ b ∷ []) (codes "in" ∷ []) ∷ made (d ∷ []) (a ∷ c ∷ []) ∷ []

one_unit : by_rules siblings [] (d ∷ b ∷ []) ≡ Ok (unit_made (a ∷ b ∷ []) (codes "in" ∷ []) ∷ unit_made (c ∷ []) (b ∷ [])
    ∷ unit_made (d ∷ []) (a ∷ c ∷ []) ∷ [])
one_unit = refl

by_a_sibling : by_rules (made (a ∷ b ∷ []) (c ∷ []) ∷ made (c ∷ []) (b ∷ []) ∷ []) [] (a ∷ []) ≡ Err (Cycle b)
by_a_sibling = refl

source_sibling : by_rules siblings (b ∷ []) (a ∷ []) ≡ Err (TargetIsSource b)
source_sibling = refl

-- suffix rules, in their order: the first whose source is a file or has a rule
abbrev to_objects : List SuffixRule
to_objects = suffix_rule (codes ".c") (codes ".o") ∷ suffix_rule (codes ".s") (codes ".o") ∷ suffix_rule (codes ".y") (codes ".c")
    ∷ []

abbrev with_objects : List MakeRule → List (List ℕ) → List (List ℕ) → Result (List Unit) GraphFault
with_objects rules files goals = by_suffixes rules to_objects [] files goals

from_a_file : with_objects [] (codes "d/x.c" ∷ codes "d/x.s" ∷ []) (codes "d/x.o" ∷ [])
    ≡ Ok (unit_served (codes "d/x.o") (codes "d/x.c" ∷ []) ∷ [])
from_a_file = refl

from_the_second : with_objects [] (codes "x.s" ∷ codes "y.c" ∷ []) (codes "x.o" ∷ [])
    ≡ Ok (unit_served (codes "x.o") (codes "x.s" ∷ []) ∷ [])
from_the_second = refl

from_a_target : with_objects (made (codes "x.s" ∷ []) [] ∷ []) [] (codes "x.o" ∷ [])
    ≡ Ok (unit_made (codes "x.s" ∷ []) [] ∷ unit_served (codes "x.o") (codes "x.s" ∷ []) ∷ [])
from_a_target = refl

-- a source that a suffix rule alone would serve is none
no_chain : with_objects [] (codes "x.y" ∷ []) (codes "x.o" ∷ []) ≡ Err (NoGoal (codes "x.o"))
no_chain = refl

-- the source comes to the start of the prerequisites of a rule without a script
goes_first : with_objects (bare (codes "x.o") (a ∷ codes "x.c" ∷ []) ∷ []) (a ∷ codes "x.c" ∷ []) []
    ≡ Ok (unit_served (codes "x.o") (codes "x.c" ∷ a ∷ []) ∷ [])
goes_first = refl

a_prerequisite : with_objects (made (a ∷ []) (codes "x.o" ∷ []) ∷ []) (codes "x.c" ∷ []) []
    ≡ Ok (unit_served (codes "x.o") (codes "x.c" ∷ []) ∷ unit_made (a ∷ []) (codes "x.o" ∷ []) ∷ [])
a_prerequisite = refl

-- a path that is a file, has a script or is phony is served by no suffix rule
a_file_of_the_view : with_objects (bare (codes "x.o") [] ∷ []) (codes "x.o" ∷ codes "x.c" ∷ []) []
    ≡ Ok (unit_bare (codes "x.o") [] ∷ [])
a_file_of_the_view = refl

with_a_script : with_objects (made (codes "x.o" ∷ []) [] ∷ []) (codes "x.c" ∷ []) [] ≡ Ok (unit_made (codes "x.o" ∷ []) [] ∷ [])
with_a_script = refl

phony : by_suffixes (bare (codes "x.o") [] ∷ []) to_objects (codes "x.o" ∷ []) (codes "x.c" ∷ []) []
    ≡ Ok (unit_bare (codes "x.o") [] ∷ [])
phony = refl
