-- The walk over the goals of a build: depth first, prerequisites before what is made of them.
use Rattle.std.specs.Prelude.{ℕ, suc, zero, Option, Some, None, Result, Ok, Err, List, [], ◌∷◌, ◌++◌, length, slice_get}
use Rattle.std.specs.Prelude.{slice_set, replicate}
use Rattle.make_grammar.specs.Numbers.{number_from}
use Rattle.make_grammar.specs.Rules.{Serving}
use Rattle.make_grammar.specs.declared.walks.Mark.{Mark}
use Rattle.make_grammar.specs.declared.walks.Mark.TheVariants.{New, Open, Done}

-- How far a walk has come: with each unit, and the order of those that are done. A unit is known by its number among all that
-- may serve.
pub record Walk : Type 0 where
  pub marks : List Mark
  pub order : List ℕ

-- the number of the unit that makes a path
abbrev pub number_of : List Serving → List ℕ → Option ℕ
number_of units path = number_from (λ unit. unit.targets) 0 path units

-- the prerequisites of a unit
abbrev pub prerequisites_at : Option Serving → List (List ℕ)
prerequisites_at None = []
prerequisites_at (Some unit) = unit.prerequisites

-- a walk that came to a unit, and one that is done with it
abbrev pub with_open_unit : ℕ → Walk → Walk
with_open_unit n walk = record { marks = slice_set walk.marks n Open; order = walk.order }

abbrev pub with_done_unit : ℕ → Walk → Walk
with_done_unit n walk = record { marks = slice_set walk.marks n Done; order = walk.order ++ n ∷ [] }

-- a walk that goes on, unless a path was met again
abbrev pub walk_then : Result Walk (List ℕ) → (Walk → Result Walk (List ℕ)) → Result Walk (List ℕ)
walk_then (Ok walk) more = more walk
walk_then (Err path) more = Err path

-- a walk that takes paths in their order
abbrev pub each_of : (List ℕ → Walk → Result Walk (List ℕ)) → List (List ℕ) → Walk → Result Walk (List ℕ)
each_of take_path [] walk = Ok walk
each_of take_path (path ∷ paths) walk = walk_then (take_path path walk) (each_of take_path paths)

-- A walk that takes a path: a path that no unit makes is past, and so is one whose unit is done. One whose unit is still open
-- is met again, and the walk ends with that path. Else its unit is opened, its prerequisites are taken, and it is closed.
-- The depth is how deep units may still be opened one inside the other. None is opened twice, so one more than their number is
-- more than enough, and depth zero is never met: a walk with a stack and no depth is proved to come to the same.
abbrev pub take_path : ℕ → List Serving → List ℕ → Walk → Result Walk (List ℕ)
take_path zero units path walk = Err path
take_path (suc depth) units path walk =
    elim (number_of units path) [
      | None ↦ Ok walk
      | Some n ↦ elim (slice_get walk.marks n) [
        | None ↦ Ok walk
        | Some New ↦ walk_then (each_of (take_path depth units) (prerequisites_at (slice_get units n)) (with_open_unit n walk))
            (λ later. Ok (with_done_unit n later))
        | Some Open ↦ Err path
        | Some Done ↦ Ok walk
      ]
    ]

-- the walk over goals, or the path by which it met a unit again
abbrev pub walk_of : List Serving → List (List ℕ) → Result Walk (List ℕ)
walk_of units goals = each_of (take_path (suc (length units)) units) goals
    (record { marks = replicate (length units) New; order = [] })
