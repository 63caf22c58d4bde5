-- A walk that keeps its own stack.
use Rattle.std.specs.Bool.{⊤}
use Rattle.std.specs.Prelude.{◌≡◌, ℕ, ◌+◌, ◌-◌, suc, Option, Some, None, Result, Ok, Err, List, [], ◌∷◌, length, drop, slice_get}
use Rattle.std.specs.declared.random_state.RandomState.{RandomState}
use Rattle.std.specs.HashMap.{HashMap, get}
use Rattle.std.specs.Str.{bytes_eq}
use Rattle.cc_names.specs.declared.memory.Or.{Or}
use Rattle.cc_names.specs.declared.memory.Or.TheVariants.{NoMemory, Is}
use Rattle.cc_names.specs.declared.refusals.GraphFault.{GraphFault}
use Rattle.cc_names.specs.declared.refusals.GraphFault.TheVariants.{Cycle}
use Rattle.make_grammar.specs.Walks.{Walk, number_of, prerequisites_at, with_done_unit, walk_then, each_of, take_path}
use Rattle.make_grammar.specs.Rules.{Serving}
use Rattle.make_grammar.specs.declared.walks.Mark.{Mark}
use Rattle.make_grammar.specs.declared.walks.Mark.TheVariants.{New, Open, Done}
use Rattle.make_graph.specs.declared.walks.Visit.{Visit}
use Rattle.make_graph.specs.declared.walks.Meeting.{Meeting}
use Rattle.make_graph.specs.declared.walks.Meeting.TheVariants.{Past, Again, Enter}

-- the map has the number of each unit's targets
abbrev pub KnowsUnits : HashMap (List ℕ) ℕ RandomState → List Serving → Type 0
KnowsUnits numbers units = (path : List ℕ) → get bytes_eq numbers path ≡ number_of units path

-- what a walk does about a unit with this mark
abbrev pub meeting_at : ℕ → Option Mark → Meeting
meeting_at n None = Past
meeting_at n (Some New) = Enter n
meeting_at n (Some Open) = Again
meeting_at n (Some Done) = Past

-- what a walk does about a path that this unit makes
abbrev pub meeting : List Mark → Option ℕ → Meeting
meeting marks None = Past
meeting marks (Some n) = meeting_at n (slice_get marks n)

-- a unit that is entered, and a visit whose next prerequisite is past
abbrev pub visit_of_unit : List Serving → ℕ → Visit
visit_of_unit units n = record { unit = n; paths = prerequisites_at (slice_get units n); next = 0 }

abbrev pub past_next : Visit → Visit
past_next visit = record { unit = visit.unit; paths = visit.paths; next = visit.next + 1 }

-- the prerequisite of a visit that comes next, and all that come
abbrev pub next_of : Visit → Option (List ℕ)
next_of visit = slice_get visit.paths visit.next

abbrev pub rest_of_visit : Visit → List (List ℕ)
rest_of_visit visit = drop visit.next visit.paths

-- a unit that so many are open below is walked to its end
abbrev pub finish : List Serving → ℕ → Visit → Walk → Result Walk (List ℕ)
finish units below visit walk =
    walk_then (each_of (take_path (length units - below) units) (rest_of_visit visit) walk)
    (λ later. Ok (with_done_unit visit.unit later))

-- a walk whose units on the stack are walked to their ends, the last one first
abbrev pub resume : List Serving → ℕ → List Visit → Walk → Result Walk (List ℕ)
resume units below [] walk = Ok walk
resume units below (visit ∷ above) walk = walk_then (resume units (suc below) above walk) (finish units below visit)

-- a call went on, so that the rest comes to the same; or it found what all comes to
abbrev pub WalkGoes : Result (Unit {0}) (Or (List ℕ)) → Result Walk (List ℕ) → Result Walk (List ℕ) → Type 0
WalkGoes (Ok done) all rest = all ≡ rest
WalkGoes (Err NoMemory) all rest = ⊤
WalkGoes (Err (Is path)) all rest = all ≡ Err path

-- one for a new unit
abbrev pub new_one : Mark → ℕ
new_one New = 1
new_one Open = 0
new_one Done = 0

-- how many units are new
abbrev pub news : List Mark → ℕ
news [] = 0
news (mark ∷ marks) = new_one mark + news marks

-- a walk was made, or the path by which it met a unit again is the fault
abbrev pub GivesWalk : Result Walk (Or GraphFault) → Result Walk (List ℕ) → Type 0
GivesWalk (Ok walk) walked = walked ≡ Ok walk
GivesWalk (Err NoMemory) walked = ⊤
GivesWalk (Err (Is fault)) (Ok walk) = ⊥
GivesWalk (Err (Is fault)) (Err path) = fault ≡ Cycle path
