-- Operations that are shared, their table, and what is new of them.
use Rattle.std.specs.Prelude.{◌≡◌, ℕ, ◌+◌, ◌≤◌, false, Some, None, Result, Ok, Err, List, [], ◌∷◌, ◌++◌, length, Vec}
use Rattle.std.specs.declared.alloc.Global.{Global}
use Rattle.cc_names.specs.Answers.{FaultIs}
use Rattle.cc_names.specs.declared.memory.Or.{Or}
use Rattle.cc_names.specs.declared.memory.Or.TheVariants.{NoMemory, Is}
use Rattle.vob_replica.specs.declared.events.Identity.{Identity}
use Rattle.vob_replica.specs.declared.operations.Operation.{Operation}
use Rattle.vob_replica.specs.Tables.{first_gap, holds, number_in, table_of, with_operation}
use Rattle.vob_replica.specs.Replicas.{operations_after_import}

-- an operation has the number after those of its maker that it needs
abbrev pub HasNextNumber : Operation → Type 0
HasNextNumber operation = operation.identity.number ≡ number_in operation.needs operation.identity.site + 1

-- each of some operations has that number
abbrev pub HaveNextNumbers : List Operation → Type 0
HaveNextNumbers [] = Unit {0}
HaveNextNumbers (operation ∷ operations) = HasNextNumber operation × HaveNextNumbers operations

-- no operation needs one that neither a table holds nor those before it are
abbrev pub IsWhole : List Identity → List Operation → Type 0
IsWhole table [] = Unit {0}
IsWhole table (operation ∷ operations) =
    (first_gap operation.needs table ≡ None) × IsWhole (with_operation table operation.identity) operations

-- A table is that of operations, which are closed under needs and have no gaps. So no number is above how many they are.
pub record IsLog (table : List Identity) (known : List Operation) : Type 0 where
  pub same : table ≡ table_of known
  pub few : (site : List ℕ) → number_in table site ≤ length known
  pub whole : IsWhole [] known
  pub next : HaveNextNumbers known

-- unless memory ran out, an operation that a table does not hold needs this one, which it lacks
abbrev pub IsGap : Or Identity → Operation → List Identity → Type 0
IsGap NoMemory operation table = Unit {0}
IsGap (Is gap) operation table = (holds table operation.identity ≡ false) × (first_gap operation.needs table ≡ Some gap)

-- unless memory ran out, these are what is new of some operations that need nothing that is missing, and a table holds them too
abbrev pub TakesWhole : {E : Type 0} → Result (Vec Operation Global) E → List Operation → List Operation → List Identity → Type 0
TakesWhole (Ok news) known operations table =
    (operations_after_import known operations ≡ Ok (known ++ news.items)) × IsLog table (known ++ news.items)
TakesWhole (Err fault) known operations table = Unit {0}

-- unless memory ran out, these are what is new of some operations, and a table holds them too; or the first gap was answered
abbrev pub TakesNews : Result (Vec Operation Global) (Or Identity) → List Operation → List Operation → List Identity → Type 0
TakesNews (Ok news) known operations table =
    (operations_after_import known operations ≡ Ok (known ++ news.items)) × IsLog table (known ++ news.items)
TakesNews (Err fault) known operations table = FaultIs fault (operations_after_import known operations)
