-- Operations that gave the mastership of a branch away, as they are kept: whether each follows the one before it.
use Rattle.std.specs.Prelude.{Bool, true, ◌&&◌, List, [], ◌∷◌, is_none}
use Rattle.vob_replica.specs.declared.operations.Operation.{Operation}
use Rattle.vob_replica.specs.Tables.{first_gap, holds}

-- whether an operation needs another, and all that this needs
abbrev pub follows : Operation → Operation → Bool
follows operation other = holds operation.needs other.identity && is_none (first_gap other.needs operation.needs)

-- the last of some operations
abbrev pub last_behind : Operation → List Operation → Operation
last_behind first [] = first
last_behind first (other ∷ others) = last_behind other others

-- whether an operation follows the last of some, where there is one
abbrev pub follows_last : List Operation → Operation → Bool
follows_last [] operation = true
follows_last (first ∷ others) operation = follows operation (last_behind first others)

-- whether each operation follows the one before it
abbrev pub is_chain_behind : Operation → List Operation → Bool
is_chain_behind first [] = true
is_chain_behind first (other ∷ others) = follows other first && is_chain_behind other others

abbrev pub is_chain : List Operation → Bool
is_chain [] = true
is_chain (first ∷ others) = is_chain_behind first others
