-- What operations need, as they are kept: a table that operations share, and the operation before.
use Rattle.std.specs.Prelude.{◌≡◌, ℕ, nat_lt, Option, Some, None, List, if◌then◌else◌}
use Rattle.vob_replica.specs.declared.events.Identity.{Identity}
use Rattle.vob_replica.specs.declared.operations.Operation.{Operation}
use Rattle.vob_replica.specs.Tables.{number_in, with_operation, table_of}

-- a table that an operation, if any, is taken into
abbrev pub needs_of : List Identity → Option Identity → List Identity
needs_of table None = table
needs_of table (Some own) = with_operation table own

-- the last of so many operations of a site, if any
abbrev pub own_before : List ℕ → ℕ → Option Identity
own_before site number = if nat_lt 0 number then Some (record { site = site; number = number }) else None

-- a table is that of operations once the last one of a site is taken in
abbrev pub IsSharedBy : List ℕ → List Operation → List Identity → Type 0
IsSharedBy site known table = needs_of table (own_before site (number_in (table_of known) site)) ≡ table_of known
