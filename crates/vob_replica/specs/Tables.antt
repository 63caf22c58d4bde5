-- Epoch tables: of each site the highest number of its operations that is known, in byte order of sites, without the sites of
-- which none is known.
use Rattle.std.specs.Prelude.{ℕ, suc, ◌+◌, ◌≤◌, max, Bool, false, ◌&&◌, nat_lt, nat_le, Option, Some, None, List, [], ◌∷◌, fold}
use Rattle.std.specs.Prelude.{map, Result, Ok, Err, ◌<◌, length, true}
use Rattle.std.specs.Prelude.{find, slice_get, ◌≡◌, if◌then◌else◌}
use Rattle.std.specs.Option.{option_map_or}
use Rattle.std.specs.Str.{bytes_eq}
use Rattle.std.specs.Ordering.{nat_cmp, match_ordering, is_lt}
use Rattle.std.specs.declared.cmp.Ordering.TheVariants.{Less}
use Rattle.std.specs.Cmp.Lexicographic.{slice_cmp}
use Rattle.vob_replica.specs.declared.events.Identity.{Identity}
use Rattle.vob_replica.specs.declared.operations.Operation.{Operation}

-- the number of a site
abbrev pub number_in : List Identity → List ℕ → ℕ
number_in table site = option_map_or (λ entry. entry.number) (find (λ entry. bytes_eq entry.site site) table) 0

-- whether an operation is among those of a table
abbrev pub holds : List Identity → Identity → Bool
holds table identity = nat_lt 0 identity.number && nat_le identity.number (number_in table identity.site)

-- a table with one operation more
abbrev pub with_operation : List Identity → Identity → List Identity
with_operation [] identity = identity ∷ []
with_operation (entry ∷ others) identity =
    match_ordering (slice_cmp nat_cmp identity.site entry.site)
    (identity ∷ entry ∷ others)
    (record { site = entry.site; number = max entry.number identity.number } ∷ others)
    (entry ∷ with_operation others identity)

-- two tables, the higher number of each site
abbrev pub raised_by : List Identity → List Identity → List Identity
raised_by table others = fold with_operation table others

-- the identity of an operation
abbrev pub identity_of : Operation → Identity
identity_of operation = operation.identity

-- the table of the operations that are known
abbrev pub table_of : List Operation → List Identity
table_of known = raised_by [] (map identity_of known)

-- the first operation that a table lacks of those that are needed, by sites in byte order
abbrev pub first_gap : List Identity → List Identity → Option Identity
first_gap [] table = None
first_gap (need ∷ needs) table =
    if nat_le need.number (number_in table need.site) then first_gap needs table
    else Some (record { site = need.site; number = number_in table need.site + 1 })

-- each number of a table is at most that of another
abbrev pub IsWithin : List Identity → List Identity → Type 0
IsWithin table other = (site : List ℕ) → number_in table site ≤ number_in other site

-- whether the site of an entry stands before a site
abbrev pub is_below : List ℕ → Identity → Bool
is_below site entry = is_lt (slice_cmp nat_cmp entry.site site)

-- how many entries stand before a site, from the first on
abbrev pub entry_place_in : List ℕ → List Identity → ℕ
entry_place_in site [] = 0
entry_place_in site (entry ∷ others) = if is_below site entry then suc (entry_place_in site others) else 0

-- whether the entry at a place is that of a site
abbrev pub is_entry_at : List Identity → ℕ → List ℕ → Bool
is_entry_at table place site = option_map_or (λ entry. bytes_eq entry.site site) (slice_get table place) false

-- an entry with a number that is at least this one
abbrev pub higher_entry : Identity → ℕ → Identity
higher_entry entry number = record { site = entry.site; number = max entry.number number }

-- a site stands before all sites of a table
abbrev pub IsBeforeSites : List ℕ → List Identity → Type 0
IsBeforeSites site [] = Unit {0}
IsBeforeSites site (entry ∷ others) = (slice_cmp nat_cmp site entry.site ≡ Less) × IsBeforeSites site others

-- the sites of a table stand in byte order, each once
abbrev pub Ascends : List Identity → Type 0
Ascends [] = Unit {0}
Ascends (entry ∷ others) = IsBeforeSites entry.site others × Ascends others

-- the entry of a site stands at a place; or, as an `Err`, it would stand there
abbrev pub FindsEntry : Result ℕ ℕ → List Identity → List ℕ → Type 0
FindsEntry (Ok place) table site = (place < length table) × (is_entry_at table place site ≡ true)
FindsEntry (Err place) table site =
    (place ≡ entry_place_in site table) × (is_entry_at table place site ≡ false) × (place ≤ length table)
