-- What the records of objects list, as it is made and kept: of an object the versions that its record lists, by their elements.
use Rattle.std.specs.Prelude.{◌≡◌, ℕ, ◌≤◌, ◌<◌, true, false, ◌==◌, Option, Some, None, IfSome, List, [], ◌∷◌}
use Rattle.std.specs.BTreeMap.{BTreeMap, is_at}
use Rattle.std.specs.FinMap.Entries.{find}
use Rattle.std.specs.Map.{lookup}
use Rattle.std.specs.Ordering.{nat_cmp}
use Rattle.cc_names.specs.declared.changes.VersionId.{VersionId}
use Rattle.cc_names.specs.declared.rows.Deed.{Deed}
use Rattle.cc_names.specs.declared.rows.ReadOf.{ReadOf}
use Rattle.base_model.specs.Closures.{Listing, closure, entries_of_deed, greater_of, inputs_of, inputs_of_entry, is_publish}
use Rattle.base_model.specs.Closures.{listing, listing_of, version_listed}
use Rattle.base_model.specs.Rows.{Base, only_where, size}
use Rattle.base_rows.specs.declared.listings.MadeListing.{MadeListing}

-- versions by their elements, as a map has them
abbrev pub Versions : Type 0
Versions = List (ℕ × ℕ)

-- the versions are those of a listing
abbrev pub HasListing : Versions → Listing → Type 0
HasListing versions listing = (e : ℕ) → lookup (is_at (nat_cmp e)) versions ≡ find nat_cmp e listing

-- the greater of two versions, where there are any
abbrev pub greater : Option ℕ → Option ℕ → Option ℕ
greater None other = other
greater (Some version) other = Some (greater_of version other)

-- the version of an element with an id
abbrev pub version_at : ℕ → ℕ → Option VersionId → Option ℕ
version_at e row None = None
version_at e row (Some version_id) = only_where (e == version_id.element) (Some row)

-- the version of an element that a row made, where it made one and is not row 0
abbrev pub own_version : Base → ℕ → ℕ → Option ℕ
own_version b e row = version_at e row (version_listed b row)

-- the version of an element that the record of an object lists
abbrev pub greatest_of : Base → ℕ → ℕ → Option ℕ
greatest_of b e id = find nat_cmp e (listing b id)

-- the greatest that the records of some objects list
abbrev pub greatest_of_all : Base → ℕ → List ℕ → Option ℕ
greatest_of_all b e [] = None
greatest_of_all b e (id ∷ ids) = greater (greatest_of b e id) (greatest_of_all b e ids)

-- what an entry of a record lists of it
abbrev pub greatest_of_entry : Base → ℕ → ReadOf → Option ℕ
greatest_of_entry b e entry = find nat_cmp e (listing_of b (inputs_of_entry (is_publish b entry.row) (closure b) entry))

-- what the entries of a record list of it
abbrev pub greatest_of_entries : Base → ℕ → List ReadOf → Option ℕ
greatest_of_entries b e entries = find nat_cmp e (listing_of b (inputs_of b (closure b) entries))

-- what the record lists that the next row has, where it is of this deed
abbrev pub listing_made : Base → Deed → Listing
listing_made b deed = listing_of b (inputs_of b (closure b) (entries_of_deed (Some deed)))

-- what the record of an object lists once a row of this deed is added
abbrev pub listing_with : Base → Deed → ℕ → Listing
listing_with b deed id = elim (size b == id) [ true ↦ listing_made b deed | false ↦ listing b id ]

-- these are what the record of an object of a base lists
pub record IsListed (b : Base) (id : ℕ) (versions : Versions) : Type 0 where
  pub within : id < size b
  pub lists : HasListing versions (listing b id)

-- these are what it lists once a row of this deed is added
pub record IsListedWith (b : Base) (deed : Deed) (id : ℕ) (versions : Versions) : Type 0 where
  pub within : id ≤ size b
  pub lists : HasListing versions (listing_with b deed id)

-- what was made of an object of a base, where it is one
abbrev pub IsMade : Base → MadeListing → Type 0
IsMade b made = IfSome made.versions (λ map. IsListed b made.object map.entries)

-- the same of an object of the base with a row of this deed more
abbrev pub IsMadeWith : Base → Deed → MadeListing → Type 0
IsMadeWith b deed made = IfSome made.versions (λ map. IsListedWith b deed made.object map.entries)

-- what is kept of an object, where it is one
abbrev pub Listed : Type 0
Listed = Option (BTreeMap ℕ ℕ)

-- what is kept of each object is what its record lists
abbrev pub AreListings : (ℕ → Option Listed) → Base → Type 0
AreListings kept b = (id : ℕ) → IfSome (kept id) (λ listed. IfSome listed (λ map. IsListed b id map.entries))
