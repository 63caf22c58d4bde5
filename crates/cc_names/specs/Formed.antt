-- The form of a row: what its fields keep whatever the base is. The spelling of a row wants no more.
use Rattle.std.specs.Prelude.{◌≡◌, ◌≢◌, ℕ, ◌<◌, ◌≤◌, ◌^◌, ◌+◌, Bool, true, false, ◌||◌, ◌&&◌, nat_le, List, [], ◌∷◌, length, map}
use Rattle.std.specs.List.{AllByRecursion, IsDistinct, list_any}
use Rattle.std.specs.List.Sorted.{IsStrictlySortedBy}
use Rattle.std.specs.Str.{bytes_eq}
use Rattle.std.specs.Cmp.Lexicographic.{slice_cmp}
use Rattle.std.specs.Ordering.{nat_cmp}
use Rattle.cc_names.specs.Names.{IsName}
use Rattle.cc_names.specs.Paths.{IsPath, is_root}
use Rattle.cc_names.specs.declared.rows.Tag.{Tag}
use Rattle.cc_names.specs.declared.rows.ReadOf.{ReadOf}
use Rattle.cc_names.specs.declared.rows.Placed.{Placed}
use Rattle.cc_names.specs.declared.rows.Stored.{Stored}
use Rattle.cc_names.specs.declared.rows.Stored.TheVariants.{Here, There}
use Rattle.cc_names.specs.declared.rows.Deed.{Deed}
use Rattle.cc_names.specs.declared.rows.Deed.TheVariants as deeds

-- a row without where it lies in memory
pub record Plain : Type 0 where
  pub tag : Tag
  pub moment : ℕ
  pub deed : Deed

-- a number of eight bytes
abbrev pub IsLong : ℕ → Type 0
IsLong n = n < 2 ^ 64

-- a number of four bytes
abbrev pub IsWord : ℕ → Type 0
IsWord n = n < 2 ^ 32

-- a text whose length is a number of four bytes
abbrev pub IsText : List ℕ → Type 0
IsText bytes = length bytes < 2 ^ 32

-- whether the first byte is a letter
abbrev pub begins_with_letter : List ℕ → Bool
begins_with_letter [] = false
begins_with_letter (b ∷ bs) = (nat_le 97 b && nat_le b 122) || (nat_le 65 b && nat_le b 90)

-- the name of a label type or a branch type: a name that begins with a letter
abbrev pub IsTypeName : List ℕ → Type 0
IsTypeName bytes = IsName bytes × (begins_with_letter bytes ≡ true)

-- a path below the root
abbrev pub IsBelowRoot : List ℕ → Type 0
IsBelowRoot path = IsPath path × (is_root path ≡ false)

-- a list whose count is a number of four bytes, each of whose members is so
abbrev pub IsListOf : {A : Type 0} → (A → Type 0) → List A → Type 0
IsListOf P xs = (length xs < 2 ^ 32) × AllByRecursion P xs

-- one read of a record
abbrev pub IsEntry : ReadOf → Type 0
IsEntry entry = IsBelowRoot entry.path × IsLong entry.row

-- where a read looked
abbrev pub path_of_entry : ReadOf → List ℕ
path_of_entry entry = entry.path

-- reads in byte order of their paths, each path once
abbrev pub AreEntries : List ReadOf → Type 0
AreEntries entries = IsListOf IsEntry entries × IsStrictlySortedBy (slice_cmp nat_cmp) (map path_of_entry entries)

-- one target or more, each once
abbrev pub AreTargets : List (List ℕ) → Type 0
AreTargets targets = IsListOf IsBelowRoot targets × (targets ≢ []) × IsDistinct bytes_eq targets

-- the element on which a label is placed
abbrev pub element_of : Placed → ℕ
element_of placed = placed.element

-- an element and a version, each a number of eight bytes
abbrev pub IsPlaced : Placed → Type 0
IsPlaced placed = IsLong placed.element × IsLong placed.version

-- an output in the row itself, or a piece of 1 to 1,048,576 bytes of the file of objects
abbrev pub IsStored : Stored → Type 0
IsStored (Here bytes) = IsText bytes
IsStored (There extent) = (0 < extent.length) × (extent.length ≤ 1048576) × (extent.place + extent.length < 2 ^ 63)

-- whether an output stands in the file of objects
abbrev pub is_there : Stored → Bool
is_there (Here bytes) = false
is_there (There extent) = true

-- what every publish has: targets, a script, entries in order, and an output for each target
abbrev pub IsPublished : List ℕ → List (List ℕ) → List ℕ → List ReadOf → ℕ → Type 0
IsPublished view targets script entries outputs =
    IsName view × AreTargets targets × IsText script × AreEntries entries × (outputs ≡ length targets)

-- The form of a deed. A path is never the root, and a list has one order.
abbrev pub IsDeedFormed : Deed → Type 0
IsDeedFormed (deeds.Mkview view) = IsName view
IsDeedFormed (deeds.Rmview view) = IsName view
IsDeedFormed (deeds.Setcs view text) = IsName view × IsText text
IsDeedFormed (deeds.Mkelem view directory name kind out) = IsName view × IsLong directory × IsName name
IsDeedFormed (deeds.Checkout view element origin reserved) = IsName view × IsLong element × IsLong origin
IsDeedFormed (deeds.Branch view element origin name out) = IsName view × IsLong element × IsLong origin × IsTypeName name
IsDeedFormed (deeds.Save view element text) = IsName view × IsLong element × IsText text
IsDeedFormed (deeds.Checkin view element) = IsName view × IsLong element
IsDeedFormed (deeds.Uncheckout view element) = IsName view × IsLong element
IsDeedFormed (deeds.Rmname view directory name) = IsName view × IsLong directory × IsName name
IsDeedFormed (deeds.Mv view directory from_name to_name) = IsName view × IsLong directory × IsName from_name × IsName to_name
IsDeedFormed (deeds.Put view path text) = IsName view × IsBelowRoot path × IsText text
IsDeedFormed (deeds.Rm view path) = IsName view × IsBelowRoot path
IsDeedFormed (deeds.Mktype kind name) = IsTypeName name
IsDeedFormed (deeds.Label label element version) = IsTypeName label × IsLong element × IsLong version
IsDeedFormed (deeds.Unlabel label element) = IsTypeName label × IsLong element
IsDeedFormed (deeds.Publish view targets script entries outputs) =
    IsPublished view targets script entries (length outputs) × IsListOf IsText outputs
IsDeedFormed (deeds.Wink view object) = IsName view × IsLong object
IsDeedFormed (deeds.Drop view path) = IsName view × IsBelowRoot path
IsDeedFormed (deeds.Scrub objects) = IsListOf IsLong objects × (objects ≢ []) × IsStrictlySortedBy nat_cmp objects
IsDeedFormed (deeds.Labels label placed) =
    IsTypeName label × IsListOf IsPlaced placed × (placed ≢ []) × IsStrictlySortedBy nat_cmp (map element_of placed)
IsDeedFormed (deeds.Arrow element tail head) = IsLong element × IsLong tail × IsLong head
IsDeedFormed (deeds.PublishAt view targets script entries outputs) =
    IsPublished view targets script entries (length outputs) × IsListOf IsStored outputs × (list_any is_there outputs ≡ true)

-- phase, lane and command are numbers of four bytes
abbrev pub IsTag : Tag → Type 0
IsTag tag = IsWord tag.phase × IsWord tag.lane × IsWord tag.command

-- The form of a row. The last moment is the end of the year 9999.
pub record IsFormed (row : Plain) : Type 0 where
  pub tag : IsTag row.tag
  pub moment : row.moment ≤ 253402300799
  pub deed : IsDeedFormed row.deed
