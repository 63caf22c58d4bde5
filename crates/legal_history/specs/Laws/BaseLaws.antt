-- What holds of every base, taken for itself. Each is promised by a function of `laws::bases`.
use Rattle.std.specs.Prelude.{◌≡◌, ℕ, ◌<◌, ◌≤◌, ◌==◌, List, ◌∷◌, ◌++◌, length, Some, is_some, true, false}
use Rattle.std.specs.Cmp.Lexicographic.{slice_cmp}
use Rattle.std.specs.FinMap.Entries.{is_sorted}
use Rattle.std.specs.List.{list_any}
use Rattle.std.specs.Ordering.{nat_cmp}
use Rattle.cc_names.specs.Formed.{Plain}
use Rattle.cc_names.specs.References.{ReferencesByPath, view_path_cmp, held_at, is_held, is_held_by, count}
use Rattle.cc_names.specs.declared.rows.Deed.TheVariants as deeds
use Rattle.base_model.specs.Rows.{Base, size, first_rows, row_at}
use Rattle.base_model.specs.Catalogs.{catalog_of, element_named, own_of}
use Rattle.base_model.specs.Changes.{objects_held, live_row}
use Rattle.base_model.specs.Closures.{is_path_among, is_version_of}
use Rattle.base_model.specs.Fits.{is_base}
use Rattle.base_model.specs.Counts.{AreOnce, holding_views}
use Rattle.base_model.specs.Directories.{directory_of}
use Rattle.base_model.specs.FirstRows.{SayTheSame}
use Rattle.legal_history.specs.Queries.Merges.{Reaches, reaches}
use Rattle.base_model.specs.Texts.{text}
use Rattle.base_model.specs.Views.{Checkout, out}

-- What a base says of its first rows never changes when rows are added: the rows themselves, so all that is defined on
-- them; the text that a row made; and the catalog of a directory's version.
abbrev pub FirstRowsStayRows : Type 0
FirstRowsStayRows = (more b : Base) (t : ℕ) → t ≤ size b → first_rows t (more ++ b) ≡ first_rows t b

-- The same law, its part *row*.
abbrev pub FirstRowsStayRow : Type 0
FirstRowsStayRow = (more b : Base) (n : ℕ) → n < size b → row_at (more ++ b) n ≡ row_at b n

-- The same law, its part *text*.
abbrev pub FirstRowsStayText : Type 0
FirstRowsStayText = (more b : Base) (r : ℕ) (path : List ℕ) → r < size b
    → text (more ++ b) r path ≡ text b r path

-- The same law, its part *catalog*.
abbrev pub FirstRowsStayCatalog : Type 0
FirstRowsStayCatalog = (more b : Base) (r : ℕ) → r < size b
    → catalog_of (more ++ b) r ≡ catalog_of b r

-- What a base says of its first rows never changes when rows are added: versions, labels with their holders, and what each
-- view sees at each path, with its text.
abbrev pub MoreRowsChangeNothingEarlier : Type 0
MoreRowsChangeNothingEarlier = (more b : Base) (t : ℕ) → t ≤ size b → SayTheSame t b (more ++ b)

-- The catalogs of a base, of versions and of checkouts, stand in byte order of their names, each name once.
abbrev pub CatalogsAreInOrderVersions : Type 0
CatalogsAreInOrderVersions = (b : Base) (r : ℕ)
    → is_sorted (slice_cmp nat_cmp) (catalog_of b r) ≡ true

-- The same law, its part *checkouts*.
abbrev pub CatalogsAreInOrderCheckouts : Type 0
CatalogsAreInOrderCheckouts = (b : Base) (v : List ℕ) (d : ℕ)
    → is_sorted (slice_cmp nat_cmp) (own_of b v d) ≡ true

-- An element is named by one directory alone: where a version or a checkout of a directory names it, it was made there.
abbrev pub ElementHasOneDirectoryVersions : Type 0
ElementHasOneDirectoryVersions = (b : Base) (d r : ℕ) (name : List ℕ) (e : ℕ) → is_base b ≡ true
    → is_version_of b d r ≡ true → element_named name (catalog_of b r) ≡ Some e → directory_of b e ≡ Some d

-- The same law, its part *checkouts*.
abbrev pub ElementHasOneDirectoryCheckouts : Type 0
ElementHasOneDirectoryCheckouts = (b : Base) (v : List ℕ) (d : ℕ) (name : List ℕ) (e : ℕ)
    → is_base b ≡ true → element_named name (own_of b v d) ≡ Some e → directory_of b e ≡ Some d

-- A checkout of an element is made from one of the element's versions.
abbrev pub CheckoutIsMadeFromAVersion : Type 0
CheckoutIsMadeFromAVersion = (b : Base) (v : List ℕ) (e : ℕ) (checkout : Checkout)
    → is_base b ≡ true → out b v e ≡ Some checkout → is_version_of b e checkout.origin ≡ true

-- Each object that a view of a base holds at a path is live.
abbrev pub HeldObjectIsLive : Type 0
HeldObjectIsLive = (b : Base) (v path : List ℕ) (id : ℕ) → is_base b ≡ true
    → held_at (objects_held b) v path ≡ Some id → is_some (live_row b id) ≡ true

-- The references of a base stand in the order of views and paths, each of them once; and an object is counted once for each
-- view that holds it, at however many paths.
abbrev pub ReferencesAreCountedByViewsOrder : Type 0
ReferencesAreCountedByViewsOrder = (b : Base) → is_sorted view_path_cmp (objects_held b) ≡ true

-- The same law, its part *count*.
abbrev pub ReferencesAreCountedByViewsCount : Type 0
ReferencesAreCountedByViewsCount = (objects_held : ReferencesByPath) (id : ℕ)
    → count objects_held id ≡ length (holding_views objects_held id)

-- The same law, its part *views*.
abbrev pub ReferencesAreCountedByViewsViews : Type 0
ReferencesAreCountedByViewsViews = (objects_held : ReferencesByPath) (v : List ℕ) (id : ℕ)
    → is_path_among v (holding_views objects_held id) ≡ is_held_by objects_held v id

-- The same law, its part *once*.
abbrev pub ReferencesAreCountedByViewsOnce : Type 0
ReferencesAreCountedByViewsOnce = (objects_held : ReferencesByPath) (id : ℕ) → AreOnce (holding_views objects_held id)

-- The same law, its part *none*.
abbrev pub ReferencesAreCountedByViewsNone : Type 0
ReferencesAreCountedByViewsNone = (objects_held : ReferencesByPath) (id : ℕ) → is_held objects_held id ≡ false
    → count objects_held id ≡ 0

-- The same law, its part *some*.
abbrev pub ReferencesAreCountedByViewsSome : Type 0
ReferencesAreCountedByViewsSome = (objects_held : ReferencesByPath) (id : ℕ) → count objects_held id ≡ 0
    → is_held objects_held id ≡ false

-- A scrub that fits a base takes no object that a view holds.
abbrev pub ScrubTakesNoHeldObject : Type 0
ScrubTakesNoHeldObject = (row : Plain) (b : Base) (objects : List ℕ) (id : ℕ)
    → is_base (row ∷ b) ≡ true → row.deed ≡ deeds.Scrub objects
    → list_any (λ object. object == id) objects ≡ true → is_held (objects_held b) id ≡ false

-- A version is found to be reached from another exactly where a walk along successors, branches and arrows leads there.
abbrev pub ReachingIsByAWalkWalk : Type 0
ReachingIsByAWalkWalk = (b : Base) (one two : ℕ) → reaches b one two ≡ true → Reaches b one two

-- The same law, its part *found*.
abbrev pub ReachingIsByAWalkFound : Type 0
ReachingIsByAWalkFound = (b : Base) (one two : ℕ) → is_base b ≡ true → Reaches b one two
    → reaches b one two ≡ true
