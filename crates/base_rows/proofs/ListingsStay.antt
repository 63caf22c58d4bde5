-- What the record of an object lists stays when rows are added, and so does what is kept of it.
use Rattle.std.proofs.Common.{◌≡◌, refl, ap, sym, subst, ◌∙◌, ℕ, zero, suc, ◌<◌, ◌≤◌, Bool, true, false, cond, ◌==◌, nat_lt}
use Rattle.std.proofs.Common.{Option, Some, None, List, [], ◌∷◌, ◌++◌, arith}
use Rattle.std.proofs.lemmas.Bool.Decides.{nat_tests, Decides-eqb}
use Rattle.std.specs.Bool.{⊤}
use Rattle.std.specs.FinMap.Entries.{by_order, find, put}
use Rattle.std.specs.List.{AllByRecursion, list_all}
use Rattle.std.specs.Ordering.{nat_cmp}
use Rattle.std.specs.Prelude.{IfSome, find as find_in, option_and_then, option_map}
use Rattle.std.specs.declared.cmp.Ordering.{Ordering}
use Rattle.std.specs.declared.cmp.Ordering.TheVariants.{Less, Equal, Greater}
use Rattle.cc_names.specs.Formed.{Plain}
use Rattle.cc_names.specs.Versions.{Version, branch_of_change, change_at, element_by, element_of_branch, version_id}
use Rattle.cc_names.specs.Versions.{version_id_of, row_of_change, versions_on}
use Rattle.cc_names.specs.declared.changes.VersionId.{VersionId}
use Rattle.cc_names.specs.declared.changes.TreeChange.{TreeChange}
use Rattle.cc_names.specs.declared.rows.Deed.{Deed}
use Rattle.cc_names.specs.declared.rows.ReadOf.{ReadOf}
use Rattle.cc_names.proofs.Common.{and_first, and_second, same_number}
use Rattle.base_model.specs.Changes.{tree}
use Rattle.base_model.specs.Closures.{Input, Inputs, Listing, closure, entries_of_deed, is_publish, joined_inputs, listing}
use Rattle.base_model.specs.Closures.{input_cmp, inputs_of, inputs_of_entry, listing_of, version_listed, with_version_at}
use Rattle.base_model.specs.Conditions.{is_entry}
use Rattle.base_model.specs.Fits.{deed_fits, is_base}
use Rattle.base_model.specs.Rows.{Base, first_rows, size}
use Rattle.base_model.proofs.Below.{Within, older_change, within}
use Rattle.base_model.proofs.Owned.{row_fits, rows_below}
use Rattle.base_model.proofs.TreesStay.{Adds, Nothing, One, adds_row}
use Rattle.base_model.proofs.VersionsStay.{apart_below, find_older}
use Rattle.base_model.proofs.EntriesBelow.{entries_fit, entry_below}
use Rattle.version_tree.proofs.FirstRows.{found_on}
use Rattle.base_rows.specs.Listings.{AreListings, HasListing, IsListed, IsListedWith, IsMade, IsMadeWith, Listed, Versions}
use Rattle.base_rows.specs.Listings.{listing_made, listing_with}
use Rattle.base_rows.specs.declared.listings.MadeListing.{MadeListing}

-- the version that a row made with its change, and where a version stands
abbrev made_by : List TreeChange → ℕ → TreeChange → Option Version
made_by changes r c = find_in (λ v. v.row == r) (versions_on changes (branch_of_change c))

abbrev stands : List TreeChange → Version → Option VersionId
stands changes v = option_map (version_id_of v) (element_of_branch changes v.branch)

-- a branch below a change has the element that it had before
stands_before : (n : ℕ) (change : TreeChange) (before : List TreeChange) (v : Version) → row_of_change change ≡ n → v.branch < n
    → stands (change ∷ before) v ≡ stands before v
stands_before n change before v number low =
    ap (λ o. option_map (version_id_of v) (option_and_then element_by o))
    (older_change change before v.branch (apart_below (row_of_change change) n v.branch number low))

found_before : (n : ℕ) (change : TreeChange) (before : List TreeChange) (branch : ℕ) (r : ℕ) (o : Option Version)
    → row_of_change change ≡ n → branch < n → find_in (λ v. v.row == r) (versions_on before branch) ≡ o →
    option_and_then (stands (change ∷ before)) o ≡ option_and_then (stands before) o
found_before n change before branch r None number low is = refl
found_before n change before branch r (Some v) number low is =
    stands_before n change before v number (subst (λ k. k < n) (sym (found_on before branch (λ v. v.row == r) v is)) low)

-- one change more by a row after that of a version leaves it its id
placed_before : (n : ℕ) (change : TreeChange) (before : List TreeChange) (r : ℕ) → row_of_change change ≡ n → Within n before
    → r < n → version_id (change ∷ before) r ≡ version_id before r
placed_before n change before r number within low =
    let apart : (row_of_change change == r) ≡ false = apart_below (row_of_change change) n r number low in
    ap (λ o. option_and_then (stands (change ∷ before)) (option_and_then (made_by (change ∷ before) r) o))
    (older_change change before r apart)
    ∙ by apart (change_at before r) refl
  where
    by : (row_of_change change == r) ≡ false → (o : Option TreeChange) → change_at before r ≡ o →
        option_and_then (stands (change ∷ before)) (option_and_then (made_by (change ∷ before) r) o)
        ≡ option_and_then (stands before) (option_and_then (made_by before r) o)
    by apart None is = refl
    by apart (Some c) is =
        ap (option_and_then (stands (change ∷ before))) (find_older change before r (branch_of_change c) apart)
        ∙ found_before n change before (branch_of_change c) r (made_by before r c) number (within.branches r c is) refl

-- one of the rows below a row made the version that it made before
version_id_before : (row : Plain) (b : Base) (r : ℕ) → r < size b → version_id (tree (row ∷ b)) r ≡ version_id (tree b) r
version_id_before row b r low = by (adds_row b row.moment row.deed (tree b))
  where
    by : {after : List TreeChange} → Adds (size b) (tree b) after → version_id after r ≡ version_id (tree b) r
    by (Nothing same) = ap (λ changes. version_id changes r) same
    by (One change number same) = ap (λ changes. version_id changes r) same
        ∙ placed_before (size b) change (tree b) r number (within b) low

version_before : (row : Plain) (b : Base) (r : ℕ) → r < size b → version_listed (row ∷ b) r ≡ version_listed b r
version_before row b zero low = refl
version_before row b (suc r) low = version_id_before row b (suc r) low

-- what the first rows have of the trees
pub version_id_of_first : (b : Base) (t r : ℕ) → r < t → version_id (tree (first_rows t b)) r ≡ version_id (tree b) r
version_id_of_first [] t r low = refl
version_id_of_first (row ∷ older) t r low = by (nat_lt (size older) t) refl (version_id_of_first older t r low)
  where
    by : (is : Bool) → nat_lt (size older) t ≡ is → version_id (tree (first_rows t older)) r ≡ version_id (tree older) r
        → version_id (tree (elim is as (λ x. Base) [ true ↦ row ∷ older | false ↦ first_rows t older ])) r
        ≡ version_id (tree (row ∷ older)) r
    by true is before = refl
    by false is before = let below : r < size older = grind (arith, nat_tests) in before
        ∙ sym (version_id_before row older r below)

-- a row that is not there made no version
pub no_version_id : (b : Base) (r : ℕ) → size b ≤ r → version_id (tree b) r ≡ None
no_version_id b r past = by (change_at (tree b) r) refl
  where
    by : (o : Option TreeChange) → change_at (tree b) r ≡ o → option_and_then (stands (tree b))
        (option_and_then (made_by (tree b) r) o) ≡ None
    by None is = refl
    by (Some c) is = let low = (within b).numbers r c is in absurd (omega arith)

-- each input is a row below a number
abbrev AreBelow : ℕ → Inputs → Type 0
AreBelow n [] = ⊤
AreBelow n (input ∷ inputs) = (input.1 < n) × AreBelow n inputs

below_more : (n : ℕ) (inputs : Inputs) → AreBelow n inputs → AreBelow (suc n) inputs
below_more n [] h = tt
below_more n (input ∷ inputs) h = let low = h.0 in (omega arith, below_more n inputs h.1)

put_below : (n : ℕ) (s : Input) (row : ℕ) (inputs : Inputs) → row < n → AreBelow n inputs
    → AreBelow n (put input_cmp s row inputs)
put_below n s row [] low h = (low, tt)
put_below n s row (input ∷ inputs) low h = by (input_cmp s input.0) (put_below n s row inputs low h.1)
  where
    by : (o : Ordering) → AreBelow n (put input_cmp s row inputs) → AreBelow n
        (by_order o ((s, row) ∷ input ∷ inputs) ((input.0, row) ∷ inputs) (input ∷ put input_cmp s row inputs))
    by Less rest = (low, h)
    by Equal rest = (low, h.1)
    by Greater rest = (h.0, rest)

joined_below : (n : ℕ) (one others : Inputs) → AreBelow n one → AreBelow n others → AreBelow n (joined_inputs one others)
joined_below n [] others h g = g
joined_below n (input ∷ one) others h g = joined_below n one (put input_cmp input.0 input.1 others) h.1
    (put_below n input.0 input.1 others h.0 g)

entry_inputs_below : (b : Base) (t : Bool) (of_object : ℕ → Inputs) (entry : ReadOf) → is_entry b entry ≡ true
    → ((id : ℕ) → AreBelow (size b) (of_object id)) → AreBelow (size b) (inputs_of_entry t of_object entry)
entry_inputs_below b true of_object entry fit h = h entry.row
entry_inputs_below b false of_object entry fit h = (entry_below b entry fit, tt)

inputs_below : (b : Base) (of_object : ℕ → Inputs) (entries : List ReadOf) → list_all (is_entry b) entries ≡ true
    → ((id : ℕ) → AreBelow (size b) (of_object id)) → AreBelow (size b) (inputs_of b of_object entries)
inputs_below b of_object [] fit h = tt
inputs_below b of_object (entry ∷ entries) fit h =
    joined_below (size b) (inputs_of_entry (is_publish b entry.row) of_object entry) (inputs_of b of_object entries)
    (entry_inputs_below b (is_publish b entry.row) of_object entry (and_first (is_entry b entry) (list_all (is_entry b) entries)
    fit) h)
    (inputs_below b of_object entries (and_second (is_entry b entry) (list_all (is_entry b) entries) fit) h)

closure_below : (b : Base) (id : ℕ) → is_base b ≡ true → AreBelow (size b) (closure b id)
closure_below [] id base = tt
closure_below (row ∷ older) id base = below_more (size older) (closure (row ∷ older) id)
    (by (size older == id) (λ other. closure_below older other (rows_below row older base)))
  where
    by : (t : Bool) → ((other : ℕ) → AreBelow (size older) (closure older other))
        → AreBelow (size older) (elim t as (λ x. Inputs) [
          | true ↦ inputs_of older (closure older)
              (entries_of_deed (Some row.deed))
          | false ↦ closure older id
        ])
    by true before = inputs_below older (closure older) (entries_of_deed (Some row.deed))
        (entries_fit older row.deed (row_fits row older base)) before
    by false before = before id

-- rows below a row list what they listed before
listing_before : (row : Plain) (b : Base) (inputs : Inputs) → AreBelow (size b) inputs
    → listing_of (row ∷ b) inputs ≡ listing_of b inputs
listing_before row b [] h = refl
listing_before row b (input ∷ inputs) h =
    ap (λ version_id. with_version_at input.1 version_id (listing_of (row ∷ b) inputs)) (version_before row b input.1 h.0)
    ∙ ap (with_version_at input.1 (version_listed b input.1)) (listing_before row b inputs h.1)

-- what the record of an older object lists
older_listing : (row : Plain) (older : Base) (id : ℕ) → is_base older ≡ true → (size older == id) ≡ false
    → listing (row ∷ older) id ≡ listing older id
older_listing row older id base apart =
    ap (λ is. listing_of (row ∷ older) (elim is as (λ x. Inputs) [
      | true ↦
          inputs_of older (closure older) (entries_of_deed (Some row.deed))
      | false ↦ closure older id
    ])) apart
    ∙ listing_before row older (closure older id) (closure_below older id base)

-- what the record of the newest object lists
newest_listing : (row : Plain) (older : Base) → is_base older ≡ true → deed_fits older row.deed ≡ true
    → listing (row ∷ older) (size older) ≡ listing_made older row.deed
newest_listing row older base fit =
    ap (λ is. listing_of (row ∷ older) (elim is as (λ x. Inputs) [
      | true ↦
          inputs_of older (closure older) (entries_of_deed (Some row.deed))
      | false ↦ closure older (size older)
    ]))
    ((Decides-eqb (size older) (size older)).1 refl)
    ∙ listing_before row older (inputs_of older (closure older) (entries_of_deed (Some row.deed)))
    (inputs_below older (closure older) (entries_of_deed (Some row.deed)) (entries_fit older row.deed fit)
    (λ id. closure_below older id base))

-- the record of a row that is not there lists nothing
pub no_listing : (b : Base) (id : ℕ) → size b ≤ id → listing b id ≡ []
no_listing b id past = ap (listing_of b) (none b past)
  where
    none : (b : Base) → size b ≤ id → closure b id ≡ []
    none [] past = refl
    none (row ∷ older) past =
        let apart : (size older == id) ≡ false = grind (arith, nat_tests) in
        let below : size older ≤ id = omega arith in
        ap (λ is. elim is as (λ x. Inputs) [
          | true ↦ inputs_of older (closure older) (entries_of_deed (Some row.deed))
          | false ↦
              closure older id
        ]) apart ∙ none older below

-- The record of one of the first rows lists there what it lists among all.
pub listing_of_first : (b : Base) (t id : ℕ) → is_base b ≡ true → id < t → listing (first_rows t b) id ≡ listing b id
listing_of_first [] t id base low = refl
listing_of_first (row ∷ older) t id base low = by (nat_lt (size older) t) refl
    (listing_of_first older t id (rows_below row older base) low)
  where
    by : (is : Bool) → nat_lt (size older) t ≡ is → listing (first_rows t older) id ≡ listing older id
        → listing (elim is as (λ x. Base) [ true ↦ row ∷ older | false ↦ first_rows t older ]) id ≡ listing (row ∷ older) id
    by true is before = refl
    by false is before =
        let apart : (size older == id) ≡ false = grind (arith, nat_tests) in
        before ∙ sym (older_listing row older id (rows_below row older base) apart)

-- with a row of this deed
listing_added : (row : Plain) (older : Base) (id : ℕ) → is_base older ≡ true → deed_fits older row.deed ≡ true
    → listing (row ∷ older) id ≡ listing_with older row.deed id
listing_added row older id base fit = by (size older == id) refl
  where
    by : (is : Bool) → (size older == id) ≡ is → listing (row ∷ older) id
        ≡ elim is as (λ x. Listing) [ true ↦ listing_made older row.deed | false ↦ listing older id ]
    by true same = ap (listing (row ∷ older)) (sym (same_number (size older) id same)) ∙ newest_listing row older base fit
    by false apart = older_listing row older id base apart

-- what is kept of an object stays
listed_before : (row : Plain) (older : Base) (id : ℕ) (versions : Versions) → is_base older ≡ true → IsListed older id versions
    → IsListed (row ∷ older) id versions
listed_before row older id versions base own =
    let low : id < size older = own.within in
    let apart : (size older == id) ≡ false = grind (arith, nat_tests) in
    record {
      within = omega arith;
      lists = λ e. own.lists e ∙ ap (find nat_cmp e) (sym (older_listing row older id base apart));
    }

pub listings_before : (kept : ℕ → Option Listed) (row : Plain) (older : Base) → is_base older ≡ true → AreListings kept older
    → AreListings kept (row ∷ older)
listings_before kept row older base before id = by (kept id) (before id)
  where
    by : (o : Option Listed) → IfSome o (λ listed. IfSome listed (λ map. IsListed older id map.entries))
        → IfSome o (λ listed. IfSome listed (λ map. IsListed (row ∷ older) id map.entries))
    by None own = tt
    by (Some None) own = tt
    by (Some (Some map)) own = listed_before row older id map.entries base own

-- what is kept of one of the first rows is what its record lists there
pub listed_first : (b : Base) (t id : ℕ) (kept : Listed) → is_base b ≡ true → id < t
    → IfSome kept (λ map. IsListed b id map.entries) → IfSome kept (λ map. HasListing map.entries (listing (first_rows t b) id))
listed_first b t id None base low own = tt
listed_first b t id (Some map) base low own = λ e. own.lists e ∙ ap (find nat_cmp e) (sym (listing_of_first b t id base low))

-- what was made ahead of a row is what it is with the row
listed_after : (row : Plain) (older : Base) (id : ℕ) (versions : Versions) → is_base older ≡ true
    → deed_fits older row.deed ≡ true → IsListedWith older row.deed id versions → IsListed (row ∷ older) id versions
listed_after row older id versions base fit made =
    let low : id ≤ size older = made.within in
    record {
      within = omega arith;
      lists = λ e. made.lists e ∙ ap (find nat_cmp e) (sym (listing_added row older id base fit));
    }

pub made_after : (row : Plain) (older : Base) (made : List MadeListing) → is_base older ≡ true
    → deed_fits older row.deed ≡ true → AllByRecursion (IsMadeWith older row.deed) made
    → AllByRecursion (IsMade (row ∷ older)) made
made_after row older [] base fit h = tt
made_after row older (one ∷ made) base fit h = (by one.versions h.0, made_after row older made base fit h.1)
  where
    by : (o : Listed) → IfSome o (λ map. IsListedWith older row.deed one.object map.entries)
        → IfSome o (λ map. IsListed (row ∷ older) one.object map.entries)
    by None own = tt
    by (Some map) own = listed_after row older one.object map.entries base fit own

-- the listing of one of the rows is the same before a row is added
pub listing_older : (b : Base) (deed : Deed) (id : ℕ) → id < size b → listing_with b deed id ≡ listing b id
listing_older b deed id low = let apart : (size b == id) ≡ false = grind (arith, nat_tests) in
    ap (λ is. elim is as (λ x. Listing) [ true ↦ listing_made b deed | false ↦ listing b id ]) apart

-- and that of the row itself is what its record lists
pub listing_next : (b : Base) (deed : Deed) → listing_with b deed (size b) ≡ listing_made b deed
listing_next b deed =
    ap (λ is. elim is as (λ x. Listing) [ true ↦ listing_made b deed | false ↦ listing b (size b) ])
    ((Decides-eqb (size b) (size b)).1 refl)

-- with what was made of one object
pub listings_with : (b : Base) (kept after : ℕ → Option Listed) (one : MadeListing)
    → ((q : ℕ) → after q ≡ cond (one.object == q) (Some one.versions) (kept q))
    → IsMade b one → AreListings kept b → AreListings after b
listings_with b kept after one put made before id =
    subst (λ o. IfSome o (λ listed. IfSome listed (λ map. IsListed b id map.entries))) (sym (put id))
    (by (one.object == id) refl)
  where
    by : (is : Bool) → (one.object == id) ≡ is
        → IfSome (cond is (Some one.versions) (kept id)) (λ listed. IfSome listed (λ map. IsListed b id map.entries))
    by true same = subst (λ n. IfSome one.versions (λ map. IsListed b n map.entries)) (same_number one.object id same) made
    by false apart = before id

-- what holds of a list and of one more holds of both
pub all_and_last : {A : Type 0} (P : A → Type 0) (xs : List A) (x : A) → AllByRecursion P xs → P x
    → AllByRecursion P (xs ++ x ∷ [])
all_and_last P [] x h g = (g, tt)
all_and_last P (y ∷ xs) x h g = (h.0, all_and_last P xs x h.1 g)

pub all_but_last : {A : Type 0} (P : A → Type 0) (xs : List A) (x : A) → AllByRecursion P (xs ++ x ∷ [])
    → AllByRecursion P xs × P x
all_but_last P [] x h = (tt, h.0)
all_but_last P (y ∷ xs) x h = let rest = all_but_last P xs x h.1 in ((h.0, rest.0), rest.1)
