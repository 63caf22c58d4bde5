-- A name in the catalog of a version is as the newest version of its branch up to it leaves it that alters the name, else as the
-- row that made the branch does.
use Rattle.std.proofs.Common.{◌≡◌, ℕ, suc, ◌<◌, ◌≤◌, ◌==◌, Bool, true, false, not, ◌&&◌, cond, max, nat_lt, Option, Some, None}
use Rattle.std.proofs.Common.{IfSome, List, [], ◌∷◌, length, bytes_eq, refl, ap, sym, subst, ◌∙◌, arith}
use Rattle.std.specs.Prelude.{find, is_none, option_and_then, option_map}
use Rattle.std.specs.Option.{option_or}
use Rattle.std.proofs.lemmas.Bool.Decides.{nat_tests, Decides-eqb}
use Rattle.cc_names.specs.Branches.{branch_of_version}
use Rattle.cc_names.specs.Formed.{Plain}
use Rattle.cc_names.specs.Last.{Ends, Sets, only_if, value_after}
use Rattle.cc_names.specs.Versions.{branch_of_change, change_at, is_before, is_number, latest, put_if, row_of_change}
use Rattle.cc_names.specs.Versions.{row_of_version, version_of_change, versions_on}
use Rattle.cc_names.specs.declared.changes.TreeChange.{TreeChange}
use Rattle.cc_names.specs.declared.changes.TreeChange.TheVariants.{ElementMade, BranchMade, VersionMade}
use Rattle.cc_names.specs.declared.rows.Deed.{Deed}
use Rattle.cc_names.specs.declared.rows.Deed.TheVariants as deeds
use Rattle.cc_names.specs.declared.rows.Out.TheVariants as outs
use Rattle.cc_names.specs.declared.rows.Kind.TheVariants.{Directory}
use Rattle.cc_names.specs.declared.rows.Tag.{Tag}
use Rattle.cc_names.proofs.Common.{number_found, same_inside, same_number, and_first, and_second}
use Rattle.base_model.specs.Catalogs.{Catalog, Edit, BeginsEmpty, BeginsAs, Adds, Removes, Renames, OfCheckout, catalog_of}
use Rattle.base_model.specs.Catalogs.{catalog_source, edit_of, edit_where, catalog_after, first_edit, made_or_older}
use Rattle.base_model.specs.Catalogs.{element_named, own_of}
use Rattle.base_model.specs.Changes.{tree, with_checkin, with_version}
use Rattle.base_model.specs.Checkouts.{branch_of, is_latest, latest_beside, other_reserver}
use Rattle.base_model.specs.Closures.{greater_of, is_version_of}
use Rattle.base_model.specs.Conditions.{exists, has_out, may_check_in}
use Rattle.base_model.specs.Fits.{deed_fits, is_base, may_reserve}
use Rattle.base_model.specs.Rows.{Base, size, first_rows, row_at, deed_of}
use Rattle.base_model.specs.Views.{Checkout, out}
use Rattle.base_model.proofs.Below.{within}
use Rattle.base_model.proofs.Owned.{row_fits, rows_below, same_is_same}
use Rattle.base_model.proofs.Stay.{catalog_stays, first_rows_stay, row_stays}
use Rattle.base_model.proofs.TreesStay.{tree_of_first_rows}
use Rattle.base_model.proofs.VersionRows.{version_below}
use Rattle.base_rows.specs.Changed.{alters, begins, newest_checkout_row, newest_change_row, changes, checked_in_on, is_since}
use Rattle.base_rows.specs.Lifetimes.{later}
use Rattle.base_rows.specs.Entries.{begun_effect, changed_effect, entry_effect}
use Rattle.base_rows.specs.Growing.{tree_change, with_change}
use Rattle.base_rows.specs.LookUps.{Deeds, Update, last_of, left_by, newest, update_by_row}
use Rattle.view_lookup.specs.AlteringRows.{altered_by}
use Rattle.base_rows.proofs.Endings.{newest_of_two}
use Rattle.view_lookup.proofs.EntryRows.{below_newest, edit_at, edit_by, entry_by, entry_by_row}
use Rattle.base_rows.proofs.FirstTrees.{change_of_first}
use Rattle.base_rows.proofs.Growths.{tree_by_change}
use Rattle.base_rows.proofs.Newest.{first_shorter, last_by_newest}
use Rattle.base_rows.proofs.Prefixes.{fitting_first}

altered_more : (branch : ℕ) (name : List ℕ) (row : Plain) (older : Base)
    → altered_by branch name (row ∷ older) ≡ elim (alters branch name older row.deed) [
      | true ↦ Some (size older)
      | false ↦
          altered_by branch name older
    ]
altered_more branch name row older = by (alters branch name older row.deed)
  where
    by : (is : Bool) → value_after (only_if is (Sets (size older))) (altered_by branch name older)
        ≡ elim is [ true ↦ Some (size older) | false ↦ altered_by branch name older ]
    by true = refl
    by false = refl

altering_row_below : (branch : ℕ) (name : List ℕ) (b : Base) → IfSome (altered_by branch name b) (λ n. n < size b)
altering_row_below branch name [] = tt
altering_row_below branch name (row ∷ older) =
    subst (λ found. IfSome found (λ n. n < suc (size older))) (sym (altered_more branch name row older))
    (by (alters branch name older row.deed) (altered_by branch name older) (altering_row_below branch name older))
  where
    by : (is : Bool) (found : Option ℕ) → IfSome found (λ n. n < size older)
        → IfSome (elim is [ true ↦ Some (size older) | false ↦ found ]) (λ n. n < suc (size older))
    by true found h = omega arith
    by false None h = tt
    by false (Some n) h = omega arith

-- the last version on a branch, with one change more
latest_more : (change : TreeChange) (older : List TreeChange) (branch : ℕ)
    → latest (change ∷ older) branch None ≡ elim (branch_of_change change == branch) [
      | true ↦
          Some (row_of_change change)
      | false ↦ latest older branch None
    ]
latest_more change older branch = by (branch_of_change change == branch)
  where
    by : (is : Bool) → option_map row_of_version (find (λ v. is_before None v.moment)
        (put_if is (version_of_change change (length (versions_on older branch))) (versions_on older branch)))
        ≡ elim is [ true ↦ Some (row_of_change change) | false ↦ latest older branch None ]
    by true = refl
    by false = refl

-- what a name is in the catalog of a version, and where its version and its branch lie
pub record IsCatalogEntry (b : Base) (name : List ℕ) (branch v : ℕ) : Type 0 where
  pub version : v < size b
  pub branch_below : branch ≤ v
  pub same : element_named name (catalog_of b v) ≡ element_named name (catalog_of b
      (greater_of branch (altered_by branch name b)))

low : (branch v n : ℕ) (found : Option ℕ) → branch ≤ v → v < n → IfSome found (λ m. m < n) → greater_of branch found < n
low branch v n None one two three = omega arith
low branch v n (Some m) one two three = omega arith

at_top : (branch n : ℕ) (found : Option ℕ) → IfSome found (λ m. m < suc n) → branch ≡ n → greater_of branch found ≡ n
at_top branch n None h is = is
at_top branch n (Some m) h is = omega (arith, h, is)

-- rows that are told of by their own numbers
own_rows : (effect : Deeds ℕ) (test : Base → Deed → Bool) → ((older : Base) (deed : Deed)
    → effect older deed ≡ only_if (test older deed) (Sets (size older))) → (b : Base)
    → IfSome (newest effect b) (λ r. r.1 ≡ Some r.0)
own_rows effect test is [] = tt
own_rows effect test is (row ∷ older) =
    subst (λ does. IfSome (option_or (update_by_row (size older) does) (newest effect older)) (λ r. r.1 ≡ Some r.0))
    (sym (is older row.deed))
    (by (test older row.deed) (newest effect older) (own_rows effect test is older))
  where
    by : (here : Bool) (rest : Option (Update ℕ)) → IfSome rest (λ r. r.1 ≡ Some r.0)
        → IfSome (option_or (update_by_row (size older) (only_if here (Sets (size older)))) rest) (λ r. r.1 ≡ Some r.0)
    by true rest h = refl
    by false rest h = h

-- where a checkout began, and the row that began it tells of a name still
begun_tells : (v : List ℕ) (d : ℕ) (name : List ℕ) (b : Base) (c : ℕ) → newest_checkout_row b v d ≡ Some c
    → is_since (Some c) (newest_change_row b v d name) ≡ false → last_of (entry_effect v d name) b ≡ Some c
begun_tells v d name b c began since =
    last_by_newest (entry_effect v d name) b
    ∙ ap left_by (newest_of_two (entry_effect v d name) (begun_effect v d) (changed_effect v d name) (λ older deed. refl) b)
    ∙ by (newest (begun_effect v d) b) (newest (changed_effect v d name) b)
    (own_rows (begun_effect v d) (λ older deed. begins (edit_of v d (size older) deed)) (λ older deed. refl) b)
    (own_rows (changed_effect v d name) (λ older deed. changes name (edit_of v d (size older) deed)) (λ older deed. refl) b)
    (sym (last_by_newest (begun_effect v d) b) ∙ began) (ap (is_since (Some c)) (sym (last_by_newest (changed_effect v d name) b))
    ∙ since)
  where
    by : (one two : Option (Update ℕ)) → IfSome one (λ r. r.1 ≡ Some r.0) → IfSome two (λ r. r.1 ≡ Some r.0)
        → left_by one ≡ Some c → is_since (Some c) (left_by two) ≡ false → left_by (later one two) ≡ Some c
    by None two own other is since = absurd (cc)
    by (Some one) None own other is since = is
    by (Some one) (Some two) own other is since =
        let row : one.0 ≡ c = same_inside (sym own ∙ is) in
        let less : nat_lt one.0 two.0 ≡ false = ap (λ n. nat_lt n two.0) row ∙ ap (is_since (Some c)) (sym other) ∙ since in
        ap (λ test. left_by (cond test (Some two) (Some one))) less ∙ is

-- the catalog of a version is the same among the first rows that have it
catalog_of_first : (b : Base) (t r : ℕ) → r < size (first_rows t b) → catalog_of (first_rows t b) r ≡ catalog_of b r
catalog_of_first [] t r below = refl
catalog_of_first (row ∷ older) t r below = by (nat_lt (size older) t) below (catalog_of_first older t r)
  where
    shorter : (t : ℕ) (b : Base) → size (first_rows t b) ≤ size b
    shorter t b = omega (arith, first_shorter t b)

    by : (is : Bool) → r < size (elim is as (λ _. Base) [ true ↦ row ∷ older | false ↦ first_rows t older ])
        → (r < size (first_rows t older) → catalog_of (first_rows t older) r ≡ catalog_of older r)
        → catalog_of (elim is as (λ _. Base) [ true ↦ row ∷ older | false ↦ first_rows t older ]) r ≡ catalog_of (row ∷ older) r
    by true below before = refl
    by false below before = before below ∙ sym (catalog_stays row older r (omega (arith, below, shorter t older)))

-- the version from which a checkout is made is a row below it
origin_of_checkout : (older : Base) (w : List ℕ) (e origin : ℕ) (reserved : Bool)
    → deed_fits older (deeds.Checkout w e origin reserved) ≡ true → origin < size older
origin_of_checkout older w e origin reserved fit =
    version_below older e origin
    (and_second (exists older w && not (has_out older w e)) (is_version_of older e origin)
    (and_first (exists older w && not (has_out older w e) && is_version_of older e origin) (is_latest older origin)
    (and_first (exists older w && not (has_out older w e) && is_version_of older e origin && is_latest older origin)
    (may_reserve older origin reserved) fit)))

out_test : (test : Bool) (origin : ℕ) → edit_where (test && true) (BeginsAs origin) ≡ edit_where test (BeginsAs origin)
out_test true origin = refl
out_test false origin = refl

-- how a checkout that stands began: its row is the newest that began one, and its catalog was that of its origin
record IsBegun (b : Base) (v : List ℕ) (d : ℕ) (checkout : Checkout) : Type 0 where
  began : newest_checkout_row b v d ≡ Some checkout.row
  row_low : checkout.row < size b
  origin_low : checkout.origin < size b
  catalog : (own : Catalog) → catalog_after (edit_at b v d checkout.row) (catalog_of (first_rows checkout.row b)) own
      ≡ catalog_of b checkout.origin

edit_here : (row : Plain) (older : Base) (v : List ℕ) (d : ℕ) → edit_at (row ∷ older) v d (size older)
    ≡ edit_of v d (size older) row.deed
edit_here row older v d = ap (λ is. edit_by v d (size older) (deed_of (elim is [
  | true ↦ Some row
  | false ↦
      row_at older (size older)
]))) (same_is_same (size older))

edit_there : (row : Plain) (older : Base) (v : List ℕ) (d n : ℕ) → n < size older
    → edit_at (row ∷ older) v d n ≡ edit_at older v d n
edit_there row older v d n below = ap (λ found. edit_by v d n (deed_of found)) (row_stays row older n below)

-- what a row makes of a checkout that began before and stands still
begun_before : (row : Plain) (older : Base) (v : List ℕ) (d : ℕ) (checkout : Checkout)
    → begins (edit_of v d (size older) row.deed) ≡ false → IsBegun older v d checkout → IsBegun (row ∷ older) v d checkout
begun_before row older v d checkout silent b = record {
  began = ap (λ is. value_after (only_if is (Sets (size older))) (newest_checkout_row older v d)) silent ∙ b.began;
  row_low = omega (arith, b.row_low);
  origin_low = omega (arith, b.origin_low);
  catalog = λ own.
      ap (λ edit. catalog_after edit (catalog_of (first_rows checkout.row (row ∷ older))) own)
      (edit_there row older v d checkout.row b.row_low)
      ∙ ap (λ (rows : Base). catalog_after (edit_at older v d checkout.row) (catalog_of rows) own)
      (first_rows_stay row older checkout.row (omega (arith, b.row_low)))
      ∙ b.catalog own
      ∙ sym (catalog_stays row older checkout.origin b.origin_low);
}

-- what a row makes of the checkout that it begins
begun_now : (row : Plain) (older : Base) (v : List ℕ) (d : ℕ) (edit : Edit) (checkout : Checkout)
    → edit_of v d (size older) row.deed ≡ edit → begins edit ≡ true → checkout.row ≡ size older
    → checkout.origin < size (row ∷ older)
    → ((own : Catalog) → catalog_after edit (catalog_of older) own ≡ catalog_of (row ∷ older) checkout.origin)
    → IsBegun (row ∷ older) v d checkout
begun_now row older v d edit checkout is starts number low same = record {
  began = ap (λ e. value_after (only_if (begins e) (Sets (size older))) (newest_checkout_row older v d)) is
      ∙ ap (λ test. value_after (only_if test (Sets (size older))) (newest_checkout_row older v d)) starts ∙ ap Some (sym number);
  row_low = omega (arith, number);
  origin_low = low;
  catalog = λ own.
      ap (λ n. catalog_after (edit_at (row ∷ older) v d n) (catalog_of (first_rows n (row ∷ older))) own) number
      ∙ ap (λ e. catalog_after e (catalog_of (first_rows (size older) (row ∷ older))) own) (edit_here row older v d ∙ is)
      ∙ ap (λ (rows : Base). catalog_after edit (catalog_of rows) own) (below_newest row older)
      ∙ same own;
}

top_source : (row : Plain) (older : Base) → catalog_of (row ∷ older) (size older)
    ≡ made_or_older true (catalog_source row.deed) (catalog_of older) (own_of older) (size older)
top_source row older = ap (λ is. made_or_older is (catalog_source row.deed) (catalog_of older) (own_of older) (size older))
    (same_is_same (size older))

-- what a row does to a checkout: it begins it, or leaves one that began before
data Becomes (row : Plain) (older : Base) (v : List ℕ) (d : ℕ) (checkout : Checkout) : Type 0 where
  Now : IsBegun (row ∷ older) v d checkout → Becomes row older v d checkout
  Before : out older v d ≡ Some checkout → begins (edit_of v d (size older) row.deed) ≡ false → Becomes row older v d checkout

some_checkout : {a b : Checkout} → Some a ≡ Some b → a ≡ b
some_checkout h = cc

by_checkout : (row : Plain) (older : Base) (v : List ℕ) (d origin other : ℕ) (reserved test : Bool) (checkout : Checkout)
    → edit_of v d (size older) row.deed ≡ edit_where test (BeginsAs origin) → other < size (row ∷ older)
    → catalog_of older origin ≡ catalog_of (row ∷ older) other → value_after
    (only_if test (Sets (record { row = size older; origin = other; reserved = reserved }))) (out older v d) ≡ Some checkout
    → Becomes row older v d checkout
by_checkout row older v d origin other reserved true checkout is low same h =
    let own : record { row = size older; origin = other; reserved = reserved } ≡ checkout = some_checkout h in
    Now (subst (λ c. IsBegun (row ∷ older) v d c) own (begun_now row older v d (BeginsAs origin)
    (record { row = size older; origin = other; reserved = reserved }) is refl refl low (λ mine. same)))
by_checkout row older v d origin other reserved false checkout is low same h = Before h (ap begins is)

by_element : (row : Plain) (older : Base) (v : List ℕ) (d : ℕ) (test inside : Bool) (name : List ℕ) (checkout : Checkout)
    → edit_of v d (size older) row.deed ≡ first_edit (test && true) BeginsEmpty (edit_where inside (Adds name (size older)))
    → [] ≡ catalog_of (row ∷ older) (size older) → value_after (only_if test
    (Sets (record { row = size older; origin = size older; reserved = true }))) (out older v d) ≡ Some checkout
    → Becomes row older v d checkout
by_element row older v d true inside name checkout is same h =
    let own : record { row = size older; origin = size older; reserved = true } ≡ checkout = some_checkout h in
    Now (subst (λ c. IsBegun (row ∷ older) v d c) own (begun_now row older v d BeginsEmpty
    (record { row = size older; origin = size older; reserved = true }) is refl refl (omega arith) (λ mine. same)))
by_element row older v d false inside name checkout is same h = Before h (ap begins is ∙ none inside)
  where
    none : (inside : Bool) → begins (edit_where inside (Adds name (size older))) ≡ false
    none true = refl
    none false = refl

not_out : (row : Plain) (older : Base) (v : List ℕ) (d : ℕ) (test inside : Bool) (name : List ℕ) (checkout : Checkout)
    → edit_of v d (size older) row.deed ≡ first_edit (test && false) BeginsEmpty (edit_where inside (Adds name (size older)))
    → out older v d ≡ Some checkout → Becomes row older v d checkout
not_out row older v d test inside name checkout is h = Before h (ap begins is ∙ none test inside)
  where
    none : (test inside : Bool) → begins (first_edit (test && false) BeginsEmpty (edit_where inside (Adds name (size older))))
        ≡ false
    none true true = refl
    none true false = refl
    none false true = refl
    none false false = refl

ended_or_stored : (row : Plain) (older : Base) (v : List ℕ) (d : ℕ) (test : Bool) (checkout : Checkout)
    → begins (edit_of v d (size older) row.deed) ≡ false → value_after (only_if test Ends) (out older v d) ≡ Some checkout
    → Becomes row older v d checkout
ended_or_stored row older v d true checkout silent h = absurd (cc)
ended_or_stored row older v d false checkout silent h = Before h silent

no_edit : (test : Bool) (edit : Edit) → begins edit ≡ false → begins (edit_where test edit) ≡ false
no_edit true edit h = h
no_edit false edit h = refl

becomes : (tag : Tag) (moment : ℕ) (deed : Deed) (older : Base) (v : List ℕ) (d : ℕ) (checkout : Checkout)
    → deed_fits older deed ≡ true → out (record { tag = tag; moment = moment; deed = deed } ∷ older) v d ≡ Some checkout
    → Becomes (record { tag = tag; moment = moment; deed = deed }) older v d checkout
becomes tag moment (deeds.Mkview w) older v d checkout fit h = ended_or_stored
    (record { tag = tag; moment = moment; deed = deeds.Mkview w }) older v d (bytes_eq w v) checkout refl h
becomes tag moment (deeds.Rmview w) older v d checkout fit h = ended_or_stored
    (record { tag = tag; moment = moment; deed = deeds.Rmview w }) older v d (bytes_eq w v) checkout refl h
becomes tag moment (deeds.Checkin w f) older v d checkout fit h = ended_or_stored
    (record { tag = tag; moment = moment; deed = deeds.Checkin w f }) older v d (bytes_eq w v && (f == d)) checkout refl h
becomes tag moment (deeds.Uncheckout w f) older v d checkout fit h = ended_or_stored
    (record { tag = tag; moment = moment; deed = deeds.Uncheckout w f }) older v d (bytes_eq w v && (f == d)) checkout refl h
becomes tag moment (deeds.Mkelem w f name kind true) older v d checkout fit h =
    by_element (record { tag = tag; moment = moment; deed = deeds.Mkelem w f name kind true }) older v d
    (bytes_eq w v && (size older == d)) (bytes_eq w v && (f == d)) name checkout refl
    (sym (top_source (record { tag = tag; moment = moment; deed = deeds.Mkelem w f name kind true }) older)) h
becomes tag moment (deeds.Mkelem w f name kind false) older v d checkout fit h =
    not_out (record { tag = tag; moment = moment; deed = deeds.Mkelem w f name kind false }) older v d
    (bytes_eq w v && (size older == d)) (bytes_eq w v && (f == d)) name checkout refl h
becomes tag moment (deeds.Checkout w e origin reserved) older v d checkout fit h =
    let low = origin_of_checkout older w e origin reserved fit in
    by_checkout (record { tag = tag; moment = moment; deed = deeds.Checkout w e origin reserved }) older v d origin origin
    reserved (bytes_eq w v && (e == d)) checkout refl (omega (arith, low))
    (sym (catalog_stays (record { tag = tag; moment = moment; deed = deeds.Checkout w e origin reserved }) older origin low)) h
becomes tag moment (deeds.Branch w e origin name outs.No) older v d checkout fit h = Before h (none (bytes_eq w v && (e == d)))
  where
    none : (test : Bool) → begins (edit_where (test && false) (BeginsAs origin)) ≡ false
    none true = refl
    none false = refl
becomes tag moment (deeds.Branch w e origin name outs.Reserved) older v d checkout fit h =
    by_checkout (record { tag = tag; moment = moment; deed = deeds.Branch w e origin name outs.Reserved }) older v d origin
    (size older) true (bytes_eq w v && (e == d)) checkout (out_test (bytes_eq w v && (e == d)) origin) (omega arith)
    (sym (top_source (record { tag = tag; moment = moment; deed = deeds.Branch w e origin name outs.Reserved }) older)) h
becomes tag moment (deeds.Branch w e origin name outs.Unreserved) older v d checkout fit h =
    by_checkout (record { tag = tag; moment = moment; deed = deeds.Branch w e origin name outs.Unreserved }) older v d origin
    (size older) false (bytes_eq w v && (e == d)) checkout (out_test (bytes_eq w v && (e == d)) origin) (omega arith)
    (sym (top_source (record { tag = tag; moment = moment; deed = deeds.Branch w e origin name outs.Unreserved }) older)) h
becomes tag moment (deeds.Rmname w f name) older v d checkout fit h = Before h
    (no_edit (bytes_eq w v && (f == d)) (Removes name) refl)
becomes tag moment (deeds.Mv w f from_name to_name) older v d checkout fit h =
    Before h (no_edit (bytes_eq w v && (f == d)) (Renames from_name to_name) refl)
becomes tag moment deed older v d checkout fit h = Before h refl

-- each checkout that stands began so
is_begun : (b : Base) → is_base b ≡ true → (v : List ℕ) (d : ℕ) (checkout : Checkout) → out b v d ≡ Some checkout
    → IsBegun b v d checkout
is_begun [] base v d checkout h = absurd (cc)
is_begun (row ∷ older) base v d checkout h = by (becomes row.tag row.moment row.deed older v d checkout (row_fits row older base)
    h) (is_begun older (rows_below row older base) v d checkout)
  where
    by : Becomes row older v d checkout → (out older v d ≡ Some checkout → IsBegun older v d checkout)
        → IsBegun (row ∷ older) v d checkout
    by (Now it) before = it
    by (Before there silent) before = begun_before row older v d checkout silent (before there)

-- a name that was not changed in a checkout is as in the version from which it began
unchanged : (b : Base) → is_base b ≡ true → (v : List ℕ) (d : ℕ) (name : List ℕ) (checkout : Checkout) → out b v d ≡ Some checkout
    → is_since (newest_checkout_row b v d) (newest_change_row b v d name) ≡ false
    → element_named name (own_of b v d) ≡ element_named name (catalog_of b checkout.origin)
unchanged b base v d name checkout there since =
    let began = is_begun b base v d checkout there in
    let c = checkout.row in
    let row : last_of (entry_effect v d name) b ≡ Some c = begun_tells v d name b c began.began
    (ap (λ first. is_since first (newest_change_row b v d name)) (sym began.began) ∙ since) in
    entry_by_row v d name b
    ∙ ap (entry_by b v d name) row
    ∙ ap (element_named name) (began.catalog (own_of (first_rows c b) v d))

module _ (name : List ℕ) (row : Plain) (older : Base) (branch : ℕ) (before : (v : ℕ) → latest (tree older) branch None ≡ Some v
    → IsCatalogEntry older name branch v) where
  altered_older : alters branch name older row.deed ≡ false → altered_by branch name (row ∷ older) ≡ altered_by branch name older
  altered_older silent = altered_more branch name row older ∙ ap (λ is. elim is [
    | true ↦ Some (size older)
    | false ↦
        altered_by branch name older
  ]) silent

  -- what the branch had at its latest version is there still
  stays : (v : ℕ) → latest (tree older) branch None ≡ Some v → alters branch name older row.deed ≡ false
      → element_named name (catalog_of older v) ≡ element_named name (catalog_of (row ∷ older)
      (greater_of branch (altered_by branch name (row ∷ older))))
  stays v is silent =
      let kept = before v is in
      let n = greater_of branch (altered_by branch name older) in
      let below : n < size older = low branch v (size older) (altered_by branch name older) kept.branch_below kept.version
      (altering_row_below branch name older) in
      kept.same
      ∙ ap (element_named name) (sym (catalog_stays row older n below))
      ∙ ap (λ found. element_named name (catalog_of (row ∷ older) (greater_of branch found))) (sym (altered_older silent))

  -- a row that makes no version of the branch leaves its versions as they are
  quiet : (v : ℕ) → latest (tree (row ∷ older)) branch None ≡ latest (tree older) branch None
      → alters branch name older row.deed ≡ false → latest (tree (row ∷ older)) branch None ≡ Some v
      → IsCatalogEntry (row ∷ older) name branch v
  quiet v same silent is =
      let there : latest (tree older) branch None ≡ Some v = sym same ∙ is in
      let kept = before v there in
      record {
        version = omega (arith, kept.version);
        branch_below = kept.branch_below;
        same = ap (element_named name) (catalog_stays row older v kept.version) ∙ stays v there silent;
      }

  -- the row that makes the branch
  made : (v : ℕ) → v ≡ size older → branch ≡ size older → IsCatalogEntry (row ∷ older) name branch v
  made v number own = record {
    version = omega (arith, number);
    branch_below = omega (arith, number, own);
    same = ap (λ n. element_named name (catalog_of (row ∷ older) n)) (number
        ∙ sym (at_top branch (size older) (altered_by branch name (row ∷ older)) (altering_row_below branch name (row ∷ older))
        own));
  }

  -- a version that alters the name itself
  altered_itself : (v : ℕ) → v ≡ size older → branch < size older → alters branch name older row.deed ≡ true
      → IsCatalogEntry (row ∷ older) name branch v
  altered_itself v number behind alters_it =
      let here : altered_by branch name (row ∷ older) ≡ Some (size older) =
      altered_more branch name row older ∙ ap (λ is. elim is [ true ↦ Some (size older) | false ↦ altered_by branch name older ])
      alters_it in
      let most : max branch (size older) ≡ size older = omega (arith, behind) in
      record {
        version = omega (arith, number);
        branch_below = omega (arith, number, behind);
        same = ap (λ n. element_named name (catalog_of (row ∷ older) n)) (number ∙ sym (ap (greater_of branch) here ∙ most));
      }

and_true : (one two : Bool) → one ≡ true → (one && two) ≡ false → two ≡ false
and_true true two is h = h
and_true false two is h = absurd (cc)

-- a branch on which a version is made is there before
on_low : (older : Base) (checkout : Option Checkout) (branch : ℕ) → option_and_then (branch_of older) checkout ≡ Some branch
    → branch < size older
on_low older None branch h = absurd (cc)
on_low older (Some checkout) branch h = by (change_at (tree older) checkout.origin) refl h
  where
    by : (o : Option TreeChange) → change_at (tree older) checkout.origin ≡ o → option_map branch_of_change o ≡ Some branch
        → branch < size older
    by None found is = absurd (cc)
    by (Some change) found is =
        let same : branch_of_change change ≡ branch = cc in
        subst (λ n. n < size older) same ((within older).branches checkout.origin change found)

checkin_tree : (older : Base) (moment : ℕ) (checkout : Option Checkout)
    → with_checkin (size older) moment checkout (tree older) ≡ with_version (size older) moment
    (option_and_then (branch_of older) checkout) (tree older)
checkin_tree older moment None = refl
checkin_tree older moment (Some checkout) = refl

top_catalog : (tag : Tag) (moment : ℕ) (v : List ℕ) (d : ℕ) (older : Base)
    → catalog_of (record { tag = tag; moment = moment; deed = deeds.Checkin v d } ∷ older) (size older) ≡ own_of older v d
top_catalog tag moment v d older = ap (λ is. made_or_older is (OfCheckout v d) (catalog_of older) (own_of older) (size older))
    (same_is_same (size older))

module _ (name : List ℕ) (older : Base) (base : is_base older ≡ true) (branch : ℕ) (before : (v : ℕ)
    → latest (tree older) branch None ≡ Some v → IsCatalogEntry older name branch v) (tag : Tag) (moment : ℕ) where
  -- a version that does not alter the name has it as the one before
  goes_on : (w : List ℕ) (d v : ℕ) → deed_fits older (deeds.Checkin w d) ≡ true → v ≡ size older → branch < size older
      → checked_in_on older (deeds.Checkin w d) ≡ Some branch → alters branch name older (deeds.Checkin w d) ≡ false
      → IsCatalogEntry (record { tag = tag; moment = moment; deed = deeds.Checkin w d } ∷ older) name branch v
  goes_on w d v fit number behind on silent = by (out older w d) refl
    where
      by : (o : Option Checkout) → out older w d ≡ o → IsCatalogEntry (record {
        tag = tag;
        moment = moment;
        deed = deeds.Checkin w d;
      } ∷ older) name branch v
      by None found =
          let none = sym (ap (option_and_then (branch_of older)) found) ∙ on in
          absurd (cc)
      by (Some checkout) found =
          let row : Plain = record { tag = tag; moment = moment; deed = deeds.Checkin w d } in
          let own : branch_of_version (tree older) checkout.origin ≡ Some branch =
          sym (ap (option_and_then (branch_of older)) found) ∙ on in
          let may : may_check_in older w (Some checkout) ≡ true = sym (ap (may_check_in older w) found) ∙ fit in
          let newest : latest_beside older checkout.origin ≡ Some checkout.origin =
          number_found checkout.origin (latest_beside older checkout.origin)
          (and_second (is_none (option_and_then (other_reserver older w) (branch_of older checkout)))
          (is_latest older checkout.origin) may) in
          let last_is : latest (tree older) branch None ≡ Some checkout.origin =
          sym (ap (option_and_then (λ on. latest (tree older) on None)) own) ∙ newest in
          let is_on : is_number branch (checked_in_on older (deeds.Checkin w d)) ≡ true = ap (is_number branch) on
          ∙ same_is_same branch in
          let since = and_true (is_number branch (checked_in_on older (deeds.Checkin w d)))
          (is_since (newest_checkout_row older w d) (newest_change_row older w d name)) is_on silent in
          record {
            version = omega (arith, number);
            branch_below = omega (arith, number, behind);
            same = ap (λ n. element_named name (catalog_of (row ∷ older) n)) number
                ∙ ap (element_named name) (top_catalog tag moment w d older)
                ∙ unchanged older base w d name checkout found since
                ∙ stays name row older branch before checkout.origin last_is silent;
          }

  checked_in : (w : List ℕ) (d v : ℕ) → deed_fits older (deeds.Checkin w d) ≡ true
      → latest (tree (record { tag = tag; moment = moment; deed = deeds.Checkin w d } ∷ older)) branch None ≡ Some v
      → IsCatalogEntry (record { tag = tag; moment = moment; deed = deeds.Checkin w d } ∷ older) name branch v
  checked_in w d v fit is = by (checked_in_on older (deeds.Checkin w d)) refl
    where
      row : Plain
      row = record { tag = tag; moment = moment; deed = deeds.Checkin w d }

      tree_is : (on : Option ℕ) → checked_in_on older (deeds.Checkin w d) ≡ on
          → tree (record { tag = tag; moment = moment; deed = deeds.Checkin w d } ∷ older)
          ≡ with_version (size older) moment on (tree older)
      tree_is on e = checkin_tree older moment (out older w d) ∙ ap (λ found. with_version (size older) moment found (tree older))
          e

      silent_on : (on : Option ℕ) → checked_in_on older (deeds.Checkin w d) ≡ on → is_number branch on ≡ false
          → alters branch name older (deeds.Checkin w d) ≡ false
      silent_on on e none =
          let apart : is_number branch (checked_in_on older (deeds.Checkin w d)) ≡ false = ap (is_number branch) e ∙ none in
          ap (λ test. test && is_since (newest_checkout_row older w d) (newest_change_row older w d name)) apart

      by : (on : Option ℕ) → checked_in_on older (deeds.Checkin w d) ≡ on
          → IsCatalogEntry (record { tag = tag; moment = moment; deed = deeds.Checkin w d } ∷ older) name branch v
      by None e = quiet name (record { tag = tag; moment = moment; deed = deeds.Checkin w d }) older branch before v
          (ap (λ changes. latest changes branch None) (tree_is None e)) (silent_on None e refl) is
      by (Some other) e = with (other == branch) refl
        where
          last_is : latest (tree (record { tag = tag; moment = moment; deed = deeds.Checkin w d } ∷ older)) branch None
              ≡ elim (other == branch) [ true ↦ Some (size older) | false ↦ latest (tree older) branch None ]
          last_is = ap (λ changes. latest changes branch None) (tree_is (Some other) e)
              ∙ latest_more (VersionMade (size older) moment other) (tree older) branch

          with : (test : Bool) → (other == branch) ≡ test → IsCatalogEntry
              (record { tag = tag; moment = moment; deed = deeds.Checkin w d } ∷ older) name branch v
          with true here =
              let number : size older ≡ v = same_inside (sym (last_is ∙ ap
              (λ test. elim test [ true ↦ Some (size older) | false ↦ latest (tree older) branch None ]) here) ∙ is) in
              let own : other ≡ branch = same_number other branch here in
              let behind : branch < size older = on_low older (out older w d) branch (e ∙ ap Some own) in
              elim (alters branch name older (deeds.Checkin w d)) as (λ telling. alters branch name older (deeds.Checkin w d)
              ≡ telling → IsCatalogEntry (record { tag = tag; moment = moment; deed = deeds.Checkin w d } ∷ older) name branch
              v) [
                | true ↦ λ t. altered_itself name (record { tag = tag; moment = moment; deed = deeds.Checkin w d }) older branch
                    before v (sym number) behind t
                | false ↦ λ t. goes_on w d v fit (sym number) behind (e ∙ ap Some own) t
              ] refl
          with false here =
              let apart : is_number branch (Some other) ≡ false = grind (arith, nat_tests, here) in
              quiet name (record { tag = tag; moment = moment; deed = deeds.Checkin w d }) older branch before v
              (last_is ∙ ap (λ test. elim test [ true ↦ Some (size older) | false ↦ latest (tree older) branch None ]) here)
              (silent_on (Some other) e apart) is

  -- a row that makes a branch
  branches : (deed : Deed) (change : TreeChange) (v : ℕ) → tree (record { tag = tag; moment = moment; deed = deed } ∷ older)
      ≡ change ∷ tree older → row_of_change change ≡ size older → branch_of_change change ≡ size older
      → alters branch name older deed ≡ false → latest (tree (record { tag = tag; moment = moment; deed = deed } ∷ older)) branch
      None ≡ Some v → IsCatalogEntry (record { tag = tag; moment = moment; deed = deed } ∷ older) name branch v
  branches deed change v grown number own silent is = with (branch_of_change change == branch) refl
    where
      last_is : latest (tree (record { tag = tag; moment = moment; deed = deed } ∷ older)) branch None
          ≡ elim (branch_of_change change == branch) [
            | true ↦ Some (row_of_change change)
            | false ↦
                latest (tree older) branch None
          ]
      last_is = ap (λ changes. latest changes branch None) grown ∙ latest_more change (tree older) branch

      with : (test : Bool) → (branch_of_change change == branch) ≡ test
          → IsCatalogEntry (record { tag = tag; moment = moment; deed = deed } ∷ older) name branch v
      with true here =
          let at : row_of_change change ≡ v = same_inside (sym (last_is ∙ ap
          (λ test. elim test [ true ↦ Some (row_of_change change) | false ↦ latest (tree older) branch None ]) here) ∙ is) in
          made name (record { tag = tag; moment = moment; deed = deed }) older branch before v (sym at
          ∙ number) (sym (same_number (branch_of_change change) branch here) ∙ own)
      with false here =
          quiet name (record { tag = tag; moment = moment; deed = deed }) older branch before v
          (last_is ∙ ap (λ test. elim test [ true ↦ Some (row_of_change change) | false ↦ latest (tree older) branch None ]) here)
          silent is

  stored_next : (deed : Deed) (v : ℕ) → deed_fits older deed ≡ true → latest
      (tree (record { tag = tag; moment = moment; deed = deed } ∷ older)) branch None ≡ Some v
      → IsCatalogEntry (record { tag = tag; moment = moment; deed = deed } ∷ older) name branch v
  stored_next (deeds.Mkelem w d own kind taken) v fit is = branches (deeds.Mkelem w d own kind taken)
      (ElementMade (size older) moment kind) v refl refl refl refl is
  stored_next (deeds.Branch w e origin own taken) v fit is = branches (deeds.Branch w e origin own taken)
      (BranchMade (size older) moment e origin own) v refl refl refl refl is
  stored_next (deeds.Checkin w d) v fit is = checked_in w d v fit is
  stored_next deed v fit is = quiet name (record { tag = tag; moment = moment; deed = deed }) older branch before v refl refl is

-- The latest version of a branch has a name as the newest one has it that alters it, else as the row that made the branch.
pub kept : (name : List ℕ) (b : Base) → is_base b ≡ true → (branch v : ℕ) → latest (tree b) branch None ≡ Some v
    → IsCatalogEntry b name branch v
kept name [] base branch v is = by (0 == branch) refl (sym (latest_more (ElementMade 0 0 Directory) [] branch) ∙ is)
  where
    by : (test : Bool) → (0 == branch) ≡ test → elim test [ true ↦ Some 0 | false ↦ latest [] branch None ] ≡ Some v
        → IsCatalogEntry [] name branch v
    by true e h =
        let number : 0 ≡ v = same_inside h in
        let own : 0 ≡ branch = same_number 0 branch e in
        record { version = omega (arith, number); branch_below = omega (arith, number, own); same = refl }
    by false e h = absurd (cc)
kept name (row ∷ older) base branch v is =
    stored_next name older (rows_below row older base) branch (kept name older (rows_below row older base) branch) row.tag
    row.moment row.deed v (row_fits row older base) is

no_change_at : (older : Base) (v branch : ℕ) → size older ≤ v → branch_of_version (tree older) v ≡ Some branch → ⊥
no_change_at older v branch past is = by (change_at (tree older) v) refl is
  where
    by : (o : Option TreeChange) → change_at (tree older) v ≡ o → option_map branch_of_change o ≡ Some branch → ⊥
    by None found h = cc
    by (Some change) found h = omega (arith, past, (within older).numbers v change found)

-- the version of the newest row is the latest of its branch
latest_by_newest : (b : Base) (v branch : ℕ) → size b ≤ suc v → branch_of_version (tree b) v ≡ Some branch
    → latest (tree b) branch None ≡ Some v
latest_by_newest [] v branch past is = by (0 == v) refl is
  where
    by : (test : Bool) → (0 == v) ≡ test → option_map branch_of_change (cond test (Some (ElementMade 0 0 Directory)) None)
        ≡ Some branch → latest (ElementMade 0 0 Directory ∷ []) branch None ≡ Some v
    by true e h =
        let own : 0 ≡ branch = same_inside h in
        latest_more (ElementMade 0 0 Directory) [] branch ∙ ap (λ test. elim test [
          | true ↦ Some 0
          | false ↦
              latest [] branch None
        ]) ((Decides-eqb 0 branch).1 own) ∙ ap Some (same_number 0 v e)
    by false e h = absurd (cc)
latest_by_newest (row ∷ older) v branch past is = by (tree_change older row.moment row.deed) (tree_by_change row older)
  where
    by : (change : Option TreeChange) → tree (row ∷ older) ≡ with_change change (tree older)
        → latest (tree (row ∷ older)) branch None ≡ Some v
    by None grown = absurd (no_change_at older v branch (omega (arith, past))
        (sym (ap (λ changes. branch_of_version changes v) grown) ∙ is))
    by (Some change) grown = with (row_of_change change == v) refl (sym (ap (λ changes. branch_of_version changes v) grown) ∙ is)
      where
        with : (test : Bool) → (row_of_change change == v) ≡ test → option_map branch_of_change
            (cond test (Some change) (change_at (tree older) v)) ≡ Some branch → latest (tree (row ∷ older)) branch None ≡ Some v
        with true here h =
            let own : branch_of_change change ≡ branch = same_inside h in
            ap (λ changes. latest changes branch None) grown
            ∙ latest_more change (tree older) branch
            ∙ ap (λ test. elim test [ true ↦ Some (row_of_change change) | false ↦ latest (tree older) branch None ])
            ((Decides-eqb (branch_of_change change) branch).1 own)
            ∙ ap Some (same_number (row_of_change change) v here)
        with false here h = absurd (no_change_at older v branch (omega (arith, past)) h)

few_first : (b : Base) (t : ℕ) → size (first_rows (suc t) b) ≤ suc t
few_first [] t = omega arith
few_first (row ∷ older) t = by (nat_lt (size older) (suc t)) refl (few_first older t)
  where
    by : (is : Bool) → nat_lt (size older) (suc t) ≡ is → size (first_rows (suc t) older) ≤ suc t
        → size (elim is as (λ _. Base) [ true ↦ row ∷ older | false ↦ first_rows (suc t) older ]) ≤ suc t
    by true e before = grind (arith, nat_tests, e)
    by false e before = before

-- A name in the catalog of a version is as in that of the row of its branch that tells of the name, up to the version.
pub version_by_altering_row : (b : Base) → is_base b ≡ true → (name : List ℕ) (v branch : ℕ)
    → branch_of_version (tree b) v ≡ Some branch
    → element_named name (catalog_of b v) ≡ element_named name (catalog_of b
    (greater_of branch (altered_by branch name (first_rows (suc v) b))))
version_by_altering_row b base name v branch is =
    let first = first_rows (suc v) b in
    let there : branch_of_version (tree first) v ≡ Some branch =
    ap (λ changes. branch_of_version changes v) (sym (tree_of_first_rows b (suc v) (omega arith)))
    ∙ ap (option_map branch_of_change) (change_of_first (suc v) v (tree b) (omega arith)) ∙ is in
    let keeps = kept name first (fitting_first (suc v) b base) branch v (latest_by_newest first v branch (few_first b v) there) in
    let n = greater_of branch (altered_by branch name first) in
    let below : n < size first = low branch v (size first) (altered_by branch name first) keeps.branch_below keeps.version
    (altering_row_below branch name first) in
    ap (element_named name) (sym (catalog_of_first b (suc v) v keeps.version)) ∙ keeps.same
    ∙ ap (element_named name) (catalog_of_first b (suc v) n below)
