-- The entries of a record: they name rows below its object, and what it rests on is what they stand for.
use Rattle.std.proofs.Common.{◌≡◌, refl, ap, sym, subst, ◌∙◌, ℕ, suc, ◌<◌, ◌≤◌, Bool, true, false, ◌==◌, max}
use Rattle.std.proofs.Common.{Some, List, [], ◌∷◌, ◌++◌, length, drop, get_or, ◌+◌, arith}
use Rattle.std.proofs.lemmas.Bool.Decides.{nat_tests}
use Rattle.std.proofs.lemmas.Cmp.{ranked}
use Rattle.std.proofs.lemmas.List.Elements.{recursion_from_All}
use Rattle.std.proofs.lemmas.List.{at_drop_more}
use Rattle.std.specs.BTreeSet.{insert_key}
use Rattle.std.specs.Bool.{⊤}
use Rattle.std.specs.List.{All, AllByRecursion, list_all}
use Rattle.std.specs.Ordering.{match_ordering, nat_cmp}
use Rattle.std.specs.declared.cmp.Ordering.{Ordering}
use Rattle.std.specs.declared.cmp.Ordering.TheVariants.{Less, Equal, Greater}
use Rattle.cc_names.specs.Formed.{Plain}
use Rattle.cc_names.specs.declared.rows.ReadOf.{ReadOf}
use Rattle.cc_names.proofs.Common.{and_first, and_second, same_number}
use Rattle.base_model.specs.Closures.{Inputs, closure, entries_of_deed, is_publish, joined_inputs, inputs_of, inputs_of_entry}
use Rattle.base_model.specs.Conditions.{is_entry}
use Rattle.base_model.specs.Fits.{is_base}
use Rattle.base_model.specs.Rows.{Base, size}
use Rattle.base_model.specs.Objects.{record_of}
use Rattle.base_model.proofs.Owned.{row_fits, rows_below}
use Rattle.base_model.proofs.EntriesBelow.{entry_below, entries_fit}
use Rattle.base_rows.specs.ObjectWalks.{above, above_entries}

-- entries that name rows below a number
abbrev AreBelow : ℕ → List ReadOf → Type 0
AreBelow n [] = ⊤
AreBelow n (entry ∷ entries) = (entry.row < n) × AreBelow n entries

entries_below : (b : Base) (entries : List ReadOf) → list_all (is_entry b) entries ≡ true → AreBelow (size b) entries
entries_below b [] fit = tt
entries_below b (entry ∷ entries) fit = (
  entry_below b entry (and_first (is_entry b entry) (list_all (is_entry b) entries) fit),
  entries_below b entries (and_second (is_entry b entry) (list_all (is_entry b) entries) fit),
)

below_wider : (n m : ℕ) (entries : List ReadOf) → n ≤ m → AreBelow n entries → AreBelow m entries
below_wider n m [] wide h = tt
below_wider n m (entry ∷ entries) wide h = let low = h.0 in (omega arith, below_wider n m entries wide h.1)

-- the entries of a record are below its object
record_below : (b : Base) (id : ℕ) → is_base b ≡ true → AreBelow id (record_of b id)
record_below [] id base = tt
record_below (row ∷ older) id base = by (size older == id) refl (record_below older id (rows_below row older base))
  where
    by : (t : Bool) → (size older == id) ≡ t → AreBelow id (record_of older id) → AreBelow id (record_of (row ∷ older) id)
    by true here rest =
        subst (λ (entries : List ReadOf). AreBelow id entries) (sym (newest here))
        (subst (λ n. AreBelow n (entries_of_deed (Some row.deed))) (same_number (size older) id here)
        (entries_below older (entries_of_deed (Some row.deed)) (entries_fit older row.deed (row_fits row older base))))
      where
        newest : (size older == id) ≡ true → record_of (row ∷ older) id ≡ entries_of_deed (Some row.deed)
        newest here = grind (arith, nat_tests)
    by false apart rest = subst (λ (entries : List ReadOf). AreBelow id entries) (sym (older_one apart)) rest
      where
        older_one : (size older == id) ≡ false → record_of (row ∷ older) id ≡ record_of older id
        older_one apart = grind (arith, nat_tests)

-- inputs that rows below a row have stay
older_closure : (row : Plain) (older : Base) (id : ℕ) → id < size older → closure (row ∷ older) id ≡ closure older id
older_closure row older id low = grind (arith, nat_tests)

older_publish : (row : Plain) (older : Base) (id : ℕ) → id < size older → is_publish (row ∷ older) id ≡ is_publish older id
older_publish row older id low = grind (arith, nat_tests)

same_entry : (row : Plain) (older : Base) (entry : ReadOf) → entry.row < size older → (t : Bool)
    → inputs_of_entry t (closure (row ∷ older)) entry ≡ inputs_of_entry t (closure older) entry
same_entry row older entry low true = older_closure row older entry.row low
same_entry row older entry low false = refl

inputs_stay : (row : Plain) (older : Base) (entries : List ReadOf) → AreBelow (size older) entries
    → inputs_of (row ∷ older) (closure (row ∷ older)) entries ≡ inputs_of older (closure older) entries
inputs_stay row older [] low = refl
inputs_stay row older (entry ∷ entries) low =
    ap (λ t. joined_inputs (inputs_of_entry t (closure (row ∷ older)) entry)
    (inputs_of (row ∷ older) (closure (row ∷ older)) entries)) (older_publish row older entry.row low.0)
    ∙ ap (λ (own : Inputs). joined_inputs own (inputs_of (row ∷ older) (closure (row ∷ older)) entries))
    (same_entry row older entry low.0 (is_publish older entry.row))
    ∙ ap (joined_inputs (inputs_of_entry (is_publish older entry.row) (closure older) entry))
    (inputs_stay row older entries low.1)

-- the entries of a record are below the base
record_within : (b : Base) (id : ℕ) → is_base b ≡ true → AreBelow (size b) (record_of b id)
record_within [] id base = tt
record_within (row ∷ older) id base = by (size older == id) refl (record_within older id (rows_below row older base))
  where
    by : (t : Bool) → (size older == id) ≡ t → AreBelow (size older) (record_of older id)
        → AreBelow (suc (size older)) (record_of (row ∷ older) id)
    by true here rest =
        let recorded : record_of (row ∷ older) id ≡ entries_of_deed (Some row.deed) = grind (arith, nat_tests) in
        subst (λ (entries : List ReadOf). AreBelow (suc (size older)) entries) (sym recorded)
        (below_wider (size older) (suc (size older)) (entries_of_deed (Some row.deed)) (omega arith)
        (entries_below older (entries_of_deed (Some row.deed)) (entries_fit older row.deed (row_fits row older base))))
    by false apart rest =
        let recorded : record_of (row ∷ older) id ≡ record_of older id = grind (arith, nat_tests) in
        subst (λ (entries : List ReadOf). AreBelow (suc (size older)) entries) (sym recorded)
        (below_wider (size older) (suc (size older)) (record_of older id) (omega arith) rest)

-- the closure of an object, by its entries in the whole base
pub closure_made : (b : Base) (id : ℕ) → is_base b ≡ true → closure b id ≡ inputs_of b (closure b) (record_of b id)
closure_made [] id base = refl
closure_made (row ∷ older) id base = by (size older == id) refl (closure_made older id (rows_below row older base))
  where
    by : (t : Bool) → (size older == id) ≡ t → closure older id ≡ inputs_of older (closure older) (record_of older id)
        → closure (row ∷ older) id ≡ inputs_of (row ∷ older) (closure (row ∷ older)) (record_of (row ∷ older) id)
    by true here rest =
        let entries = entries_of_deed (Some row.deed) in
        let closed : closure (row ∷ older) id ≡ inputs_of older (closure older) entries = grind (arith, nat_tests) in
        let recorded : record_of (row ∷ older) id ≡ entries = grind (arith, nat_tests) in
        closed
        ∙ sym (inputs_stay row older entries (entries_below older entries (entries_fit older row.deed (row_fits row older base))))
        ∙ ap (inputs_of (row ∷ older) (closure (row ∷ older))) (sym recorded)
    by false apart rest =
        let closed : closure (row ∷ older) id ≡ closure older id = grind (arith, nat_tests) in
        let recorded : record_of (row ∷ older) id ≡ record_of older id = grind (arith, nat_tests) in
        closed ∙ rest
        ∙ sym (inputs_stay row older (record_of older id) (record_within older id (rows_below row older base)))
        ∙ ap (inputs_of (row ∷ older) (closure (row ∷ older))) (sym recorded)

above_below : (n : ℕ) (entries : List ReadOf) → AreBelow n entries → above_entries entries ≤ n
above_below n [] h = omega arith
above_below n (entry ∷ entries) h = let rest = above_below n entries h.1 in let low = h.0 in grind arith

-- the entries of a record name rows below the object
pub record_above : (b : Base) (id : ℕ) → is_base b ≡ true → above_entries (record_of b id) ≤ id
record_above b id base = above_below id (record_of b id) (record_below b id base)

-- one object more is left
pub one_above : (ids : List ℕ) (id : ℕ) → above (insert_key nat_cmp ids id) ≤ max (suc id) (above ids)
one_above [] id = omega arith
one_above (first ∷ ids) id = by (nat_cmp id first) (one_above ids id)
  where
    by : (o : Ordering) → above (insert_key nat_cmp ids id) ≤ max (suc id) (above ids)
        → above (match_ordering o (id ∷ first ∷ ids) (first ∷ ids) (first ∷ insert_key nat_cmp ids id))
        ≤ max (suc id) (above (first ∷ ids))
    by Less rest = omega arith
    by Equal rest = omega arith
    by Greater rest = omega arith

-- the last object that was left
pub last_above : (ids : List ℕ) (id : ℕ) → id < above (ids ++ id ∷ [])
last_above [] id = omega arith
last_above (first ∷ ids) id = let rest = last_above ids id in omega arith

rising_above : (ids : List ℕ) (id : ℕ) → AllByRecursion (λ n. nat_cmp n id ≡ Less) ids → above ids ≤ id
rising_above [] id h = omega arith
rising_above (n ∷ ids) id h = let low : n < id = ranked n id Less (sym h.0) in let rest = rising_above ids id h.1 in omega arith

pub all_above : (ids : List ℕ) (id : ℕ) → All (λ n. nat_cmp n id ≡ Less) ids → above ids ≤ id
all_above ids id h = rising_above ids id (recursion_from_All (λ n. nat_cmp n id ≡ Less) ids h)

-- what is left lies lower with each object that is taken
pub walk_falls : (b : Base) (id : ℕ) (old new more : List ℕ) (entries : List ReadOf) → is_base b ≡ true → old ≡ new ++ id ∷ []
    → All (λ n. nat_cmp n id ≡ Less) new → entries ≡ record_of b id →
    above more ≤ max (above_entries entries) (above new) → above more < above old
walk_falls b id old new more entries base left below recorded taken =
    let low : above_entries entries ≤ id = subst (λ (es : List ReadOf). above_entries es ≤ id) (sym recorded)
    (record_above b id base) in
    let under = all_above new id below in
    let last : id < above old = subst (λ (ids : List ℕ). id < above ids) (sym left) (last_above new id) in
    omega arith

-- one entry more is below the same number
pub entries_above : (entries : List ReadOf) (i : ℕ) (entry : ReadOf) (old new all : ℕ) → i < length entries
    → entry ≡ get_or entries i entry → new ≤ max (suc entry.row) old → max (above_entries (drop i entries)) old ≤ all →
    max (above_entries (drop (i + 1) entries)) new ≤ all
entries_above entries i entry old new all within at low before =
    let same : above_entries (drop i entries) ≡ max (suc entry.row) (above_entries (drop (i + 1) entries)) =
    at_drop_more above_entries entries i entry within ∙ ap (λ (e : ReadOf). max (suc e.row)
    (above_entries (drop (i + 1) entries))) (sym at) in
    omega arith

-- an entry of a list is below what is above all of them
pub entry_low : (entries : List ReadOf) (i : ℕ) (entry : ReadOf) (n : ℕ) → i < length entries → entry ≡ get_or entries i entry
    → above_entries (drop i entries) ≤ n → entry.row < n
entry_low entries i entry n within at low =
    let same : above_entries (drop i entries) ≡ max (suc entry.row) (above_entries (drop (i + 1) entries)) =
    at_drop_more above_entries entries i entry within ∙ ap (λ (e : ReadOf). max (suc e.row)
    (above_entries (drop (i + 1) entries))) (sym at) in
    omega arith

-- and the others are below it too
pub others_low : (entries : List ReadOf) (i : ℕ) (entry : ReadOf) (n : ℕ) → i < length entries → entry ≡ get_or entries i entry
    → above_entries (drop i entries) ≤ n → above_entries (drop (i + 1) entries) ≤ n
others_low entries i entry n within at low =
    let same : above_entries (drop i entries) ≡ max (suc entry.row) (above_entries (drop (i + 1) entries)) =
    at_drop_more above_entries entries i entry within ∙ ap (λ (e : ReadOf). max (suc e.row)
    (above_entries (drop (i + 1) entries))) (sym at) in
    omega arith
