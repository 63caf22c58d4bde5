-- What the record of an object lists, walked object by object: with those that are left it is always the same.
use Rattle.std.proofs.Common.{◌≡◌, refl, ap, sym, ◌∙◌, ℕ, true, false, ◌==◌, Option, List, [], ◌∷◌, ◌++◌}
use Rattle.std.specs.BTreeSet.{insert_key}
use Rattle.std.specs.Cmp.{unsigned_tied}
use Rattle.std.specs.FinMap.Entries.{find}
use Rattle.std.specs.Ordering.{is_eq, match_ordering, nat_cmp}
use Rattle.std.specs.declared.cmp.Ordering.{Ordering}
use Rattle.std.specs.declared.cmp.Ordering.TheVariants.{Less, Equal, Greater}
use Rattle.cc_names.specs.declared.rows.ReadOf.{ReadOf}
use Rattle.cc_names.proofs.Common.{same_number}
use Rattle.base_model.specs.Closures.{closure, inputs_of_entry, is_publish, listing, listing_of, inputs_of}
use Rattle.base_model.specs.Fits.{is_base}
use Rattle.base_model.specs.Objects.{record_of}
use Rattle.base_model.specs.Rows.{Base}
use Rattle.base_rows.specs.Listings.{greater, greatest_of, greatest_of_all, greatest_of_entries, greatest_of_entry}
use Rattle.base_rows.proofs.JoinedListings.{greater_join, greater_swap, greater_twice}
use Rattle.base_rows.proofs.RecordEntries.{closure_made}

-- what an object lists, by the entries of its record
pub listing_by_record : (b : Base) (id : ℕ) → is_base b ≡ true
    → listing b id ≡ listing_of b (inputs_of b (closure b) (record_of b id))
listing_by_record b id base = ap (listing_of b) (closure_made b id base)

pub greatest_by_record : (b : Base) (e id : ℕ) → is_base b ≡ true → greatest_of b e id ≡ greatest_of_entries b e (record_of b id)
greatest_by_record b e id base = ap (find nat_cmp e) (listing_by_record b id base)

-- one object more is left
one_left : (b : Base) (e : ℕ) (ids : List ℕ) (id : ℕ)
    → greatest_of_all b e (insert_key nat_cmp ids id) ≡ greater (greatest_of b e id) (greatest_of_all b e ids)
one_left b e [] id = refl
one_left b e (first ∷ ids) id = by (nat_cmp id first) refl (one_left b e ids id)
  where
    by : (o : Ordering) → nat_cmp id first ≡ o
        → greatest_of_all b e (insert_key nat_cmp ids id) ≡ greater (greatest_of b e id) (greatest_of_all b e ids) →
        greatest_of_all b e (match_ordering o (id ∷ first ∷ ids) (first ∷ ids) (first ∷ insert_key nat_cmp ids id))
        ≡ greater (greatest_of b e id) (greatest_of_all b e (first ∷ ids))
    by Less o rest = refl
    by Equal o rest =
        sym (greater_twice (greatest_of b e first) (greatest_of_all b e ids))
        ∙ ap (λ n. greater (greatest_of b e n) (greatest_of_all b e (first ∷ ids))) (sym (same_number id first (tied o)))
      where
        tied : nat_cmp id first ≡ Equal → (id == first) ≡ true
        tied o = sym (unsigned_tied id first) ∙ ap is_eq o
    by Greater o rest = ap (greater (greatest_of b e first)) rest ∙ greater_swap (greatest_of b e first) (greatest_of b e id)
        (greatest_of_all b e ids)

-- the last object that was left
last_left : (b : Base) (e : ℕ) (ids : List ℕ) (id : ℕ)
    → greatest_of_all b e (ids ++ id ∷ []) ≡ greater (greatest_of b e id) (greatest_of_all b e ids)
last_left b e [] id = refl
last_left b e (first ∷ ids) id = ap (greater (greatest_of b e first)) (last_left b e ids id)
    ∙ greater_swap (greatest_of b e first) (greatest_of b e id) (greatest_of_all b e ids)

-- an entry that names an object, which is left then
pub entry_object : (b : Base) (e : ℕ) (found : Option ℕ) (entry : ReadOf) (old new : List ℕ)
    → is_publish b entry.row ≡ true → new ≡ insert_key nat_cmp old entry.row →
    greater found (greatest_of_all b e new) ≡ greater (greatest_of_entry b e entry) (greater found (greatest_of_all b e old))
entry_object b e found entry old new object more =
    ap (λ (ids : List ℕ). greater found (greatest_of_all b e ids)) more
    ∙ ap (greater found) (one_left b e old entry.row)
    ∙ greater_swap found (greatest_of b e entry.row) (greatest_of_all b e old)
    ∙ sym (ap (λ t. greater (find nat_cmp e (listing_of b (inputs_of_entry t (closure b) entry)))
    (greater found (greatest_of_all b e old))) object)

-- an entry whose row may have made a version
pub entry_version : (b : Base) (e : ℕ) (entry : ReadOf) (found new rest : Option ℕ) → is_publish b entry.row ≡ false
    → new ≡ greater (find nat_cmp e (listing_of b (((entry.path, entry.row), entry.row) ∷ []))) found →
    greater new rest ≡ greater (greatest_of_entry b e entry) (greater found rest)
entry_version b e entry found new rest other put =
    ap (λ one. greater one rest) put
    ∙ greater_join (find nat_cmp e (listing_of b (((entry.path, entry.row), entry.row) ∷ []))) found rest
    ∙ sym (ap (λ t. greater (find nat_cmp e (listing_of b (inputs_of_entry t (closure b) entry))) (greater found rest)) other)

-- the object that was taken from those that are left, and its entries in its place
pub object_taken : (b : Base) (e id : ℕ) (old new more : List ℕ) (entries : List ReadOf) (versions found all : Option ℕ)
    → is_base b ≡ true → old ≡ new ++ id ∷ [] → entries ≡ record_of b id →
    greater found (greatest_of_all b e more) ≡ greater (greatest_of_entries b e entries)
    (greater versions (greatest_of_all b e new)) → greater versions (greatest_of_all b e old) ≡ all
    → greater found (greatest_of_all b e more) ≡ all
object_taken b e id old new more entries versions found all base left recorded taken before =
    taken
    ∙ ap (λ (es : List ReadOf). greater (greatest_of_entries b e es) (greater versions (greatest_of_all b e new))) recorded
    ∙ ap (λ one. greater one (greater versions (greatest_of_all b e new))) (sym (greatest_by_record b e id base))
    ∙ greater_swap (greatest_of b e id) versions (greatest_of_all b e new)
    ∙ ap (greater versions) (sym (last_left b e new id))
    ∙ ap (λ (ids : List ℕ). greater versions (greatest_of_all b e ids)) (sym left)
    ∙ before
