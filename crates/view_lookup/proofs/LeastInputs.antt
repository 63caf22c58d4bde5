-- The least path of an object's closure of which a test holds, by the entries of its record.
use Rattle.std.proofs.Common.{◌≡◌, refl, ap, sym, subst, ◌∙◌, ℕ, ◌<◌, Bool, true, false, cond, ◌==◌, Option}
use Rattle.std.proofs.Common.{Some, None, List, [], ◌∷◌, ◌++◌, length, drop, get_or, ◌+◌}
use Rattle.std.proofs.lemmas.Cmp.{nat_list_cmp_total}
use Rattle.std.proofs.lemmas.List.{at_drop_more}
use Rattle.std.specs.BTreeSet.{insert_key}
use Rattle.std.specs.Bool.{⊤}
use Rattle.std.specs.Cmp.{unsigned_tied}
use Rattle.std.specs.Cmp.Lexicographic.{slice_cmp}
use Rattle.std.specs.FinMap.Entries.{below_all, by_order, is_sorted, is_sorted-put, put}
use Rattle.std.specs.Option.{option_or}
use Rattle.std.specs.Ordering.{is_eq, is_lt, match_ordering, nat_cmp, ordering_reverse, ordering_then}
use Rattle.std.specs.Prelude.{IfSome, T}
use Rattle.std.specs.declared.cmp.Ordering.{Ordering}
use Rattle.std.specs.declared.cmp.Ordering.TheVariants.{Less, Equal, Greater}
use Rattle.cc_names.specs.declared.rows.ReadOf.{ReadOf}
use Rattle.cc_names.proofs.Common.{test_first, test_second, same_number}
use Rattle.base_model.specs.Closures.{Input, Inputs, closure, is_publish, joined_inputs, input_cmp, inputs_of}
use Rattle.base_model.specs.Closures.{inputs_of_entry}
use Rattle.base_model.specs.Fits.{is_base}
use Rattle.base_model.specs.Rows.{Base, only_where}
use Rattle.base_model.specs.Objects.{record_of}
use Rattle.base_model.proofs.Covered.{Keyed, closure_keyed, entries_keyed, entry_keyed, one_input, put_keyed, inputs_total}
use Rattle.view_lookup.specs.FirstInputs.{PathTest, first_among, first_input}
use Rattle.base_rows.proofs.RecordEntries.{closure_made}
use Rattle.view_lookup.specs.LeastInputs.{least_in, least_of, least_of_all, least_of_entries}
use Rattle.view_lookup.specs.LeastInputs.{least_of_entry, lesser, lower, path_if_passed}
use Rattle.view_lookup.proofs.LesserPaths.{lesser_join, lesser_swap, lesser_twice}

-- one input put in its place, each under its own row
one_put : (passes : PathTest) (s : Input) (row : ℕ) (inputs : Inputs) → row ≡ s.1 → Keyed inputs
    → least_in passes (put input_cmp s row inputs) ≡ lesser (path_if_passed passes s.0 row) (least_in passes inputs)
one_put passes s row [] own keyed = refl
one_put passes s row (input ∷ inputs) own keyed = by (input_cmp s input.0) refl (one_put passes s row inputs own keyed.1)
  where
    by : (o : Ordering) → input_cmp s input.0 ≡ o → least_in passes (put input_cmp s row inputs)
        ≡ lesser (path_if_passed passes s.0 row) (least_in passes inputs) →
        least_in passes (by_order o ((s, row) ∷ input ∷ inputs) ((input.0, row) ∷ inputs) (input ∷ put input_cmp s row inputs))
        ≡ lesser (path_if_passed passes s.0 row) (least_in passes (input ∷ inputs))
    by Less place before = refl
    by Equal place before =
        let one = one_input s input.0 (ap is_eq place) in
        let same : input.1 ≡ row = keyed.0 ∙ sym one.row ∙ sym own in
        let rest = least_in passes inputs in
        ap (λ path. lesser (path_if_passed passes path row) rest) (sym one.path)
        ∙ sym (lesser_twice (path_if_passed passes s.0 row) rest)
        ∙ ap (λ path. lesser (path_if_passed passes s.0 row) (lesser (path_if_passed passes path row) rest)) one.path
        ∙ ap (λ r. lesser (path_if_passed passes s.0 row) (lesser (path_if_passed passes input.0.0 r) rest)) (sym same)
    by Greater place before =
        ap (lesser (path_if_passed passes input.0.0 input.1)) before
        ∙ lesser_swap (path_if_passed passes input.0.0 input.1) (path_if_passed passes s.0 row) (least_in passes inputs)

-- inputs that are joined to others have the lesser of both
both_least : (passes : PathTest) (one others : Inputs) → Keyed one → Keyed others
    → least_in passes (joined_inputs one others) ≡ lesser (least_in passes one) (least_in passes others)
both_least passes [] others own keyed = refl
both_least passes (input ∷ one) others own keyed =
    both_least passes one (put input_cmp input.0 input.1 others) own.1 (put_keyed input.0 input.1 others own.0 keyed)
    ∙ ap (lesser (least_in passes one)) (one_put passes input.0 input.1 others own.0 keyed)
    ∙ lesser_swap (least_in passes one) (path_if_passed passes input.0.0 input.1) (least_in passes others)
    ∙ sym (lesser_join (path_if_passed passes input.0.0 input.1) (least_in passes one) (least_in passes others))

-- the inputs of entries have the least of them all
entries_least : (b : Base) (passes : PathTest) (entries : List ReadOf)
    → least_in passes (inputs_of b (closure b) entries) ≡ least_of_entries b passes entries
entries_least b passes [] = refl
entries_least b passes (entry ∷ entries) =
    both_least passes (inputs_of_entry (is_publish b entry.row) (closure b) entry) (inputs_of b (closure b) entries)
    (entry_keyed (is_publish b entry.row) (closure b) entry (closure_keyed b))
    (entries_keyed b (closure b) entries (closure_keyed b))
    ∙ ap (lesser (least_of_entry b passes entry)) (entries_least b passes entries)

-- what an object rests on has the least path of its entries
pub object_least : (b : Base) (passes : PathTest) (id : ℕ) → is_base b ≡ true
    → least_of b passes id ≡ least_of_entries b passes (record_of b id)
object_least b passes id base = ap (least_in passes) (closure_made b id base) ∙ entries_least b passes (record_of b id)

-- inputs whose paths are not below a path
abbrev NotBelow : List ℕ → Inputs → Type 0
NotBelow path [] = ⊤
NotBelow path (input ∷ inputs) = (is_lt (slice_cmp nat_cmp input.0.0 path) ≡ false) × NotBelow path inputs

lower_not_below : (path one two : List ℕ) → is_lt (slice_cmp nat_cmp one path) ≡ false
    → is_lt (slice_cmp nat_cmp two path) ≡ false → is_lt (slice_cmp nat_cmp (lower one two) path) ≡ false
lower_not_below path one two h g = by (is_lt (slice_cmp nat_cmp two one))
  where
    by : (t : Bool) → is_lt (slice_cmp nat_cmp (cond t two one) path) ≡ false
    by true = g
    by false = h

least_not_below : (passes : PathTest) (path : List ℕ) (inputs : Inputs) → NotBelow path inputs
    → IfSome (least_in passes inputs) (λ q. is_lt (slice_cmp nat_cmp q path) ≡ false)
least_not_below passes path [] h = tt
least_not_below passes path (input ∷ inputs) h = by (passes input.0.0 input.1) (least_in passes inputs)
    (least_not_below passes path inputs h.1)
  where
    by : (t : Bool) (rest : Option (List ℕ)) → IfSome rest (λ q. is_lt (slice_cmp nat_cmp q path) ≡ false)
        → IfSome (lesser (only_where t (Some input.0.0)) rest) (λ q. is_lt (slice_cmp nat_cmp q path) ≡ false)
    by false rest g = g
    by true None g = h.0
    by true (Some q) g = lower_not_below path input.0.0 q h.0 g

-- the path of an input after another is not below that one's
path_not_below : (one two : Input) → T (is_lt (input_cmp one two)) → is_lt (slice_cmp nat_cmp two.0 one.0) ≡ false
path_not_below one two low = by (slice_cmp nat_cmp one.0 two.0) refl low
  where
    turned : (o : Ordering) → slice_cmp nat_cmp one.0 two.0 ≡ o → slice_cmp nat_cmp two.0 one.0 ≡ ordering_reverse o
    turned o e = nat_list_cmp_total.antisymm two.0 one.0 ∙ ap ordering_reverse e

    by : (o : Ordering) → slice_cmp nat_cmp one.0 two.0 ≡ o → T (is_lt (ordering_then o (nat_cmp one.1 two.1)))
        → is_lt (slice_cmp nat_cmp two.0 one.0) ≡ false
    by Less e low = ap is_lt (turned Less e)
    by Equal e low = ap is_lt (turned Equal e)
    by Greater e low = absurd low

not_below_all : (s : Input) (inputs : Inputs) → T (below_all input_cmp s inputs) → NotBelow s.0 inputs
not_below_all s [] h = tt
not_below_all s (input ∷ inputs) h = (path_not_below s input.0 (test_first _ _ h), not_below_all s inputs (test_second _ _ h))

-- in order, the first path of which the test holds is the least
first_is_least : (passes : PathTest) (inputs : Inputs) → T (is_sorted input_cmp inputs)
    → first_among passes inputs ≡ least_in passes inputs
first_is_least passes [] sorted = refl
first_is_least passes (input ∷ inputs) sorted =
    ap (option_or (path_if_passed passes input.0.0 input.1)) (first_is_least passes inputs (test_second _ _ sorted))
    ∙ by (passes input.0.0 input.1) (least_in passes inputs) (least_not_below passes input.0.0 inputs
    (not_below_all input.0 inputs (test_first _ _ sorted)))
  where
    by : (t : Bool) (rest : Option (List ℕ)) → IfSome rest (λ q. is_lt (slice_cmp nat_cmp q input.0.0) ≡ false)
        → option_or (only_where t (Some input.0.0)) rest ≡ lesser (only_where t (Some input.0.0)) rest
    by false rest g = refl
    by true None g = refl
    by true (Some q) g = sym (ap (λ t. Some (cond t q input.0.0)) g)

joined_sorted : (one others : Inputs) → T (is_sorted input_cmp others) → T (is_sorted input_cmp (joined_inputs one others))
joined_sorted [] others h = h
joined_sorted (input ∷ one) others h = joined_sorted one (put input_cmp input.0 input.1 others)
    (is_sorted-put input_cmp inputs_total input.0 input.1 others h)

inputs_sorted : (b : Base) (of_object : ℕ → Inputs) (entries : List ReadOf)
    → T (is_sorted input_cmp (inputs_of b of_object entries))
inputs_sorted b of_object [] = tt
inputs_sorted b of_object (entry ∷ entries) = joined_sorted (inputs_of_entry (is_publish b entry.row) of_object entry)
    (inputs_of b of_object entries) (inputs_sorted b of_object entries)

-- the first path is the least
pub first_least : (b : Base) (passes : PathTest) (id : ℕ) → is_base b ≡ true → first_input b passes id ≡ least_of b passes id
first_least b passes id base =
    first_is_least passes (closure b id) (subst (λ (inputs : Inputs). T (is_sorted input_cmp inputs))
    (sym (closure_made b id base)) (inputs_sorted b (closure b) (record_of b id)))

-- one object more is left
pub one_left : (b : Base) (passes : PathTest) (ids : List ℕ) (id : ℕ) → least_of_all b passes (insert_key nat_cmp ids id)
    ≡ lesser (least_of b passes id) (least_of_all b passes ids)
one_left b passes [] id = refl
one_left b passes (first ∷ ids) id = by (nat_cmp id first) refl (one_left b passes ids id)
  where
    by : (o : Ordering) → nat_cmp id first ≡ o → least_of_all b passes (insert_key nat_cmp ids id)
        ≡ lesser (least_of b passes id) (least_of_all b passes ids) →
        least_of_all b passes (match_ordering o (id ∷ first ∷ ids) (first ∷ ids) (first ∷ insert_key nat_cmp ids id))
        ≡ lesser (least_of b passes id) (least_of_all b passes (first ∷ ids))
    by Less e rest = refl
    by Equal e rest =
        sym (lesser_twice (least_of b passes first) (least_of_all b passes ids))
        ∙ ap (λ n. lesser (least_of b passes n) (least_of_all b passes (first ∷ ids))) (sym (same_number id first (tied e)))
      where
        tied : nat_cmp id first ≡ Equal → (id == first) ≡ true
        tied e = sym (unsigned_tied id first) ∙ ap is_eq e
    by Greater e rest = ap (lesser (least_of b passes first)) rest ∙ lesser_swap (least_of b passes first) (least_of b passes id)
        (least_of_all b passes ids)

-- the last object that was left
pub last_left : (b : Base) (passes : PathTest) (ids : List ℕ) (id : ℕ)
    → least_of_all b passes (ids ++ id ∷ []) ≡ lesser (least_of b passes id) (least_of_all b passes ids)
last_left b passes [] id = refl
last_left b passes (first ∷ ids) id = ap (lesser (least_of b passes first)) (last_left b passes ids id)
    ∙ lesser_swap (least_of b passes first) (least_of b passes id) (least_of_all b passes ids)

-- an entry that names an object, which is left then
pub entry_object : (b : Base) (passes : PathTest) (least : Option (List ℕ)) (entry : ReadOf) (old new : List ℕ)
    → is_publish b entry.row ≡ true → new ≡ insert_key nat_cmp old entry.row →
    lesser least (least_of_all b passes new) ≡ lesser (least_of_entry b passes entry) (lesser least (least_of_all b passes old))
entry_object b passes least entry old new object more =
    ap (λ (ids : List ℕ). lesser least (least_of_all b passes ids)) more
    ∙ ap (lesser least) (one_left b passes old entry.row)
    ∙ lesser_swap least (least_of b passes entry.row) (least_of_all b passes old)
    ∙ sym (ap (λ t. lesser (least_in passes (inputs_of_entry t (closure b) entry)) (lesser least (least_of_all b passes old)))
    object)

-- an entry of which the test holds
pub entry_passed : (b : Base) (passes : PathTest) (entry : ReadOf) (least found rest : Option (List ℕ))
    → is_publish b entry.row ≡ false → passes entry.path entry.row ≡ true → found ≡ lesser (Some entry.path) least →
    lesser found rest ≡ lesser (least_of_entry b passes entry) (lesser least rest)
entry_passed b passes entry least found rest other holds is =
    ap (λ (p : Option (List ℕ)). lesser p rest) is
    ∙ lesser_join (Some entry.path) least rest
    ∙ sym (ap (λ t. lesser (least_in passes (inputs_of_entry t (closure b) entry)) (lesser least rest)) other
    ∙ ap (λ t. lesser (lesser (only_where t (Some entry.path)) None) (lesser least rest)) holds)

-- one entry after the other is added
pub entry_taken : (b : Base) (passes : PathTest) (entry : ReadOf) (entries : List ReadOf) (old new all : Option (List ℕ))
    → new ≡ lesser (least_of_entry b passes entry) old → lesser (least_of_entries b passes (entry ∷ entries)) old ≡ all →
    lesser (least_of_entries b passes entries) new ≡ all
entry_taken b passes entry entries old new all taken before =
    ap (lesser (least_of_entries b passes entries)) taken
    ∙ lesser_swap (least_of_entries b passes entries) (least_of_entry b passes entry) old
    ∙ sym (lesser_join (least_of_entry b passes entry) (least_of_entries b passes entries) old)
    ∙ before

-- the object that was taken from those that are left, and its entries in its place
pub object_taken : (b : Base) (passes : PathTest) (id : ℕ) (old new more : List ℕ) (entries : List ReadOf)
    (least found all : Option (List ℕ)) → is_base b ≡ true → old ≡ new ++ id ∷ [] → entries ≡ record_of b id →
    lesser found (least_of_all b passes more) ≡ lesser (least_of_entries b passes entries)
    (lesser least (least_of_all b passes new)) → lesser least (least_of_all b passes old) ≡ all
    → lesser found (least_of_all b passes more) ≡ all
object_taken b passes id old new more entries least found all base left recorded taken before =
    taken
    ∙ ap (λ (es : List ReadOf). lesser (least_of_entries b passes es) (lesser least (least_of_all b passes new))) recorded
    ∙ ap (λ (p : Option (List ℕ)). lesser p (lesser least (least_of_all b passes new))) (sym (object_least b passes id base))
    ∙ lesser_swap (least_of b passes id) least (least_of_all b passes new)
    ∙ ap (lesser least) (sym (last_left b passes new id))
    ∙ ap (λ (ids : List ℕ). lesser least (least_of_all b passes ids)) (sym left)
    ∙ before

-- the entries that are left begin with this one
pub entries_left : (b : Base) (passes : PathTest) (entries : List ReadOf) (i : ℕ) (entry : ReadOf) (old all : Option (List ℕ))
    → i < length entries → entry ≡ get_or entries i entry → lesser (least_of_entries b passes (drop i entries)) old ≡ all →
    lesser (least_of_entries b passes (entry ∷ drop (i + 1) entries)) old ≡ all
entries_left b passes entries i entry old all within at before =
    ap (λ (e : ReadOf). lesser (least_of_entries b passes (e ∷ drop (i + 1) entries)) old) at
    ∙ sym (at_drop_more (λ (left : List ReadOf). lesser (least_of_entries b passes left) old) entries i entry within)
    ∙ before
