-- What inputs list that are joined to others: of each element the greater version.
use Rattle.std.proofs.Common.{◌≡◌, refl, ap, sym, ◌∙◌, ℕ, Bool, true, false, cond, ◌==◌, max, Option, Some, None, List, [], ◌∷◌}
use Rattle.std.proofs.Common.{arith}
use Rattle.std.proofs.lemmas.Bool.Decides.{nat_tests, Decides-eqb}
use Rattle.std.specs.Cmp.{unsigned_tied}
use Rattle.std.specs.FinMap.Entries.{by_order, find, put}
use Rattle.std.specs.Ordering.{is_eq, nat_cmp}
use Rattle.std.specs.declared.cmp.Ordering.{Ordering}
use Rattle.std.specs.declared.cmp.Ordering.TheVariants.{Less, Equal, Greater}
use Rattle.cc_names.specs.declared.changes.VersionId.{VersionId}
use Rattle.cc_names.specs.declared.rows.ReadOf.{ReadOf}
use Rattle.base_model.specs.Closures.{Listing, Input, Inputs, closure, greater_of, is_publish, joined_inputs, listing_of}
use Rattle.base_model.specs.Closures.{input_cmp, inputs_of, inputs_of_entry, version_listed, with_version_at}
use Rattle.base_model.specs.Rows.{Base, only_where}
use Rattle.base_model.proofs.Covered.{Keyed, closure_keyed, entries_keyed, entry_keyed, one_input, put_keyed}
use Rattle.base_model.proofs.Tables.{find_after_put}
use Rattle.base_rows.specs.Listings.{greater, own_version, version_at}

-- the greater of versions, in any order and each once
pub greater_none : (a : Option ℕ) → greater a None ≡ a
greater_none None = refl
greater_none (Some m) = refl

pub greater_swap : (a b c : Option ℕ) → greater a (greater b c) ≡ greater b (greater a c)
greater_swap None b c = refl
greater_swap (Some m) None c = refl
greater_swap (Some m) (Some n) None = let same : max m n ≡ max n m = grind arith in ap Some same
greater_swap (Some m) (Some n) (Some k) = let same : max m (max n k) ≡ max n (max m k) = grind arith in ap Some same

pub greater_join : (a b c : Option ℕ) → greater (greater a b) c ≡ greater a (greater b c)
greater_join None b c = refl
greater_join (Some m) None c = refl
greater_join (Some m) (Some n) None = refl
greater_join (Some m) (Some n) (Some k) = let same : max (max m n) k ≡ max m (max n k) = grind arith in ap Some same

pub greater_twice : (a b : Option ℕ) → greater a (greater a b) ≡ greater a b
greater_twice None b = refl
greater_twice (Some m) None = let same : max m m ≡ m = grind arith in ap Some same
greater_twice (Some m) (Some n) = let same : max m (max m n) ≡ max m n = grind arith in ap Some same

by_element : (old : ℕ → Option ℕ) (e row element : ℕ) (t : Bool) → (e == element) ≡ t
    → cond t (Some (greater_of row (old element))) (old e) ≡ greater (only_where t (Some row)) (old e)
by_element old e row element true same =
    let number : e ≡ element = (Decides-eqb e element).0 same in
    ap (λ n. Some (greater_of row (old n))) (sym number)
by_element old e row element false same = refl

-- versions with one more, as a map has them
pub one_put_in : (old : ℕ → Option ℕ) (e row element : ℕ) → cond (is_eq (nat_cmp element e)) (Some (greater_of row (old element)))
    (old e) ≡ greater (only_where (e == element) (Some row)) (old e)
one_put_in old e row element =
    let flipped : (element == e) ≡ (e == element) = grind (arith, nat_tests) in
    ap (λ t. cond t (Some (greater_of row (old element))) (old e)) (unsigned_tied element e ∙ flipped)
    ∙ by_element old e row element (e == element) refl

-- a listing with one version more
with_one : (e row : ℕ) (version_id : Option VersionId) (listing : Listing)
    → find nat_cmp e (with_version_at row version_id listing) ≡ greater (version_at e row version_id) (find nat_cmp e listing)
with_one e row None listing = refl
with_one e row (Some version_id) listing =
    find_after_put e version_id.element (greater_of row (find nat_cmp version_id.element listing)) listing
    ∙ by_element (λ n. find nat_cmp n listing) e row version_id.element (e == version_id.element) refl

-- one input more
pub one_more : (b : Base) (e : ℕ) (input : Input × ℕ) (inputs : Inputs)
    → find nat_cmp e (listing_of b (input ∷ inputs)) ≡ greater (own_version b e input.1) (find nat_cmp e (listing_of b inputs))
one_more b e input inputs = with_one e input.1 (version_listed b input.1) (listing_of b inputs)

pub one_alone : (b : Base) (e : ℕ) (input : Input × ℕ) → find nat_cmp e (listing_of b (input ∷ [])) ≡ own_version b e input.1
one_alone b e input = one_more b e input [] ∙ greater_none (own_version b e input.1)

-- one input put in its place, each under its own row
one_put : (b : Base) (e : ℕ) (s : Input) (row : ℕ) (inputs : Inputs) → row ≡ s.1 → Keyed inputs →
    find nat_cmp e (listing_of b (put input_cmp s row inputs)) ≡ greater (own_version b e row)
    (find nat_cmp e (listing_of b inputs))
one_put b e s row [] own keyed = one_more b e (s, row) []
one_put b e s row (input ∷ inputs) own keyed = by (input_cmp s input.0) refl (one_put b e s row inputs own keyed.1)
  where
    by : (o : Ordering) → input_cmp s input.0 ≡ o →
        find nat_cmp e (listing_of b (put input_cmp s row inputs)) ≡ greater (own_version b e row)
        (find nat_cmp e (listing_of b inputs)) →
        find nat_cmp e (listing_of b (by_order o ((s, row) ∷ input ∷ inputs) ((input.0, row) ∷ inputs)
        (input ∷ put input_cmp s row inputs))) ≡ greater (own_version b e row)
        (find nat_cmp e (listing_of b (input ∷ inputs)))
    by Less place before = one_more b e (s, row) (input ∷ inputs)
    by Equal place before =
        let same : input.1 ≡ row = keyed.0 ∙ sym (one_input s input.0 (ap is_eq place)).row ∙ sym own in
        one_more b e (input.0, row) inputs
        ∙ sym (greater_twice (own_version b e row) (find nat_cmp e (listing_of b inputs)))
        ∙ ap (λ n. greater (own_version b e row) (greater (own_version b e n) (find nat_cmp e (listing_of b inputs)))) (sym same)
        ∙ ap (greater (own_version b e row)) (sym (one_more b e input inputs))
    by Greater place before =
        one_more b e input (put input_cmp s row inputs)
        ∙ ap (greater (own_version b e input.1)) before
        ∙ greater_swap (own_version b e input.1) (own_version b e row) (find nat_cmp e (listing_of b inputs))
        ∙ ap (greater (own_version b e row)) (sym (one_more b e input inputs))

-- Inputs that are joined to others list of each element the greater version of both.
pub both_list : (b : Base) (e : ℕ) (one others : Inputs) → Keyed one → Keyed others →
    find nat_cmp e (listing_of b (joined_inputs one others)) ≡ greater (find nat_cmp e (listing_of b one))
    (find nat_cmp e (listing_of b others))
both_list b e [] others own keyed = refl
both_list b e (input ∷ one) others own keyed =
    both_list b e one (put input_cmp input.0 input.1 others) own.1 (put_keyed input.0 input.1 others own.0 keyed)
    ∙ ap (greater (find nat_cmp e (listing_of b one))) (one_put b e input.0 input.1 others own.0 keyed)
    ∙ greater_swap (find nat_cmp e (listing_of b one)) (own_version b e input.1) (find nat_cmp e (listing_of b others))
    ∙ sym (greater_join (own_version b e input.1) (find nat_cmp e (listing_of b one)) (find nat_cmp e (listing_of b others)))
    ∙ ap (λ first. greater first (find nat_cmp e (listing_of b others))) (sym (one_more b e input one))

-- what the first entry of a record stands for, and the others
pub first_entry : (b : Base) (e : ℕ) (entry : ReadOf) (entries : List ReadOf)
    → find nat_cmp e (listing_of b (inputs_of b (closure b) (entry ∷ entries))) ≡
    greater (find nat_cmp e (listing_of b (inputs_of_entry (is_publish b entry.row) (closure b) entry)))
    (find nat_cmp e (listing_of b (inputs_of b (closure b) entries)))
first_entry b e entry entries =
    both_list b e (inputs_of_entry (is_publish b entry.row) (closure b) entry) (inputs_of b (closure b) entries)
    (entry_keyed (is_publish b entry.row) (closure b) entry (closure_keyed b))
    (entries_keyed b (closure b) entries (closure_keyed b))

-- one entry more is put among versions: with what the others stand for they are still all
pub entry_put : (b : Base) (e : ℕ) (entry : ReadOf) (entries : List ReadOf) (old new all : Option ℕ) →
    new ≡ greater (find nat_cmp e (listing_of b (inputs_of_entry (is_publish b entry.row) (closure b) entry))) old →
    greater (find nat_cmp e (listing_of b (inputs_of b (closure b) (entry ∷ entries)))) old ≡ all →
    greater (find nat_cmp e (listing_of b (inputs_of b (closure b) entries))) new ≡ all
entry_put b e entry entries old new all put before =
    let own = find nat_cmp e (listing_of b (inputs_of_entry (is_publish b entry.row) (closure b) entry)) in
    let others = find nat_cmp e (listing_of b (inputs_of b (closure b) entries)) in
    ap (greater others) put ∙ greater_swap others own old ∙ sym (greater_join own others old)
    ∙ ap (λ a. greater a old) (sym (first_entry b e entry entries)) ∙ before
