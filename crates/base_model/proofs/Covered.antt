-- What it means that a view covers the closure of an object: each input agrees with what the view sees.
use Rattle.std.proofs.Common.{◌≡◌, refl, ap, sym, subst, ◌∙◌, ℕ, Bool, true, false, not, cond, ◌==◌, Option, Some, None}
use Rattle.std.proofs.Common.{List, [], ◌∷◌}
use Rattle.std.proofs.lemmas.Cmp.{then_total, on_total, nat_list_cmp_total, nat_cmp_total}
use Rattle.std.proofs.lemmas.Map.Text.{is_eq-slice_cmp}
use Rattle.std.proofs.lemmas.Slice.Eq.{bytes_eq-Decides}
use Rattle.std.specs.Bool.{⊤}
use Rattle.std.specs.Cmp.{IsTotalOrder, unsigned_tied, tied_itself}
use Rattle.std.specs.Cmp.Lexicographic.{slice_cmp}
use Rattle.std.specs.FinMap.Entries.{put, find, find-put, by_order}
use Rattle.std.specs.Option.{option_or}
use Rattle.std.specs.Ordering.{nat_cmp, is_eq, eq_by_cmp}
use Rattle.std.specs.Prelude.{is_some, bytes_eq, option_map, find as find_in}
use Rattle.std.specs.declared.cmp.Ordering.{Ordering}
use Rattle.std.specs.declared.cmp.Ordering.TheVariants.{Less, Equal, Greater}
use Rattle.cc_names.specs.declared.rows.ReadOf.{ReadOf}
use Rattle.cc_names.proofs.Common.{is_eq_then, same_number, and_first, and_second}
use Rattle.base_model.specs.Rows.{Base, size, only_where}
use Rattle.base_model.specs.Closures.{Input, Inputs, input_cmp, joined_inputs, inputs_of_entry, inputs_of, closure}
use Rattle.base_model.specs.Closures.{entries_of_deed, is_publish}
use Rattle.base_model.specs.Objects.{row_in, uncovered_among, agrees}
use Rattle.base_model.specs.Seen.{file_at}

pub inputs_total : IsTotalOrder input_cmp
inputs_total = then_total (on_total (λ (input : Input). input.0) nat_list_cmp_total)
    (on_total (λ (input : Input). input.1) nat_cmp_total)

-- each input agrees with what is seen at its path
abbrev pub Covers : (List ℕ → Option ℕ) → Inputs → Type 0
Covers rows inputs = (q : Input) → is_some (find input_cmp q inputs) ≡ true → agrees q.1 (rows q.0) ≡ true

-- inputs that are joined to others are among them all, and so are the others
others_among : (one others : Inputs) (q : Input) → is_some (find input_cmp q others) ≡ true
    → is_some (find input_cmp q (joined_inputs one others)) ≡ true
others_among [] others q h = h
others_among (input ∷ one) others q h =
    others_among one (put input_cmp input.0 input.1 others) q
    (ap is_some (find-put input_cmp inputs_total q input.0 input.1 others) ∙ by (eq_by_cmp input_cmp q input.0))
  where
    by : (t : Bool) → is_some (cond t (Some input.1) (find input_cmp q others)) ≡ true
    by true = refl
    by false = h

one_among : (one others : Inputs) (q : Input) → is_some (find input_cmp q one) ≡ true
    → is_some (find input_cmp q (joined_inputs one others)) ≡ true
one_among [] others q h = absurd (cc)
one_among (input ∷ one) others q h = by (eq_by_cmp input_cmp q input.0) refl h
    (one_among one (put input_cmp input.0 input.1 others) q)
  where
    by : (t : Bool) → eq_by_cmp input_cmp q input.0 ≡ t → is_some (cond t (Some input.1) (find input_cmp q one)) ≡ true →
        (is_some (find input_cmp q one) ≡ true → is_some (find input_cmp q (joined_inputs (input ∷ one) others)) ≡ true)
        → is_some (find input_cmp q (joined_inputs (input ∷ one) others)) ≡ true
    by true e h rest =
        others_among one (put input_cmp input.0 input.1 others) q
        (ap is_some (find-put input_cmp inputs_total q input.0 input.1 others)
        ∙ ap (λ t. is_some (cond t (Some input.1) (find input_cmp q others))) e)
    by false e h rest = rest h

-- the inputs of the entry at a path are among those of its record
pub entry_covered : (rows : List ℕ → Option ℕ) (b : Base) (of_object : ℕ → Inputs) (entries : List ReadOf) (path : List ℕ) (r : ℕ)
    → Covers rows (inputs_of b of_object entries) → row_in entries path ≡ Some r →
    Covers rows (inputs_of_entry (is_publish b r) of_object (record { path = path; row = r }))
entry_covered rows b of_object [] path r h is = absurd (cc)
entry_covered rows b of_object (entry ∷ entries) path r h is =
    by (bytes_eq entry.path path) refl is
    (entry_covered rows b of_object entries path r (λ q has. h q (others_among
    (inputs_of_entry (is_publish b entry.row) of_object entry) (inputs_of b of_object entries) q has)))
  where
    by : (t : Bool) → bytes_eq entry.path path ≡ t → option_map (λ (entry : ReadOf). entry.row)
        (cond t (Some entry) (find_in (λ entry. bytes_eq entry.path path) entries)) ≡ Some r →
        (row_in entries path ≡ Some r → Covers rows (inputs_of_entry (is_publish b r) of_object
        (record { path = path; row = r }))) → Covers rows (inputs_of_entry (is_publish b r) of_object
        (record { path = path; row = r }))
    by true e is rest =
        let number : entry.row ≡ r = cc in
        let same : entry.path ≡ path = (bytes_eq-Decides entry.path path).0 e in
        subst (λ k. Covers rows (inputs_of_entry (is_publish b k) of_object (record { path = path; row = k }))) number
        (subst (λ p. Covers rows (inputs_of_entry (is_publish b entry.row) of_object (record { path = p; row = entry.row }))) same
        (λ q has. h q (one_among (inputs_of_entry (is_publish b entry.row) of_object entry) (inputs_of b of_object entries) q
        has)))
    by false e is rest = rest is

-- inputs that tie are one
pub record OneInput (q s : Input) : Type 0 where
  pub path : q.0 ≡ s.0
  pub row : q.1 ≡ s.1

pub one_input : (q s : Input) → eq_by_cmp input_cmp q s ≡ true → OneInput q s
one_input q s h =
    let both = sym (is_eq_then (slice_cmp nat_cmp q.0 s.0) (nat_cmp q.1 s.1)) ∙ h in
    record {
      path = (bytes_eq-Decides q.0 s.0).0 (sym (is_eq-slice_cmp q.0 s.0)
          ∙ and_first (is_eq (slice_cmp nat_cmp q.0 s.0)) (is_eq (nat_cmp q.1 s.1)) both);
      row = same_number q.1 s.1 (sym (unsigned_tied q.1 s.1) ∙ and_second (is_eq (slice_cmp nat_cmp q.0 s.0))
          (is_eq (nat_cmp q.1 s.1)) both);
    }

-- each input is kept under its own row
abbrev pub Keyed : Inputs → Type 0
Keyed [] = ⊤
Keyed (input ∷ inputs) = (input.1 ≡ input.0.1) × Keyed inputs

pub put_keyed : (s : Input) (row : ℕ) (inputs : Inputs) → row ≡ s.1 → Keyed inputs → Keyed (put input_cmp s row inputs)
put_keyed s row [] own h = (own, tt)
put_keyed s row (input ∷ inputs) own h = by (input_cmp s input.0) refl (put_keyed s row inputs own h.1)
  where
    by : (o : Ordering) → input_cmp s input.0 ≡ o → Keyed (put input_cmp s row inputs)
        → Keyed (by_order o ((s, row) ∷ input ∷ inputs) ((input.0, row) ∷ inputs) (input ∷ put input_cmp s row inputs))
    by Less e rest = (own, h)
    by Equal e rest = (own ∙ (one_input s input.0 (ap is_eq e)).row, h.1)
    by Greater e rest = (h.0, rest)

pub joined_keyed : (one others : Inputs) → Keyed one → Keyed others → Keyed (joined_inputs one others)
joined_keyed [] others h g = g
joined_keyed (input ∷ one) others h g = joined_keyed one (put input_cmp input.0 input.1 others) h.1
    (put_keyed input.0 input.1 others h.0 g)

pub entry_keyed : (t : Bool) (of_object : ℕ → Inputs) (entry : ReadOf) → ((id : ℕ) → Keyed (of_object id))
    → Keyed (inputs_of_entry t of_object entry)
entry_keyed true of_object entry h = h entry.row
entry_keyed false of_object entry h = (refl, tt)

pub entries_keyed : (b : Base) (of_object : ℕ → Inputs) (entries : List ReadOf) → ((id : ℕ) → Keyed (of_object id))
    → Keyed (inputs_of b of_object entries)
entries_keyed b of_object [] h = tt
entries_keyed b of_object (entry ∷ entries) h =
    joined_keyed (inputs_of_entry (is_publish b entry.row) of_object entry) (inputs_of b of_object entries)
    (entry_keyed (is_publish b entry.row) of_object entry h) (entries_keyed b of_object entries h)

pub closure_keyed : (b : Base) (id : ℕ) → Keyed (closure b id)
closure_keyed [] id = tt
closure_keyed (row ∷ older) id = by (size older == id) (closure_keyed older)
  where
    by : (t : Bool) → ((id : ℕ) → Keyed (closure older id)) → Keyed (elim t as (λ x. Inputs) [
      | true ↦
          inputs_of older (closure older) (entries_of_deed (Some row.deed))
      | false ↦ closure older id
    ])
    by true before = entries_keyed older (closure older) (entries_of_deed (Some row.deed)) before
    by false before = before id

none_uncovered : (b : Base) (v : List ℕ) (inputs : Inputs) → Keyed inputs → uncovered_among b v inputs ≡ None
    → Covers (file_at b v) inputs
none_uncovered b v [] keyed h q has = absurd (cc)
none_uncovered b v (input ∷ inputs) keyed h q has = by (agrees input.1 (file_at b v input.0.0)) refl h
    (λ rest. none_uncovered b v inputs keyed.1 rest q)
  where
    by_input : (t : Bool) → eq_by_cmp input_cmp q input.0 ≡ t → agrees input.1 (file_at b v input.0.0) ≡ true
        → (is_some (find input_cmp q inputs) ≡ true → agrees q.1 (file_at b v q.0) ≡ true)
        → is_some (cond t (Some input.1) (find input_cmp q inputs)) ≡ true →
        agrees q.1 (file_at b v q.0) ≡ true
    by_input true e agree rest has =
        let one = one_input q input.0 e in
        ap (λ k. agrees k (file_at b v q.0)) (one.row ∙ sym keyed.0) ∙ ap (λ p. agrees input.1 (file_at b v p)) one.path ∙ agree
    by_input false e agree rest has = rest has

    by : (t : Bool) → agrees input.1 (file_at b v input.0.0) ≡ t → option_or (only_where (not t) (Some input.0.0))
        (uncovered_among b v inputs) ≡ None →
        (uncovered_among b v inputs ≡ None → is_some (find input_cmp q inputs) ≡ true → agrees q.1 (file_at b v q.0) ≡ true)
        → agrees q.1 (file_at b v q.0) ≡ true
    by true agree h rest = by_input (eq_by_cmp input_cmp q input.0) refl agree (rest h) has
    by false agree h rest = absurd (cc)

-- a view that covers an object's record covers its closure
pub closure_covered : (b : Base) (v : List ℕ) (id : ℕ) → uncovered_among b v (closure b id) ≡ None
    → Covers (file_at b v) (closure b id)
closure_covered b v id h = none_uncovered b v (closure b id) (closure_keyed b id) h

-- an input that stands alone is found
pub own_input : (path : List ℕ) (row : ℕ) → is_some (find input_cmp (path, row) (((path, row), row) ∷ [])) ≡ true
own_input path row = ap (λ o. is_some (cond (is_eq o) (Some row) None)) (tied_itself inputs_total (path, row))

-- the first input of a list is found, and so is each that is found after it
pub prefix_found : (input : Input × ℕ) (rest : Inputs) → is_some (find input_cmp input.0 (input ∷ rest)) ≡ true
prefix_found input rest = ap (λ o. is_some (cond (is_eq o) (Some input.1) (find input_cmp input.0 rest)))
    (tied_itself inputs_total input.0)

pub later_found : (q : Input) (input : Input × ℕ) (rest : Inputs) → is_some (find input_cmp q rest) ≡ true
    → is_some (find input_cmp q (input ∷ rest)) ≡ true
later_found q input rest h = by (eq_by_cmp input_cmp q input.0)
  where
    by : (t : Bool) → is_some (cond t (Some input.1) (find input_cmp q rest)) ≡ true
    by true = refl
    by false = h
