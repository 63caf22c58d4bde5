-- The readers of deeds are exact: a clause a deed, and a line a deed.
use Rattle.std.proofs.Common.{◌≡◌, ◌⊎◌, ◌≤◌, ◌<◌, ◌+◌, ◌^◌, ◌==◌, inl, inr, ℕ, nat_le, nat_lt, Bool, true, false, ◌&&◌, Some}
use Rattle.std.proofs.Common.{None, Ok, Err, List, [], ◌∷◌, ◌++◌, length, refl, sym, ◌∙◌, ap, subst, if◌then◌else◌, arith}
use Rattle.std.specs.List.{list_any, AllByRecursion}
use Rattle.std.proofs.lemmas.Bool.{leb-true, le-leb, lt-ltb, ltb-true, eqb-true, eq-eqb, and_parts, and_from}
use Rattle.std.proofs.lemmas.List.{append_assoc}
use Rattle.cc_names.specs.Formed.{IsListOf, IsDeedFormed, IsStored, IsPublished, is_there}
use Rattle.cc_names.specs.declared.rows.Extent.{Extent}
use Rattle.cc_names.specs.declared.rows.Stored.{Stored}
use Rattle.cc_names.specs.declared.rows.Stored.TheVariants.{Here, There}
use Rattle.cc_names.specs.declared.rows.Deed.{Deed}
use Rattle.cc_names.specs.declared.rows.Deed.TheVariants as deeds
use Rattle.row_form.specs.Fields.{long, text, list_bytes, entry, stored_bytes}
use Rattle.row_form.specs.Readers.{Reading, Reader, then_read, reader_of_some, reader_of, read_long, read_text}
use Rattle.row_form.specs.FieldReaders.{may_begin, may_have, extent_of, read_place, read_extent, read_stored}
use Rattle.row_form.specs.DeedReaders.{CodedReader, Record, read_record, read_outputs, read_published, read_stored_outputs}
use Rattle.row_form.specs.DeedReaders.{read_published_at, plain_deeds, deeds_under, read_fields, read_deed}
use Rattle.row_form.specs.Spelled.{code_of, fields_of, form_of, first_byte}
use Rattle.row_form.proofs.Exact.{AreBytes, IsExact, exact_both, exact_chosen, exact_tested, exact_as, exact_then, made_back}
use Rattle.row_form.proofs.Exact.{made_read_back, chosen_if}
use Rattle.row_form.proofs.ExactFields.{exact_long, exact_text, exact_name, exact_path, exact_type_name, exact_flag, exact_kind}
use Rattle.row_form.proofs.ExactFields.{exact_type_kind, exact_out}
use Rattle.row_form.proofs.ExactLists.{AreOutputsOf, exact_list, exact_targets, exact_entries, exact_objects, exact_places}
use Rattle.row_form.proofs.ExactLists.{exact_outputs}

below_if : (a b : ℕ) → nat_lt a b ≡ true → a < b
below_if a b e = ltb-true a b e

abbrev MayBegin : ℕ → Type 0
MayBegin place = place + 1 < 2 ^ 63

exact_place : IsExact read_place long MayBegin
exact_place =
    exact_tested may_begin MayBegin exact_long
    (λ a h. (omega (arith, h), lt-ltb (a + 1) (2 ^ 63) h)) (λ a g e. below_if (a + 1) (2 ^ 63) e)

abbrev IsExtent : Extent → Type 0
IsExtent x = IsStored (There x)

may_if : (place size : ℕ) → may_have place size ≡ true → (0 < size) × (size ≤ 1048576) × (place + size < 2 ^ 63)
may_if place size e =
    let h = and_parts (nat_lt 0 size && nat_le size 1048576) (nat_lt (place + size) (2 ^ 63)) e in
    let k = and_parts (nat_lt 0 size) (nat_le size 1048576) h.0 in
    (below_if 0 size k.0, leb-true size 1048576 k.1, below_if (place + size) (2 ^ 63) h.1)

may_only : (place size : ℕ) → 0 < size → size ≤ 1048576 → place + size < 2 ^ 63 → may_have place size ≡ true
may_only place size a b c =
    and_from (nat_lt 0 size && nat_le size 1048576) (nat_lt (place + size) (2 ^ 63))
    (and_from (nat_lt 0 size) (nat_le size 1048576) (lt-ltb 0 size a) (le-leb size 1048576 b)) (lt-ltb (place + size) (2 ^ 63) c)

abbrev IsExtentAt : ℕ → Extent → Type 0
IsExtentAt place x = IsExtent x × (x.place ≡ place)

exact_length : (place : ℕ) → IsExact (reader_of_some (extent_of place) read_long) (λ x. long x.length) (IsExtentAt place)
exact_length place =
    exact_chosen (extent_of place) (λ x. x.length) (IsExtentAt place) exact_long
    (λ x h. (
      omega (arith, h.0.1),
      ap (λ p. extent_of p x.length) (sym h.1) ∙ ap (λ t. if t then Some x else None)
          (may_only x.place x.length h.0.0 h.0.1 h.0.2),
    ))
    (λ n x g e.
    let here : Extent = record { place = place; length = n } in
    let c = chosen_if (may_have place n) here x e in
    (subst (IsExtentAt place) c.1 (may_if place n c.0, refl), ap (λ z. z.length) (sym c.1)))

exact_extent : IsExact read_extent (λ x. long x.place ++ long x.length) IsExtent
exact_extent =
    exact_then (λ place. reader_of_some (extent_of place) read_long) (λ x. long x.length) IsExtent (λ x. x.place) exact_place
    (λ place g. exact_length place)
    (λ x h. omega (arith, h.0, h.2))

stored_back : (a : Stored) (rest : List ℕ) → IsStored a → read_stored (stored_bytes a ++ rest) ≡ Ok (a, rest)
stored_back (Here bytes) rest h = made_back Here exact_text bytes rest h
stored_back (There x) rest h = made_back There exact_extent x rest h

split : {A : Type 0} (t : Bool) (x y z : Reading A) → (if t then x else y) ≡ z → ((t ≡ true) × (x ≡ z)) ⊎ ((t ≡ false) × (y ≡ z))
split true x y z e = inl (refl, e)
split false x y z e = inr (refl, e)

stored_read_back : (bytes : List ℕ) (a : Stored) (rest : List ℕ) → AreBytes bytes → read_stored bytes ≡ Ok (a, rest) → IsStored a
    × (bytes ≡ stored_bytes a ++ rest)
stored_read_back [] a rest hb e = absurd (cc)
stored_read_back (k ∷ bs) a rest hb e =
    let P : Stored → Type 0 = λ z. IsStored z × (k ∷ bs ≡ stored_bytes z ++ rest) in
    elim (split (k == 0) (reader_of Here read_text bs) (if k == 1 then reader_of There read_extent bs else Err (k ∷ bs))
    (Ok (a, rest)) e) [
      | inl h ↦ let m = made_read_back Here exact_text bs a rest hb.1 h.1 in
          subst P m.2 (m.1, ap (λ n. n ∷ bs) (eqb-true k 0 h.0) ∙ ap (λ z. 0 ∷ z) m.3)
      | inr h ↦ elim (split (k == 1) (reader_of There read_extent bs) (Err (k ∷ bs)) (Ok (a, rest)) h.1) [
        | inl g ↦ let m = made_read_back There exact_extent bs a rest hb.1 g.1 in
            subst P m.2 (m.1, ap (λ n. n ∷ bs) (eqb-true k 1 g.0) ∙ ap (λ z. 1 ∷ z) m.3)
        | inr g ↦ let no = g.1 in absurd (cc)
      ]
    ]

exact_stored : IsExact read_stored stored_bytes IsStored
exact_stored = record { back = stored_back; read_back = stored_read_back }

-- what a publish has
abbrev record_bytes : Record → List ℕ
record_bytes r = text r.0 ++ (list_bytes text r.1.0 ++ (text r.1.1.0 ++ list_bytes entry r.1.1.1))

abbrev IsRecord : ℕ → Record → Type 0
IsRecord form r = IsPublished r.0 r.1.0 r.1.1.0 r.1.1.1 (length r.1.0) × (form_of r.1.0 ≡ form)

exact_record : (form : ℕ) → IsExact (read_record form) record_bytes (IsRecord form)
exact_record form =
    exact_as record_bytes (IsRecord form)
    (exact_both exact_name (exact_both (exact_targets form) (exact_both exact_text exact_entries)))
    (λ r. refl) (λ r g. ((g.0, g.1.0.0, g.1.1.0, g.1.1.1, refl), g.1.0.1)) (λ r h. (h.0.0, ((h.0.1, h.1), (h.0.2, h.0.3))))

abbrev AreStoredOf : ℕ → List Stored → Type 0
AreStoredOf count outputs = (length outputs ≡ count) × IsListOf IsStored outputs × (list_any is_there outputs ≡ true)

exact_stored_outputs : (count : ℕ) → IsExact (read_stored_outputs count) (list_bytes stored_bytes) (AreStoredOf count)
exact_stored_outputs count =
    exact_tested (λ os. (length os == count) && list_any is_there os) (AreStoredOf count)
    (exact_list read_stored stored_bytes IsStored exact_stored)
    (λ os h. (h.1, and_from (length os == count) (list_any is_there os) (eq-eqb (length os) count h.0) h.2))
    (λ os g e. let h = and_parts (length os == count) (list_any is_there os) e in (eqb-true (length os) count h.0, g, h.1))

-- a record and its outputs
abbrev IsWhole : {S : Type 0} (Outputs : ℕ → List S → Type 0) → ℕ → Record × List S → Type 0
IsWhole Outputs form p = IsRecord form p.0 × Outputs (length p.0.1.0) p.1

module _ {S : Type 0} (Outputs : ℕ → List S → Type 0) (read : ℕ → Reader (List S)) (spell : List S → List ℕ) (exact : (count : ℕ)
    → IsExact (read count) spell (Outputs count)) where
  abbrev behind : Record → Reader (Record × List S)
  behind r = reader_of (λ outputs. (r, outputs)) (read (length r.1.0))

  exact_behind : (form : ℕ) (r : Record) → IsRecord form r → IsExact (behind r) (λ p. spell p.1) (λ p. IsWhole Outputs form p
      × (p.0 ≡ r))
  exact_behind form r g = record {
    back = λ p rest h.
        let Q : Record → Type 0 = λ z. behind z (spell p.1 ++ rest) ≡ Ok (p, rest) in
        subst Q h.1 (made_back (λ outputs. (p.0, outputs)) (exact (length p.0.1.0)) p.1 rest h.0.1);
    read_back = λ bytes p rest hb e.
        let m = made_read_back (λ outputs. (r, outputs)) (exact (length r.1.0)) bytes p rest hb e in
        let P : Record × List S → Type 0 = λ z. (IsWhole Outputs form z × (z.0 ≡ r)) × (bytes ≡ spell z.1 ++ rest) in
        subst P m.2 (((g, m.1), refl), m.3);
  }

  pub exact_whole : (form : ℕ) → IsExact (λ bytes. then_read (read_record form bytes) behind) (λ p. record_bytes p.0 ++ spell p.1)
      (IsWhole Outputs form)
  exact_whole form = exact_then behind (λ p. spell p.1) (IsWhole Outputs form) (λ p. p.0) (exact_record form) (exact_behind form)
      (λ p h. h.0)

abbrev published_bytes : {S : Type 0} → (List S → List ℕ) → Record × List S → List ℕ
published_bytes spell p = text p.0.0 ++ (list_bytes text p.0.1.0 ++ (text p.0.1.1.0 ++ (list_bytes entry p.0.1.1.1 ++ spell p.1)))

regroup : {S : Type 0} (spell : List S → List ℕ) (p : Record × List S) → record_bytes p.0 ++ spell p.1 ≡ published_bytes spell p
regroup spell p =
    let a = text p.0.0 in
    let b = list_bytes text p.0.1.0 in
    let c = text p.0.1.1.0 in
    let d = list_bytes entry p.0.1.1.1 in
    let e = spell p.1 in
    append_assoc a (b ++ (c ++ d)) e ∙ ap (λ z. a ++ z) (append_assoc b (c ++ d) e ∙ ap (λ z. b ++ z) (append_assoc c d e))

exact_published : (form : ℕ) → IsExact (read_published form) (published_bytes (list_bytes text)) (IsWhole AreOutputsOf form)
exact_published form =
    exact_as (published_bytes (list_bytes text)) (IsWhole AreOutputsOf form)
    (exact_whole AreOutputsOf read_outputs (list_bytes text) exact_outputs form)
    (regroup (list_bytes text)) (λ p g. g) (λ p h. h)

exact_published_at : (form : ℕ) → IsExact (read_published_at form) (published_bytes (list_bytes stored_bytes))
    (IsWhole AreStoredOf form)
exact_published_at form =
    exact_as (published_bytes (list_bytes stored_bytes)) (IsWhole AreStoredOf form)
    (exact_whole AreStoredOf read_stored_outputs (list_bytes stored_bytes) exact_stored_outputs form)
    (regroup (list_bytes stored_bytes)) (λ p g. g) (λ p h. h)

-- what the reader of a line gives is a deed of its code, under its first byte
abbrev IsOfLine : ℕ → CodedReader → Type 0
IsOfLine form line = (bytes : List ℕ) (deed : Deed) (rest : List ℕ) → AreBytes bytes → line.1 bytes ≡ Ok (deed, rest)
    → IsDeedFormed deed × (code_of deed ≡ line.0) × (first_byte deed ≡ form) × (bytes ≡ fields_of deed ++ rest)

abbrev IsMadeOf : {A : Type 0} → ℕ → ℕ → (A → Deed) → (A → List ℕ) → (A → Type 0) → Type 0
IsMadeOf {A} form code make s G = (a : A) → G a → IsDeedFormed (make a) × (code_of (make a) ≡ code) × (first_byte (make a) ≡ form)
    × (fields_of (make a) ≡ s a)

line_of : {A : Type 0} {read : Reader A} {s : A → List ℕ} {G : A → Type 0} (form code : ℕ) (make : A → Deed) → IsExact read s G
    → IsMadeOf form code make s G → IsOfLine form (code, reader_of make read)
line_of {A} {read} {s} {G} form code make exact facts = λ bytes deed rest hb e.
    let m = made_read_back make exact bytes deed rest hb e in
    let f = facts m.0 m.1 in
    let P : Deed → Type 0 = λ d. IsDeedFormed d × (code_of d ≡ code) × (first_byte d ≡ form) × (bytes ≡ fields_of d ++ rest) in
    subst P m.2 (f.0, f.1, f.2, m.3 ∙ ap (λ z. z ++ rest) (sym f.3))

plain_lines : AllByRecursion (IsOfLine 1) plain_deeds
plain_lines = (
  line_of 1 1 deeds.Mkview exact_name (λ r g. (g, refl, refl, refl)),
  (
    line_of 1 2 deeds.Rmview exact_name (λ r g. (g, refl, refl, refl)),
    (
      line_of 1 3 (λ r. deeds.Setcs r.0 r.1) (exact_both exact_name exact_text) (λ r g. ((g.0, g.1), refl, refl, refl)),
      (
        line_of 1 4 (λ r. deeds.Mkelem r.0 r.1.0 r.1.1.0 r.1.1.1.0 r.1.1.1.1)
            (exact_both exact_name (exact_both exact_long (exact_both exact_name (exact_both exact_kind exact_flag))))
            (λ r g. ((g.0, g.1.0, g.1.1.0), refl, refl, refl)),
        (
          line_of 1 5 (λ r. deeds.Checkout r.0 r.1.0 r.1.1.0 r.1.1.1) (exact_both exact_name
              (exact_both exact_long (exact_both exact_long exact_flag))) (λ r g. ((g.0, g.1.0, g.1.1.0), refl, refl, refl)),
          (
            line_of 1 6 (λ r. deeds.Branch r.0 r.1.0 r.1.1.0 r.1.1.1.0 r.1.1.1.1)
                (exact_both exact_name (exact_both exact_long (exact_both exact_long (exact_both exact_type_name exact_out))))
                (λ r g. ((g.0, g.1.0, g.1.1.0, g.1.1.1.0), refl, refl, refl)),
            (
              line_of 1 7 (λ r. deeds.Save r.0 r.1.0 r.1.1) (exact_both exact_name (exact_both exact_long exact_text))
                  (λ r g. ((g.0, g.1.0, g.1.1), refl, refl, refl)),
              (
                line_of 1 8 (λ r. deeds.Checkin r.0 r.1) (exact_both exact_name exact_long)
                    (λ r g. ((g.0, g.1), refl, refl, refl)),
                (
                  line_of 1 9 (λ r. deeds.Uncheckout r.0 r.1) (exact_both exact_name exact_long)
                      (λ r g. ((g.0, g.1), refl, refl, refl)),
                  (
                    line_of 1 10 (λ r. deeds.Rmname r.0 r.1.0 r.1.1) (exact_both exact_name (exact_both exact_long exact_name))
                        (λ r g. ((g.0, g.1.0, g.1.1), refl, refl, refl)),
                    (
                      line_of 1 11 (λ r. deeds.Mv r.0 r.1.0 r.1.1.0 r.1.1.1)
                          (exact_both exact_name (exact_both exact_long (exact_both exact_name exact_name)))
                          (λ r g. ((g.0, g.1.0, g.1.1.0, g.1.1.1), refl, refl, refl)),
                      (
                        line_of 1 12 (λ r. deeds.Put r.0 r.1.0 r.1.1) (exact_both exact_name (exact_both exact_path exact_text))
                            (λ r g. ((g.0, g.1.0, g.1.1), refl, refl, refl)),
                        (
                          line_of 1 13 (λ r. deeds.Rm r.0 r.1) (exact_both exact_name exact_path)
                              (λ r g. ((g.0, g.1), refl, refl, refl)),
                          (
                            line_of 1 14 (λ r. deeds.Mktype r.0 r.1) (exact_both exact_type_kind exact_type_name)
                                (λ r g. (g.1, refl, refl, refl)),
                            (
                              line_of 1 15 (λ r. deeds.Label r.0 r.1.0 r.1.1)
                                  (exact_both exact_type_name (exact_both exact_long exact_long))
                                  (λ r g. ((g.0, g.1.0, g.1.1), refl, refl, refl)),
                              (
                                line_of 1 16 (λ r. deeds.Unlabel r.0 r.1) (exact_both exact_type_name exact_long)
                                    (λ r g. ((g.0, g.1), refl, refl, refl)),
                                (
                                  line_of 1 18 (λ r. deeds.Wink r.0 r.1) (exact_both exact_name exact_long)
                                      (λ r g. ((g.0, g.1), refl, refl, refl)),
                                  (
                                    line_of 1 19 (λ r. deeds.Drop r.0 r.1) (exact_both exact_name exact_path)
                                        (λ r g. ((g.0, g.1), refl, refl, refl)),
                                    (
                                      line_of 1 20 deeds.Scrub exact_objects (λ r g. (g, refl, refl, refl)),
                                      (
                                        line_of 1 21 (λ r. deeds.Labels r.0 r.1) (exact_both exact_type_name exact_places)
                                            (λ r g. ((g.0, g.1.0, g.1.1, g.1.2), refl, refl, refl)),
                                        (
                                          line_of 1 22 (λ r. deeds.Arrow r.0 r.1.0 r.1.1)
                                              (exact_both exact_long (exact_both exact_long exact_long))
                                              (λ r g. ((g.0, g.1.0, g.1.1), refl, refl, refl)),
                                          tt,
                                        ),
                                      ),
                                    ),
                                  ),
                                ),
                              ),
                            ),
                          ),
                        ),
                      ),
                    ),
                  ),
                ),
              ),
            ),
          ),
        ),
      ),
    ),
  ),
)

rest_lines : (t : Bool) (form : ℕ) → (t ≡ true → form ≡ 1) → AllByRecursion (IsOfLine form) (if t then plain_deeds else [])
rest_lines true form h = let P : ℕ → Type 0 = λ f. AllByRecursion (IsOfLine f) plain_deeds in subst P (sym (h refl)) plain_lines
rest_lines false form h = tt

lines : (form : ℕ) → AllByRecursion (IsOfLine form) (deeds_under form)
lines form = (
  line_of form 17 (λ p. deeds.Publish p.0.0 p.0.1.0 p.0.1.1.0 p.0.1.1.1 p.1) (exact_published form)
      (λ p g. (((g.0.0.0, g.0.0.1, g.0.0.2, g.0.0.3, g.1.0), g.1.1), refl, g.0.1, refl)),
  (
    line_of form 23 (λ p. deeds.PublishAt p.0.0 p.0.1.0 p.0.1.1.0 p.0.1.1.1 p.1) (exact_published_at form)
        (λ p g. (((g.0.0.0, g.0.0.1, g.0.0.2, g.0.0.3, g.1.0), g.1.1, g.1.2), refl, g.0.1, refl)),
    rest_lines (form == 1) form (eqb-true form 1),
  ),
)

fields_read_back : (form : ℕ) (table : List CodedReader) → AllByRecursion (IsOfLine form) table
    → (code : ℕ) (at bytes : List ℕ) (deed : Deed) (rest : List ℕ) → AreBytes bytes
    → read_fields table code at bytes ≡ Ok (deed, rest) → IsDeedFormed deed × (code_of deed ≡ code) × (first_byte deed ≡ form)
    × (bytes ≡ fields_of deed ++ rest)
fields_read_back form [] all code at bytes deed rest hb e = absurd (cc)
fields_read_back form (line ∷ table) all code at bytes deed rest hb e =
    elim (split (code == line.0) (line.1 bytes) (read_fields table code at bytes) (Ok (deed, rest)) e) [
      | inl h ↦ let f = all.0 bytes deed rest hb h.1 in (f.0, f.1 ∙ sym (eqb-true code line.0 h.0), f.2, f.3)
      | inr h ↦ fields_read_back form table all.1 code at bytes deed rest hb h.1
    ]

-- the code and the fields
abbrev pub deed_bytes : Deed → List ℕ
deed_bytes deed = code_of deed ∷ fields_of deed

abbrev pub IsDeedUnder : ℕ → Deed → Type 0
IsDeedUnder form deed = IsDeedFormed deed × (first_byte deed ≡ form)

deed_read_back : (form : ℕ) (bytes : List ℕ) (deed : Deed) (rest : List ℕ) → AreBytes bytes
    → read_deed form bytes ≡ Ok (deed, rest) → IsDeedUnder form deed × (bytes ≡ deed_bytes deed ++ rest)
deed_read_back form [] deed rest hb e = absurd (cc)
deed_read_back form (code ∷ bs) deed rest hb e =
    let f = fields_read_back form (deeds_under form) (lines form) code (code ∷ bs) bs deed rest hb.1 e in
    ((f.0, f.2), ap (λ n. n ∷ bs) (sym f.1) ∙ ap (λ z. code_of deed ∷ z) f.3)

-- each deed is read back: a clause a deed
deed_back : (deed : Deed) → IsDeedFormed deed → (rest : List ℕ) → read_deed (first_byte deed) (deed_bytes deed ++ rest)
    ≡ Ok (deed, rest)
deed_back (deeds.Mkview view) h rest =
    made_back deeds.Mkview exact_name view rest h
deed_back (deeds.Rmview view) h rest =
    made_back deeds.Rmview exact_name view rest h
deed_back (deeds.Setcs view spec) h rest =
    made_back (λ r. deeds.Setcs r.0 r.1) (exact_both exact_name exact_text) (view, spec) rest (h.0, h.1)
deed_back (deeds.Mkelem view directory name sort out) h rest =
    made_back (λ r. deeds.Mkelem r.0 r.1.0 r.1.1.0 r.1.1.1.0 r.1.1.1.1)
    (exact_both exact_name (exact_both exact_long (exact_both exact_name (exact_both exact_kind exact_flag)))) (
      view,
      (directory, (name, (sort, out))),
    ) rest (h.0, (h.1, (h.2, (tt, tt))))
deed_back (deeds.Checkout view element origin reserved) h rest =
    made_back (λ r. deeds.Checkout r.0 r.1.0 r.1.1.0 r.1.1.1) (exact_both exact_name
    (exact_both exact_long (exact_both exact_long exact_flag))) (view, (element, (origin, reserved))) rest (
      h.0,
      (h.1, (h.2, tt)),
    )
deed_back (deeds.Branch view element origin name out) h rest =
    made_back (λ r. deeds.Branch r.0 r.1.0 r.1.1.0 r.1.1.1.0 r.1.1.1.1)
    (exact_both exact_name (exact_both exact_long (exact_both exact_long (exact_both exact_type_name exact_out)))) (
      view,
      (element, (origin, (name, out))),
    ) rest (h.0, (h.1, (h.2, (h.3, tt))))
deed_back (deeds.Save view element body) h rest =
    made_back (λ r. deeds.Save r.0 r.1.0 r.1.1) (exact_both exact_name (exact_both exact_long exact_text)) (
      view,
      (element, body),
    ) rest (h.0, (h.1, h.2))
deed_back (deeds.Checkin view element) h rest =
    made_back (λ r. deeds.Checkin r.0 r.1) (exact_both exact_name exact_long) (view, element) rest (h.0, h.1)
deed_back (deeds.Uncheckout view element) h rest =
    made_back (λ r. deeds.Uncheckout r.0 r.1) (exact_both exact_name exact_long) (view, element) rest (h.0, h.1)
deed_back (deeds.Rmname view directory name) h rest =
    made_back (λ r. deeds.Rmname r.0 r.1.0 r.1.1) (exact_both exact_name (exact_both exact_long exact_name)) (
      view,
      (directory, name),
    ) rest (h.0, (h.1, h.2))
deed_back (deeds.Mv view directory from_name to_name) h rest =
    made_back (λ r. deeds.Mv r.0 r.1.0 r.1.1.0 r.1.1.1) (exact_both exact_name
    (exact_both exact_long (exact_both exact_name exact_name))) (view, (directory, (from_name, to_name))) rest (
      h.0,
      (h.1, (h.2, h.3)),
    )
deed_back (deeds.Put view path body) h rest =
    made_back (λ r. deeds.Put r.0 r.1.0 r.1.1) (exact_both exact_name (exact_both exact_path exact_text)) (
      view,
      (path, body),
    ) rest (h.0, (h.1, h.2))
deed_back (deeds.Rm view path) h rest =
    made_back (λ r. deeds.Rm r.0 r.1) (exact_both exact_name exact_path) (view, path) rest (h.0, h.1)
deed_back (deeds.Mktype sort name) h rest =
    made_back (λ r. deeds.Mktype r.0 r.1) (exact_both exact_type_kind exact_type_name) (sort, name) rest (tt, h)
deed_back (deeds.Label label element version) h rest =
    made_back (λ r. deeds.Label r.0 r.1.0 r.1.1) (exact_both exact_type_name (exact_both exact_long exact_long)) (
      label,
      (element, version),
    ) rest (h.0, (h.1, h.2))
deed_back (deeds.Unlabel label element) h rest =
    made_back (λ r. deeds.Unlabel r.0 r.1) (exact_both exact_type_name exact_long) (label, element) rest (h.0, h.1)
deed_back (deeds.Wink view object) h rest =
    made_back (λ r. deeds.Wink r.0 r.1) (exact_both exact_name exact_long) (view, object) rest (h.0, h.1)
deed_back (deeds.Drop view path) h rest =
    made_back (λ r. deeds.Drop r.0 r.1) (exact_both exact_name exact_path) (view, path) rest (h.0, h.1)
deed_back (deeds.Scrub objects) h rest =
    made_back deeds.Scrub exact_objects objects rest h
deed_back (deeds.Labels label placed) h rest =
    made_back (λ r. deeds.Labels r.0 r.1) (exact_both exact_type_name exact_places) (label, placed) rest (h.0, (h.1, h.2, h.3))
deed_back (deeds.Arrow element tail head) h rest =
    made_back (λ r. deeds.Arrow r.0 r.1.0 r.1.1) (exact_both exact_long (exact_both exact_long exact_long)) (
      element,
      (tail, head),
    ) rest (h.0, (h.1, h.2))
deed_back (deeds.Publish view targets script entries outputs) h rest =
    made_back (λ p. deeds.Publish p.0.0 p.0.1.0 p.0.1.1.0 p.0.1.1.1 p.1) (exact_published (form_of targets))
    ((view, (targets, (script, entries))), outputs) rest (((h.0.0, h.0.1, h.0.2, h.0.3, refl), refl), (h.0.4, h.1))
deed_back (deeds.PublishAt view targets script entries outputs) h rest =
    made_back (λ p. deeds.PublishAt p.0.0 p.0.1.0 p.0.1.1.0 p.0.1.1.1 p.1) (exact_published_at (form_of targets))
    ((view, (targets, (script, entries))), outputs) rest (((h.0.0, h.0.1, h.0.2, h.0.3, refl), refl), (h.0.4, h.1, h.2))

pub exact_deed : (form : ℕ) → IsExact (read_deed form) deed_bytes (IsDeedUnder form)
exact_deed form = record {
  back = λ deed rest h. ap (λ f. read_deed f (deed_bytes deed ++ rest)) (sym h.1) ∙ deed_back deed h.0 rest;
  read_back = λ bytes deed rest hb e. deed_read_back form bytes deed rest hb e;
}
