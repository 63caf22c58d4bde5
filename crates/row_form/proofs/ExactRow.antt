-- The reader of rows is exact, so a row has one spelling.
use Rattle.std.proofs.Common.{◌≡◌, ◌⊎◌, ◌≤◌, ◌<◌, ◌==◌, inl, inr, ℕ, nat_le, true, ◌||◌, Ok, List, [], ◌∷◌, ◌++◌}
use Rattle.std.proofs.Common.{refl, sym, ◌∙◌, ap, subst, arith}
use Rattle.std.proofs.lemmas.Bool.{leb-true, le-leb, eqb-true, or_cases}
use Rattle.std.proofs.lemmas.List.{append-nil}
use Rattle.cc_names.specs.Formed.{Plain, IsFormed, IsTag, IsDeedFormed}
use Rattle.cc_names.specs.declared.rows.Deed.{Deed}
use Rattle.cc_names.specs.declared.rows.Deed.TheVariants as deeds
use Rattle.cc_names.specs.declared.rows.Tag.{Tag}
use Rattle.row_form.specs.Fields.{byte, word, long}
use Rattle.row_form.specs.Readers.{both}
use Rattle.row_form.specs.RowReader.{Parts, read_form, tag_of, read_tag, read_moment, read_parts, value_at_end, read_row}
use Rattle.row_form.specs.DeedReaders.{read_deed}
use Rattle.row_form.specs.Spelled.{first_byte, form_of, spelling_of}
use Rattle.row_form.proofs.Exact.{AreBytes, IsExact, same_read, part, exact_both, exact_tested, exact_as, exact_then, exact_made}
use Rattle.row_form.proofs.ExactFields.{exact_byte, exact_word, exact_long}
use Rattle.row_form.proofs.ExactDeeds.{deed_bytes, exact_deed}
use Rattle.row_form.proofs.Steps.{then_ok}

abbrev IsForm : ℕ → Type 0
IsForm n = (n ≡ 1) ⊎ (n ≡ 2)

form_test : (n : ℕ) → IsForm n → ((n == 1) || (n == 2)) ≡ true
form_test n (inl e) = ap (λ m. (m == 1) || (m == 2)) e
form_test n (inr e) = ap (λ m. (m == 1) || (m == 2)) e

form_byte : (n : ℕ) → IsForm n → n < 256
form_byte n (inl e) = omega (arith, e)
form_byte n (inr e) = omega (arith, e)

exact_form : IsExact read_form byte IsForm
exact_form =
    exact_tested (λ form. (form == 1) || (form == 2)) IsForm exact_byte (λ n h. (form_byte n h, form_test n h))
    (λ n g e. elim (or_cases (n == 1) (n == 2) e) [ inl h ↦ inl (eqb-true n 1 h) | inr h ↦ inr (eqb-true n 2 h) ])

abbrev tag_bytes : Tag → List ℕ
tag_bytes tag = word tag.phase ++ (word tag.lane ++ word tag.command)

exact_tag : IsExact read_tag tag_bytes IsTag
exact_tag =
    exact_made tag_of (λ t. (t.phase, (t.lane, t.command))) IsTag (exact_both exact_word (exact_both exact_word exact_word))
    (λ b. refl) (λ a. refl)
    (λ b h. (h.0, (h.1, h.2))) (λ a g. (g.0, g.1.0, g.1.1))

abbrev IsMoment : ℕ → Type 0
IsMoment n = n ≤ 253402300799

exact_moment : IsExact read_moment long IsMoment
exact_moment =
    exact_tested (λ moment. nat_le moment 253402300799) IsMoment exact_long (λ n h. (omega (arith, h), le-leb n 253402300799 h))
    (λ n g e. leb-true n 253402300799 e)

abbrev ArePartsFormed : Parts → Type 0
ArePartsFormed p = IsTag p.0.0 × IsMoment p.0.1 × IsDeedFormed p.1

abbrev rest_bytes_of : Parts → List ℕ
rest_bytes_of p = (tag_bytes p.0.0 ++ long p.0.1) ++ deed_bytes p.1

-- the first byte that a row of these parts has
abbrev form_of_parts : Parts → ℕ
form_of_parts p = first_byte p.1

exact_rest : (form : ℕ) → IsExact (both (both read_tag read_moment) (read_deed form)) rest_bytes_of (λ p. ArePartsFormed p
    × (form_of_parts p ≡ form))
exact_rest form =
    exact_as rest_bytes_of (λ p. ArePartsFormed p × (form_of_parts p ≡ form))
    (exact_both (exact_both exact_tag exact_moment) (exact_deed form))
    (λ p. refl) (λ p g. ((g.0.0, g.0.1, g.1.0), g.1.1)) (λ p h. ((h.0.0, h.0.1), (h.0.2, h.1)))

targets_form : (targets : List (List ℕ)) → IsForm (form_of targets)
targets_form [] = inl refl
targets_form (first ∷ []) = inl refl
targets_form (first ∷ (second ∷ targets)) = inr refl

deed_form : (deed : Deed) → IsForm (first_byte deed)
deed_form (deeds.Publish view targets script entries outputs) = targets_form targets
deed_form (deeds.PublishAt view targets script entries outputs) = targets_form targets
deed_form _ = inl refl

pub exact_parts : IsExact read_parts (λ p. byte (form_of_parts p) ++ rest_bytes_of p) ArePartsFormed
exact_parts =
    exact_then (λ form. both (both read_tag read_moment) (read_deed form)) rest_bytes_of ArePartsFormed form_of_parts exact_form
    (λ form g. exact_rest form)
    (λ p h. deed_form p.1)

abbrev pub row_of_parts : Parts → Plain
row_of_parts p = record { tag = p.0.0; moment = p.0.1; deed = p.1 }

abbrev pub parts_of : Plain → Parts
parts_of row = ((row.tag, row.moment), row.deed)

same_spelling : (row : Plain) → byte (first_byte row.deed) ++ rest_bytes_of (parts_of row) ≡ spelling_of row
same_spelling row = refl

-- a row is read back
pub row_back : (row : Plain) → IsFormed row → read_row (spelling_of row) ≡ Ok (parts_of row, [])
row_back row h =
    then_ok (read_parts (spelling_of row)) value_at_end (parts_of row) []
    (ap read_parts (sym (append-nil (spelling_of row)) ∙ ap (λ z. z ++ []) (sym (same_spelling row)))
    ∙ exact_parts.back (parts_of row) [] (h.tag, h.moment, h.deed))

no_more : (p q : Parts) (rest : List ℕ) → value_at_end p rest ≡ Ok (q, []) → (p ≡ q) × (rest ≡ [])
no_more p q [] e = (ap (λ z. z.0) (same_read (p, []) (q, []) e), refl)
no_more p q (b ∷ bs) e = absurd (cc)

-- what is read as a row was spelled so, and is formed
pub row_read_back : (bytes : List ℕ) (p : Parts) → AreBytes bytes → read_row bytes ≡ Ok (p, [])
    → (bytes ≡ spelling_of (row_of_parts p)) × IsFormed (row_of_parts p)
row_read_back bytes p hb e =
    let x = part (read_parts bytes) value_at_end (p, []) e in
    let f = exact_parts.read_back bytes x.0 x.1 hb x.2 in
    let n = no_more x.0 p x.1 x.3 in
    let P : Parts → Type 0 = λ q. (bytes ≡ spelling_of (row_of_parts q)) × IsFormed (row_of_parts q) in
    subst P n.0 (
      f.1 ∙ ap (λ z. (byte (form_of_parts x.0) ++ rest_bytes_of x.0) ++ z) n.1
          ∙ append-nil (byte (form_of_parts x.0) ++ rest_bytes_of x.0)
          ∙ same_spelling (row_of_parts x.0),
      record { tag = f.0.0; moment = f.0.1; deed = f.0.2 },
    )

-- a row has one spelling
pub one_spelling : (a b : Plain) → IsFormed a → IsFormed b → spelling_of a ≡ spelling_of b → a ≡ b
one_spelling a b ha hb e =
    ap (λ z. row_of_parts z.0) (same_read (parts_of a, []) (parts_of b, []) (sym (row_back a ha) ∙ ap read_row e ∙ row_back b hb))
