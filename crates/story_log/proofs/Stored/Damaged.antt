-- What represents a base is damaged nowhere, frames spell one list of rows, and one frame at most is damaged.
use Rattle.std.proofs.Common.{◌≡◌, ℕ, ◌⊎◌, inl, inr, true, List, [], ◌∷◌, ◌++◌, length, length-append, refl, sym, ap, ap₂, subst}
use Rattle.std.proofs.Common.{◌∙◌, arith}
use Rattle.std.proofs.lemmas.Bool.{and_parts}
use Rattle.cc_names.specs.Formed.{IsFormed, Plain}
use Rattle.base_model.specs.Rows.{Base, size}
use Rattle.row_form.specs.Spelled.{spelling_of}
use Rattle.row_form.proofs.ExactRow.{one_spelling}
use Rattle.base_model.specs.Fits.{is_base}
use Rattle.story_log.specs.Bases.Reading.{IsUnfit}
use Rattle.story_log.specs.Story.Formed.{AreFormed}
use Rattle.story_log.specs.Stored.Payloads.{payloads}
use Rattle.story_log.specs.Stored.Fitting.{fits_stored, are_stored_rows}
use Rattle.story_log.specs.Stored.Founds.{FoundFiles}
use Rattle.story_log.proofs.Stored.Fitting.{base_is_stored, fits_as_plain}
use Rattle.story_log.specs.Stored.Damaged.{IsDamaged, IsUndamaged, RepresentedIsUndamaged, FoundIsDamagedOnce, FramesAreOfOneList}

-- a row that keeps its form is known by its spelling
row_by_spelling : (one two : Plain) → IsFormed one → IsFormed two → spelling_of one ≡ spelling_of two → one ≡ two
row_by_spelling one two h k is = one_spelling one two h k is

-- where two lists that go on are the same, their first parts are, or one first part is a part of the other
abbrev Goes : List (List ℕ) → List ℕ → List (List ℕ) → Type 0
Goes prefix next whole = (rest : List (List ℕ)) × (whole ≡ prefix ++ next ∷ rest)

which_prefix : (xs ys r s : List (List ℕ)) (x y : List ℕ) → xs ++ x ∷ r ≡ ys ++ y ∷ s → ((xs ≡ ys) × (x ≡ y))
    ⊎ (Goes xs x ys ⊎ Goes ys y xs)
which_prefix [] [] r s x y e = inl (refl, cc)
which_prefix [] (q ∷ ys) r s x y e = inr (inl (ys, cc))
which_prefix (p ∷ xs) [] r s x y e = inr (inr (xs, cc))
which_prefix (p ∷ xs) (q ∷ ys) r s x y e =
    let head : p ≡ q = cc in
    let tail : xs ++ x ∷ r ≡ ys ++ y ∷ s = cc in
    elim (which_prefix xs ys r s x y tail) [
      | inl same ↦ inl (ap₂ (λ a b. a ∷ b) head same.0, same.1)
      | inr other ↦ elim other [
        | inl goes ↦ inr (inl (goes.0, ap₂ (λ a b. a ∷ b) (sym head) goes.1))
        | inr goes ↦ inr (inr (goes.0, ap₂ (λ a b. a ∷ b) head goes.1))
      ]
    ]

-- a prefix does not go on after its last payload
too_long : (prefix more rest : List (List ℕ)) (last next : List ℕ) → prefix ++ last ∷ [] ≡ (prefix ++ last ∷ more) ++ next ∷ rest
    → ⊥
too_long prefix more rest last next e =
    absurd (omega (
      arith,
      ap length e,
      length-append prefix (last ∷ []),
      length-append (prefix ++ last ∷ more) (next ∷ rest),
      length-append prefix (last ∷ more),
    ))

none_left : (prefix rest : List (List ℕ)) (next : List ℕ) → [] ≡ prefix ++ next ∷ rest → ⊥
none_left prefix rest next e = absurd (omega (arith, ap length e, length-append prefix (next ∷ rest)))

same_last : (xs ys : List (List ℕ)) (x y : List ℕ) → xs ++ x ∷ [] ≡ ys ++ y ∷ [] → (xs ≡ ys) × (x ≡ y)
same_last xs ys x y e = by (which_prefix xs ys [] [] x y e)
  where
    by : ((xs ≡ ys) × (x ≡ y)) ⊎ (Goes xs x ys ⊎ Goes ys y xs) → (xs ≡ ys) × (x ≡ y)
    by (inl same) = same
    by (inr (inl goes)) = absurd (too_long xs goes.0 [] x y (e ∙ ap (λ l. l ++ y ∷ []) goes.1))
    by (inr (inr goes)) = absurd (too_long ys goes.0 [] y x (sym e ∙ ap (λ l. l ++ x ∷ []) goes.1))

-- formed rows are known by the frames
pub same_base : (b c : Base) → AreFormed b → AreFormed c → payloads b ≡ payloads c → b ≡ c
same_base [] [] h k e = refl
same_base [] (two ∷ c) h k e = absurd (none_left (payloads c) [] (spelling_of two) e)
same_base (one ∷ b) [] h k e = absurd (none_left (payloads b) [] (spelling_of one) (sym e))
same_base (one ∷ b) (two ∷ c) h k e =
    let parts = same_last (payloads b) (payloads c) (spelling_of one) (spelling_of two) e in
    ap₂ (λ row older. row ∷ older) (row_by_spelling one two h.0 k.0 parts.1) (same_base b c h.1 k.1 parts.0)

-- where the first frames end, the next payload spells the row there
record GoesOn (long : ℕ) (prefix : List (List ℕ)) (payload : List ℕ) : Type 0 where
  older : Base
  row : Plain
  found : payloads older ≡ prefix
  spells : payload ≡ spelling_of row
  fit : fits_stored long older row.deed ≡ true
  formed : IsFormed row
  earlier : AreFormed older

module _ (long : ℕ) where
  next_row : (row : Plain) (older : Base) (prefix rest : List (List ℕ)) (payload : List ℕ)
      → are_stored_rows long (row ∷ older) ≡ true → AreFormed (row ∷ older)
      → payloads (row ∷ older) ≡ prefix ++ payload ∷ rest
      → ((more : List (List ℕ)) → payloads older ≡ prefix ++ payload ∷ more → GoesOn long prefix payload)
      → GoesOn long prefix payload
  next_row row older prefix rest payload good h e before = by (which_prefix (payloads older) prefix [] rest (spelling_of row)
      payload e)
    where
      by : ((payloads older ≡ prefix) × (spelling_of row ≡ payload)) ⊎ (Goes (payloads older) (spelling_of row) prefix
          ⊎ Goes prefix payload (payloads older)) → GoesOn long prefix payload
      by (inl same) = record {
        older = older;
        row = row;
        found = same.0;
        spells = sym same.1;
        fit = (and_parts (fits_stored long older row.deed) (are_stored_rows long older) good).0;
        formed = h.0;
        earlier = h.1;
      }
      by (inr (inl goes)) = absurd (too_long (payloads older) goes.0 rest (spelling_of row) payload (e
          ∙ ap (λ l. l ++ payload ∷ rest) goes.1))
      by (inr (inr goes)) = before goes.0 goes.1

  goes_on : (b : Base) (prefix rest : List (List ℕ)) (payload : List ℕ) → are_stored_rows long b ≡ true → AreFormed b
      → payloads b ≡ prefix ++ payload ∷ rest → GoesOn long prefix payload
  goes_on [] prefix rest payload good h e = absurd (none_left prefix rest payload e)
  goes_on (row ∷ older) prefix rest payload good h e =
      next_row row older prefix rest payload good h e (λ more f. goes_on older prefix more payload
      (and_parts (fits_stored long older row.deed) (are_stored_rows long older) good).1 h.1 f)

-- frames of rows that may follow one another are not damaged
pub stored_undamaged : (found : FoundFiles) (stored : Base) → found.frames ≡ payloads stored → AreFormed stored
    → are_stored_rows (length found.objects) stored ≡ true → IsUndamaged found
stored_undamaged found stored spelled formed good n damaged =
    let at = goes_on (length found.objects) stored (payloads damaged.stored) damaged.rest damaged.payload good formed (sym spelled
    ∙ damaged.list_is) in
    let same : at.older ≡ damaged.stored = same_base at.older damaged.stored at.earlier damaged.formed at.found in
    damaged.unfit at.row at.formed at.spells (subst (λ c. fits_stored (length found.objects) c at.row.deed ≡ true) same at.fit)

pub represented_undamaged : RepresentedIsUndamaged
represented_undamaged found b r = stored_undamaged found r.stored r.spelled r.formed r.good

-- what was found, up to the frame before one
abbrev cut : FoundFiles → Base → FoundFiles
cut found stored = record { frames = payloads stored; objects = found.objects }

earlier_damage : (found : FoundFiles) (n : ℕ) (one : IsDamaged found n) (stored : Base)
    → Goes (payloads one.stored) one.payload (payloads stored) → IsDamaged (cut found stored) n
earlier_damage found n one stored goes = record {
  stored = one.stored;
  payload = one.payload;
  rest = goes.0;
  list_is = goes.1;
  number = one.number;
  good = one.good;
  formed = one.formed;
  unfit = one.unfit;
}

pub damaged_once : FoundIsDamagedOnce
damaged_once found m n one two = by (which_prefix (payloads one.stored) (payloads two.stored) one.rest two.rest one.payload
    two.payload (sym one.list_is ∙ two.list_is))
  where
    by : ((payloads one.stored ≡ payloads two.stored) × (one.payload ≡ two.payload))
        ⊎ (Goes (payloads one.stored) one.payload (payloads two.stored)
        ⊎ Goes (payloads two.stored) two.payload (payloads one.stored)) → m ≡ n
    by (inl same) = one.number ∙ ap size (same_base one.stored two.stored one.formed two.formed same.0) ∙ sym two.number
    by (inr (inl goes)) = absurd (stored_undamaged (cut found two.stored) two.stored refl two.formed two.good m
        (earlier_damage found m one two.stored goes))
    by (inr (inr goes)) = absurd (stored_undamaged (cut found one.stored) one.stored refl one.formed one.good n
        (earlier_damage found n two one.stored goes))

-- a payload that spells no row which fits those before it is damaged, whatever the file of objects has
pub damaged_here : (found : FoundFiles) (base : Base) (payload : List ℕ) (rest : List (List ℕ)) (n : ℕ) → is_base base ≡ true
    → AreFormed base → found.frames ≡ payloads base ++ payload ∷ rest → n ≡ size base → IsUnfit base payload
    → IsDamaged found n
damaged_here found base payload rest n good formed is number unfit = record {
  stored = base;
  payload = payload;
  rest = rest;
  list_is = is;
  number = number;
  good = base_is_stored (length found.objects) base good;
  formed = formed;
  unfit = λ row keeps spells fit. unfit row keeps spells (fits_as_plain (length found.objects) base row.deed good fit);
}

pub one_list : FramesAreOfOneList
one_list = same_base
