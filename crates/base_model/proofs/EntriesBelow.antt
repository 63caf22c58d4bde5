-- The entries of a record name earlier rows.
use Rattle.std.proofs.Common.{◌≡◌, refl, subst, ℕ, ◌<◌, Bool, true, false, cond, ◌||◌, ◌==◌, Option, Some, None, List, [], ◌∷◌}
use Rattle.std.proofs.Common.{arith}
use Rattle.std.specs.List.{list_all}
use Rattle.std.specs.Prelude.{bytes_eq, find, option_map}
use Rattle.cc_names.specs.declared.rows.Deed.{Deed}
use Rattle.cc_names.specs.declared.rows.Deed.TheVariants as deeds
use Rattle.cc_names.specs.declared.rows.ReadOf.{ReadOf}
use Rattle.cc_names.proofs.Common.{same_number, and_first, and_second}
use Rattle.base_model.specs.Rows.{Base, size, deed_at}
use Rattle.base_model.specs.Changes.{targets_of_deed}
use Rattle.base_model.specs.Closures.{entries_of_deed, is_path_among}
use Rattle.base_model.specs.Conditions.{exists, is_entry, makes_file_text}
use Rattle.base_model.specs.Fits.{deed_fits}
use Rattle.base_model.specs.Objects.{row_in}
use Rattle.base_model.proofs.Deeds.{deed_below}

-- only row 0 is a row that says that nothing was there
first_alone : (t : Bool) → (t || false || false) ≡ true → t ≡ true
first_alone true h = refl
first_alone false h = absurd (cc)

pub entry_below : (b : Base) (entry : ReadOf) → is_entry b entry ≡ true → entry.row < size b
entry_below b entry h = by (deed_at b entry.row) refl h
  where
    by : (o : Option Deed) → deed_at b entry.row ≡ o → ((entry.row == 0) || makes_file_text b entry.row o
        || is_path_among entry.path (targets_of_deed o)) ≡ true → entry.row < size b
    by None is h = let number = same_number entry.row 0 (first_alone (entry.row == 0) h) in omega arith
    by (Some deed) is h = deed_below b entry.row deed is

-- each entry names a row below this number
abbrev pub AreBelow : ℕ → List ReadOf → Type 0
AreBelow n entries = (path : List ℕ) (r : ℕ) → row_in entries path ≡ Some r → r < n

pub entries_below : (b : Base) (entries : List ReadOf) → list_all (is_entry b) entries ≡ true → AreBelow (size b) entries
entries_below b [] h = λ path r is. absurd (cc)
entries_below b (entry ∷ entries) h = λ path r is. by path r (bytes_eq entry.path path) is
    (entries_below b entries (and_second (is_entry b entry) (list_all (is_entry b) entries) h) path r)
  where
    by : (path : List ℕ) (r : ℕ) (t : Bool) → option_map (λ (entry : ReadOf). entry.row)
        (cond t (Some entry) (find (λ entry. bytes_eq entry.path path) entries)) ≡ Some r →
        (row_in entries path ≡ Some r → r < size b) → r < size b
    by path r true is rest =
        let same : entry.row ≡ r = cc in
        subst (λ r. r < size b) same (entry_below b entry (and_first (is_entry b entry) (list_all (is_entry b) entries) h))
    by path r false is rest = rest is

-- the entries of a record fit where its deed fits
pub entries_fit : (b : Base) (deed : Deed) → deed_fits b deed ≡ true → list_all (is_entry b) (entries_of_deed (Some deed)) ≡ true
entries_fit b (deeds.Publish v targets script entries outputs) fit = and_second (exists b v) (list_all (is_entry b) entries) fit
entries_fit b deed fit = refl

pub deed_entries_below : (b : Base) (deed : Deed) → deed_fits b deed ≡ true → AreBelow (size b) (entries_of_deed (Some deed))
deed_entries_below b deed fit = entries_below b (entries_of_deed (Some deed)) (entries_fit b deed fit)
