-- The rows of a record by their paths.
use Rattle.std.proofs.Common.{◌≡◌, ap, sym, ◌∙◌, ℕ, suc, ◌-◌, ◌<◌, Bool, true, false, cond, Option, Some, List, ◌∷◌, length}
use Rattle.std.proofs.Common.{drop, drop-cons, get_or, bytes_eq, arith, refl}
use Rattle.std.proofs.lemmas.Map.Text.{is_eq-slice_cmp}
use Rattle.std.specs.BTreeMap.{is_at}
use Rattle.std.specs.Cmp.Lexicographic.{slice_cmp}
use Rattle.std.specs.Ordering.{nat_cmp}
use Rattle.std.specs.Prelude.{option_map, find as find_in}
use Rattle.cc_names.specs.declared.rows.ReadOf.{ReadOf}
use Rattle.base_model.specs.Objects.{row_in}

-- the row of a path, by the first entry
row_first : (entry : ReadOf) (entries : List ReadOf) (path : List ℕ) → row_in (entry ∷ entries) path
    ≡ cond (bytes_eq entry.path path) (Some entry.row) (row_in entries path)
row_first entry entries path = by (bytes_eq entry.path path)
  where
    by : (t : Bool) → option_map (λ (e : ReadOf). e.row) (cond t (Some entry) (find_in (λ e. bytes_eq e.path path) entries))
        ≡ cond t (Some entry.row) (row_in entries path)
    by true = refl
    by false = refl

-- one entry more, before those that were taken
pub row_more : (entries : List ReadOf) (i : ℕ) (entry : ReadOf) (key path : List ℕ) (old new : Option ℕ) → i - 1 < length entries
    → 0 < i → entry ≡ get_or entries (i - 1) entry → key ≡ entry.path →
    old ≡ row_in (drop i entries) path → new ≡ cond (is_at (slice_cmp nat_cmp key) path) (Some entry.row) old
    → new ≡ row_in (drop (i - 1) entries) path
row_more entries i entry key path old new within some at same stood put_in =
    let next : suc (i - 1) ≡ i = omega arith in
    let prefix : drop (i - 1) entries ≡ entry ∷ drop i entries =
    drop-cons entries (i - 1) entry within ∙ ap (λ e. e ∷ drop (suc (i - 1)) entries) (sym at)
    ∙ ap (λ n. entry ∷ drop n entries) next in
    put_in
    ∙ ap (λ t. cond t (Some entry.row) old) (is_eq-slice_cmp key path ∙ ap (λ p. bytes_eq p path) same)
    ∙ ap (cond (bytes_eq entry.path path) (Some entry.row)) stood
    ∙ sym (ap (λ (left : List ReadOf). row_in left path) prefix ∙ row_first entry (drop i entries) path)
