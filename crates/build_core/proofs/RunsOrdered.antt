-- A path put into an ordered map of rows, as the record of reads is made: from the last read to the first.
use Rattle.std.proofs.Common.{◌≡◌, refl, ap, sym, ◌∙◌, ℕ, suc, ◌-◌, ◌<◌, Option, Some, None, List, [], ◌∷◌, length, drop, get_or}
use Rattle.std.proofs.Common.{arith}
use Rattle.std.proofs.Math.Seq.{drop-cons}
use Rattle.std.specs.BTreeMap.{insert_entry}
use Rattle.std.specs.Cmp.Lexicographic.{slice_cmp}
use Rattle.std.specs.FinMap.Entries.{put, by_order}
use Rattle.std.specs.Option.{unwrap_or}
use Rattle.std.specs.Ordering.{nat_cmp, match_ordering}
use Rattle.std.specs.declared.cmp.Ordering.{Ordering}
use Rattle.std.specs.declared.cmp.Ordering.TheVariants.{Less, Equal, Greater}
use Rattle.legal_history.specs.Builds.Choices.{entry_row, in_order}

-- what a map inserts is put in order
inserted : (path : List ℕ) (row : ℕ) (pairs : List (List ℕ × ℕ)) → insert_entry (slice_cmp nat_cmp) pairs path row
    ≡ put (slice_cmp nat_cmp) path row pairs
inserted path row [] = refl
inserted path row (pair ∷ pairs) = by (slice_cmp nat_cmp path pair.0) (inserted path row pairs)
  where
    by : (o : Ordering) → insert_entry (slice_cmp nat_cmp) pairs path row ≡ put (slice_cmp nat_cmp) path row pairs →
        match_ordering o ((path, row) ∷ pair ∷ pairs) ((pair.0, row) ∷ pairs)
        (pair ∷ insert_entry (slice_cmp nat_cmp) pairs path row)
        ≡ by_order o ((path, row) ∷ pair ∷ pairs) ((pair.0, row) ∷ pairs) (pair ∷ put (slice_cmp nat_cmp) path row pairs)
    by Less rest = refl
    by Equal rest = refl
    by Greater rest = ap (λ others. pair ∷ others) rest

-- the row of a path, 0 where there is none
row_is : (o : Option ℕ) → unwrap_or o 0 ≡ entry_row o
row_is None = refl
row_is (Some row) = refl

-- One read more, before those that stand in order.
pub one_more : (rows : List ℕ → Option ℕ) (reads : List (List ℕ)) (i : ℕ) (path : List ℕ) (o : Option ℕ)
    (before after : List (List ℕ × ℕ)) → i - 1 < length reads → 0 < i → path ≡ get_or reads (i - 1) path → o ≡ rows path →
    before ≡ in_order rows (drop i reads) → after ≡ insert_entry (slice_cmp nat_cmp) before path (unwrap_or o 0)
    → after ≡ in_order rows (drop (i - 1) reads)
one_more rows reads i path o before after within some at seen stood put_in =
    let next : suc (i - 1) ≡ i = omega arith in
    let prefix : drop (i - 1) reads ≡ path ∷ drop i reads =
    drop-cons reads (i - 1) path within ∙ ap (λ p. p ∷ drop (suc (i - 1)) reads) (sym at) ∙ ap (λ n. path ∷ drop n reads) next in
    put_in
    ∙ inserted path (unwrap_or o 0) before
    ∙ ap (λ row. put (slice_cmp nat_cmp) path row before) (row_is o ∙ ap entry_row seen)
    ∙ ap (λ pairs. put (slice_cmp nat_cmp) path (entry_row (rows path)) pairs) stood
    ∙ sym (ap (in_order rows) prefix)
