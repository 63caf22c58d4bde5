-- The entries of a record of reads have the form of a row's: in order of their paths, each path once.
use Rattle.std.proofs.Common.{◌≡◌, refl, ap, ℕ, suc, ◌<◌, ◌≤◌, ◌^◌, Bool, true, false, ◌&&◌, T, Option, Some, None, List, []}
use Rattle.std.proofs.Common.{◌∷◌, length, map, arith}
use Rattle.std.specs.Cmp.Lexicographic.{slice_cmp, nat_list_cmp_total}
use Rattle.std.specs.FinMap.Entries.{put, by_order, below_all, is_sorted, is_sorted-put}
use Rattle.std.specs.List.{AllByRecursion}
use Rattle.std.specs.List.Sorted.{IsStrictlySortedBy}
use Rattle.std.specs.Ordering.{nat_cmp, is_lt}
use Rattle.std.specs.declared.cmp.Ordering.{Ordering}
use Rattle.std.specs.declared.cmp.Ordering.TheVariants.{Less, Equal, Greater}
use Rattle.cc_names.specs.Formed.{IsLong, IsBelowRoot, IsEntry, path_of_entry, AreEntries}
use Rattle.cc_names.proofs.Common.{less_by_test}
use Rattle.legal_history.specs.Builds.Choices.{entry_row, in_order, as_entry, entries}

-- a path with a row, as an entry has them
abbrev IsPair : List ℕ × ℕ → Type 0
IsPair pair = IsBelowRoot pair.0 × IsLong pair.1

put_pairs : (path : List ℕ) (row : ℕ) (pairs : List (List ℕ × ℕ)) → IsBelowRoot path → IsLong row → AllByRecursion IsPair pairs
    → AllByRecursion IsPair (put (slice_cmp nat_cmp) path row pairs)
put_pairs path row [] below long h = ((below, long), tt)
put_pairs path row (pair ∷ pairs) below long h = by (slice_cmp nat_cmp path pair.0) (put_pairs path row pairs below long h.1)
  where
    by : (o : Ordering) → AllByRecursion IsPair (put (slice_cmp nat_cmp) path row pairs) →
        AllByRecursion IsPair (by_order o ((path, row) ∷ pair ∷ pairs) ((pair.0, row) ∷ pairs)
        (pair ∷ put (slice_cmp nat_cmp) path row pairs))
    by Less rest = ((below, long), h)
    by Equal rest = ((h.0.0, long), h.1)
    by Greater rest = (h.0, rest)

put_few : (path : List ℕ) (row : ℕ) (pairs : List (List ℕ × ℕ)) → length (put (slice_cmp nat_cmp) path row pairs)
    ≤ suc (length pairs)
put_few path row [] = omega arith
put_few path row (pair ∷ pairs) = by (slice_cmp nat_cmp path pair.0) (put_few path row pairs)
  where
    by : (o : Ordering) → length (put (slice_cmp nat_cmp) path row pairs) ≤ suc (length pairs) →
        length (by_order o ((path, row) ∷ pair ∷ pairs) ((pair.0, row) ∷ pairs) (pair ∷ put (slice_cmp nat_cmp) path row pairs))
        ≤ suc (suc (length pairs))
    by Less rest = omega arith
    by Equal rest = omega arith
    by Greater rest = omega arith

row_long : (o : Option ℕ) → ((row : ℕ) → o ≡ Some row → IsLong row) → IsLong (entry_row o)
row_long None long = omega arith
row_long (Some row) long = long row refl

ordered_pairs : (rows : List ℕ → Option ℕ) (reads : List (List ℕ)) → ((path : List ℕ) (row : ℕ) → rows path ≡ Some row
    → IsLong row) → AllByRecursion IsBelowRoot reads → AllByRecursion IsPair (in_order rows reads)
ordered_pairs rows [] long below = tt
ordered_pairs rows (path ∷ reads) long below =
    put_pairs path (entry_row (rows path)) (in_order rows reads) below.0 (row_long (rows path) (long path))
    (ordered_pairs rows reads long below.1)

ordered_few : (rows : List ℕ → Option ℕ) (reads : List (List ℕ)) → length (in_order rows reads) ≤ length reads
ordered_few rows [] = omega arith
ordered_few rows (path ∷ reads) =
    let rest = ordered_few rows reads in
    omega (arith, put_few path (entry_row (rows path)) (in_order rows reads))

ordered_sorted : (rows : List ℕ → Option ℕ) (reads : List (List ℕ)) → T (is_sorted (slice_cmp nat_cmp) (in_order rows reads))
ordered_sorted rows [] = tt
ordered_sorted rows (path ∷ reads) = is_sorted-put (slice_cmp nat_cmp) nat_list_cmp_total path (entry_row (rows path))
    (in_order rows reads) (ordered_sorted rows reads)

-- pairs as entries
mapped_each : (pairs : List (List ℕ × ℕ)) → AllByRecursion IsPair pairs → AllByRecursion IsEntry (map as_entry pairs)
mapped_each [] h = tt
mapped_each (pair ∷ pairs) h = (h.0, mapped_each pairs h.1)

mapped_few : (pairs : List (List ℕ × ℕ)) → length (map as_entry pairs) ≡ length pairs
mapped_few [] = refl
mapped_few (pair ∷ pairs) = ap suc (mapped_few pairs)

and_parts : (a b : Bool) → T (a && b) → T a × T b
and_parts true b h = (tt, h)
and_parts false b h = absurd h

mapped_below : (path : List ℕ) (pairs : List (List ℕ × ℕ)) → T (below_all (slice_cmp nat_cmp) path pairs) →
    AllByRecursion (λ other. slice_cmp nat_cmp path other ≡ Less) (map path_of_entry (map as_entry pairs))
mapped_below path [] h = tt
mapped_below path (pair ∷ pairs) h =
    let parts = and_parts (is_lt (slice_cmp nat_cmp path pair.0)) (below_all (slice_cmp nat_cmp) path pairs) h in
    (less_by_test (slice_cmp nat_cmp path pair.0) parts.0, mapped_below path pairs parts.1)

mapped_sorted : (pairs : List (List ℕ × ℕ)) → T (is_sorted (slice_cmp nat_cmp) pairs)
    → IsStrictlySortedBy (slice_cmp nat_cmp) (map path_of_entry (map as_entry pairs))
unfolding IsStrictlySortedBy
mapped_sorted [] h = tt
mapped_sorted (pair ∷ pairs) h =
    let parts = and_parts (below_all (slice_cmp nat_cmp) pair.0 pairs) (is_sorted (slice_cmp nat_cmp) pairs) h in
    (mapped_below pair.0 pairs parts.0, mapped_sorted pairs parts.1)

-- The entries of reads below the root, whose rows are numbers of eight bytes, are formed.
pub entries_formed : (rows : List ℕ → Option ℕ) (reads : List (List ℕ))
    → ((path : List ℕ) (row : ℕ) → rows path ≡ Some row → IsLong row) → AllByRecursion IsBelowRoot reads → length reads < 2 ^ 32 →
    AreEntries (entries rows reads)
entries_formed rows reads long below few = (
  (
    (let same = mapped_few (in_order rows reads) in let less = ordered_few rows reads in omega arith),
    mapped_each (in_order rows reads) (ordered_pairs rows reads long below),
  ),
  mapped_sorted (in_order rows reads) (ordered_sorted rows reads),
)
