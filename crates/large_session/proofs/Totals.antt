-- What is counted in the lines of a text stays within the numbers that count it.
use Rattle.std.proofs.Common.{◌≡◌, ℕ, ◌+◌, ◌*◌, ◌^◌, ◌<◌, ◌≤◌, Bool, true, false, not, nat_lt, Some, None, List, [], ◌∷◌, length}
use Rattle.std.proofs.Common.{refl, arith}
use Rattle.std.proofs.lemmas.Bool.Decides.{nat_tests}
use Rattle.std.proofs.lemmas.List.Splits.{length-slice_split}
use Rattle.std.proofs.lemmas.List.Sums.{count_by-le-length}
use Rattle.std.specs.Char.{is_ascii_digit}
use Rattle.std.specs.List.{list_all, slice_split}
use Rattle.std.specs.Prelude.{◌&&◌, if◌then◌else◌}
use Rattle.std.specs.Str.Parse.{digits_value}
use Rattle.cc_names.specs.Cuts.{without_empty_end, is_newline, lines_of, words_of}
use Rattle.cc_names.specs.Numbers.{begins_no_number, below_limit, number_of}
use Rattle.cc_names.specs.References.{one_where}
use Rattle.large_session.specs.Summaries.{count_of, is_object_word, is_unit_line, length_said, length_told, lengths_of, or_zero}

one_at_most : (b : Bool) → one_where b ≤ 1
one_at_most true = omega arith
one_at_most false = omega arith

-- no more lines are so than there are
pub counts_lines : (is : List ℕ → Bool) (lines : List (List ℕ)) → count_of is lines ≤ length lines
counts_lines is [] = omega arith
counts_lines is (bytes ∷ rest) = omega (arith, counts_lines is rest, one_at_most (is bytes))

-- a number that is read is below 2^64
small : (n : ℕ) → or_zero (below_limit n) < 2 ^ 64
small n = by (nat_lt n (2 ^ 64)) refl
  where
    by : (t : Bool) → nat_lt n (2 ^ 64) ≡ t → or_zero (if t then Some n else None) < 2 ^ 64
    by true low = grind (arith, nat_tests)
    by false high = omega arith

read_small : (bytes : List ℕ) → or_zero (number_of bytes) < 2 ^ 64
read_small bytes = by (list_all is_ascii_digit bytes && not (begins_no_number bytes))
  where
    by : (t : Bool) → or_zero (if t then below_limit (digits_value 10 bytes) else None) < 2 ^ 64
    by true = small (digits_value 10 bytes)
    by false = omega arith

said_small : (words : List (List ℕ)) → length_said words < 2 ^ 64
said_small [] = omega arith
said_small (path ∷ []) = omega arith
said_small (path ∷ word ∷ []) = omega arith
said_small (path ∷ word ∷ digits ∷ words) = by (is_object_word word)
  where
    by : (t : Bool) → (if t then or_zero (number_of digits) else 0) < 2 ^ 64
    by true = read_small digits
    by false = omega arith

pub length_is_small : (bytes : List ℕ) → length_told bytes < 2 ^ 64
length_is_small bytes = by (is_unit_line bytes)
  where
    by : (t : Bool) → (if t then length_said (words_of bytes) else 0) < 2 ^ 64
    by true = said_small (words_of bytes)
    by false = omega arith

pub lengths_are_small : (lines : List (List ℕ)) → lengths_of lines ≤ length lines * 2 ^ 64
lengths_are_small [] = omega arith
lengths_are_small (bytes ∷ rest) = omega (arith, lengths_are_small rest, length_is_small bytes)

-- a text has one line more than newlines at most
ended_short : (parts : List (List ℕ)) → length (without_empty_end parts) ≤ length parts
ended_short [] = omega arith
ended_short ([] ∷ []) = omega arith
ended_short ((b ∷ bs) ∷ []) = omega arith
ended_short ([] ∷ other ∷ parts) = omega (arith, ended_short (other ∷ parts))
ended_short ((b ∷ bs) ∷ other ∷ parts) = omega (arith, ended_short (other ∷ parts))

pub few_lines : (text : List ℕ) → length (lines_of text) ≤ length text + 1
few_lines text =
    omega (
      arith,
      ended_short (slice_split is_newline text),
      length-slice_split is_newline text,
      count_by-le-length is_newline text,
    )
