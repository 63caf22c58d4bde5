-- How long the text of a large session is.
use Rattle.std.proofs.Common.{◌≡◌, ℕ, zero, suc, ◌+◌, ◌*◌, ◌^◌, ◌<◌, ◌≤◌, List, [], ◌∷◌, length, length-append, arith}
use Rattle.std.proofs.lemmas.Fmt.{length-decimal-le}
use Rattle.std.specs.Fmt.{decimal}
use Rattle.std.specs.List.{AllByRecursion, flat_map}
use Rattle.large_session.specs.declared.draws.SourceFile.{SourceFile}
use Rattle.large_session.specs.Draws.{files_from, files_of, next_state}
use Rattle.large_session.specs.LargeSession.{large_session, made, made_source, making, rule, wanted_name}

-- the numbers of a file have at most 20 digits
pub record IsSmall (file : SourceFile) : Type 0 where
  pub number : file.number < 2 ^ 64
  pub content : file.content < 2 ^ 64
  pub joined : file.joined < 2 ^ 64

few_digits : (n : ℕ) → n < 2 ^ 64 → length (decimal n) ≤ 20
few_digits n h = length-decimal-le 20 n (omega arith) (omega (arith, h)) h

files_are_small : (size number x count : ℕ) → 0 < size → size < 2 ^ 32 → number + count < 2 ^ 33
    → AllByRecursion IsSmall (files_from size number x count)
files_are_small size number x zero some low few = tt
files_are_small size number x (suc count) some low few = (
  record {
    number = omega (arith, few);
    content = omega arith;
    joined = omega (arith, low);
  },
  files_are_small size (number + 1) (next_state (next_state x)) count some low
      (omega (arith, few)),
)

-- texts of at most so many bytes each, one after the other
texts_short : (f : SourceFile → List ℕ) (most : ℕ) (files : List SourceFile)
    → ((file : SourceFile) → IsSmall file → length (f file) ≤ most) → AllByRecursion IsSmall files
    → length (flat_map f files) ≤ most * length files
texts_short f most [] each small = omega arith
texts_short f most (file ∷ files) each small = omega (
  arith,
  each file small.0,
  texts_short f most files each small.1,
  length-append (f file) (flat_map f files),
)

count_files : (size number x count : ℕ) → length (files_from size number x count) ≡ count
count_files size number x zero = omega arith
count_files size number x (suc count) = omega (arith, count_files size (number + 1) (next_state (next_state x)) count)

-- what one file adds to the text
wanted_short : (file : SourceFile) → IsSmall file → length (wanted_name file) ≤ 22
wanted_short file small = grind (arith, few_digits, length-append)

rule_short : (file : SourceFile) → IsSmall file → length (rule file) ≤ 142
rule_short file small = grind (arith, few_digits, length-append)

made_short : (file : SourceFile) → IsSmall file → length (made_source file) ≤ 118
unfolding made
made_short file small = grind (arith, few_digits, length-append)

are_small : (seed size : ℕ) → size < 2 ^ 32 → AllByRecursion IsSmall (files_of seed size)
are_small seed zero low = tt
are_small seed (suc size) low = files_are_small (suc size) 1 seed (suc size) (omega arith) low (omega (arith, low))

-- The text of the session of so many files has at most 300 bytes for each, and 600 besides.
pub is_short : (seed size : ℕ) → size < 2 ^ 32 → length (large_session seed size) ≤ 600 + 300 * size
unfolding made making
is_short seed size low =
    let files = files_of seed size in
    let small = are_small seed size low in
    let count = count_files size 1 seed size in
    let wanted_all = texts_short wanted_name 22 files wanted_short small in
    let rules = texts_short rule 142 files rule_short small in
    let sources = texts_short made_source 118 files made_short small in
    grind (arith, count, wanted_all, rules, sources, length-append)
