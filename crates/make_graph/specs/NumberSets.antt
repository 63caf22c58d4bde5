-- Sets of numbers as bits, 64 in a word.
use Rattle.std.specs.Prelude.{◌≡◌, ◌+◌, ◌*◌, ◌/◌, ◌%◌, ◌==◌, ◌||◌, ℕ, zero, suc, Bool, false, Option, Some, None, List, [], ◌∷◌}
use Rattle.std.specs.Prelude.{◌++◌, length, slice_get, slice_index_or}
use Rattle.std.specs.Int.{bit_at}
use Rattle.cc_names.specs.declared.units.Unit.{Unit}
use Rattle.make_graph.specs.Waits.{closure_of, is_in, is_marked}

-- so many bits of a word, the lowest first
unfoldable pub word_bits : ℕ → ℕ → List Bool
word_bits zero word = []
word_bits (suc k) word = (word % 2 == 1) ∷ word_bits k (word / 2)

-- the bits of words, one word after the other
unfoldable pub bits_of : List ℕ → List Bool
bits_of [] = []
bits_of (word ∷ words) = word_bits 64 word ++ bits_of words

-- whether words have the bit of a number
abbrev pub has_number : List ℕ → ℕ → Bool
has_number words n = bit_at (slice_index_or words (n / 64) 0) (n % 64) == 1

-- the room of a set of the numbers below an end
abbrev pub room_below : ℕ → ℕ
room_below end = (end / 64 + 1) * 64

-- the set of each number has room for those below it
abbrev pub HaveRooms : List (List Bool) → Type 0
HaveRooms sets = (k : ℕ) (set : List Bool) → slice_get sets k ≡ Some set → length set ≡ room_below k

-- whether a number is another, or one of that one's set, where it has a set
abbrev pub is_brought : ℕ → ℕ → Option (List Bool) → Bool
is_brought n m None = false
is_brought n m (Some set) = (n == m) || is_marked set n

-- whether one of the numbers that have sets brings a number
abbrev pub brings_marked : List (List Bool) → ℕ → ℕ → Bool
brings_marked sets n m = is_brought n m (slice_get sets m)

-- each of the first units has its closure
abbrev pub AreClosures : List Unit → List (List Bool) → Type 0
AreClosures units sets =
    (k : ℕ) (set : List Bool) → slice_get sets k ≡ Some set → (n : ℕ) → is_marked set n ≡ is_in (closure_of units k) n
