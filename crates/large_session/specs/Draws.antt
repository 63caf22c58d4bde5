-- The numbers of the large session. A draw replaces x, which begins as the seed, and gives the upper half of the new x but for
-- its first bit.
use Rattle.std.specs.Prelude.{ℕ, zero, suc, ◌+◌, ◌*◌, ◌/◌, ◌%◌, ◌^◌, List, [], ◌∷◌}
use Rattle.large_session.specs.declared.draws.SourceFile.{SourceFile}

-- what a draw makes of x
abbrev pub next_state : ℕ → ℕ
next_state x = (x * 6364136223846793005 + 1442695040888963407) % 2 ^ 64

-- what a draw gives, of the new x
abbrev pub draw_of : ℕ → ℕ
draw_of x = x / 2 ^ 33

-- the file of this number, by two draws: the first gives its content, the second the file that it is joined with
abbrev pub drawn_file : ℕ → ℕ → ℕ → SourceFile
drawn_file size number x = record {
  number = number;
  content = draw_of (next_state x) % 1000;
  joined = 1 + draw_of (next_state (next_state x)) % size;
}

-- so many files, from this number on
abbrev pub files_from : ℕ → ℕ → ℕ → ℕ → List SourceFile
files_from size number x zero = []
files_from size number x (suc count) = drawn_file size number x ∷ files_from size (number + 1) (next_state (next_state x)) count

-- The source files of the session of this seed and size: as many as the size says, counted from 1.
abbrev pub files_of : ℕ → ℕ → List SourceFile
files_of seed size = files_from size 1 seed size
