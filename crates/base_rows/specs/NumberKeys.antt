-- One number for some numbers, for a name beside one, and for some paths.
use Rattle.std.specs.Prelude.{ℕ, List, [], ◌∷◌, ◌++◌, length}
use Rattle.std.specs.Hash.{HashWrites, u64, usize}
use Rattle.std.specs.declared.random_state.RandomState.{RandomState}
use Rattle.cc_names.specs.Keys.{hash}

-- what is written of some numbers
abbrev pub writes : List ℕ → HashWrites
writes [] = []
writes (n ∷ numbers) = u64 n ++ writes numbers

-- the hash of a number and of some more
abbrev pub key_by : RandomState → ℕ → List ℕ → ℕ
key_by hashing number numbers = hash hashing (u64 number ++ writes numbers)

-- the hash of two numbers and the bytes of a name
abbrev pub key_with : RandomState → ℕ → ℕ → List ℕ → ℕ
key_with hashing number other name = hash hashing (u64 number ++ u64 other ++ name ∷ [])

-- the hash of two numbers, the bytes of a name after their number, and those of another name
abbrev pub key_in : RandomState → ℕ → ℕ → List ℕ → List ℕ → ℕ
key_in hashing number other view name = hash hashing (u64 number ++ u64 other ++ usize (length view) ++ view ∷ name ∷ [])

-- what is written of some paths, each after its length
abbrev pub path_writes : List (List ℕ) → HashWrites
path_writes [] = []
path_writes (path ∷ paths) = usize (length path) ++ path ∷ path_writes paths

-- the hash of a number and some paths
abbrev pub key_by_paths : RandomState → ℕ → List (List ℕ) → ℕ
key_by_paths hashing number paths = hash hashing (u64 number ++ path_writes paths)
