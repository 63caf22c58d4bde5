-- One number for names.
use Rattle.std.specs.Prelude.{ℕ, List, [], ◌∷◌, ◌++◌, fold, length}
use Rattle.std.specs.RandomState.{initial_hasher}
use Rattle.std.specs.declared.random_state.RandomState.{RandomState}
use Rattle.std.specs.Hash.{HashWrites, u64, usize}
use Rattle.std.specs.Hash.DefaultHasher.{write, finish}

-- the keyed hash, SipHash-1-3, of what is written one after the other
abbrev pub hash : RandomState → HashWrites → ℕ
hash hashing writes = finish (fold write (initial_hasher hashing) writes)

-- the hash of a number and the bytes of a name
abbrev pub key_of : RandomState → ℕ → List ℕ → ℕ
key_of hashing number name = hash hashing (u64 number ++ name ∷ [])

-- the hash of a number, the bytes of a name after their number, and the bytes of a path
abbrev pub key_at : RandomState → ℕ → List ℕ → List ℕ → ℕ
key_at hashing number name path = hash hashing (u64 number ++ usize (length name) ++ name ∷ path ∷ [])
