-- The keys of subjects, and of names on a branch, some after others.
use Rattle.std.proofs.Common.{◌≡◌, ℕ, List, [], ◌∷◌, ◌++◌, map, refl, ap}
use Rattle.std.specs.declared.random_state.RandomState.{RandomState}
use Rattle.base_rows.specs.Subjects.{Subject, Altered, key}

pub keys_parted : (hashing : RandomState) (one two : List Subject) → map (key hashing) (one ++ two) ≡ map (key hashing) one
    ++ map (key hashing) two
keys_parted hashing [] two = refl
keys_parted hashing (subject ∷ one) two = ap (λ rest. key hashing subject ∷ rest) (keys_parted hashing one two)

abbrev pub keys_of_names : RandomState → ℕ → List (List ℕ) → List ℕ
keys_of_names hashing branch names = map (key hashing) (map (Altered branch) names)

pub names_parted : (hashing : RandomState) (branch : ℕ) (one two : List (List ℕ))
    → keys_of_names hashing branch (one ++ two) ≡ keys_of_names hashing branch one ++ keys_of_names hashing branch two
names_parted hashing branch [] two = refl
names_parted hashing branch (name ∷ one) two = ap (λ rest. key hashing (Altered branch name) ∷ rest)
    (names_parted hashing branch one two)
