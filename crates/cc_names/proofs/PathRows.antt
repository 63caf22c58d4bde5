-- Worked rows of the definitions on paths.
use Rattle.std.proofs.Common.{◌≡◌, Some, None, Ok, Err, [], ◌∷◌, replicate, refl}
use Rattle.std.specs.Prelude.{codes}
use Rattle.cc_names.specs.Paths.{names_of, path_of_names, parent_of, last_of, join_of}
use Rattle.cc_names.specs.declared.names.NameFault.TheVariants.{TooLong}

names-root : names_of (codes ".") ≡ []
names-root = refl

names-one : names_of (codes "a.c") ≡ codes "a.c" ∷ []
names-one = refl

names-three : names_of (codes "src/lib/a.c") ≡ codes "src" ∷ codes "lib" ∷ codes "a.c" ∷ []
names-three = refl

path_of_names-none : path_of_names [] ≡ codes "."
path_of_names-none = refl

path_of_names-three : path_of_names (codes "src" ∷ codes "lib" ∷ codes "a.c" ∷ []) ≡ codes "src/lib/a.c"
path_of_names-three = refl

parent-root : parent_of (codes ".") ≡ None
parent-root = refl

parent-one : parent_of (codes "a") ≡ Some (codes ".")
parent-one = refl

parent-three : parent_of (codes "src/lib/a.c") ≡ Some (codes "src/lib")
parent-three = refl

last-root : last_of (codes ".") ≡ None
last-root = refl

last-one : last_of (codes "a") ≡ Some (codes "a")
last-one = refl

last-three : last_of (codes "src/lib/a.c") ≡ Some (codes "a.c")
last-three = refl

join-root : join_of (codes ".") (codes "a") ≡ Ok (codes "a")
join-root = refl

join-below : join_of (codes "src/lib") (codes "a.c") ≡ Ok (codes "src/lib/a.c")
join-below = refl

join-too_long : join_of (replicate 1023 97) (codes "b") ≡ Err (TooLong 1025)
join-too_long = refl
