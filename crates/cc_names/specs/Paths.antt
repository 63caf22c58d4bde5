-- What a path is: the root, or names joined by `/`; and the first fault, from the left, of bytes that are none.
use Rattle.std.specs.Prelude.{◌≡◌, ℕ, ◌+◌, Bool, false, ◌==◌, nat_lt, Option, Some, None, Result, Ok, Err, List, [], ◌∷◌, ◌++◌}
use Rattle.std.specs.Prelude.{length, take, if◌then◌else◌}
use Rattle.std.specs.List.{slice_split, join_with_byte, last_or}
use Rattle.cc_names.specs.Names.{fault_at, unless_fault}
use Rattle.cc_names.specs.declared.names.NameFault.{NameFault}
use Rattle.cc_names.specs.declared.names.NameFault.TheVariants.{Empty, TooLong}

-- the `/` that joins the names of a path
abbrev pub is_slash : ℕ → Bool
is_slash b = b == 47

-- the `@` that may stand after a path, and before what else is told
abbrev pub is_at : ℕ → Bool
is_at b = b == 64

-- the path of the root, `.`
abbrev pub root : List ℕ
root = 46 ∷ []

-- whether a path is the root
abbrev pub is_root : List ℕ → Bool
is_root (b ∷ []) = b == 46
is_root _ = false

-- one fault, or where there is none another
abbrev pub fault_or : Option NameFault → Option NameFault → Option NameFault
fault_or (Some fault) later = Some fault
fault_or None later = later

-- the first fault of names that follow each other from a place of a text, one byte between each two
abbrev pub first_fault : ℕ → List (List ℕ) → Option NameFault
first_fault place [] = None
first_fault place (name ∷ names) = fault_or (fault_at place name) (first_fault (place + length name + 1) names)

-- the fault of bytes as a path
abbrev pub path_fault : List ℕ → Option NameFault
path_fault [] = Some Empty
path_fault (b ∷ bs) =
    if nat_lt 1024 (length (b ∷ bs)) then Some (TooLong (length (b ∷ bs)))
    else if is_root (b ∷ bs) then None
    else first_fault 0 (slice_split is_slash (b ∷ bs))

-- A path: `.` for the root, or names joined by `/`, at most 1,024 bytes in all.
pub record IsPath (bytes : List ℕ) : Type 0 where
  pub no_fault : path_fault bytes ≡ None

-- bytes read as a path
abbrev pub path_of : List ℕ → Result (List ℕ) NameFault
path_of bytes = unless_fault (path_fault bytes) bytes

-- the names of a path, from the root on
abbrev pub names_of : List ℕ → List (List ℕ)
names_of path = if is_root path then [] else slice_split is_slash path

-- the path of these names; the root where there are none
abbrev pub path_of_names : List (List ℕ) → List ℕ
path_of_names [] = root
path_of_names (name ∷ names) = join_with_byte 47 (name ∷ names)

-- the path of all names but the last
abbrev pub without_last : List (List ℕ) → Option (List ℕ)
without_last [] = None
without_last (name ∷ names) = Some (path_of_names (take (length names) (name ∷ names)))

-- the path of the directory that holds this one; the root has none
abbrev pub parent_of : List ℕ → Option (List ℕ)
parent_of path = without_last (names_of path)

-- the last name; the root has none
abbrev pub last_of : List ℕ → Option (List ℕ)
last_of path = last_or None (names_of path)

-- a path where it is no longer than a path may be
abbrev pub unless_long : List ℕ → Result (List ℕ) NameFault
unless_long path = if nat_lt 1024 (length path) then Err (TooLong (length path)) else Ok path

-- the path of this name in the directory of that path
abbrev pub join_of : List ℕ → List ℕ → Result (List ℕ) NameFault
join_of path name = unless_long (path_of_names (names_of path ++ (name ∷ [])))

-- a path before paths, where all of them are there
abbrev pub path_before : Option (List ℕ) → Option (List (List ℕ)) → Option (List (List ℕ))
path_before (Some path) (Some paths) = Some (path ∷ paths)
path_before _ _ = None

-- words as paths, where each of them is one as it is read so
abbrev pub paths_read : (List ℕ → Option (List ℕ)) → List (List ℕ) → Option (List (List ℕ))
paths_read read [] = Some []
paths_read read (word ∷ words) = path_before (read word) (paths_read read words)
