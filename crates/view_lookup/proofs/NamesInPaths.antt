-- The names of the path of a name in a directory.
use Rattle.std.proofs.Common.{◌≡◌, ℕ, List, [], ◌∷◌, ◌++◌}
use Rattle.std.specs.List.{AllByRecursion}
use Rattle.cc_names.specs.Names.{IsName}
use Rattle.cc_names.specs.Paths.{IsPath, names_of}
use Rattle.cc_names.proofs.PathParts.{names_of-path_of_names, names_of-names}
use Rattle.legal_history.specs.Queries.DirectoryTexts.{path_of_entry}

all_more : (P : List ℕ → Type 0) (xs : List (List ℕ)) (x : List ℕ) → AllByRecursion P xs → P x → AllByRecursion P (xs ++ x ∷ [])
all_more P [] x all is = (is, tt)
all_more P (first ∷ xs) x all is = (all.0, all_more P xs x all.1 is)

pub names_in_path : (directory name : List ℕ) → IsPath directory → IsName name
    → names_of (path_of_entry directory name) ≡ names_of directory ++ name ∷ []
names_in_path directory name path is = names_of-path_of_names (names_of directory ++ name ∷ [])
    (all_more IsName (names_of directory) name (names_of-names directory path) is)
