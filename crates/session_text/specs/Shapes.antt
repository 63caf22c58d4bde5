-- What the words after a command's word say, by their shape. V and W are names of views, P and Q paths, L the name of a
-- type, and `flag` a word that may be left out.
use Rattle.std.specs.Prelude.{ℕ, Bool, true, false, Option, Some, None, Ok, Err, is_ok, List, [], ◌∷◌, if◌then◌else◌}
use Rattle.std.specs.Option.{option_map_or}
use Rattle.std.specs.Str.{bytes_eq}
use Rattle.cc_names.specs.Paths.{parent_of, join_of}
use Rattle.cc_names.specs.declared.refusals.SessionCause.TheVariants.{BadWord}
use Rattle.session_text.specs.Words.{Said, name_word, path_word, below_root, type_word, both, says}

-- whether a flag stands first
abbrev pub has_flag : List ℕ → List (List ℕ) → Bool
has_flag flag [] = false
has_flag flag (word ∷ words) = bytes_eq word flag

-- the words after the flag, where it stands first; else all
abbrev pub without_flag : List ℕ → List (List ℕ) → List (List ℕ)
without_flag flag [] = []
without_flag flag (word ∷ words) = if bytes_eq word flag then words else word ∷ words

-- the first word as a name
abbrev pub read_first_name : List (List ℕ) → Said (List ℕ)
read_first_name [] = Err BadWord
read_first_name (word ∷ words) = name_word word

-- the words after the first
abbrev pub behind_first : List (List ℕ) → List (List ℕ)
behind_first [] = []
behind_first (word ∷ words) = words

-- V
abbrev pub view : List (List ℕ) → Said (List ℕ)
view (v ∷ []) = name_word v
view _ = Err BadWord

-- L
abbrev pub only_type : List (List ℕ) → Said (List ℕ)
only_type (l ∷ []) = type_word l
only_type _ = Err BadWord

-- V P
abbrev pub view_path : List (List ℕ) → Said (List ℕ × List ℕ)
view_path (v ∷ p ∷ []) = both (name_word v) (path_word p)
view_path _ = Err BadWord

-- V P, where P is not the root
abbrev pub view_below : List (List ℕ) → Said (List ℕ × List ℕ)
view_below (v ∷ p ∷ []) = both (name_word v) (below_root p)
view_below _ = Err BadWord

-- P, or nothing
abbrev pub maybe_path : List (List ℕ) → Said (Option (List ℕ))
maybe_path [] = Ok None
maybe_path (p ∷ []) = says Some (path_word p)
maybe_path _ = Err BadWord

-- L P
abbrev pub type_path : List (List ℕ) → Said (List ℕ × List ℕ)
type_path (l ∷ p ∷ []) = both (type_word l) (path_word p)
type_path _ = Err BadWord

-- P L
abbrev pub path_type : List (List ℕ) → Said (List ℕ × List ℕ)
path_type (p ∷ l ∷ []) = both (path_word p) (type_word l)
path_type _ = Err BadWord

-- V flag P, by whether the flag stands there
abbrev pub flag_path : List ℕ → List (List ℕ) → Said (List ℕ × Bool × List ℕ)
flag_path flag [] = Err BadWord
flag_path flag (v ∷ words) = says (λ at. (at.0, has_flag flag words, at.1)) (view_path (v ∷ without_flag flag words))

-- V flag P, where P is not the root
abbrev pub flag_below : List ℕ → List (List ℕ) → Said (List ℕ × Bool × List ℕ)
flag_below flag [] = Err BadWord
flag_below flag (v ∷ words) = says (λ at. (at.0, has_flag flag words, at.1)) (view_below (v ∷ without_flag flag words))

-- whether beside this path the name makes a path
abbrev pub fits_beside : List ℕ → List ℕ → Bool
fits_beside path name = option_map_or (λ parent. is_ok (join_of parent name)) (parent_of path) true
