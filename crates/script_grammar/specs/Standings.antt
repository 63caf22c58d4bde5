-- What the files of a run mean, and what they were asked for.
use Rattle.std.specs.Prelude.{◌≡◌, true, ℕ, ◌≤◌, Option, List, option_map}
use Rattle.std.specs.List.{AllByRecursion, list_any}
use Rattle.std.specs.Str.{bytes_eq}
use Rattle.cc_names.specs.Files.{Files}

-- what stands at a path: the row that made it, and its text
pub record Standing : Type 0 where
  pub row : ℕ
  pub text : List ℕ

-- the text of what stands at a path
abbrev pub text_of : Standing → List ℕ
text_of standing = standing.text

-- the texts alone
abbrev pub texts : (List ℕ → Option Standing) → Files
texts stands path = option_map text_of (stands path)

-- a path is one of these
abbrev pub IsAmong : List ℕ → List (List ℕ) → Type 0
IsAmong path paths = list_any (bytes_eq path) paths ≡ true

-- each of some paths is one of others
abbrev pub AreAmong : List (List ℕ) → List (List ℕ) → Type 0
AreAmong some paths = AllByRecursion (λ path. IsAmong path paths) some

-- Files after calls, beside files before: they mean the same, and their count of broken answers did not fall.
pub record Stays {A : Type 0} (stands : A → List ℕ → Option Standing) (broken : A → ℕ) (old new : A) : Type 0 where
  pub meaning : stands new ≡ stands old
  pub count : broken old ≤ broken new
