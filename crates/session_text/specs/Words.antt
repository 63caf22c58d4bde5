-- What single words say.
use Rattle.std.specs.Prelude.{ℕ, ◌-◌, ◌<◌, ◌^◌, Bool, true, false, ◌&&◌, nat_le, Option, Some, None, Result, Ok, Err, List, [], ◌∷◌, ◌++◌}
use Rattle.std.specs.Prelude.{codes, take, drop, length, if◌then◌else◌}
use Rattle.std.specs.List.{AllByRecursion, position, slice_split}
use Rattle.std.specs.Result.{result_ok}
use Rattle.std.specs.Str.{bytes_eq}
use Rattle.cc_names.specs.Formed.{IsTypeName}
use Rattle.cc_names.specs.Names.{name_of}
use Rattle.cc_names.specs.Numbers.{number_of}
use Rattle.cc_names.specs.Paths.{path_of, is_root, is_slash, is_at}
use Rattle.cc_names.specs.TypeNames.{type_name_of}
use Rattle.cc_names.specs.declared.commands.VersionName.{VersionName}
use Rattle.cc_names.specs.declared.refusals.SessionCause.{SessionCause}
use Rattle.cc_names.specs.declared.refusals.SessionCause.TheVariants.{BadWord}

-- a version's name: the type names of its branches after `main`, and a number of eight bytes
abbrev pub IsVersionName : VersionName → Type 0
IsVersionName version = AllByRecursion IsTypeName version.branches × (version.number < 2 ^ 64)

-- what words say, or the cause where they say nothing
abbrev pub Said : Type 0 → Type 0
Said X = Result X SessionCause

-- what was read, where something was; else the words are bad
abbrev pub or_bad : {X : Type 0} → Option X → Said X
or_bad (Some x) = Ok x
or_bad None = Err BadWord

-- what was read, where a test holds
abbrev pub where_so : {X : Type 0} → Bool → Said X → Said X
where_so true said = said
where_so false said = Err BadWord

-- a name
abbrev pub name_word : List ℕ → Said (List ℕ)
name_word word = or_bad (result_ok (name_of word))

-- a path
abbrev pub path_word : List ℕ → Said (List ℕ)
path_word word = or_bad (result_ok (path_of word))

-- a path below the root
abbrev pub below_root : List ℕ → Said (List ℕ)
below_root word = if is_root word then Err BadWord else path_word word

-- the name of a label type or a branch type
abbrev pub type_word : List ℕ → Said (List ℕ)
type_word word = or_bad (type_name_of word)

-- a number, where it is within limits
abbrev pub within_limits : ℕ → ℕ → Option ℕ → Said ℕ
within_limits least most (Some n) = if nat_le least n && nat_le n most then Ok n else Err BadWord
within_limits least most None = Err BadWord

-- an age in seconds, at most 2^63 - 1
abbrev pub age_word : List ℕ → Said ℕ
age_word word = within_limits 0 9223372036854775807 (number_of word)

-- a number of jobs, 1 to 64
abbrev pub jobs_word : List ℕ → Said ℕ
jobs_word word = within_limits 1 64 (number_of word)

-- a version of these branches after `main`, where there is a number
abbrev pub version_of_parts : List (List ℕ) → Option ℕ → Said VersionName
version_of_parts branches (Some n) = Ok (record { branches = branches; number = n })
version_of_parts branches None = Err BadWord

-- where a word is the name of a type, what it says with that name after these
abbrev pub with_branch : (List (List ℕ) → Said VersionName) → List (List ℕ) → Said (List ℕ) → Said VersionName
with_branch more branches (Ok branch) = more (branches ++ branch ∷ [])
with_branch more branches (Err cause) = Err cause

-- what follows `/main/`: the names of branch types, and then a number. `branches` are those that stand before
abbrev pub version_behind_main : List (List ℕ) → List (List ℕ) → Said VersionName
version_behind_main [] branches = Err BadWord
version_behind_main (number ∷ []) branches = version_of_parts branches (number_of number)
version_behind_main (branch ∷ next ∷ parts) branches = with_branch (version_behind_main (next ∷ parts)) branches
    (type_word branch)

-- a version by its name, as `/main/fix/3`
abbrev pub version_word : List ℕ → Said VersionName
version_word word =
    where_so (bytes_eq (take 6 word) (codes "/main/")) (version_behind_main (slice_split is_slash (drop 6 word)) [])

-- two readings, where both gave something
abbrev pub both : {X Y : Type 0} → Said X → Said Y → Said (X × Y)
both (Err cause) y = Err cause
both (Ok x) (Err cause) = Err cause
both (Ok x) (Ok y) = Ok (x, y)

-- what was read, made into something else
abbrev pub says : {X Y : Type 0} → (X → Y) → Said X → Said Y
says make (Ok x) = Ok (make x)
says make (Err cause) = Err cause

-- what is said of what was read
abbrev pub and_says : {X Y : Type 0} → (X → Said Y) → Said X → Said Y
and_says more (Ok x) = more x
and_says more (Err cause) = Err cause

-- a path and, after `@@`, a version of the element there, by the place of the first `@`
abbrev pub cat_by : List ℕ → Option ℕ → Said (List ℕ × Option VersionName)
cat_by word None = says (λ path. (path, None)) (path_word word)
cat_by word (Some place) =
    where_so (bytes_eq (take 2 (drop place word)) (codes "@@"))
    (both (path_word (take place word)) (says Some (version_word (drop 2 (drop place word)))))

-- a path, or a path and a version as `src/a.c@@/main/3`
abbrev pub cat_word : List ℕ → Said (List ℕ × Option VersionName)
cat_word word = cat_by word (position is_at word)

-- the branch type of a word `.../B/LATEST`
abbrev pub latest_word : List ℕ → Said (List ℕ)
latest_word word =
    where_so (bytes_eq (take 4 word) (codes ".../"))
    (where_so (bytes_eq (drop (length (drop 4 word) - 7) (drop 4 word)) (codes "/LATEST"))
    (type_word (take (length (drop 4 word) - 7) (drop 4 word))))
