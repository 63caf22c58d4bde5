-- The names of versions, told from a branch upwards, and of versions that the next row makes.
use Rattle.std.specs.Prelude.{ℕ, Option, Some, None, List, [], ◌∷◌, ◌++◌, codes, decimal, length, option_map}
use Rattle.std.specs.Option.{option_map_or}
use Rattle.cc_names.specs.Branches.{names_of_branch}
use Rattle.cc_names.specs.Versions.{versions_on}
use Rattle.cc_names.specs.declared.changes.TreeChange.{TreeChange}
use Rattle.cc_names.specs.declared.rows.Deed.{Deed}
use Rattle.cc_names.specs.declared.rows.Deed.TheVariants as deeds
use Rattle.base_model.specs.Rows.{Base}
use Rattle.legal_history.specs.Queries.VersionNames.{behind_slashes, version_name}

-- the names after `main` that lead to a branch; none where there is no branch
abbrev pub names_above : List TreeChange → Option ℕ → List (List ℕ)
names_above changes branch = option_map_or (names_of_branch changes) branch []

-- the name of the next version of a branch, where the branch has an element
abbrev pub name_on : List TreeChange → ℕ → Option ℕ → List ℕ
name_on changes branch element =
    option_map_or (λ e. behind_slashes (codes "main" ∷ names_of_branch changes branch) ++ 47
    ∷ decimal (length (versions_on changes branch))) element []

-- the name of version 0 of a new branch of this name
abbrev pub name_of_new : List TreeChange → Option ℕ → List ℕ → List ℕ
name_of_new changes above name = behind_slashes (codes "main" ∷ (names_above changes above ++ name ∷ [])) ++ 47 ∷ decimal 0

-- the version that the command of a row of this deed is replied, by the row's own number: what a checkout takes out, and what a
-- branch or a checkin makes
abbrev pub replied_version : ℕ → Deed → Option ℕ
replied_version n (deeds.Checkout v e origin reserved) = Some origin
replied_version n (deeds.Branch v e origin name out) = Some n
replied_version n (deeds.Checkin v e) = Some n
replied_version n deed = None

-- the name that the command of the newest row of a base is replied
abbrev pub replied_name : Base → Deed → Option (List ℕ)
replied_name b deed = option_map (version_name b) (replied_version (length b) deed)
