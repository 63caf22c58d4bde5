-- The versions that a branch keeps.
use Rattle.std.specs.Prelude.{ℕ, zero, suc, Bool, cond, nat_lt, Option, Some, None, option_map, List, [], ◌∷◌, length, reverse}
use Rattle.std.specs.Prelude.{filter, slice_get}
use Rattle.cc_names.specs.Versions.{Version}
use Rattle.version_tree.specs.declared.branches.Later.{Later}
use Rattle.version_tree.specs.declared.branches.Branch.{Branch}

-- the row of a version after version 0
abbrev pub row_of_later : Later → ℕ
row_of_later later = later.row

-- The versions on a branch that begins at a moment, where these are its versions after version 0, newest first.
abbrev pub versions_from : ℕ → ℕ → List Later → List Version
versions_from b moment [] = record { row = b; moment = moment; branch = b; number = 0 } ∷ []
versions_from b moment (later ∷ older) =
    record { row = later.row; moment = later.moment; branch = b; number = length (versions_from b moment older) }
    ∷ versions_from b moment older

-- the versions on a branch, newest first
abbrev pub versions_stored : Branch → List Version
versions_stored branch = versions_from branch.row branch.moment (reverse branch.later.items)

-- those of them that the first rows of a base made
abbrev pub stored_of_first_rows : ℕ → Branch → List Version
stored_of_first_rows rows branch = filter (λ v. nat_lt v.row rows) (versions_stored branch)

-- a row where two tests hold
abbrev pub row_if : Bool → Bool → ℕ → Option ℕ
row_if one two row = cond one (cond two (Some row) None) None

-- the row of a number, where the versions after version 0 are given oldest first
abbrev pub row_numbered : ℕ → List Later → ℕ → Option ℕ
row_numbered b ls zero = Some b
row_numbered b ls (suc behind) = option_map row_of_later (slice_get ls behind)

-- a row that is among the first ones
abbrev pub row_within : ℕ → Option ℕ → Option ℕ
row_within rows None = None
row_within rows (Some row) = cond (nat_lt row rows) (Some row) None

-- the versions on a branch, and none on one that is not there
abbrev pub versions_by : Option Branch → List Version
versions_by None = []
versions_by (Some branch) = versions_stored branch
