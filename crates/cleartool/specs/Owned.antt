-- What rows gave views at paths, and which views hold an object.
use Rattle.std.specs.Prelude.{ℕ, Bool, false, ◌&&◌, ◌||◌, Option, Some, None, List, [], ◌∷◌, option_and_then}
use Rattle.cc_names.specs.declared.rows.Deed.{Deed}
use Rattle.cc_names.specs.declared.rows.Deed.TheVariants as deeds
use Rattle.base_model.specs.Changes.{targets_of}
use Rattle.base_model.specs.Closures.{is_path_among}
use Rattle.base_model.specs.Rows.{Base, deed_at, only_where}
use Rattle.base_rows.specs.Effects.{holds_one}
use Rattle.base_rows.specs.Giving.{gives_view}

-- the paths at which a deed gives its view a private file or an object
abbrev pub paths_given : Base → Deed → List (List ℕ)
paths_given b (deeds.Put v path text) = path ∷ []
paths_given b (deeds.Publish v targets script entries outputs) = targets
paths_given b (deeds.Wink v id) = targets_of b id
paths_given b deed = []

-- the same of a row, where there is one
abbrev pub paths_by : Base → Option Deed → List (List ℕ)
paths_by b None = []
paths_by b (Some deed) = paths_given b deed

-- whether the row of a number gave something at the path
abbrev pub is_given_by : Base → List ℕ → ℕ → Bool
is_given_by b path n = is_path_among path (paths_by b (deed_at b n))

-- whether one of some rows of a base gave the view something at the path
abbrev pub was_given : Base → List ℕ → List ℕ → Base → Bool
was_given b v path [] = false
was_given b v path (row ∷ older) = (gives_view v row.deed && is_path_among path (paths_given b row.deed))
    || was_given b v path older

-- the view of the row that made an object, where it holds it
abbrev pub maker_by : Base → ℕ → Option Deed → Option (List ℕ)
maker_by b id (Some (deeds.Publish v targets script entries outputs)) = only_where (holds_one b v id targets) (Some v)
maker_by b id _ = None

-- the view of a wink
abbrev pub winker : Deed → Option (List ℕ)
winker (deeds.Wink v id) = Some v
winker deed = None

-- the view whose wink the row of a number is
abbrev pub winker_at : Base → ℕ → Option (List ℕ)
winker_at b n = option_and_then winker (deed_at b n)
