-- Which views hold an object, each once.
use Rattle.std.specs.Bool.{⊤}
use Rattle.std.specs.Prelude.{◌≡◌, ℕ, false, not, ◌&&◌, ◌==◌, List, [], ◌∷◌}
use Rattle.cc_names.specs.References.{ReferencesByPath}
use Rattle.cc_names.specs.Versions.{put_if}
use Rattle.base_model.specs.Closures.{is_path_among}

-- the views that hold an object, each once
abbrev pub holding_views : ReferencesByPath → ℕ → List (List ℕ)
holding_views [] id = []
holding_views (entry ∷ held) id =
    put_if ((entry.1 == id) && not (is_path_among entry.0.0 (holding_views held id))) entry.0.0 (holding_views held id)

-- no view stands twice in a list
abbrev pub AreOnce : List (List ℕ) → Type 0
AreOnce [] = ⊤
AreOnce (view ∷ views) = (is_path_among view views ≡ false) × AreOnce views
