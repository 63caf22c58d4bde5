-- The newest object of a list of targets that is live and whose record passes a test.
use Rattle.std.specs.Prelude.{ℕ, Bool, true, false, ◌&&◌, Option, Some, None, is_some, List, [], ◌∷◌}
use Rattle.cc_names.specs.declared.rows.Deed.{Deed}
use Rattle.cc_names.specs.declared.rows.Deed.TheVariants as deeds
use Rattle.cc_names.specs.declared.rows.ReadOf.{ReadOf}
use Rattle.base_model.specs.Changes.{live_row}
use Rattle.base_model.specs.Rows.{Base, size}
use Rattle.base_model.specs.Objects.{are_same_paths}

-- a test of records, by their scripts and entries
abbrev pub Test : Type 0
Test = List ℕ → List ReadOf → Bool

-- whether a deed publishes an object of these targets whose record passes
abbrev pub publishes : List (List ℕ) → Test → Deed → Bool
publishes targets passes (deeds.Publish v made script entries outputs) = are_same_paths made targets && passes script entries
publishes targets passes deed = false

-- the newest of some rows that is a live object of a base and passes
abbrev pub newest_passing : Base → List (List ℕ) → Test → Base → Option ℕ
newest_passing b targets passes [] = None
newest_passing b targets passes (row ∷ older) =
    elim (is_some (live_row b (size older)) && publishes targets passes row.deed) [
      | true ↦ Some (size older)
      | false ↦ newest_passing b targets passes older
    ]

-- the newest live object of a base with these targets that passes
abbrev pub newest_object : Base → List (List ℕ) → Test → Option ℕ
newest_object b targets passes = newest_passing b targets passes b
