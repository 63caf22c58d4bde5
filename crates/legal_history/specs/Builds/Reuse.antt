-- Which object a unit may reuse in place of a run of its script.
use Rattle.std.specs.Prelude.{ℕ, Bool, true, false, ◌&&◌, Option, Some, None, is_some, List, [], ◌∷◌, bytes_eq}
use Rattle.std.specs.Option.{option_or}
use Rattle.std.specs.List.{list_all}
use Rattle.cc_names.specs.declared.rows.Deed.{Deed}
use Rattle.cc_names.specs.declared.rows.Deed.TheVariants as deeds
use Rattle.cc_names.specs.declared.rows.ReadOf.{ReadOf}
use Rattle.cc_names.specs.declared.units.Unit.{Unit}
use Rattle.base_model.specs.Rows.{Base, size, deed_at, only_where}
use Rattle.legal_history.specs.Builds.Active.{Build}
use Rattle.base_model.specs.Changes.{live_row}
use Rattle.legal_history.specs.Builds.Choices.{visible}
use Rattle.legal_history.specs.Builds.Fresh.{script_text}
use Rattle.base_model.specs.Objects.{are_same_paths, agrees, held_at_all}

-- whether an entry has the row that is visible at its path, or says that nothing was there and nothing is visible
abbrev pub entry_agrees : (List ℕ → Option ℕ) → ReadOf → Bool
entry_agrees rows entry = agrees entry.row (rows entry.path)

-- whether a record is of these targets and this script, and each entry agrees with what is visible
abbrev pub record_matches : List (List ℕ) → List ℕ → (List ℕ → Option ℕ) → Option Deed → Bool
record_matches targets script rows (Some (deeds.Publish v made text reads outputs)) =
    are_same_paths made targets && bytes_eq text script && list_all (entry_agrees rows) reads
record_matches targets script rows _ = false

-- whether the record of an object matches unit n of a build
abbrev pub matches : Base → Build → ℕ → Unit → ℕ → Bool
matches b build n unit id = record_matches unit.targets (script_text unit.script) (visible b build n unit) (deed_at b id)

-- an object where its record matches
abbrev pub if_matches : Base → Build → ℕ → Unit → Option ℕ → Option ℕ
if_matches b build n unit None = None
if_matches b build n unit (Some id) = only_where (matches b build n unit id) (Some id)

-- the newest of some rows that is a live object whose record matches
abbrev pub newest_match : Base → Build → ℕ → Unit → Base → Option ℕ
newest_match b build n unit [] = None
newest_match b build n unit (row ∷ older) =
    elim (is_some (live_row b (size older)) && matches b build n unit (size older)) [
      | true ↦ Some (size older)
      | false ↦ newest_match b build n unit older
    ]

-- by the options: with `-u` none, with `-V` the view's own alone
abbrev pub by_options : Bool → Bool → Option ℕ → Option ℕ → Option ℕ
by_options own_only true own newest = None
by_options true false own newest = own
by_options false false own newest = option_or own newest

-- The object that a unit may reuse: the one that the view holds at every target, where its record matches; else the
-- newest live one whose record matches.
abbrev pub reusable : Base → Build → ℕ → Unit → Option ℕ
reusable b build n unit =
    by_options build.own_only build.rebuild (if_matches b build n unit (held_at_all b build.view unit.targets))
    (newest_match b build n unit b)
