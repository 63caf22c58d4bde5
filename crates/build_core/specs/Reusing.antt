-- Which object a unit may reuse, and when the record of an object is of a unit's script and of what the unit sees.
use Rattle.std.specs.Prelude.{◌≡◌, ℕ, ◌&&◌, false, Option, Some, None, bytes_eq}
use Rattle.std.specs.List.{list_all}
use Rattle.cc_names.specs.Versions.{is_number}
use Rattle.cc_names.specs.declared.units.Unit.{Unit}
use Rattle.base_model.specs.Rows.{Base}
use Rattle.legal_history.specs.Builds.Active.{Build}
use Rattle.legal_history.specs.Builds.Choices.{visible}
use Rattle.legal_history.specs.Builds.Fresh.{script_text}
use Rattle.legal_history.specs.Builds.Reuse.{entry_agrees, reusable}
use Rattle.base_model.specs.Objects.{held_at_all}
use Rattle.base_rows.specs.Pool.{Test}
use Rattle.build_core.specs.declared.reuse.Chosen.{Chosen}
use Rattle.build_core.specs.declared.reuse.Chosen.TheVariants.{Nothing, Held, Other}

-- the script of unit n of a build, and entries that agree with what the unit sees
abbrev pub agrees_with : Base → Build → ℕ → Unit → Test
agrees_with b build n unit script entries =
    bytes_eq script (script_text unit.script) && list_all (entry_agrees (visible b build n unit)) entries

-- the object that was chosen
abbrev pub object_chosen : Chosen → Option ℕ
object_chosen Nothing = None
object_chosen (Held id) = Some id
object_chosen (Other id) = Some id

-- the object that unit n may reuse, by whether its build's view holds it at every target
abbrev pub IsChosen : Base → Build → ℕ → Unit → Chosen → Type 0
IsChosen b build n unit Nothing = reusable b build n unit ≡ None
IsChosen b build n unit (Held id) = (reusable b build n unit ≡ Some id) × (held_at_all b build.view unit.targets ≡ Some id)
IsChosen b build n unit (Other id) = (reusable b build n unit ≡ Some id)
    × (is_number id (held_at_all b build.view unit.targets) ≡ false)
