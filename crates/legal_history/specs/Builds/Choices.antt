-- What a unit of a build sees, the object that it may reuse, and the row that its script's result would make.
use Rattle.std.specs.Prelude.{ℕ, ◌+◌, Option, Some, None, Result, Ok, Err, List, [], ◌∷◌, take, map}
use Rattle.std.specs.Option.{option_or}
use Rattle.std.specs.Ordering.{nat_cmp}
use Rattle.std.specs.Cmp.Lexicographic.{slice_cmp}
use Rattle.std.specs.FinMap.Entries.{put}
use Rattle.cc_names.specs.declared.rows.Deed.{Deed}
use Rattle.cc_names.specs.declared.rows.Deed.TheVariants as deeds
use Rattle.cc_names.specs.declared.rows.ReadOf.{ReadOf}
use Rattle.cc_names.specs.declared.refusals.ScriptFault.{ScriptFault}
use Rattle.cc_names.specs.declared.units.Unit.{Unit}
use Rattle.script_grammar.specs.Run.{Ran, run}
use Rattle.base_model.specs.Rows.{Base, first_rows, only_where}
use Rattle.legal_history.specs.Builds.Active.{Build, Came, came_to, object_of}
use Rattle.legal_history.specs.Builds.Fresh.{script_text}
use Rattle.base_model.specs.Seen.{file_at}
use Rattle.legal_history.specs.Builds.Serials.{makes, needed_units}
use Rattle.base_model.specs.Texts.{text_of_row}

-- a unit of a build with what it has come to
pub record Member : Type 0 where
  pub unit : Unit
  pub came : Option Came

-- the unit alone
abbrev pub unit_of_member : Member → Unit
unit_of_member member = member.unit

-- units with what they have come to, numbered from n on; the last first
abbrev pub members_from : Build → ℕ → List Unit → List Member → List Member
members_from build n [] earlier = earlier
members_from build n (unit ∷ units) earlier = members_from build (n + 1) units (record { unit = unit; came = came_to build n }
    ∷ earlier)

-- the units before unit n, the last first
abbrev pub members_before : Build → ℕ → List Member
members_before build n = members_from build 0 (take n build.units) []

-- the object that a member was given, where it has this target
abbrev pub object_at : List ℕ → Member → Option ℕ
object_at path member = only_where (makes path member.unit) (object_of member.came)

-- the object that one of some units was given at the path
abbrev pub object_among : List ℕ → List Member → Option ℕ
object_among path [] = None
object_among path (member ∷ members) = option_or (object_at path member) (object_among path members)

-- what a unit sees at a path where its build's reference rows are these: the object that the build gave to a unit that it
-- needs, directly or through others, else the file of the view
abbrev pub visible_in : Base → Build → ℕ → Unit → List ℕ → Option ℕ
visible_in rows build n unit path =
    option_or (object_among path (needed_units unit_of_member unit.prerequisites (members_before build n)))
    (file_at rows build.view path)

-- what unit n of a build sees at a path
abbrev pub visible : Base → Build → ℕ → Unit → List ℕ → Option ℕ
visible b build n unit path = visible_in (first_rows build.rows b) build n unit path

-- the run of a unit's script on what the unit sees
abbrev pub here : Base → Build → ℕ → Unit → Ran
here b build n unit = run (script_text unit.script) unit.targets (λ path. text_of_row b path (visible b build n unit path))

-- the row of an entry: that of the path, or 0 where nothing is visible there
abbrev pub entry_row : Option ℕ → ℕ
entry_row None = 0
entry_row (Some row) = row

-- paths with their rows, in byte order of the paths
abbrev pub in_order : (List ℕ → Option ℕ) → List (List ℕ) → List (List ℕ × ℕ)
in_order rows [] = []
in_order rows (path ∷ paths) = put (slice_cmp nat_cmp) path (entry_row (rows path)) (in_order rows paths)

-- a path with its row, as the entry of a record
abbrev pub as_entry : List ℕ × ℕ → ReadOf
as_entry pair = record { path = pair.0; row = pair.1 }

-- the record of reads: each path that was asked for, with its row
abbrev pub entries : (List ℕ → Option ℕ) → List (List ℕ) → List ReadOf
entries rows reads = map as_entry (in_order rows reads)

-- the deed of a run that succeeded
abbrev pub publish_by : Build → Unit → List ReadOf → Result (List (List ℕ)) ScriptFault → Option Deed
publish_by build unit reads (Err fault) = None
publish_by build unit reads (Ok outputs) = Some (deeds.Publish build.view unit.targets (script_text unit.script) reads outputs)

-- the row that unit n would publish
abbrev pub publish_of : Base → Build → ℕ → Unit → Option Deed
publish_of b build n unit =
    publish_by build unit (entries (visible b build n unit) (here b build n unit).reads) (here b build n unit).result
