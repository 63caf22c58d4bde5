-- A name in a catalog, given by the newest row that affects it: what rows do to the catalog of a view's checkout of a directory.
use Rattle.std.specs.Prelude.{ℕ, List}
use Rattle.cc_names.specs.Last.{Sets, only_if}
use Rattle.base_model.specs.Catalogs.{Edit, Same, BeginsEmpty, BeginsAs, Adds, Removes, Renames, edit_of}
use Rattle.base_model.specs.Rows.{size}
use Rattle.base_rows.specs.Changed.{begins, changes}
use Rattle.base_rows.specs.LookUps.{Deeds}
use Rattle.base_rows.specs.Lifetimes.{or_else}
use Rattle.base_rows.specs.declared.edits.Edit as code
use Rattle.base_rows.specs.declared.edits.Edit.TheVariants as codes

-- a checkout of a directory is begun
abbrev pub begun_effect : List ℕ → ℕ → Deeds ℕ
begun_effect v d older deed = only_if (begins (edit_of v d (size older) deed)) (Sets (size older))

-- a name is changed in a checkout of a directory
abbrev pub changed_effect : List ℕ → ℕ → List ℕ → Deeds ℕ
changed_effect v d name older deed = only_if (changes name (edit_of v d (size older) deed)) (Sets (size older))

-- either of them
abbrev pub entry_effect : List ℕ → ℕ → List ℕ → Deeds ℕ
entry_effect v d name older deed = or_else (begun_effect v d older deed) (changed_effect v d name older deed)

-- an edit as code has it
abbrev pub plain_edit : code.Edit → Edit
plain_edit codes.Same = Same
plain_edit codes.BeginsEmpty = BeginsEmpty
plain_edit (codes.BeginsAs origin) = BeginsAs origin
plain_edit (codes.Adds name e) = Adds name.now e
plain_edit (codes.Removes name) = Removes name.now
plain_edit (codes.Renames from_name to_name) = Renames from_name.now to_name.now
