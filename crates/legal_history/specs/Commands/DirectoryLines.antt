-- The commands on the names of directories: the tests of each in their order, and its deed. The catalog that is tested is
-- that of the view's checkout of the directory.
use Rattle.std.specs.Prelude.{ℕ, Bool, not, Option, Result, Ok, Err, List, [], ◌∷◌, option_and_then}
use Rattle.cc_names.specs.Paths.{join_of}
use Rattle.cc_names.specs.declared.names.NameFault.{NameFault}
use Rattle.cc_names.specs.declared.refusals.Refusal.{Refusal}
use Rattle.cc_names.specs.declared.rows.Deed.TheVariants as deeds
use Rattle.cc_names.specs.declared.rows.Kind.{Kind}
use Rattle.base_model.specs.Rows.{Base}
use Rattle.base_model.specs.Catalogs.{element_named, own_of}
use Rattle.legal_history.specs.Commands.Decisions.{Scene, Decision, past, makes}
use Rattle.legal_history.specs.Commands.FileLines.{parent, last_name}
use Rattle.legal_history.specs.Commands.Found.{for_directory}
use Rattle.base_model.specs.Seen.{at}
use Rattle.legal_history.specs.Commands.CheckoutTests.{needs_not_out}
use Rattle.legal_history.specs.Commands.Tests.{needs_view, needs_idle, needs_parent_out, needs_name, needs_free_path}
use Rattle.base_model.specs.Views.{out}

-- what each of these commands does to the directory in which a path lies, once the view is found to have that out
abbrev pub out_directory : Scene → List ℕ → List ℕ → (ℕ → Result Decision Refusal) → ℕ → Result Decision Refusal
out_directory s v path change d = past (needs_parent_out s.base v (parent path) d ∷ []) (change d)

-- what each of these commands begins with: the directory in which a path lies is selected, and the view has it out
abbrev pub changes_directory : Scene → List ℕ → List ℕ → (ℕ → Result Decision Refusal) → Result Decision Refusal
changes_directory s v path change =
    past (needs_view s.base v ∷ needs_idle s v ∷ [])
    (for_directory s.base (parent path) (at s.base v (parent path)) (out_directory s v path change))

-- a new element in a directory
abbrev pub mkelem_in : Scene → List ℕ → Bool → Kind → List ℕ → ℕ → Result Decision Refusal
mkelem_in s v nco kind path d =
    makes s (needs_free_path s.base v path d (last_name path) ∷ []) (deeds.Mkelem v d (last_name path) kind (not nco))

-- a new file or directory element, which is checked out unless `-nco` is given
abbrev pub mkelem : Scene → List ℕ → Bool → Kind → List ℕ → Result Decision Refusal
mkelem s v nco kind path = changes_directory s v path (mkelem_in s v nco kind path)

-- the element that the view's checkout of a directory names so is not out
abbrev pub needs_named_in : Base → List ℕ → ℕ → List ℕ → Option Refusal
needs_named_in b v d name = needs_not_out (option_and_then (out b v) (element_named name (own_of b v d)))

-- the tests of the removal of a name from a directory
abbrev pub rmname_tests : Scene → List ℕ → List ℕ → ℕ → List (Option Refusal)
rmname_tests s v path d = needs_name s.base v path d (last_name path) ∷ needs_named_in s.base v d (last_name path) ∷ []

-- the removal of a name from a directory
abbrev pub rmname_in : Scene → List ℕ → List ℕ → ℕ → Result Decision Refusal
rmname_in s v path d = makes s (rmname_tests s v path d) (deeds.Rmname v d (last_name path))

-- `rmname V P`: the name goes from the view's checkout of its directory
abbrev pub rmname : Scene → List ℕ → List ℕ → Result Decision Refusal
rmname s v path = changes_directory s v path (rmname_in s v path)

-- the path of a joined name; one that is too long is no command's, since its line is refused where it is read
abbrev pub path_or : List ℕ → Result (List ℕ) NameFault → List ℕ
path_or path (Ok joined) = joined
path_or path (Err fault) = path

-- the path with another last name
abbrev pub renamed_path : List ℕ → List ℕ → List ℕ
renamed_path path name = path_or path (join_of (parent path) name)

-- the tests of a new name in a directory
abbrev pub mv_tests : Scene → List ℕ → List ℕ → List ℕ → ℕ → List (Option Refusal)
mv_tests s v path name d = needs_name s.base v path d (last_name path) ∷ needs_free_path s.base v (renamed_path path name) d name
    ∷ []

-- a new name in a directory
abbrev pub mv_in : Scene → List ℕ → List ℕ → List ℕ → ℕ → Result Decision Refusal
mv_in s v path name d = makes s (mv_tests s v path name d) (deeds.Mv v d (last_name path) name)

-- `mv V P NAME`: the name is changed in the view's checkout of its directory
abbrev pub mv : Scene → List ℕ → List ℕ → List ℕ → Result Decision Refusal
mv s v path name = changes_directory s v path (mv_in s v path name)
