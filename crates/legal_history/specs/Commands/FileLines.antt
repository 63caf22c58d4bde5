-- The commands on views and on the texts of files: the tests of each in their order, and its deed.
use Rattle.std.specs.Prelude.{ℕ, Bool, true, false, Option, Some, None, Result, List, [], ◌∷◌, is_some, unwrap_or}
use Rattle.cc_names.specs.Paths.{root, parent_of, last_of}
use Rattle.cc_names.specs.References.{held_at}
use Rattle.cc_names.specs.declared.refusals.Refusal.{Refusal}
use Rattle.cc_names.specs.declared.refusals.Refusal.TheVariants as refusals
use Rattle.cc_names.specs.declared.rows.Deed.{Deed}
use Rattle.cc_names.specs.declared.rows.Deed.TheVariants as deeds
use Rattle.cc_names.specs.declared.selection.Seen.{Seen}
use Rattle.cc_names.specs.declared.selection.Seen.TheVariants.{Private, Element, Unselected, Nothing}
use Rattle.base_model.specs.ConfigSpecs.Specs.{rules_of}
use Rattle.base_model.specs.Rows.{Base}
use Rattle.base_model.specs.Changes.{objects_held}
use Rattle.base_model.specs.Conditions.{is_directory}
use Rattle.legal_history.specs.Commands.Decisions.{Scene, Decision, makes}
use Rattle.base_model.specs.Seen.{at}
use Rattle.legal_history.specs.Commands.CheckoutTests.{needs_out}
use Rattle.legal_history.specs.Commands.Tests.{refused_where, needs_view, needs_new_view, needs_idle, needs_no_checkouts}
use Rattle.legal_history.specs.Commands.Tests.{needs_rules, needs_selected, needs_directory, needs_private}
use Rattle.base_model.specs.Views.{Checkout, out}

-- The path of the directory in which a path lies. That of the root is never asked for: the paths of the commands that ask
-- lie below the root, and so do those of rows.
abbrev pub parent : List ℕ → List ℕ
parent path = unwrap_or (parent_of path) root

-- the last name of a path; that of the root is never asked for, as above
abbrev pub last_name : List ℕ → List ℕ
last_name path = unwrap_or (last_of path) []

-- the tests of `mkview V`
abbrev pub mkview_tests : Scene → List ℕ → List (Option Refusal)
mkview_tests s v = needs_new_view s.base v ∷ []

-- `mkview V`: the view's life begins
abbrev pub mkview : Scene → List ℕ → Result Decision Refusal
mkview s v = makes s (mkview_tests s v) (deeds.Mkview v)

-- the tests of `rmview [-force] V`
abbrev pub rmview_tests : Scene → List ℕ → Bool → List (Option Refusal)
rmview_tests s v force = needs_view s.base v ∷ needs_idle s v ∷ needs_no_checkouts s.base v force ∷ []

-- `rmview [-force] V`: the view's life ends
abbrev pub rmview : Scene → List ℕ → Bool → Result Decision Refusal
rmview s v force = makes s (rmview_tests s v force) (deeds.Rmview v)

-- the tests of `setcs V` with a text
abbrev pub setcs_tests : Scene → List ℕ → List ℕ → List (Option Refusal)
setcs_tests s v text = needs_view s.base v ∷ needs_idle s v ∷ needs_rules (rules_of text) ∷ []

-- `setcs V`: the view has this config spec
abbrev pub setcs : Scene → List ℕ → List ℕ → Result Decision Refusal
setcs s v text = makes s (setcs_tests s v text) (deeds.Setcs v text)

-- an element that is saved is no directory, and the view has it out
abbrev pub saves_element : Bool → List ℕ → Option Checkout → Option Refusal
saves_element true path taken = Some (refusals.IsDirectory path)
saves_element false path taken = needs_out path taken

-- what may be saved at a path where this stands: a private file always, a file element that the view has checked out, and a new
-- private file where the view holds no object
abbrev pub saves_at : Base → List ℕ → List ℕ → Seen → Option Refusal
saves_at b v path (Private row) = None
saves_at b v path (Element e picked) = saves_element (is_directory b e) path (out b v e)
saves_at b v path (Unselected e) = saves_element (is_directory b e) path (out b v e)
saves_at b v path Nothing = refused_where (is_some (held_at (objects_held b) v path)) (refusals.IsDerived path)

-- the tests of `save V P`
abbrev pub save_tests : Scene → List ℕ → List ℕ → List (Option Refusal)
save_tests s v path =
    needs_view s.base v ∷ needs_idle s v ∷ needs_selected (parent path) (at s.base v (parent path))
    ∷ needs_directory s.base (parent path) (at s.base v (parent path)) ∷ saves_at s.base v path (at s.base v path) ∷ []

-- a save of an element's checkout, or of a private file
abbrev pub save_deed : List ℕ → List ℕ → List ℕ → Seen → Deed
save_deed v path text (Element e picked) = deeds.Save v e text
save_deed v path text (Unselected e) = deeds.Save v e text
save_deed v path text seen = deeds.Put v path text

-- `save V P`: the text of the view's checkout at the path, or of its private file there
abbrev pub save : Scene → List ℕ → List ℕ → List ℕ → Result Decision Refusal
save s v path text = makes s (save_tests s v path) (save_deed v path text (at s.base v path))

-- the tests of `rm V P`
abbrev pub rm_tests : Scene → List ℕ → List ℕ → List (Option Refusal)
rm_tests s v path = needs_view s.base v ∷ needs_idle s v ∷ needs_private path (at s.base v path) ∷ []

-- `rm V P`: the view's private file goes
abbrev pub rm : Scene → List ℕ → List ℕ → Result Decision Refusal
rm s v path = makes s (rm_tests s v path) (deeds.Rm v path)
