-- What commands need of the base, each a test of its own: the refusal where the need is not met.
use Rattle.std.specs.Prelude.{ℕ, Bool, true, false, not, ◌||◌, Option, Some, None, Result, Ok, Err, is_some, List, option_map}
use Rattle.cc_names.specs.Branches.{branch_named}
use Rattle.cc_names.specs.References.{held_at}
use Rattle.cc_names.specs.declared.refusals.Refusal.{Refusal}
use Rattle.cc_names.specs.declared.refusals.Refusal.TheVariants as refusals
use Rattle.cc_names.specs.declared.refusals.SpecError.{SpecError}
use Rattle.cc_names.specs.declared.selection.Rule.{Rule}
use Rattle.cc_names.specs.declared.selection.Seen.{Seen}
use Rattle.cc_names.specs.declared.selection.Seen.TheVariants.{Private, Element, Unselected, Nothing}
use Rattle.base_model.specs.Rows.{Base}
use Rattle.legal_history.specs.Builds.Active.{building}
use Rattle.base_model.specs.Changes.{tree, objects_held}
use Rattle.base_model.specs.Checkouts.{oldest_out}
use Rattle.base_model.specs.Conditions.{is_directory, has_name, is_label_type, is_branch_type, is_type_taken}
use Rattle.legal_history.specs.Commands.Decisions.{Scene}
use Rattle.base_model.specs.Views.{view_row, out, private}

-- the refusal where a test holds
abbrev pub refused_where : Bool → Refusal → Option Refusal
refused_where true refusal = Some refusal
refused_where false refusal = None

-- the refusal where a test does not hold
abbrev pub refused_unless : Bool → Refusal → Option Refusal
refused_unless holds refusal = refused_where (not holds) refusal

-- the view exists
abbrev pub needs_view : Base → List ℕ → Option Refusal
needs_view b v = refused_unless (is_some (view_row b v)) refusals.NoView

-- no view has the name
abbrev pub needs_new_view : Base → List ℕ → Option Refusal
needs_new_view b v = refused_where (is_some (view_row b v)) refusals.ViewExists

-- no build of the view is active; the refusal names the build
abbrev pub needs_idle : Scene → List ℕ → Option Refusal
needs_idle scene v = option_map refusals.Building (building scene.active v)

-- the view has no checkout, unless it is to go by force; the refusal names its oldest one
abbrev pub needs_no_checkouts : Base → List ℕ → Bool → Option Refusal
needs_no_checkouts b v true = None
needs_no_checkouts b v false = option_map refusals.HasCheckouts (oldest_out b v)

-- the text was read as a config spec
abbrev pub needs_rules : Result (List Rule) SpecError → Option Refusal
needs_rules (Ok rules) = None
needs_rules (Err error) = Some (refusals.BadSpec error.line error.cause)

-- something is selected at the path
abbrev pub needs_selected : List ℕ → Seen → Option Refusal
needs_selected path Nothing = Some (refusals.NoPath path)
needs_selected path (Unselected e) = Some (refusals.NoPath path)
needs_selected path seen = None

-- what is selected at the path is a directory
abbrev pub needs_directory : Base → List ℕ → Seen → Option Refusal
needs_directory b path (Private row) = Some (refusals.NotDirectory path)
needs_directory b path (Element e picked) = refused_unless (is_directory b e) (refusals.NotDirectory path)
needs_directory b path seen = None

-- what stands at the path is no directory
abbrev pub needs_no_directory : Base → List ℕ → Seen → Option Refusal
needs_no_directory b path (Element e picked) = refused_where (is_directory b e) (refusals.IsDirectory path)
needs_no_directory b path (Unselected e) = refused_where (is_directory b e) (refusals.IsDirectory path)
needs_no_directory b path seen = None

-- what stands at the path is no private file
abbrev pub needs_element : List ℕ → Seen → Option Refusal
needs_element path (Private row) = Some (refusals.NotElement path)
needs_element path seen = None

-- a private file stands at the path
abbrev pub needs_private : List ℕ → Seen → Option Refusal
needs_private path (Private row) = None
needs_private path seen = Some (refusals.NoPath path)

-- the view has the directory at the path out
abbrev pub needs_parent_out : Base → List ℕ → List ℕ → ℕ → Option Refusal
needs_parent_out b v path d = refused_unless (is_some (out b v d)) (refusals.ParentNotOut path)

-- the catalog of the view's checkout of a directory has the name
abbrev pub needs_name : Base → List ℕ → List ℕ → ℕ → List ℕ → Option Refusal
needs_name b v path d name = refused_unless (has_name b v d name) (refusals.NoPath path)

-- neither that catalog has the name, nor the view a private file or an object at the path
abbrev pub needs_free_path : Base → List ℕ → List ℕ → ℕ → List ℕ → Option Refusal
needs_free_path b v path d name =
    refused_where (has_name b v d name || is_some (private b v path) || is_some (held_at (objects_held b) v path))
    (refusals.NameTaken path)

-- a label type has the name
abbrev pub needs_label_type : Base → List ℕ → Option Refusal
needs_label_type b name = refused_unless (is_label_type b name) (refusals.NoType name)

-- a branch type has the name
abbrev pub needs_branch_type : Base → List ℕ → Option Refusal
needs_branch_type b name = refused_unless (is_branch_type b name) (refusals.NoType name)

-- no type has the name, and one may have it
abbrev pub needs_free_type : Base → List ℕ → Option Refusal
needs_free_type b name = refused_where (is_type_taken b name) (refusals.TypeExists name)

-- the element has no branch of the type; the refusal names the branch
abbrev pub needs_no_branch : Base → ℕ → List ℕ → Option Refusal
needs_no_branch b e name = option_map refusals.BranchExists (branch_named (tree b) e name)

-- the view holds an object at the path
abbrev pub needs_object : Base → List ℕ → List ℕ → Option Refusal
needs_object b v path = refused_unless (is_some (held_at (objects_held b) v path)) (refusals.NoObject path)
