-- Tests that find something and hand it on to what follows; where it is not there, they refuse.
use Rattle.std.specs.Prelude.{ℕ, Option, Some, None, Result, Err, List, [], ◌∷◌}
use Rattle.cc_names.specs.declared.refusals.Refusal.{Refusal}
use Rattle.cc_names.specs.declared.refusals.Refusal.TheVariants as refusals
use Rattle.cc_names.specs.declared.selection.Picked.{Picked}
use Rattle.cc_names.specs.declared.selection.Seen.{Seen}
use Rattle.cc_names.specs.declared.selection.Seen.TheVariants.{Private, Element, Unselected, Nothing}
use Rattle.base_model.specs.Rows.{Base}
use Rattle.base_model.specs.Conditions.{is_directory}
use Rattle.legal_history.specs.Commands.Decisions.{Decision, past}
use Rattle.legal_history.specs.Commands.Tests.{refused_unless}

-- what is decided of the element that is selected at a path, with what was picked of it
abbrev pub for_selected : {A : Type 0} → List ℕ → Seen → (ℕ → Picked → Result A Refusal) → Result A Refusal
for_selected path (Element e picked) more = more e picked
for_selected path (Private row) more = Err (refusals.NotElement path)
for_selected path (Unselected e) more = Err (refusals.NoPath path)
for_selected path Nothing more = Err (refusals.NoPath path)

-- what is decided of the element that stands at a path, selected or not
abbrev pub for_element : List ℕ → Seen → (ℕ → Result Decision Refusal) → Result Decision Refusal
for_element path (Element e picked) more = more e
for_element path (Unselected e) more = more e
for_element path (Private row) more = Err (refusals.NotElement path)
for_element path Nothing more = Err (refusals.NoPath path)

-- what is decided of the directory that is selected at a path
abbrev pub for_directory : Base → List ℕ → Seen → (ℕ → Result Decision Refusal) → Result Decision Refusal
for_directory b path (Element e picked) more = past (refused_unless (is_directory b e) (refusals.NotDirectory path) ∷ []) (more e)
for_directory b path (Private row) more = Err (refusals.NotDirectory path)
for_directory b path (Unselected e) more = Err (refusals.NoPath path)
for_directory b path Nothing more = Err (refusals.NoPath path)

-- what is decided of the object that a view holds at a path
abbrev pub for_object : {A : Type 0} → List ℕ → Option ℕ → (ℕ → Result A Refusal) → Result A Refusal
for_object path (Some id) more = more id
for_object path None more = Err (refusals.NoObject path)

-- what is decided of the version that a name was found to have
abbrev pub for_version : List ℕ → Option ℕ → (ℕ → Result Decision Refusal) → Result Decision Refusal
for_version path (Some version) more = more version
for_version path None more = Err (refusals.NoVersion path)
