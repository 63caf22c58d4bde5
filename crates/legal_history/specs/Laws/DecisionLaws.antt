-- What holds of what is decided of a command. Each is promised by a function of `laws::decisions`.
use Rattle.std.specs.Prelude.{◌≡◌, ℕ, ◌<◌, ◌↔◌, ◌==◌, Bool, List, map, Contains, Some, Ok, is_some, true}
use Rattle.std.specs.List.{list_any}
use Rattle.std.specs.List.Sorted.{IsStrictlyIncreasing}
use Rattle.cc_names.specs.References.{held_at}
use Rattle.cc_names.specs.Versions.{version_id}
use Rattle.cc_names.specs.declared.commands.Command.{Command}
use Rattle.cc_names.specs.declared.commands.Command.TheVariants as commands
use Rattle.cc_names.specs.declared.commands.Change.TheVariants as changes
use Rattle.cc_names.specs.declared.rows.Deed.{Deed}
use Rattle.cc_names.specs.declared.rows.Deed.TheVariants as deeds
use Rattle.cc_names.specs.declared.rows.Placed.{Placed}
use Rattle.base_model.specs.Changes.{objects_held, targets_of, tree}
use Rattle.base_model.specs.Closures.{Input, closure, is_path_among, recorded_version}
use Rattle.legal_history.specs.Commands.Decisions.{Scene, Makes}
use Rattle.base_model.specs.Fits.{fits, is_base}
use Rattle.legal_history.specs.Laws.Dues.{is_due_object}
use Rattle.base_model.specs.Listed.{IsListed}
use Rattle.legal_history.specs.Commands.Lines.{decision}

-- A row that is decided of a command fits the base, for every command that makes one.
abbrev pub DecidedRowFits : Type 0
DecidedRowFits = (s : Scene) (command : Command) (deed : Deed) → is_base s.base ≡ true
    → decision s command ≡ Ok (Makes deed) → fits s.base deed ≡ true

-- The scrub that is decided at a moment lists exactly the objects that are due then: those that are live, that no view
-- holds, and that were published at least the age ago, in seconds.
abbrev pub ScrubListsWhatIsDue : Type 0
ScrubListsWhatIsDue = (s : Scene) (age : ℕ) (objects : List ℕ) (id : ℕ)
    → decision s (commands.Change (changes.Scrub age)) ≡ Ok (Makes (deeds.Scrub objects))
    → list_any (λ object. object == id) objects ≡ is_due_object s.base s.moment age id

-- The row that is decided to label the record of the object that a view holds at a path places the label on exactly the
-- versions that the record lists: of each element the greatest one among the inputs of the object's closure, in ascending
-- order of elements, each element once. A config spec selects the same ones by the record. Each input whose row is above
-- 0 is a version then.
abbrev pub RecordIsLabelledAsListedLabel : Type 0
RecordIsLabelledAsListedLabel = (s : Scene) (v path label name : List ℕ) (replace : Bool) (placed : List Placed)
    → decision s (commands.Change (changes.MklabelConfig v replace path label)) ≡ Ok (Makes (deeds.Labels name placed))
    → name ≡ label

-- The same law, its part *object*.
abbrev pub RecordIsLabelledAsListedObject : Type 0
RecordIsLabelledAsListedObject = (s : Scene) (v path label name : List ℕ) (replace : Bool) (placed : List Placed)
    → decision s (commands.Change (changes.MklabelConfig v replace path label)) ≡ Ok (Makes (deeds.Labels name placed))
    → is_some (held_at (objects_held s.base) v path) ≡ true

-- The same law, its part *exactly*.
abbrev pub RecordIsLabelledAsListedExactly : Type 0
RecordIsLabelledAsListedExactly = (s : Scene) (v path label name : List ℕ) (replace : Bool) (placed : List Placed) (id : ℕ)
    (one : Placed)
    → decision s (commands.Change (changes.MklabelConfig v replace path label)) ≡ Ok (Makes (deeds.Labels name placed))
    → held_at (objects_held s.base) v path ≡ Some id
    → Contains placed one ↔ IsListed s.base (closure s.base id) one.element one.version

-- The same law, its part *order*.
abbrev pub RecordIsLabelledAsListedOrder : Type 0
RecordIsLabelledAsListedOrder = (s : Scene) (v path label name : List ℕ) (replace : Bool) (placed : List Placed)
    → decision s (commands.Change (changes.MklabelConfig v replace path label)) ≡ Ok (Makes (deeds.Labels name placed))
    → IsStrictlyIncreasing (map (λ one. one.element) placed)

-- The same law, its part *selected*.
abbrev pub RecordIsLabelledAsListedSelected : Type 0
RecordIsLabelledAsListedSelected = (s : Scene) (v path label name : List ℕ) (replace : Bool) (placed : List Placed) (id : ℕ)
    (target : List ℕ) (one : Placed)
    → decision s (commands.Change (changes.MklabelConfig v replace path label)) ≡ Ok (Makes (deeds.Labels name placed))
    → held_at (objects_held s.base) v path ≡ Some id → is_path_among target (targets_of s.base id) ≡ true
    → Contains placed one ↔ (recorded_version s.base id target one.element ≡ Some one.version)

-- The same law, its part *versions*.
abbrev pub RecordIsLabelledAsListedVersions : Type 0
RecordIsLabelledAsListedVersions = (s : Scene) (v path label name : List ℕ) (replace : Bool) (placed : List Placed) (id : ℕ)
    (input : Input × ℕ)
    → decision s (commands.Change (changes.MklabelConfig v replace path label)) ≡ Ok (Makes (deeds.Labels name placed))
    → held_at (objects_held s.base) v path ≡ Some id → Contains (closure s.base id) input → 0 < input.1
    → is_some (version_id (tree s.base) input.1) ≡ true
