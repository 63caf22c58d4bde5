-- Which words spell a selector of a config spec.
use Rattle.std.specs.Prelude.{ℕ, Bool, true, false, ◌&&◌, Option, Some, None, ok_or, Result, Ok, List, [], ◌∷◌, ◌++◌, codes}
use Rattle.std.specs.Prelude.{if◌then◌else◌}
use Rattle.std.specs.List.{slice_split}
use Rattle.std.specs.Option.{option_map, option_and_then, option_or}
use Rattle.std.specs.Result.{result_ok}
use Rattle.std.specs.Str.{bytes_eq}
use Rattle.cc_names.specs.Numbers.{number_of}
use Rattle.cc_names.specs.Paths.{is_slash, is_at, path_of}
use Rattle.cc_names.specs.TypeNames.{type_name_of}
use Rattle.cc_names.specs.declared.refusals.SpecCause.{SpecCause}
use Rattle.cc_names.specs.declared.refusals.SpecCause.TheVariants.{BadSelector, BadType}
use Rattle.cc_names.specs.declared.selection.Selector.{Selector}
use Rattle.cc_names.specs.declared.selection.Selector.TheVariants.{CheckedOut, Label, Latest, Wherever, Numbered, Config, Nothing}
use Rattle.base_model.specs.ConfigSpecs.WildCards.{has_none}

-- the selector of the branch after `main` by these names, by what follows them: LATEST or a number
abbrev pub on_branch : List (List ℕ) → List ℕ → Option Selector
on_branch names end =
    if bytes_eq end (codes "LATEST") then Some (Latest names) else option_map (Numbered names) (number_of end)

-- the selector by what follows `/main/`: names of branch types, and then LATEST or a number. `names` are those
-- that stand before
abbrev pub behind_main : List (List ℕ) → List (List ℕ) → Option Selector
behind_main [] names = None
behind_main (end ∷ []) names = on_branch names end
behind_main (name ∷ next ∷ parts) names =
    option_and_then (λ type. behind_main (next ∷ parts) (names ++ type ∷ [])) (type_name_of name)

-- the selector by what follows `.../`: the name of a branch type, and LATEST
abbrev pub behind_dots : List (List ℕ) → Option Selector
behind_dots (name ∷ end ∷ []) = if bytes_eq end (codes "LATEST") then option_map Wherever (type_name_of name) else None
behind_dots _ = None

-- the selector by the parts of a word between its slashes
abbrev pub selector_of_parts : List (List ℕ) → Option Selector
selector_of_parts (first ∷ second ∷ parts) =
    if bytes_eq first (codes "...") then behind_dots (second ∷ parts)
    else if has_none first && bytes_eq second (codes "main") then behind_main parts []
    else None
selector_of_parts _ = None

-- the selector that one word spells
abbrev pub selector_of_word : List ℕ → Option Selector
selector_of_word word =
    if bytes_eq word (codes "CHECKEDOUT") then Some CheckedOut
    else if bytes_eq word (codes "-none") then Some Nothing
    else option_or (option_map Label (type_name_of word)) (selector_of_parts (slice_split is_slash word))

-- the selector by an object's path and number
abbrev pub of_object : List ℕ → List ℕ → Option Selector
of_object path object =
    option_and_then (λ row. option_map (λ target. Config target row) (result_ok (path_of path))) (number_of object)

-- the selector by the parts of a word between its signs @
abbrev pub object_of_parts : List (List ℕ) → Option Selector
object_of_parts (path ∷ [] ∷ object ∷ []) = of_object path object
object_of_parts _ = None

-- the selector that a word spells, where it stands after `-config` and where it does not
abbrev pub selector_by : Bool → List ℕ → Option Selector
selector_by false word = selector_of_word word
selector_by true word = object_of_parts (slice_split is_at word)

-- the selector that a word spells, or the cause where it spells none
abbrev pub selector_of : Bool → List ℕ → Result Selector SpecCause
selector_of of_object word = ok_or (selector_by of_object word) BadSelector

-- what follows `-mkbranch`, where it is there, read as the name of a branch type
abbrev pub branch_type_of : Option (List ℕ) → Result (Option (List ℕ)) SpecCause
branch_type_of None = Ok None
branch_type_of (Some bytes) = ok_or (option_map Some (type_name_of bytes)) BadType
