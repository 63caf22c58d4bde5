-- Where the elements stand that are selected at a path and below it.
use Rattle.std.specs.Prelude.{ℕ, zero, suc, Bool, true, false, cond, ◌&&◌, ◌||◌, Option, Some, Result, Ok, Err, List, bytes_eq}
use Rattle.std.specs.List.{list_any}
use Rattle.cc_names.specs.declared.names.NameFault.{NameFault}
use Rattle.cc_names.specs.declared.selection.Seen.{Seen}
use Rattle.cc_names.specs.declared.selection.Seen.TheVariants.{Element}
use Rattle.base_model.specs.Rows.{Base}
use Rattle.base_model.specs.Seen.{at, entries_of}
use Rattle.legal_history.specs.Queries.DirectoryTexts.{catalog_or_none, path_of_entry}

-- whether it is an element of which a version is selected
abbrev pub is_element : Seen → Bool
is_element (Element e picked) = true
is_element seen = false

-- whether a path is that of an element which is selected at a path or below it, in so many levels of directories
abbrev pub lies_below : ℕ → Base → List ℕ → List ℕ → List ℕ → Bool
lies_below zero b v path q = false
lies_below (suc depth) b v path q =
    (is_element (at b v path) && bytes_eq q path)
    || list_any (λ entry. lies_below depth b v (path_of_entry path entry.0) q) (catalog_or_none (entries_of b v (at b v path)))

-- the same below a path that may be too long to be seen
abbrev pub lies_below_joined : ℕ → Base → List ℕ → Result (List ℕ) NameFault → List ℕ → Bool
lies_below_joined depth b v (Ok path) q = lies_below depth b v path q
lies_below_joined depth b v (Err fault) q = false

-- what stands at a path, where it was found, else what was found there before
abbrev pub seen_where : Bool → Base → List ℕ → List ℕ → Option Seen → Option Seen
seen_where found b v q before = cond found (Some (at b v q)) before
