-- The labels on the versions of an element, found among all that stand on its versions.
use Rattle.std.specs.Prelude.{ℕ, ◌==◌, Bool, true, false, Option, Some, None, List, [], ◌∷◌, nat_eq}
use Rattle.std.specs.BTreeSet.{BTreeSet, insert_key}
use Rattle.std.specs.Cmp.Lexicographic.{slice_cmp}
use Rattle.std.specs.HashMap.{HashMap, get}
use Rattle.std.specs.Ordering.{nat_cmp}
use Rattle.cc_names.specs.Labels.{holder}
use Rattle.cc_names.specs.Versions.{is_number}
use Rattle.base_model.specs.Changes.{labels}
use Rattle.base_model.specs.Rows.{Base}
use Rattle.label_book.specs.Standings.{Placement}

-- whether a label stands on a version of the element
abbrev pub stands_on : Base → ℕ → ℕ → List ℕ → Bool
stands_on b e version label = is_number version (holder (labels b) label e)

-- names in byte order with one more, where a test holds
abbrev pub with_label_if : Bool → List ℕ → List (List ℕ) → List (List ℕ)
with_label_if true name names = insert_key (slice_cmp nat_cmp) names name
with_label_if false name names = names

-- names with those of the labels that stand on the version
abbrev pub with_standing : ℕ → List Placement → List (List ℕ) → List (List ℕ)
with_standing version [] names = names
with_standing version (one ∷ more) names = with_standing version more (with_label_if (version == one.1) one.0 names)

-- the names of a set, where there is one
abbrev pub names_of_set : Option (BTreeSet (List ℕ)) → List (List ℕ)
names_of_set None = []
names_of_set (Some set) = set.keys

-- the labels that a table has for a version
abbrev pub labels_at : {S : Type 0} → HashMap ℕ (BTreeSet (List ℕ)) S → ℕ → List (List ℕ)
labels_at labels version = names_of_set (get nat_eq labels version)
