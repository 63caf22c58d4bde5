-- Matching with wild cards, for segments of a pattern against names of a path as for bytes of a segment against a name.
use Rattle.std.specs.Prelude.{Bool, true, false, ◌&&◌, List, [], ◌∷◌}
use Rattle.std.specs.List.{list_any}

-- the ends of a list, the longest first: the list itself, then without its first member, and so on to the empty list
abbrev pub list_suffixes : {A : Type 0} → List A → List (List A)
list_suffixes [] = [] ∷ []
list_suffixes (x ∷ xs) = (x ∷ xs) ∷ list_suffixes xs

-- whether a list is empty
abbrev pub has_none : {A : Type 0} → List A → Bool
has_none [] = true
has_none (x ∷ xs) = false

-- whether the first member is the one that a card stands for, and the cards after it cover the others
abbrev pub first_fits : {A : Type 0} → (A → Bool) → (List A → Bool) → List A → Bool
first_fits fits behind [] = false
first_fits fits behind (x ∷ xs) = fits x && behind xs

-- what one card and those after it cover: a wild one stands for any members, none and all included
abbrev pub matches_from : {A : Type 0} → Bool → (A → Bool) → (List A → Bool) → List A → Bool
matches_from true fits behind xs = list_any behind (list_suffixes xs)
matches_from false fits behind xs = first_fits fits behind xs

-- Whether cards cover a list: each card that is not wild stands for one member that fits it.
abbrev pub cards_match : {P A : Type 0} → (P → Bool) → (P → A → Bool) → List P → List A → Bool
cards_match wild fits [] xs = has_none xs
cards_match wild fits (p ∷ ps) xs = matches_from (wild p) (fits p) (cards_match wild fits ps) xs
