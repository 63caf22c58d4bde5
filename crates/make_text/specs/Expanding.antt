-- How an expansion goes on, piece after piece, with a stack of the macros that are being expanded and the results of those
-- that were.
use Rattle.std.specs.Prelude.{◌≡◌, ℕ, ◌-◌, ◌≤◌, false, Option, Some, None, List, [], ◌∷◌, ◌++◌, length, map, take, drop}
use Rattle.cc_names.specs.declared.commands.Macro.{Macro}
use Rattle.make_grammar.specs.Macros.{Piece, Reference, Expansion, plain, one_after_other, pieces_of, pieces_expansion}
use Rattle.make_grammar.specs.Macros.{reference_expansion, value_in, is_among}

-- what is known of the macros whose expansion came to an end: its bytes
abbrev pub Memo : Type 0
Memo = List ℕ → Option (List ℕ)

-- a macro that is being expanded: what is left of the text outside it, and how many bytes there were when it was begun
pub record Opened : Type 0 where
  pub name : List ℕ
  pub outer : List ℕ
  pub start : ℕ

-- the names of macros that are being expanded
abbrev pub opened_names : List Opened → List (List ℕ)
opened_names opened = map (λ o. o.name) opened

module _ (macros : List Macro) (automatic : ℕ → List ℕ) where
  -- a reference, while macros of these names are being expanded
  abbrev pub refer : ℕ → List (List ℕ) → List ℕ → Expansion
  refer left begun name = reference_expansion macros automatic left begun name

  -- pieces, while macros of these names are being expanded
  abbrev pub goes_on : ℕ → List (List ℕ) → List Piece → Expansion
  goes_on left begun pieces = pieces_expansion (refer left begun) automatic pieces

  -- how many macros can still be begun inside those that are being expanded
  abbrev pub left_of : List Opened → ℕ
  left_of opened = length macros - length opened

  -- what is still to come: this rest of the innermost macro that is being expanded, then what is left outside it, and so on
  abbrev pub still : List ℕ → List Opened → Expansion
  still rest [] = goes_on (length macros) [] (pieces_of rest)
  still rest (o ∷ opened) =
      one_after_other (goes_on (left_of (o ∷ opened)) (opened_names (o ∷ opened)) (pieces_of rest)) (still o.outer opened)

  -- some names may be those of the macros that are being expanded, for results of so many macros: there is room for those,
  -- none of them is among the names, and each name is defined
  pub record Admits (memo : Memo) (size left : ℕ) (begun : List (List ℕ)) : Type 0 where
    pub room : size ≤ left
    pub apart : (x bytes : List ℕ) → memo x ≡ Some bytes → is_among begun x ≡ false
    pub defined : (x : List ℕ) → value_in macros x ≡ None → is_among begun x ≡ false

  -- each result is what a reference gives, whichever other macros are being expanded
  abbrev pub AreKnown : Memo → ℕ → Type 0
  AreKnown memo size =
      (x bytes : List ℕ) → memo x ≡ Some bytes → (left : ℕ) (begun : List (List ℕ)) → Admits memo size left begun
      → refer left begun x ≡ plain bytes

  -- the value of a macro gives these bytes and then what pieces give, whichever other macros are being expanded
  pub record Gives (memo : Memo) (size : ℕ) (name written : List ℕ) (later : List Piece) : Type 0 where
    pub unknown : memo name ≡ None
    pub value : List ℕ
    pub has_value : value_in macros name ≡ Some value
    pub so_far : (left : ℕ) (begun : List (List ℕ)) → Admits memo size left begun
        → goes_on left (name ∷ begun) (pieces_of value) ≡ one_after_other (plain written) (goes_on left (name ∷ begun) later)

  -- the macros that are being expanded, the innermost first, gave what was written since each was begun; some pieces and
  -- this rest of the innermost are still to come
  abbrev pub AllGive : Memo → ℕ → List ℕ → List Piece → List ℕ → List Opened → Type 0
  AllGive memo size written before rest [] = Unit {0}
  AllGive memo size written before rest (o ∷ opened) =
      Gives memo size o.name (drop o.start written) (before ++ pieces_of rest) × (o.start ≤ length written)
      × (is_among (opened_names opened) o.name ≡ false)
      × AllGive memo size (take o.start written) (Reference o.name ∷ []) o.outer opened
