-- The pieces of a text, one after the other.
use Rattle.std.specs.Prelude.{◌≡◌, ℕ, ◌<◌, ◌≤◌, List, [], ◌∷◌, ◌++◌, length, map}
use Rattle.make_grammar.specs.Macros.{Piece, Byte, Reference, Automatic, Bad, Scan, pieces_from, pieces_of}
use Rattle.make_text.specs.declared.pieces.Part as lent
use Rattle.make_text.specs.declared.pieces.Part.TheVariants as variants

-- the pieces that a part of a text is
abbrev pub pieces_in : lent.Part → List Piece
pieces_in (variants.Bytes bytes) = map Byte bytes.now
pieces_in (variants.Reference name) = Reference name.now ∷ []
pieces_in (variants.Automatic b) = Automatic b ∷ []
pieces_in variants.Bad = Bad ∷ []

-- after what was read of a reference a text is cut where the reference ends
pub record CutsFrom (scan : Scan) (text : List ℕ) (part : lent.Part) (rest : List ℕ) : Type 0 where
  pub pieces : pieces_from scan text ≡ pieces_in part ++ pieces_of rest
  pub shorter : length rest ≤ length text

-- a text is cut into its first part and what follows it
pub record CutsPart (text : List ℕ) (part : lent.Part) (rest : List ℕ) : Type 0 where
  pub pieces : pieces_of text ≡ pieces_in part ++ pieces_of rest
  pub shorter : length rest < length text
