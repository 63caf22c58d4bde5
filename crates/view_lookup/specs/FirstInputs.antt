-- The first path, in byte order, of what an object rests on in the end, of which a test holds.
use Rattle.std.specs.Prelude.{ℕ, Bool, Option, Some, None, List, [], ◌∷◌}
use Rattle.std.specs.Option.{option_or}
use Rattle.base_model.specs.Closures.{Inputs, closure}
use Rattle.base_model.specs.Rows.{Base, only_where}

-- a test of a path and the row there
abbrev pub PathTest : Type 0
PathTest = List ℕ → ℕ → Bool

-- the first path among inputs of which a test holds
abbrev pub first_among : PathTest → Inputs → Option (List ℕ)
first_among passes [] = None
first_among passes (input ∷ inputs) = option_or (only_where (passes input.0.0 input.1) (Some input.0.0))
    (first_among passes inputs)

-- the first path of an object's closure of which a test holds
abbrev pub first_input : Base → PathTest → ℕ → Option (List ℕ)
first_input b passes id = first_among passes (closure b id)
