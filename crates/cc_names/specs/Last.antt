-- The last change that affects a thing, with no later one: what it set, and nothing where it ended the thing.
use Rattle.std.specs.Prelude.{Bool, true, false, Option, Some, None, List, [], ◌∷◌}

-- what one change does to a thing that is there or not
pub data Effect (A : Type 0) : Type 0 where
  Keeps : Effect A
  Ends : Effect A
  Sets : A → Effect A

-- an effect where a test holds, and none where it does not
abbrev pub only_if : {A : Type 0} → Bool → Effect A → Effect A
only_if true effect = effect
only_if false effect = Keeps

-- what an effect leaves of what was there before
abbrev pub value_after : {A : Type 0} → Effect A → Option A → Option A
value_after Keeps before = before
value_after Ends before = None
value_after (Sets a) before = Some a

-- What the last change that affects a thing set, and nothing where that change ended it. The list has the newest
-- change first; the effect of a change is given by it and by the older ones.
abbrev pub last : {X A : Type 0} → (List X → X → Effect A) → List X → Option A
last effect [] = None
last effect (x ∷ older) = value_after (effect older x) (last effect older)
