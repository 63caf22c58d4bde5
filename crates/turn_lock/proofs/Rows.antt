-- Worked rows of the definitions, by computation.
use Rattle.std.proofs.Common.{◌≡◌, ℕ, ◌+◌, ◌^◌, List, [], ◌∷◌, refl, inr, Some}
use Rattle.turn_lock.specs.declared.rule.Stage.{Stage}
use Rattle.turn_lock.specs.declared.rule.Stage.TheVariants.{Joined, Waits, Turn}
use Rattle.turn_lock.specs.declared.rule.View.{View}
use Rattle.turn_lock.specs.PassState.{IsLongerOf}
use Rattle.turn_lock.specs.Stages.{ticket_of, tickets_of, idle, spent, at_stage, greater_half, lesser_half, joined}
use Rattle.turn_lock.specs.Rule.{in_word}

-- stories of two and of three steps, of which the one begins the other
abbrev two : List ℕ
two = 1 ∷ 2 ∷ []

abbrev three : List ℕ
three = 1 ∷ 2 ∷ 3 ∷ []

-- a word holds ticket 2 ^ 64 + 3 as 3
wraps : in_word (2 ^ 64 + 3) ≡ 3
wraps = refl

-- of seven parts the first pass has four, and the second three
halves_of_seven : (greater_half (idle two 7) ≡ idle two 4) × (lesser_half (idle two 7) ≡ idle two 3)
halves_of_seven = (refl, refl)

-- a pass that has seen two steps adds one that has seen three
joins_three : joined (idle two 4) (idle three 3) ≡ record { stage = Joined two; seen = three; weight = 7 }
joins_three = refl

three_is_longer : IsLongerOf two three (joined (idle two 4) (idle three 3)).seen
three_is_longer = inr (refl, (3 ∷ [], refl))

-- a ticket is held while it waits and while it is its turn
abbrev taking : Stage ℕ
taking = Turn 5 two

holds_five : ticket_of taking ≡ Some 5
holds_five = refl

holds_one : tickets_of (at_stage (Waits 6) (idle two 2)) ≡ 1
holds_one = refl

abbrev gone : View ℕ
gone = spent

gone_holds_none : tickets_of gone ≡ 0
gone_holds_none = refl
