-- A sink that ended rests.
use Rattle.std.proofs.Common.{◌≡◌, ℕ, Option, subst, sym, ◌∙◌}
use Rattle.std.specs.Prelude.{IfSome}
use Rattle.cc_outside.specs.GhostStates.{RestsOnceEnded}

-- no call was made, or only calls that did not fail
pub went_on : (before now : Option ℕ) (calls : ℕ) → now ≡ before → RestsOnceEnded before now calls
went_on before now calls same going = subst (λ ended. IfSome ended (λ call. calls ≡ call)) (sym (same ∙ going)) tt

-- calls that did not fail, and then those of a text
pub rests_after : (before between now : Option ℕ) (calls : ℕ) → between ≡ before → RestsOnceEnded between now calls
    → RestsOnceEnded before now calls
rests_after before between now calls same rests going = rests (same ∙ going)
