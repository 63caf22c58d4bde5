-- When a source or a sink has ended.
use Rattle.std.proofs.Common.{◌≡◌, ◌≢◌, ℕ, Bool, true, false, ◌∙◌, ap, refl, arith, Option, Some, None, IfSome}
use Rattle.std.specs.Prelude.{◌==◌}
use Rattle.std.proofs.lemmas.Bool.Decides.{nat_tests}
use Rattle.cc_outside.specs.GhostStates.{RestsOnceEnded, ended_at}

-- one that has not ended
pub rests_on : (before now : Option ℕ) (calls : ℕ) → (before ≡ None → now ≡ None) → RestsOnceEnded before now calls
rests_on before now calls goes h = rw (goes h) tt

-- one call more of it, which may have ended it
pub rests_by_one : (before mid now : Option ℕ) (calls : ℕ) (ends : Bool) → (before ≡ None → mid ≡ None)
    → now ≡ ended_at mid calls ends → RestsOnceEnded before now calls
rests_by_one before mid now calls ends goes e h = rw (e ∙ ap (λ v. ended_at v calls ends) (goes h)) (by ends)
  where
    by : (ends : Bool) → IfSome (ended_at None calls ends) (λ call. calls ≡ call)
    by true = refl
    by false = tt

-- one call more of it, which gave some bytes
is_none : (count : ℕ) → count ≢ 0 → (count == 0) ≡ false
is_none count some = grind (arith, nat_tests)

pub goes_on : (before mid now : Option ℕ) (calls count : ℕ) → count ≢ 0 → (before ≡ None → mid ≡ None)
    → now ≡ ended_at mid calls (count == 0) → before ≡ None → now ≡ None
goes_on before mid now calls count some goes e h =
    e ∙ ap (ended_at mid calls) (is_none count some) ∙ ap (λ v. ended_at v calls false) (goes h)

-- a call that does not end it
pub stays_on : (ended : Option ℕ) (call : ℕ) → ended_at ended call false ≡ ended
stays_on None call = refl
stays_on (Some first) call = refl

-- so it was where it had not ended, and nothing else is known of it
pub rests_as : (before now : Option ℕ) (calls : ℕ) → now ≡ before → RestsOnceEnded before now calls
rests_as before now calls same h = rw (same ∙ h) tt
