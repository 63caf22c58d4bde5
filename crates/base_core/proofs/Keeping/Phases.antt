-- The last of some phases.
use Rattle.std.proofs.Common.{◌≡◌, ◌-◌, ◌<◌, suc, List, [], ◌∷◌, ◌++◌, length, get_or, refl, ap, sym, ◌∙◌, arith}
use Rattle.cc_names.specs.declared.commands.Phase.{Phase}
use Rattle.base_core.specs.Keeping.CoreInvariants.{last_phase}

-- of phases and one more
pub last_phase-more : (phases : List Phase) (phase : Phase) → last_phase (phases ++ phase ∷ []) ≡ phase
last_phase-more [] phase = refl
last_phase-more (one ∷ []) phase = refl
last_phase-more (one ∷ two ∷ phases) phase = last_phase-more (two ∷ phases) phase

-- it is the one at the last place
pub last_phase-get_or : (phases : List Phase) (d : Phase) → 0 < length phases
    → last_phase phases ≡ get_or phases (length phases - 1) d
last_phase-get_or [] d h = absurd (omega arith)
last_phase-get_or (phase ∷ []) d h = refl
last_phase-get_or (one ∷ two ∷ phases) d h =
    let here : length (one ∷ two ∷ phases) - 1 ≡ suc (length phases) = omega arith in
    let there : length (two ∷ phases) - 1 ≡ length phases = omega arith in
    last_phase-get_or (two ∷ phases) d (omega arith)
    ∙ ap (λ n. get_or (two ∷ phases) n d) there
    ∙ sym (ap (λ n. get_or (one ∷ two ∷ phases) n d) here)
