-- A base is sound exactly where no live object is found that is not true.
use Rattle.std.proofs.Common.{◌≡◌, refl, ap, ap₂, subst, ℕ, ◌<◌, ◌==◌, Bool, true, false, not, ◌||◌, Option}
use Rattle.std.proofs.Common.{Some, None, [], ◌∷◌, arith}
use Rattle.std.proofs.lemmas.Bool.Decides.{nat_tests}
use Rattle.std.specs.Option.{option_or}
use Rattle.std.specs.Prelude.{is_some}
use Rattle.base_model.specs.Rows.{Base, size, only_where}
use Rattle.base_model.specs.Changes.{live_row}
use Rattle.legal_history.specs.Builds.Values.{IsSound, first_unsound, is_dead_or_true, is_true, unsound_among}
use Rattle.legal_history.proofs.Reuse.SoundRows.{live_above, live_below}

-- one row more, where none is found
none_of_row : (t : Bool) (first : Option ℕ) (n : ℕ) → option_or first (only_where (not t) (Some n)) ≡ None → (first ≡ None)
    × (t ≡ true)
none_of_row true None n h = (refl, refl)
none_of_row false None n h = absurd (cc)
none_of_row t (Some id) n h = absurd (cc)

-- of some rows each that is live is true
true_among : (b rows : Base) (id : ℕ) → unsound_among b rows ≡ None → 0 < id → id < size rows → is_dead_or_true b id ≡ true
true_among b [] id none some low = absurd (omega (arith, some, low))
true_among b (row ∷ older) id none some low = by (size older == id) refl
    (none_of_row (is_dead_or_true b (size older)) (unsound_among b older) (size older) none)
    (λ first before. true_among b older id first some before)
  where
    by : (t : Bool) → (size older == id) ≡ t → (unsound_among b older ≡ None) × (is_dead_or_true b (size older) ≡ true)
        → (unsound_among b older ≡ None → id < size older → is_dead_or_true b id ≡ true) → is_dead_or_true b id ≡ true
    by true at h among = let number : size older ≡ id = grind (arith, nat_tests) in
        subst (λ n. is_dead_or_true b n ≡ true) number h.1
    by false apart h among = let before : id < size older = grind (arith, nat_tests, low) in among h.0 before

pub none_is_sound : (b : Base) → first_unsound b ≡ None → IsSound b
none_is_sound b none id = by (is_some (live_row b id)) refl
  where
    by : (t : Bool) → is_some (live_row b id) ≡ t → is_dead_or_true b id ≡ true
    by true lives = true_among b b id none (live_above b id lives) (live_below b id lives)
    by false dead = ap (λ l. not l || is_true b id) dead

none_among : (b rows : Base) → IsSound b → unsound_among b rows ≡ None
none_among b [] sound = refl
none_among b (row ∷ older) sound = ap₂ (λ first t. option_or first (only_where (not t) (Some (size older))))
    (none_among b older sound) (sound (size older))

pub sound_has_none : (b : Base) → IsSound b → first_unsound b ≡ None
sound_has_none b sound = none_among b b sound
