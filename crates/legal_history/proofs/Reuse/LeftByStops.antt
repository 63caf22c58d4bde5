-- Whatever a stop leaves of a legal story is a base, sound where the base was sound as it was opened.
use Rattle.std.proofs.Common.{◌≡◌, ap, sym, subst, ◌∙◌, ℕ, ◌+◌, ◌^◌, ◌-◌, ◌==◌, ◌&&◌, ◌||◌, nat_lt, true, inl, inr, Option, Some}
use Rattle.std.proofs.Common.{None, List, [], ◌∷◌, ◌++◌, refl, arith}
use Rattle.std.proofs.lemmas.Bool.Decides.{nat_tests}
use Rattle.cc_names.specs.Counts.{rises}
use Rattle.cc_names.specs.Formed.{Plain}
use Rattle.cc_names.specs.declared.rows.Tag.{Tag}
use Rattle.cc_names.specs.declared.steps.StoryStep.{StoryStep}
use Rattle.cc_names.specs.declared.steps.StoryStep.TheVariants as story_steps
use Rattle.cc_names.proofs.Common.{same_inside}
use Rattle.base_model.specs.Rows.{Base}
use Rattle.base_model.specs.Fits.{is_base}
use Rattle.legal_history.specs.Builds.Values as values
use Rattle.legal_history.specs.Laws.Stops.{IsLeftByStop, OfCommits, WithRowLeft, WithRowInFlight}
use Rattle.legal_history.specs.Stories.Committing.{MayCommit, LeavesRow}
use Rattle.legal_history.specs.Stories.Lawful.{Commits, Lawful, Legal, LegalFrom}
use Rattle.legal_history.specs.Stories.States.{State, Opening, hanging, start, ticks_of}
use Rattle.legal_history.specs.Stories.Steps.{after, state_from, state_of}
use Rattle.legal_history.proofs.Reuse.GivenCommits.{AllHeld}
use Rattle.legal_history.proofs.Reuse.GivenSteps.{held_step}
use Rattle.legal_history.proofs.Reuse.SoundBases.{base_step, held_first, opened_from, opened_is_base}
use Rattle.legal_history.proofs.Stories.Prefixes.{prefix_is_legal, rest_is_legal, nothing_is_committed}
use Rattle.legal_history.proofs.Stories.ConsistentStories.{IsConsistentState, opens_first, consistent_first, consistent_step}
use Rattle.legal_history.proofs.Stories.Along.{along}

-- rows that are a base, and a sound one where something is given
record IsGood (given : Type 0) (b : Base) : Type 0 where
  fits : is_base b ≡ true
  sound : given → values.IsSound b

-- what is known of a state: its rows are such a base, and so they are with the row that a fault left after them
record IsKnown (given : Type 0) (s : State) : Type 0 where
  sound : IsConsistentState s
  held : AllHeld s
  base : given → values.IsSound s.base
  left : (row : Plain) → hanging s.ends ≡ Some row → IsGood given (row ∷ s.base)

-- a row that may be committed could be committed next
next_rises : (n : ℕ) → rises n (n + 1) ≡ true
next_rises n =
    let less : nat_lt n (n + 1) ≡ true = grind (arith, nat_tests) in
    ap (λ t. t || ((n == 2 ^ 64 - 1) && (n + 1 == 2 ^ 64 - 1))) less

commits : (s : State) (row : Plain) → MayCommit s row → Commits s row (ticks_of s.opened s.ends + 1)
commits s row may = record { may = may; ticked = next_rises (ticks_of s.opened s.ends) }

in_flight : (given : Type 0) (s : State) (row : Plain) → IsKnown given s → MayCommit s row → IsGood given (row ∷ s.base)
in_flight given s row h may =
    let x = story_steps.Commit row (ticks_of s.opened s.ends + 1) in
    record {
      fits = (consistent_step s x h.sound (commits s row may)).base;
      sound = λ given. base_step s x h.sound h.held (h.base given) (commits s row may);
    }

-- what a fault leaves is such a row, or was left before
fault_leaves : (given : Type 0) (s : State) (tag : Tag) (left : Option Plain) (row : Plain) → IsKnown given s
    → LeavesRow s tag left → left ≡ Some row → IsGood given (row ∷ s.base)
fault_leaves given s tag None row h leaves is = absurd (cc)
fault_leaves given s tag (Some own) row h (inl made) is = subst (λ r. IsGood given (r ∷ s.base)) (same_inside is)
    (in_flight given s own h made.1)
fault_leaves given s tag (Some own) row h (inr earlier) is = h.left row (earlier ∙ is)

left_step : (given : Type 0) (s : State) (x : StoryStep) (row : Plain) → IsKnown given s → Lawful s x
    → hanging (after s x).ends ≡ Some row → IsGood given (row ∷ (after s x).base)
left_step given s (story_steps.Opened rows counts tells) row h e is = absurd (let first = e.first in
    let opened = h.sound.opened in cc)
left_step given s (story_steps.Commit made tick) row h e is = absurd (cc)
left_step given s (story_steps.Fault tag left before faults tick) row h e is =
    fault_leaves given s tag left row h e.leaves is
left_step given s x row h e is = h.left row is

kept_step : (given : Type 0) (s : State) (x : StoryStep) → IsKnown given s → Lawful s x → IsKnown given (after s x)
kept_step given s x h e = record {
  sound = consistent_step s x h.sound e;
  held = held_step s x h.sound h.held e;
  base = λ given. base_step s x h.sound h.held (h.base given) e;
  left = λ row is. left_step given s x row h e is;
}

kept_from : (given : Type 0) (s : State) (story : List StoryStep) → IsKnown given s → LegalFrom s story
    → IsKnown given (state_from s story)
kept_from given s story h e = along (IsKnown given) (λ t x legal so. kept_step given t x so legal) s story e h

-- after the first step nothing is left after
none_left : (x : StoryStep) (row : Plain) → Lawful start x → hanging (after start x).ends ≡ Some row → ⊥
none_left (story_steps.Opened rows counts tells) row e is = cc
none_left x row e is = opens_first x e

kept_first : (x : StoryStep) → Lawful start x → IsKnown (values.IsSound (after start x).base) (after start x)
kept_first x e = record {
  sound = consistent_first x e;
  held = held_first x e;
  base = λ given. given;
  left = λ row is. absurd (none_left x row e is);
}

story_kept : (x : StoryStep) (story : List StoryStep) → Legal (x ∷ story)
    → IsKnown (values.IsSound (after start x).base) (state_of (x ∷ story))
story_kept x story legal = kept_from (values.IsSound (after start x).base) (after start x) story (kept_first x legal.0) legal.1

-- whatever a stop leaves of such a state
left_is_good : (given : Type 0) (s : State) (b : Base) → IsKnown given s → IsLeftByStop s b → IsGood given b
left_is_good given s b h (OfCommits is) = subst (IsGood given) (sym is) (record { fits = h.sound.base; sound = h.base })
left_is_good given s b h (WithRowLeft row left is) = subst (IsGood given) (sym is) (h.left row left)
left_is_good given s b h (WithRowInFlight row may is) = subst (IsGood given) (sym is) (in_flight given s row h may)

pub stop_leaves_base : (story : List StoryStep) (b : Base) → Legal story → IsLeftByStop (state_of story) b → is_base b ≡ true
stop_leaves_base [] b legal (OfCommits is) = ap is_base is
stop_leaves_base [] b legal (WithRowLeft row left is) = absurd (cc)
stop_leaves_base [] b legal (WithRowInFlight row may is) = absurd (nothing_is_committed row row.deed may.made)
stop_leaves_base (x ∷ story) b legal left = (left_is_good _ (state_of (x ∷ story)) b (story_kept x story legal) left).fits

pub stop_leaves_sound : (story : List StoryStep) (o : Opening) (b : Base) → Legal story → (state_of story).opened ≡ Some o
    → values.IsSound o.base → IsLeftByStop (state_of story) b → values.IsSound b
stop_leaves_sound [] o b legal is sound left = absurd (cc)
stop_leaves_sound (x ∷ story) o b legal is sound left =
    let opened : (after start x).opened ≡ Some o = sym (opened_from (after start x) story (consistent_first x legal.0) legal.1)
    ∙ is in
    (left_is_good _ (state_of (x ∷ story)) b (story_kept x story legal) left).sound
    (subst values.IsSound (opened_is_base x o legal.0 opened) sound)

pub fault_leaves_sound : (prefix rest : List StoryStep) (tag : Tag) (row : Plain) (before faults tick : ℕ) (o : Opening)
    → Legal (prefix ++ story_steps.Fault tag (Some row) before faults tick ∷ rest)
    → (state_of prefix).opened ≡ Some o → values.IsSound o.base →
    values.IsSound (row ∷ (state_of prefix).base)
fault_leaves_sound prefix rest tag row before faults tick o legal is sound =
    let x = story_steps.Fault tag (Some row) before faults tick in
    stop_leaves_sound prefix o (row ∷ (state_of prefix).base) (prefix_is_legal start prefix (x ∷ rest) legal) is sound
    (by (rest_is_legal start prefix (x ∷ rest) legal).0.leaves)
  where
    by : LeavesRow (state_of prefix) tag (Some row) → IsLeftByStop (state_of prefix) (row ∷ (state_of prefix).base)
    by (inl own) = WithRowInFlight row own.1 refl
    by (inr earlier) = WithRowLeft row earlier refl
