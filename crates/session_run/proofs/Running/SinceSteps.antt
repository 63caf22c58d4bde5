-- What the calls of a core in a phase keep of how it stood as the phase had begun.
use Rattle.std.proofs.Common.{◌≡◌, ℕ, true, refl, ap, sym, subst, ◌∙◌}
use Rattle.std.specs.Prelude.{Result, Ok, Err, IfOk, OnOk, OnErr}
use Rattle.cc_names.specs.declared.occasions.Begun.{Begun}
use Rattle.cc_names.specs.declared.occasions.Begun.TheVariants as begins
use Rattle.cc_names.specs.declared.occasions.Done.{Done}
use Rattle.cc_names.specs.declared.occasions.Next.TheVariants as nexts
use Rattle.cc_names.specs.declared.memory.NoMemory.{NoMemory}
use Rattle.legal_history.specs.Stories.Steps.{state_of}
use Rattle.clearmake.specs.Calls.{Begins, IsCarried, Tries}
use Rattle.clearmake.specs.Going.{Finishes, SamePhase}
use Rattle.clearmake.specs.Nexts.{next_of_lane}
use Rattle.clearmake.specs.declared.turns.TurnEnd.{TurnEnd}
use Rattle.clearmake.specs.declared.turns.TurnEnd.TheVariants as turn_ends
use Rattle.clearmake.specs.declared.turns.UnitTurn.{UnitTurn}
use Rattle.clearmake.specs.declared.turns.UnitTurn.TheVariants as turns
use Rattle.base_core.specs.Calls.Acting.{Acts}
use Rattle.base_core.specs.Story.Counted.{KeepsCount}
use Rattle.base_core.specs.Story.Shown.{Shown}
use Rattle.base_core.proofs.Story.Counts.{keeps_count, keeps_further}
use Rattle.session_run.specs.Running.Since.{IsSince}
use Rattle.session_run.specs.Story.Begun.{is_opened}
use Rattle.session_run.proofs.Running.LaneSteps.{act_finishes, goes_further, goes_nowhere}
use Rattle.session_run.proofs.Story.MoreSteps.{goes_on, opened_more}

-- a phase that begins now
pub since_itself : (now : Shown) → is_opened now.story ≡ true → IsSince now now
since_itself now opened = record { goes = goes_nowhere now.story; counted = keeps_count now; opened = opened }

-- steps within the phase
since_on : (at old new : Shown) → IsSince at old → KeepsCount old new → SamePhase (state_of old.story) (state_of new.story)
    → IsSince at new
since_on at old new h counted same = record {
  goes = goes_further at.story old.story new.story h.goes (goes_on old.story new.story counted.steps counted.grows same h.opened);
  counted = keeps_further at old new h.counted counted;
  opened = ap is_opened counted.grows ∙ opened_more old.story counted.steps h.opened ∙ h.opened;
}

-- what a call that answers so leaves, where its answer keeps the phase
module _ (at old new : Shown) (h : IsSince at old) (counted : KeepsCount old new) where
  phase_same : new ≡ old → SamePhase (state_of old.story) (state_of new.story)
  phase_same e = subst (λ s. SamePhase (state_of old.story) (state_of s.story)) (sym e)
      (record { phase = refl; number = refl; moment = refl })

  since_same : new ≡ old → IsSince at new
  since_same e = since_on at old new h counted (phase_same e)

  pub since_finishes : {A : Type 0} (result : Result A NoMemory) (lane : ℕ) → OnOk result (Finishes old.story new.story lane)
      → OnErr result (new ≡ old) → IsSince at new
  since_finishes (Ok a) lane ok err = since_on at old new h counted ok.phase
  since_finishes (Err error) lane ok err = since_same err

  since_begun : (lane : ℕ) (begun : Begun) → Begins old.story new.story lane begun → IsSince at new
  since_begun lane (begins.Units count) is = since_on at old new h counted is.0.phase
  since_begun lane begins.Refused is = since_on at old new h counted is.phase

  pub since_begins : (result : Result Begun NoMemory) (lane : ℕ) → IfOk result (λ begun. Begins old.story new.story lane begun)
      → OnErr result (new ≡ old) → IsSince at new
  since_begins (Ok begun) lane ok err = since_begun lane begun ok
  since_begins (Err error) lane ok err = since_same err

  since_tried : (lane unit : ℕ) (turn : UnitTurn) → Tries old.story new.story lane unit turn → IsSince at new
  since_tried lane unit (turns.End turn_ends.Concluded) is = since_on at old new h counted is.0.phase
  since_tried lane unit (turns.End (turn_ends.NotReady earlier)) is = since_on at old new h counted
      (subst (λ s. SamePhase (state_of old.story) (state_of s)) (sym is.0)
      (record { phase = refl; number = refl; moment = refl }))
  since_tried lane unit (turns.End turn_ends.Over) is = since_on at old new h counted is.phase
  since_tried lane unit (turns.Run script targets) is = since_on at old new h counted is.0.phase

  pub since_tries : (result : Result UnitTurn NoMemory) (lane unit : ℕ)
      → IfOk result (λ turn. Tries old.story new.story lane unit turn) → OnErr result (new ≡ old) → IsSince at new
  since_tries (Ok turn) lane unit ok err = since_tried lane unit turn ok
  since_tries (Err error) lane unit ok err = since_same err

  since_carried : (lane unit : ℕ) (end : TurnEnd) → IsCarried old.story new.story lane unit end → IsSince at new
  since_carried lane unit turn_ends.Concluded is = since_on at old new h counted is.0.phase
  since_carried lane unit (turn_ends.NotReady earlier) is = absurd is
  since_carried lane unit turn_ends.Over is = since_on at old new h counted is.phase

  pub since_carries : (result : Result TurnEnd NoMemory) (lane unit : ℕ)
      → IfOk result (λ end. IsCarried old.story new.story lane unit end) → OnErr result (new ≡ old) → IsSince at new
  since_carries (Ok end) lane unit ok err = since_carried lane unit end ok
  since_carries (Err error) lane unit ok err = since_same err

  since_acted : (lane : ℕ) (done : Done) → next_of_lane (state_of old.story) lane ≡ nexts.Act → Acts old.story new.story lane done
      → IsSince at new
  since_acted lane done next acts = since_on at old new h counted (act_finishes old.story new.story lane done next acts).phase

  pub since_acts : (result : Result Done NoMemory) (lane : ℕ) → next_of_lane (state_of old.story) lane ≡ nexts.Act
      → IfOk result (λ done. Acts old.story new.story lane done) → OnErr result (new ≡ old) → IsSince at new
  since_acts (Ok done) lane next ok err = since_acted lane done next ok
  since_acts (Err error) lane next ok err = since_same err
