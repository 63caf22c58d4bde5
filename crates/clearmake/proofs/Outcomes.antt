-- What came of a run outside the lock.
use Rattle.std.proofs.Common.{◌≡◌, refl, ap, sym, ◌∙◌, ℕ, ◌<◌, inl, inr, Option, Some, None, Result, Ok, Err, List, arith}
use Rattle.std.proofs.lemmas.Bool.{cases_lt}
use Rattle.std.specs.Prelude.{IfErr, IfOk, is_some, option_and_then, option_map}
use Rattle.cc_names.specs.Counts.{last_count}
use Rattle.cc_names.specs.declared.memory.Or.{Or}
use Rattle.cc_names.specs.declared.memory.Or.TheVariants.{NoMemory, Is}
use Rattle.cc_names.specs.declared.rows.Tag.{Tag}
use Rattle.cc_names.specs.declared.steps.StoryStep.{StoryStep}
use Rattle.build_script.specs.Ended.{IsGivenUp, ran_of}
use Rattle.script_grammar.specs.Run.{Ran, carried_out, run_of, run_of_lines}
use Rattle.script_grammar.specs.Standings.{Standing, text_of, texts}
use Rattle.script_grammar.specs.declared.files.GivenUp.{GivenUp}
use Rattle.script_grammar.specs.declared.files.GivenUp.TheVariants.{Broken}
use Rattle.script_grammar.specs.declared.lines.Line.{Line}
use Rattle.build_script.specs.declared.outcomes.Ended.{Ended}
use Rattle.base_model.specs.Rows.{Base}
use Rattle.base_model.specs.Texts.{text, text_of_row}
use Rattle.legal_history.specs.Builds.Choices.{visible}
use Rattle.legal_history.specs.Stories.States.{State}
use Rattle.legal_history.specs.Stories.Steps.{state_of}
use Rattle.clearmake.specs.Calls.{IsRunOfUnit, IsStarted}
use Rattle.clearmake.specs.Outside.{RanSo}
use Rattle.clearmake.specs.Passes.{IsCommandPast}
use Rattle.clearmake.specs.FoundTexts.{sees, found_standing}
use Rattle.clearmake.proofs.Later.{stands_so}

with_row : (row : ℕ) (found : Option (List ℕ)) → option_map text_of (option_map
    (λ bytes. let standing : Standing = record { row = row; text = bytes } in standing) found) ≡ found
with_row row None = refl
with_row row (Some bytes) = refl

of_row : (b : Base) (path : List ℕ) (row : Option ℕ) → option_map text_of (option_and_then (found_standing b path) row)
    ≡ text_of_row b path row
of_row b path None = refl
of_row b path (Some row) = with_row row (text b row path)

-- a run on what a started unit sees is the unit's run
pub run_is : (s : State) (lane n : ℕ) (script : List Line) (targets : List (List ℕ)) (ran : Ran)
    → IsStarted s lane n script targets →
    ran ≡ carried_out (texts (sees s lane n)) (run_of_lines targets script) → IsRunOfUnit s lane n ran
run_is s lane n script targets ran h e = record {
  build = h.has.build;
  active = h.has.active;
  unit = h.has.unit;
  is_unit = h.has.is_unit;
  started = ap is_some h.started;
  run = e ∙ (λ i. carried_out (λ path. seen path i) (run_of (h.has.targets_are i) (sym h.has.script_is i)));
}
  where
    seen : (path : List ℕ) → texts (sees s lane n) path ≡ text_of_row s.base path (visible s.base h.has.build n h.has.unit path)
    seen path = ap (option_map text_of) (stands_so s lane n h.has.build h.has.unit path h.has.active h.has.is_unit)
        ∙ of_row s.base path (visible s.base h.has.build n h.has.unit path)

pub ran_so : (result : Result Ended (Or GivenUp)) (s : State) (tag : Tag) (n broken : ℕ) (script : List Line)
    (targets : List (List ℕ)) (story : List StoryStep) → IsStarted s tag.lane n script targets →
    IfOk result (λ ended. ran_of ended ≡ carried_out (texts (sees s tag.lane n)) (run_of_lines targets script))
    → IfErr result (λ cause. IsGivenUp cause 0 broken) →
    (0 < broken → IsCommandPast (state_of story) tag) → RanSo result s tag n story
ran_so (Ok ended) s tag n broken script targets story h ran given past = run_is s tag.lane n script targets (ran_of ended) h ran
ran_so (Err NoMemory) s tag n broken script targets story h ran given past = tt
ran_so (Err (Is Broken)) s tag n broken script targets story h ran given past =
    elim (cases_lt broken last_count) [ inl below ↦ past (given below) | inr at_end ↦ past (omega (arith, at_end)) ]
