-- What a lane's next command is, and what is decided of it.
use Rattle.std.proofs.Common.{◌≡◌, ℕ, zero, suc, ◌+◌, ◌≤◌, ◌==◌, true, ◌&&◌, Option, Some, None, Result, Ok, Err, List, []}
use Rattle.std.proofs.Common.{length, refl, ap, ap₂, sym, subst, ◌∙◌, arith}
use Rattle.std.specs.Prelude.{option_and_then, option_map, is_none, slice_get}
use Rattle.std.proofs.lemmas.Bool.Decides.{nat_tests}
use Rattle.std.proofs.lemmas.Option.{slice_get_within}
use Rattle.cc_names.specs.Commands.{lane_at}
use Rattle.cc_names.specs.Formed.{Plain}
use Rattle.cc_names.specs.declared.commands.Change.{Change}
use Rattle.cc_names.specs.declared.commands.Command.{Command}
use Rattle.cc_names.specs.declared.commands.Command.TheVariants as commands
use Rattle.cc_names.specs.declared.commands.Query.{Query}
use Rattle.cc_names.specs.declared.commands.Lane.{Lane}
use Rattle.cc_names.specs.declared.commands.Phase.{Phase}
use Rattle.cc_names.specs.declared.occasions.Occasion.{Occasion}
use Rattle.cc_names.specs.declared.memory.Or.{Or}
use Rattle.cc_names.specs.declared.memory.Or.TheVariants.{NoMemory, Is}
use Rattle.cc_names.specs.declared.refusals.Refusal.{Refusal}
use Rattle.cc_names.specs.declared.rows.Tag.{Tag}
use Rattle.cc_names.specs.declared.steps.StoryStep.{StoryStep}
use Rattle.checkout_desk.specs.Deciding.{DecidesIfAny, Sees}
use Rattle.view_lookup.specs.Answering.{AnswersAs}
use Rattle.base_model.specs.Rows.{Base, size, only_where}
use Rattle.legal_history.specs.Builds.Active.{building, build_of, rows_reserved}
use Rattle.legal_history.specs.Commands.Decisions.{Makes, Scene, answered}
use Rattle.legal_history.specs.Commands.Lines.{change_decision, decision}
use Rattle.legal_history.specs.Queries.QueryLines.{query_answer}
use Rattle.legal_history.specs.Stories.Commanded.{next_command_of}
use Rattle.legal_history.specs.Stories.States.{State, scene, done_of, command_behind, same_tag, next_tag, next_command}
use Rattle.legal_history.specs.Stories.States.{decision_for}
use Rattle.legal_history.specs.Stories.Steps.{state_of}
use Rattle.legal_history.specs.Stories.Lawful.{Legal}
use Rattle.legal_history.proofs.Decisions.Decided.{decided_says}
use Rattle.base_core.specs.Calls.Acting.{AnswersNext, DecidesNext}
use Rattle.base_core.specs.Story.Replying.{reply_to_answer}
use Rattle.base_core.proofs.Acting.Fitting.{may_fits}
use Rattle.base_core.proofs.Acting.PlainRows.{change_finishes}

-- the lane of a command is one of the phase
pub in_phase : (phase : Phase) (lane done : ℕ) (command : Command) → option_and_then (command_behind done) (lane_at phase lane)
    ≡ Some command → (1 ≤ lane) × (lane ≤ length phase.lanes)
in_phase phase zero done command e = absurd (cc)
in_phase phase (suc n) done command e = by (slice_get phase.lanes n) refl e
  where
    by : (found : Option Lane) → slice_get phase.lanes n ≡ found → option_and_then (command_behind done) found ≡ Some command
        → (1 ≤ suc n) × (suc n ≤ length phase.lanes)
    by None is e = absurd (cc)
    by (Some lane) is e = let within = slice_get_within phase.lanes n lane is in (omega arith, omega (arith, within))

-- a tag is the same as itself
pub same_as_itself : (tag : Tag) → same_tag tag tag ≡ true
same_as_itself tag =
    let phase : (tag.phase == tag.phase) ≡ true = grind (arith, nat_tests) in
    let lane : (tag.lane == tag.lane) ≡ true = grind (arith, nat_tests) in
    let command : (tag.command == tag.command) ≡ true = grind (arith, nat_tests) in
    ap₂ ◌&&◌ (ap₂ ◌&&◌ phase lane) command

-- a lane's next command is the one after those that are finished, where the lane does not build
pub next_is : (s : State) (lane : ℕ) (command : Command) → build_of s.active lane ≡ None
    → option_and_then (command_behind (done_of s.done lane)) (lane_at s.phase lane) ≡ Some command
    → next_command s (next_tag s lane) ≡ Some command
next_is s lane command free e =
    ap (λ is. only_where is (option_and_then (command_behind (done_of s.done lane)) (lane_at s.phase lane)))
    (ap₂ ◌&&◌ (same_as_itself (next_tag s lane)) (ap is_none free)) ∙ e

-- what is decided of the command that waits
pub decides_next : (story : List StoryStep) (lane taken now : ℕ) (change : Change) (result : Result (Option Plain) (Or Refusal))
    → Legal story → (let s : State = state_of story in build_of s.active lane ≡ None → s.moment ≡ now
    → option_and_then (command_behind (done_of s.done lane)) (lane_at s.phase lane) ≡ Some (commands.Change change)
    → taken ≡ size s.base + rows_reserved s.active → DecidesIfAny (next_tag s lane) now result (change_decision (scene s) change)
    → DecidesNext s (next_tag s lane) result)
decides_next story lane taken now change (Ok (Some row)) legal free moment e count decides =
    let s : State = state_of story in
    let within = in_phase s.phase lane (done_of s.done lane) (commands.Change change) e in
    let made : decision_for s (next_tag s lane) ≡ Some (change_decision (scene s) change) =
    ap (option_map (decision (scene s))) (next_is s lane (commands.Change change) free e) in
    let at_lane : row.tag.lane ≡ lane = ap (λ t. t.lane) decides.1 in
    let finishes = change_finishes (scene s) change row.deed decides.0 in
    let row_made = ap (decision_for s) decides.1 ∙ made ∙ ap Some decides.0 in (
      record {
        of_next = record {
          next = decides.1 ∙ ap (next_tag s) (sym at_lane);
          from = omega (arith, within.0, at_lane);
          upto = omega (arith, within.1, at_lane);
        };
        made = row_made;
        at_moment = decides.2 ∙ sym moment;
        finishes = finishes;
        fits = may_fits story row legal (record { moment = decides.2 ∙ sym moment; made = finishes.made s row row_made });
        room = omega (arith, (decided_says (scene s) (commands.Change change) (Makes row.deed) decides.0).room);
      },
      decides.1,
    )
decides_next story lane taken now change (Ok None) legal free moment e count decides =
    let s : State = state_of story in
    let within = in_phase s.phase lane (done_of s.done lane) (commands.Change change) e in
    let next = next_is s lane (commands.Change change) free e in
    record {
      of_next = record { next = refl; from = within.0; upto = within.1 };
      made = ap (option_map (decision (scene s))) next ∙ ap Some decides;
      reply = ap (λ found. reply_to_answer found []) next;
    }
decides_next story lane taken now change (Err NoMemory) legal free moment e count decides = tt
decides_next story lane taken now change (Err (Is refusal)) legal free moment e count decides =
    let s : State = state_of story in
    let within = in_phase s.phase lane (done_of s.done lane) (commands.Change change) e in
    let made : decision_for s (next_tag s lane) ≡ Some (change_decision (scene s) change) =
    ap (option_map (decision (scene s))) (next_is s lane (commands.Change change) free e) in
    record {
      of_next = record { next = refl; from = within.0; upto = within.1 };
      made = made ∙ ap Some decides;
    }

-- what is decided of a lane's next command
pub decided_so : (story : List StoryStep) (lane : ℕ) (on : Occasion) (change : Change) (view : List ℕ) (rows : Base)
    (result : Result (Option Plain) (Or Refusal)) → Legal story → build_of (state_of story).active lane ≡ None
    → next_command_of (state_of story) lane ≡ Some (commands.Change change) → on.tag ≡ next_tag (state_of story) lane
    → on.moment ≡ (state_of story).moment → rows ≡ (state_of story).base → on.busy ≡ building (state_of story).active view
    → on.taken ≡ size (state_of story).base + rows_reserved (state_of story).active
    → ((scene : Scene) → Sees scene rows on.moment view on.busy on.taken
    → DecidesIfAny on.tag on.moment result (change_decision scene change))
    → DecidesNext (state_of story) (next_tag (state_of story) lane) result
decided_so story lane on change view rows result legal free e tagged moment rows_are is count decides =
    let s = state_of story in
    let sees : Sees (scene s) rows on.moment view on.busy on.taken = record {
      base = sym rows_are;
      moment = sym moment;
      busy = sym is;
      taken = sym count;
    } in
    decides_next story lane on.taken on.moment change result legal free (sym moment) e count
    (subst (λ t. DecidesIfAny t on.moment result (change_decision (scene s) change)) tagged (decides (scene s) sees))

-- what is answered to the query that waits
pub answered_so : (s : State) (lane : ℕ) (query : Query) (result : Result (List ℕ) (Or Refusal)) → build_of s.active lane ≡ None
    → next_command_of s lane ≡ Some (commands.Query query) → AnswersAs result (query_answer s.base query)
    → AnswersNext s (next_tag s lane) result
answered_so s lane query (Ok text) free e answers =
    let within = in_phase s.phase lane (done_of s.done lane) (commands.Query query) e in
    let next = next_is s lane (commands.Query query) free e in
    record {
      of_next = record { next = refl; from = within.0; upto = within.1 };
      made = ap (option_map (decision (scene s))) next ∙ ap (λ answer. Some (answered answer)) answers;
      reply = ap (λ found. reply_to_answer found text) next;
    }
answered_so s lane query (Err NoMemory) free e answers = tt
answered_so s lane query (Err (Is refusal)) free e answers =
    let within = in_phase s.phase lane (done_of s.done lane) (commands.Query query) e in
    record {
      of_next = record { next = refl; from = within.0; upto = within.1 };
      made = ap (option_map (decision (scene s))) (next_is s lane (commands.Query query) free e)
          ∙ ap (λ answer. Some (answered answer)) answers;
    }
