-- What a ready unit of a build that agrees so far comes to from nothing: an early end, or what its run gives here.
use Rattle.std.proofs.Common.{◌≡◌, refl, ap, sym, subst, ◌∙◌, ℕ, Bool, true, false, ◌||◌, Option, Some, None, Result, Ok, Err}
use Rattle.std.proofs.Common.{List, [], ◌∷◌}
use Rattle.std.proofs.lemmas.Slice.Eq.{bytes_eq-Decides}
use Rattle.std.specs.Prelude.{is_some, bytes_eq, if◌then◌else◌}
use Rattle.std.specs.List.{list_all}
use Rattle.cc_names.specs.Files.{Files}
use Rattle.cc_names.specs.declared.refusals.ScriptFault.{ScriptFault}
use Rattle.cc_names.specs.declared.steps.UnitEnd.{UnitEnd}
use Rattle.cc_names.specs.declared.units.Unit.{Unit}
use Rattle.cc_names.proofs.Common.{bytes_eq_swapped, and_first, and_second}
use Rattle.script_grammar.specs.Lines.{script_of}
use Rattle.script_grammar.specs.Run.{State, Done, Ran, run, run_of, after_lines, nothing_written, carried_out, trace_of}
use Rattle.script_grammar.specs.Run.{unless_fault, output_before, target_outputs}
use Rattle.script_grammar.specs.declared.lines.Line.{Line}
use Rattle.script_grammar.proofs.CarriedLemmas.{trace_of-and_then}
use Rattle.base_model.specs.Rows.{Base, first_rows}
use Rattle.legal_history.specs.Builds.Active.{Build, came_to, is_outcome, number_from, unit_with}
use Rattle.legal_history.specs.Builds.Choices.{here}
use Rattle.base_model.specs.Closures.{is_path_among}
use Rattle.legal_history.specs.Builds.Fresh.{outcome_of_run, end_or_run, output_or_file}
use Rattle.base_model.specs.Texts.{texts, output_at}
use Rattle.legal_history.specs.Builds.Freshness.{AgreesSoFar, done_in, outcome_in, early_from_nothing}
use Rattle.legal_history.specs.Builds.Consistency.{IsReady}
use Rattle.legal_history.specs.Builds.Serials.{Without, unit_of, needed_units}
use Rattle.legal_history.specs.Builds.Turns.{is_over, is_unit_ready}
use Rattle.legal_history.proofs.Builds.FreshRuns.{run_same}

-- a unit that passes the test is ready
over_at : (build : Build) (paths : List (List ℕ)) → list_all (λ path. is_over build (unit_with build path)) paths ≡ true →
    (m : ℕ) (path : List ℕ) → is_path_among path paths ≡ true → number_from 0 path build.units ≡ Some m
    → is_outcome (came_to build m) ≡ true
over_at build [] h m path among is = absurd (cc)
over_at build (first ∷ paths) h m path among is =
    by (bytes_eq path first) refl among (over_at build paths (and_second (is_over build (unit_with build first))
    (list_all (λ p. is_over build (unit_with build p)) paths) h) m path)
  where
    by : (t : Bool) → bytes_eq path first ≡ t → (t || is_path_among path paths) ≡ true →
        (is_path_among path paths ≡ true → number_from 0 path build.units ≡ Some m → is_outcome (came_to build m) ≡ true)
        → is_outcome (came_to build m) ≡ true
    by true same among rest =
        let one : path ≡ first = (bytes_eq-Decides path first).0 same in
        let here : number_from 0 first build.units ≡ Some m = subst (λ p. number_from 0 p build.units ≡ Some m) one is in
        subst (λ o. is_over build o ≡ true) here (and_first (is_over build (unit_with build first))
        (list_all (λ p. is_over build (unit_with build p)) paths) h)
    by false other among rest = rest among is

pub ready_by : (build : Build) (unit : Unit) → is_unit_ready build unit ≡ true → IsReady build unit
ready_by build unit h = over_at build unit.prerequisites h

-- a unit that ends early from nothing comes to that end
pub outcome_by_end : (rows : Base) (build : Build) (n : ℕ) (unit : Unit) (end : UnitEnd)
    → early_from_nothing rows build n unit ≡ Some end → outcome_in rows build n unit ≡ Without end
outcome_by_end rows build n unit end h =
    ap (λ o. end_or_run o unit (output_or_file (texts rows build.view)
    (needed_units unit_of unit.prerequisites (done_in rows build n)))) h

-- a unit that does not comes to what its run gives here
pub outcome_by_run : (b : Base) (build : Build) (n : ℕ) (unit : Unit) → AgreesSoFar b build → IsReady build unit
    → early_from_nothing (first_rows build.rows b) build n unit ≡ None →
    outcome_in (first_rows build.rows b) build n unit ≡ outcome_of_run (here b build n unit).result
outcome_by_run b build n unit h ready early =
    ap (λ o. end_or_run o unit (output_or_file (texts (first_rows build.rows b) build.view)
    (needed_units unit_of unit.prerequisites (done_in (first_rows build.rows b) build n)))) early
    ∙ ap (λ (ran : Ran). outcome_of_run ran.result) (sym (run_same b build n unit h ready))

-- a script that cannot be read is the fault of its run
pub unreadable_fails : (script : List ℕ) (targets : List (List ℕ)) (files : Files) (fault : ScriptFault)
    → script_of script ≡ Err fault → (run script targets files).result ≡ Err fault
unreadable_fails script targets files fault h = ap (λ read. (carried_out files (run_of targets read)).result) h

-- a run that succeeded has an output for each target
outputs_there : (targets outputs : List (List ℕ)) (own : Files) → target_outputs targets own ≡ Ok outputs → (path : List ℕ)
    → is_path_among path targets ≡ true → is_some (output_at path targets outputs) ≡ true
outputs_there [] outputs own h path among = absurd (cc)
outputs_there (target ∷ targets) outputs own h path among = by (own target) (target_outputs targets own) refl h
    (λ more is. outputs_there targets more own is path)
  where
    at_target : (bytes : List ℕ) (more : List (List ℕ)) (t : Bool) → bytes_eq target path ≡ t
        → (t || is_path_among path targets) ≡ true → (is_path_among path targets ≡ true
        → is_some (output_at path targets more) ≡ true) →
        is_some (output_at path (target ∷ targets) (bytes ∷ more)) ≡ true
    at_target bytes more true is among rest = ap (λ c. is_some (if c then Some bytes else output_at path targets more)) is
    at_target bytes more false is among rest = ap (λ c. is_some (if c then Some bytes else output_at path targets more)) is
        ∙ rest among

    by : (o : Option (List ℕ)) (later : Result (List (List ℕ)) ScriptFault) → target_outputs targets own ≡ later
        → output_before target o later ≡ Ok outputs →
        ((more : List (List ℕ)) → target_outputs targets own ≡ Ok more → is_path_among path targets ≡ true
        → is_some (output_at path targets more) ≡ true) → is_some (output_at path (target ∷ targets) outputs) ≡ true
    by None later is h rest = absurd (cc)
    by (Some bytes) (Err fault) is h rest = absurd (cc)
    by (Some bytes) (Ok more) is h rest =
        let same : bytes ∷ more ≡ outputs = cc in
        subst (λ outs. is_some (output_at path (target ∷ targets) outs) ≡ true) same
        (at_target bytes more (bytes_eq target path) refl (subst (λ t. (t || is_path_among path targets) ≡ true)
        (bytes_eq_swapped path target) among) (rest more is))

written : (targets outputs : List (List ℕ)) (files : Files) (reads : List (List ℕ)) (after : Result State ScriptFault) →
    (trace_of files reads (unless_fault (λ state. Done (target_outputs targets state.own)) after)).value ≡ Ok outputs
    → (own : Files) × (target_outputs targets own ≡ Ok outputs)
written targets outputs files reads (Err fault) h = absurd (cc)
written targets outputs files reads (Ok state) h = (state.own, h)

pub outputs_whole : (script : List ℕ) (targets outputs : List (List ℕ)) (files : Files)
    → (run script targets files).result ≡ Ok outputs →
    (path : List ℕ) → is_path_among path targets ≡ true → is_some (output_at path targets outputs) ≡ true
outputs_whole script targets outputs files h = by (script_of script) refl h
  where
    by : (read : Result (List Line) ScriptFault) → script_of script ≡ read
        → (carried_out files (run_of targets read)).result ≡ Ok outputs → (path : List ℕ) → is_path_among path targets ≡ true
        → is_some (output_at path targets outputs) ≡ true
    by (Err fault) is h = absurd (cc)
    by (Ok lines) is h =
        let ran = trace_of files [] (after_lines targets lines nothing_written) in
        let own = written targets outputs files ran.reads ran.value
        (sym (ap (λ t. t.value) (trace_of-and_then files [] (after_lines targets lines nothing_written)
        (unless_fault (λ after. Done (target_outputs targets after.own))))) ∙ h) in
        outputs_there targets outputs own.0 own.1
