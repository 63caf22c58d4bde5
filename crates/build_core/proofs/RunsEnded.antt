-- What a run that succeeds has made and read: outputs within the limit, one for each target, and few reads, none at the root.
use Rattle.std.proofs.Common.{◌≡◌, refl, ap, subst, ℕ, suc, ◌+◌, ◌≤◌, Option, Some, None, Result, Ok, Err, List, [], ◌∷◌, length}
use Rattle.std.proofs.Common.{arith}
use Rattle.std.specs.List.{AllByRecursion, flat_map}
use Rattle.cc_names.specs.Files.{Files}
use Rattle.cc_names.specs.Paths.{root}
use Rattle.cc_names.specs.declared.refusals.ScriptFault.{ScriptFault}
use Rattle.script_grammar.specs.Lines.{script_of}
use Rattle.script_grammar.specs.Run.{State, Done, after_lines, output_before, target_outputs, nothing_written, run_of, run}
use Rattle.script_grammar.specs.Run.{trace_of}
use Rattle.script_grammar.specs.declared.lines.Line.{Line}
use Rattle.build_core.proofs.RunsGo.{Ends, Leads, leads_done, leads_then, AreReads, reads_wider}
use Rattle.build_core.proofs.RunsPaths.{line_paths, script_paths}
use Rattle.build_core.proofs.RunsScripts.{ArePaths, script_read}
use Rattle.build_core.proofs.RunsWell.{IsShort, AreShort, StateWell, run_leads}

-- outputs within the limit, one for each target
pub record AreOutputs (targets outputs : List (List ℕ)) : Type 0 where
  pub short : AllByRecursion (λ output. length output ≤ 1048576) outputs
  pub many : length outputs ≡ length targets

-- what is made where there was no fault
abbrev Gives : {A : Type 0} → (A → Type 0) → Result A ScriptFault → Type 0
Gives P (Ok a) = P a
Gives P (Err fault) = Unit {0}

outputs_are : (targets : List (List ℕ)) (own : Files) → AreShort own → Gives (AreOutputs targets) (target_outputs targets own)
outputs_are [] own short = record { short = tt; many = refl }
outputs_are (target ∷ targets) own short = by (own target) (target_outputs targets own) (short target)
    (outputs_are targets own short)
  where
    by : (o : Option (List ℕ)) (later : Result (List (List ℕ)) ScriptFault) → ((bytes : List ℕ) → o ≡ Some bytes → IsShort bytes)
        → Gives (AreOutputs targets) later →
        Gives (AreOutputs (target ∷ targets)) (output_before target o later)
    by (Some bytes) (Ok outputs) here rest = record { short = (here bytes refl, rest.short); many = ap suc rest.many }
    by (Some bytes) (Err fault) here rest = tt
    by None later here rest = tt

-- the outputs of a run, and the reads of so many texts and of its probes
abbrev EndsWell : List (List ℕ) → ℕ → List (List ℕ) → List (List ℕ) → Type 0
EndsWell targets n outputs reads = AreOutputs targets outputs × AreReads (n + 100000) reads

outputs_lead : (files : Files) (targets : List (List ℕ)) (n : ℕ) (state : State)
    → Leads files (StateWell n state) (EndsWell targets n) (Done (target_outputs targets state.own))
outputs_lead files targets n state = leads_done files (StateWell n state) (EndsWell targets n) (target_outputs targets state.own)
    (λ reads h. by (target_outputs targets state.own) reads (outputs_are targets state.own h.short)
    (reads_wider (n + state.probes) (n + 100000) reads (let low = h.within in omega arith) h.are))
  where
    by : (r : Result (List (List ℕ)) ScriptFault) (reads : List (List ℕ)) → Gives (AreOutputs targets) r
        → AreReads (n + 100000) reads → Ends (EndsWell targets n) r reads
    by (Ok outputs) reads are few = (are, few)
    by (Err fault) reads are few = tt

run_well : (files : Files) (targets : List (List ℕ)) (n : ℕ) (read : Result (List Line) ScriptFault) → files root ≡ None
    → ArePaths n (script_paths read) →
    Ends (EndsWell targets n) (trace_of files [] (run_of targets read)).value (trace_of files [] (run_of targets read)).reads
run_well files targets n (Err fault) rootless are = tt
run_well files targets n (Ok lines) rootless are =
    (leads_then files (StateWell 0 nothing_written) (StateWell (0 + length (flat_map line_paths lines))) (EndsWell targets n)
    (after_lines targets lines nothing_written) (λ after. Done (target_outputs targets after.own))
    (run_leads files targets 0 lines nothing_written rootless are.each) (λ state. fewer state)).ends []
    (record { short = λ path bytes is. absurd (cc); within = omega arith; are = record { few = omega arith; each = tt } })
  where
    fewer : (state : State) → Leads files (StateWell (0 + length (flat_map line_paths lines)) state) (EndsWell targets n)
        (Done (target_outputs targets state.own))
    fewer state = record {
      ends = λ reads h. (outputs_lead files targets n state).ends reads
          (record {
            short = h.short;
            within = h.within;
            are = reads_wider (0 + length (flat_map line_paths lines) + state.probes)
                (n + state.probes) reads (let few = are.few in omega arith) h.are;
          });
    }

ended : (script : List ℕ) (targets : List (List ℕ)) (files : Files) (outputs : List (List ℕ)) → files root ≡ None
    → (run script targets files).result ≡ Ok outputs →
    EndsWell targets (length script) outputs (run script targets files).reads
ended script targets files outputs rootless h =
    subst (λ r. Ends (EndsWell targets (length script)) r (run script targets files).reads) h
    (run_well files targets (length script) (script_of script) rootless (script_read script))

-- The outputs of a run that succeeds are within the limit, one for each target.
pub outputs_short : (script : List ℕ) (targets : List (List ℕ)) (files : Files) (outputs : List (List ℕ)) → files root ≡ None
    → (run script targets files).result ≡ Ok outputs → AreOutputs targets outputs
outputs_short script targets files outputs rootless h = (ended script targets files outputs rootless h).0

-- Its reads are paths below the root, no more of them than its script has bytes and 100,000.
pub reads_below : (script : List ℕ) (targets : List (List ℕ)) (files : Files) (outputs : List (List ℕ)) → files root ≡ None
    → (run script targets files).result ≡ Ok outputs →
    AreReads (length script + 100000) (run script targets files).reads
reads_below script targets files outputs rootless h = (ended script targets files outputs rootless h).1
