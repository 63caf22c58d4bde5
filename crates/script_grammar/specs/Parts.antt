-- The results of the parts of the code that carry out a run.
use Rattle.std.specs.Prelude.{◌≡◌, ℕ, Option, Result, Ok, Err, List, Vec, option_map}
use Rattle.std.specs.Str.{bytes_eq}
use Rattle.std.specs.HashMap.{HashMap, get}
use Rattle.cc_names.specs.Counts.{Rose}
use Rattle.cc_names.specs.Files.{Files}
use Rattle.cc_names.specs.declared.refusals.ScriptFault.{ScriptFault}
use Rattle.script_grammar.specs.Run.{Asking, Done, trace_of}
use Rattle.script_grammar.specs.Standings.{Standing, Stays, AreAmong, texts}
use Rattle.script_grammar.specs.declared.files.GivenUp.{GivenUp}
use Rattle.script_grammar.specs.declared.files.GivenUp.TheVariants.{Broken}
use Rattle.script_grammar.specs.declared.halts.Halt.{Halt}
use Rattle.script_grammar.specs.declared.halts.Halt.TheVariants as halts

-- a run is given up for a cause only where there is that cause
abbrev pub IsGivenUpFor : GivenUp → ℕ → ℕ → Type 0
IsGivenUpFor Broken old new = Rose old new

-- A part of a run, from these reads on, that ended early: by a fault of the script, and the fault and the reads by then
-- are what it traces; or given up.
abbrev pub Halted : {A : Type 0} → Files → List (List ℕ) → Asking (Result A ScriptFault) → Halt → List (List ℕ) → ℕ → ℕ → Type 0
Halted files before asking (halts.Fault fault) after old new = trace_of files before asking
    ≡ record { value = Err fault; reads = after }
Halted files before asking (halts.GivenUp cause) after old new = IsGivenUpFor cause old new
Halted files before asking halts.NoMemory after old new = Unit {0}

-- A part of a run that ended early, or passed to where it goes on as this says.
abbrev pub PartWent : {X A : Type 0} → Files → List (List ℕ) → Asking (Result A ScriptFault) → (X → Asking (Result A ScriptFault))
    → Result X Halt → List (List ℕ) → ℕ → ℕ → Type 0
PartWent files before asking next (Ok x) after old new = trace_of files before asking ≡ trace_of files after (next x)
PartWent files before asking next (Err halt) after old new = Halted files before asking halt after old new

-- A part of a run that was carried out over files: the files stay as they are, were asked for nothing but what it asks
-- for, and it ended early or passed.
pub record Performed {F X A : Type 0} (stands : F → List ℕ → Option Standing) (broken : F → ℕ) (follows : List (List ℕ) → F → F
    → Type 0)
    (before : List (List ℕ)) (asking : Asking (Result A ScriptFault)) (next : X
    → Asking (Result A ScriptFault)) (result : Result X Halt) (after : List (List ℕ)) (old new : F) : Type 0 where
  pub stays : Stays stands broken old new
  pub asked : (paths : List (List ℕ)) → AreAmong (trace_of (texts (stands old)) before asking).reads paths → follows paths old new
  pub went : PartWent (texts (stands old)) before asking next result after (broken old) (broken new)

-- it comes to this, as it is shown
abbrev pub gives : {X A : Type 0} → (X → A) → X → Asking (Result A ScriptFault)
gives shown x = Done (Ok (shown x))

-- the same where nothing is asked for
abbrev pub PartGave : {X A : Type 0} → Result A ScriptFault → (X → A) → Result X Halt → Type 0
PartGave value shown (Ok x) = value ≡ Ok (shown x)
PartGave value shown (Err (halts.Fault fault)) = value ≡ Err fault
PartGave value shown (Err (halts.GivenUp cause)) = ⊥
PartGave value shown (Err halts.NoMemory) = Unit {0}

-- what a table of the outputs that a run has written says of a path
abbrev pub own_of : {Y S : Type 0} → HashMap (List ℕ) (Vec ℕ Y) S → Files
own_of written path = option_map (λ bytes. bytes.items) (get bytes_eq written path)
