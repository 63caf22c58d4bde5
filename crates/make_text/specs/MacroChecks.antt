-- The test of each macro after the last line.
use Rattle.std.specs.Prelude.{◌≡◌, ℕ, false, Option, Some, None, Result, Ok, Err, List, [], length, slice_index_or}
use Rattle.cc_names.specs.declared.commands.Macro.{Macro}
use Rattle.cc_names.specs.declared.memory.Or.{Or}
use Rattle.cc_names.specs.declared.memory.Or.TheVariants.{NoMemory, Is}
use Rattle.cc_names.specs.declared.refusals.MakeCause.{MakeCause}
use Rattle.make_grammar.specs.Macros.{Expansion, plain, one_after_other, reference_expansion}
use Rattle.make_grammar.specs.Statements.{Definition, expansion_fault}
use Rattle.make_text.specs.Steps.{IsAtEnd}
use Rattle.make_text.specs.declared.expansions.Expanding.{Expanding}

-- the definition at an index
abbrev pub definition_at : List Definition → ℕ → Definition
definition_at definitions i = slice_index_or definitions i (record {
  name = [];
  value = [];
  file = [];
  line = 0;
  is_fixed = false;
})

-- the fault of what a reference to a macro expands to
abbrev pub macro_fault_of : List Macro → (ℕ → List ℕ) → List ℕ → Option MakeCause
macro_fault_of macros automatic name = expansion_fault (reference_expansion macros automatic (length macros) [] name)

-- an expansion is at its end, unless there is a fault
abbrev pub AtEndUnless : List Macro → (ℕ → List ℕ) → Option MakeCause → Expanding → Type 0
AtEndUnless macros automatic None e = IsAtEnd macros automatic e
AtEndUnless macros automatic (Some cause) e = Unit {0}

-- an expansion that gives a total in the end ran, and told the fault of what the total has after so many bytes
abbrev pub RunsTo : List Macro → (ℕ → List ℕ) → Expansion → ℕ → Option MakeCause → Expanding → Type 0
RunsTo macros automatic total start cause e =
    (written : List ℕ) (part : Expansion) → length written ≡ start → total ≡ one_after_other (plain written) part
    → (cause ≡ expansion_fault part) × AtEndUnless macros automatic cause e

-- unless memory ran out, a test found nothing where there is no fault, and else the fault
abbrev pub FindsFault : {U E : Type 0} → Result U (Or E) → Option E → Type 0
FindsFault (Ok done) fault = fault ≡ None
FindsFault (Err NoMemory) fault = Unit {0}
FindsFault (Err (Is found)) fault = fault ≡ Some found
