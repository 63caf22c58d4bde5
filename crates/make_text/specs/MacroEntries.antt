-- The macros that a map holds by their names.
use Rattle.std.specs.Prelude.{ℕ, List, map}
use Rattle.cc_names.specs.declared.commands.Macro.{Macro}
use Rattle.make_grammar.specs.Statements.{Definition}
use Rattle.make_text.specs.declared.macros.Defined.{Defined}

-- an entry of the map as a macro, and as a definition
abbrev pub macro_in : List ℕ × Defined → Macro
macro_in entry = record { name = entry.0; value = entry.1.value }

abbrev pub definition_in : List ℕ × Defined → Definition
definition_in entry =
    record {
      name = entry.0;
      value = entry.1.value;
      file = entry.1.file.value;
      line = entry.1.line;
      is_fixed = entry.1.is_fixed;
    }

-- the entries of the map as macros, and as definitions
abbrev pub macros_in : List (List ℕ × Defined) → List Macro
macros_in entries = map macro_in entries

abbrev pub definitions_in : List (List ℕ × Defined) → List Definition
definitions_in entries = map definition_in entries
