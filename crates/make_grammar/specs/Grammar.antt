-- What a makefile says, or its first line that fails: its lines, and what is tested after the last of them.
use Rattle.std.specs.Prelude.{ℕ, false, ◌&&◌, Option, Some, None, Result, Ok, Err, List, [], ◌∷◌, length, reverse, is_some}
use Rattle.std.specs.Prelude.{if◌then◌else◌, codes}
use Rattle.std.specs.List.{list_any}
use Rattle.cc_names.specs.Files.{Files}
use Rattle.cc_names.specs.declared.commands.Macro.{Macro}
use Rattle.cc_names.specs.declared.refusals.MakeCause.{MakeCause}
use Rattle.cc_names.specs.declared.refusals.MakeCause.TheVariants.{PhonyScript}
use Rattle.cc_names.specs.declared.refusals.MakeError.{MakeError}
use Rattle.make_grammar.specs.LogicalLines.{logical_lines}
use Rattle.make_grammar.specs.Macros.{is_among, no_automatic, reference_expansion}
use Rattle.make_grammar.specs.Contents.{Contents, RuleLine, contents_from, groups_of, joined_rules}
use Rattle.make_grammar.specs.Statements.{Definition, Reading, depth_limit, expansion_fault, reading_of_include, macros_of}
use Rattle.make_grammar.specs.Statements.{override, if_no_fault, read_lines}

-- the suffixes of a makefile that says nothing of them
abbrev pub first_suffixes : List (List ℕ)
first_suffixes = codes ".o" ∷ codes ".c" ∷ codes ".h" ∷ codes ".s" ∷ codes ".txt" ∷ []

-- nothing read
abbrev pub nothing_read : Reading
nothing_read =
    record {
      lines = 0;
      targets = 0;
      files = 0;
      macros = [];
      suffixes = first_suffixes;
      phony = [];
      rules = [];
      takes_script = false;
    }

-- the macros of the command line, one after the other
abbrev pub with_overrides : List ℕ → List Macro → Reading → Result Reading MakeError
with_overrides file [] reading = Ok reading
with_overrides file (macro ∷ macros) reading = if_no_fault (override file reading macro) (with_overrides file macros)

-- a fault at a place, where there is a cause
abbrev pub at_place : List ℕ → ℕ → Option MakeCause → Option MakeError
at_place file n None = None
at_place file n (Some cause) = Some (record { file = file; line = n; cause = cause })

-- one fault, or where there is none another
abbrev pub make_fault_or : Option MakeError → Option MakeError → Option MakeError
make_fault_or (Some fault) later = Some fault
make_fault_or None later = later

-- the first macro whose expansion is too long or meets itself
abbrev pub macros_fault : List Macro → List Definition → Option MakeError
macros_fault macros [] = None
macros_fault macros (definition ∷ definitions) =
    make_fault_or
    (at_place definition.file definition.line
    (expansion_fault (reference_expansion macros no_automatic (length macros) [] definition.name)))
    (macros_fault macros definitions)

-- the first rule line that has a script for a phony target
abbrev pub phony_fault : List (List ℕ) → List RuleLine → Option MakeError
phony_fault phony [] = None
phony_fault phony (line ∷ lines) =
    if is_some line.script && list_any (is_among phony) line.targets
    then Some (record { file = line.file; line = line.line; cause = PhonyScript })
    else phony_fault phony lines

-- what a makefile says, unless there is a fault
abbrev pub unless_fault : Option MakeError → Contents → Result Contents MakeError
unless_fault None make = Ok make
unless_fault (Some fault) make = Err fault

-- what a makefile says whose rule lines are these, the oldest first
abbrev pub contents_of : Reading → List RuleLine → Contents
contents_of reading lines =
    contents_from reading.suffixes reading.phony (macros_of reading.macros) (groups_of lines) (joined_rules lines)

-- what is tested after the last line: each macro in the order of first definition, and then the phony targets
abbrev pub ending_fault : Reading → Option MakeError
ending_fault reading =
    make_fault_or (macros_fault (macros_of reading.macros) reading.macros) (phony_fault reading.phony (reverse reading.rules))

-- what a makefile says, by what was read of it, unless there is a fault after its last line
abbrev pub checked_contents : Result Reading MakeError → Result Contents MakeError
checked_contents (Err fault) = Err fault
checked_contents (Ok reading) = unless_fault (ending_fault reading) (contents_of reading (reverse reading.rules))

-- the macros of the command line and then the lines of a makefile, read after what was read
abbrev pub lines_behind : Files → List ℕ → List ℕ → List Macro → Reading → Result Reading MakeError
lines_behind files file text overrides reading =
    if_no_fault (with_overrides file overrides reading)
    (read_lines (reading_of_include files depth_limit file) file (logical_lines text))

-- the lines of a makefile, read after the macros of the command line
abbrev pub lines_read : Files → List ℕ → List ℕ → List Macro → Result Reading MakeError
lines_read files file text overrides = lines_behind files file text overrides nothing_read

-- what a makefile of this text says
abbrev pub makefile_of_text : Files → List ℕ → List Macro → Option (List ℕ) → Result Contents MakeError
makefile_of_text files file overrides None = checked_contents (lines_read files file [] overrides)
makefile_of_text files file overrides (Some text) = checked_contents (lines_read files file text overrides)

-- The makefile at a path, which has a text among these files, read with the macros of the command line; or the first line
-- that fails, in its file, and why. Lines are counted from 1.
abbrev pub makefile_of : Files → List ℕ → List Macro → Result Contents MakeError
makefile_of files file overrides = makefile_of_text files file overrides (files file)
