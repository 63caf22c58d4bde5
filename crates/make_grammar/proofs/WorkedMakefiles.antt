-- Makefiles worked out by hand from the rules of POSIX make, checked by computation.
use Rattle.std.proofs.Common.{◌≡◌, ℕ, true, false, if◌then◌else◌, Some, None, Option, Result, Ok, Err, List, [], ◌∷◌, ◌++◌, refl}
use Rattle.std.proofs.Common.{map}
use Rattle.std.specs.Prelude.{codes, flat_map}
use Rattle.std.specs.Str.{bytes_eq}
use Rattle.cc_names.specs.Files.{Files}
use Rattle.cc_names.specs.declared.commands.Macro.{Macro}
use Rattle.cc_names.specs.declared.refusals.MakeCause.{MakeCause}
use Rattle.cc_names.specs.declared.refusals.MakeCause.TheVariants.{BadLine, BadMacro, BadPath, MacroLoop, TwoScripts}
use Rattle.cc_names.specs.declared.refusals.MakeCause.TheVariants.{PhonyScript, IncludeAbsent, IncludeDepth}
use Rattle.cc_names.specs.declared.refusals.MakeError.{MakeError}
use Rattle.make_grammar.specs.LogicalLines.{logical_lines}
use Rattle.make_grammar.specs.LineKinds.{Kind, Blank, Include, Assignment, Rule, Unclosed, Neither, line_kind, without_comment}
use Rattle.make_grammar.specs.Macros.{Byte, Reference, Automatic, Bad, pieces_of, expansion_of, no_automatic, in_script}
use Rattle.make_grammar.specs.Contents.{Contents, expansion}
use Rattle.make_grammar.specs.Grammar.{makefile_of}
use Rattle.make_grammar.specs.declared.logical_lines.LogicalLine.{LogicalLine}
use Rattle.make_grammar.specs.declared.contents.Expanded.TheVariants as expansions
use Rattle.make_grammar.specs.Rules.{MakeRule}

-- lines, each ended by a newline
abbrev text : List (List ℕ) → List ℕ
text lines = flat_map (λ line. line ++ (10 ∷ [])) lines

-- ---- lines

abbrev at_line : ℕ → List ℕ → LogicalLine
at_line n bytes = record { number = n; bytes = bytes }

joined_lines : logical_lines (text (codes "a \\" ∷ codes "  b" ∷ codes "" ∷ codes "c" ∷ [])) ≡ at_line 1 (codes "a  b")
    ∷ at_line 3 [] ∷ at_line 4 (codes "c") ∷ []
joined_lines = refl

-- the blanks after a newline go with it, those before the next backslash too
joined_twice : logical_lines (text (codes "a\\" ∷ codes "  \\" ∷ codes "b" ∷ [])) ≡ at_line 1 (codes "a  b") ∷ []
joined_twice = refl

-- a backslash at the end of the text joins nothing, one before the last newline nothing but a space
joined_at_the_end : logical_lines (codes "a\\") ≡ at_line 1 (codes "a\\") ∷ []
joined_at_the_end = refl

joined_to_nothing : logical_lines (text (codes "a\\" ∷ [])) ≡ at_line 1 (codes "a ") ∷ []
joined_to_nothing = refl

-- a tab after a joined newline begins no line of a script
joined_script : logical_lines (text (codes "a:\\" ∷ (9 ∷ codes "b") ∷ (9 ∷ codes "c\\") ∷ (9 ∷ codes "d") ∷ []))
    ≡ at_line 1 (codes "a: b") ∷ at_line 3 (9 ∷ codes "c d") ∷ []
joined_script = refl

no_lines : logical_lines [] ≡ []
no_lines = refl

-- ---- kinds

abbrev kind : List ℕ → Kind
kind line = line_kind (without_comment line)

a_comment : kind (codes "  # a = b") ≡ Blank
a_comment = refl

an_assignment : kind (codes "A = b:c # d") ≡ Assignment (codes "A ") (codes " b:c ")
an_assignment = refl

a_rule : kind (codes "a b: c=d") ≡ Rule (codes "a b") (codes " c=d")
a_rule = refl

a_reference_before : kind (codes "$(a:b)${c=d}: e") ≡ Rule (codes "$(a:b)${c=d}") (codes " e")
a_reference_before = refl

a_dollar_that_is_none : kind (codes "$$(a:b)") ≡ Rule (codes "$$(a") (codes "b)")
a_dollar_that_is_none = refl

an_include : kind (codes " include a: b") ≡ Include (codes " a: b")
an_include = refl

include_alone : kind (codes "include") ≡ Neither
include_alone = refl

included_word : kind (codes "includes = a") ≡ Assignment (codes "includes ") (codes " a")
included_word = refl

unclosed : kind (codes "a $(b: c") ≡ Unclosed
unclosed = refl

-- ---- macros

abbrev macro : List ℕ → List ℕ → Macro
macro name value = record { name = name; value = value }

the_pieces : pieces_of (codes "a$$$(B.1)$b$@${c}") ≡ Byte 97 ∷ Byte 36 ∷ Reference (codes "B.1") ∷ Reference (codes "b")
    ∷ Automatic 64 ∷ Reference (codes "c") ∷ []
the_pieces = refl

bad_pieces : map pieces_of (codes "$()" ∷ codes "$(@)" ∷ codes "$." ∷ codes "$" ∷ codes "$(a" ∷ codes "${a)" ∷ []) ≡ (Bad ∷ [])
    ∷ (Bad ∷ []) ∷ (Bad ∷ []) ∷ (Bad ∷ []) ∷ (Bad ∷ []) ∷ (Bad ∷ []) ∷ []
bad_pieces = refl

abbrev some_macros : List Macro
some_macros =
    macro (codes "A") (codes "x$(B)y") ∷ macro (codes "B") (codes "<$C>") ∷ macro (codes "C") (codes "$@") ∷
    macro (codes "L") (codes "l$(M)") ∷ macro (codes "M") (codes "m$(L)n") ∷ []

nested : expansion_of some_macros (in_script (codes "t") None []) (codes "$A $(none)$$")
    ≡ record { bytes = codes "x<t>y $"; loops = false }
nested = refl

-- what comes before a loop is there
a_loop : expansion_of some_macros no_automatic (codes "a$(L)b") ≡ record { bytes = codes "alm"; loops = true }
a_loop = refl

-- ---- whole makefiles

-- a view of the main makefile and others
abbrev file_in : List (List ℕ × List ℕ) → Files
file_in [] path = None
file_in ((name, bytes) ∷ files) path = if bytes_eq name path then Some bytes else file_in files path

abbrev read : List (List ℕ) → Result Contents MakeError
read lines = makefile_of (file_in ((codes "Makefile", text lines) ∷ (
  codes "a.mk",
  text (codes "A = 1" ∷ codes "x: $A" ∷ (9 ∷ codes "one") ∷ []),
) ∷ (codes "bad.mk", text ([] ∷ codes "bad" ∷ []))
    ∷ (codes "self.mk", text (codes "include self.mk" ∷ [])) ∷ [])) (codes "Makefile") []

abbrev fails : List (List ℕ) → ℕ → MakeCause → Type 0
fails lines n cause = read lines ≡ Err (record { file = codes "Makefile"; line = n; cause = cause })

abbrev script : List ℕ → List ℕ
script line = 9 ∷ line

abbrev rule : List (List ℕ) → List (List ℕ) → Option (List ℕ) → MakeRule
rule targets prerequisites script = record { targets = targets; prerequisites = prerequisites; script = script }

-- the program from its parts
program : read (codes "# program" ∷ codes "OBJS = main.o util.o" ∷ codes "prog: $(OBJS)" ∷ script (codes "@cat $(OBJS) >$@")
    ∷ codes ".c.o:" ∷ script (codes "pp $< > $@") ∷ []) ≡
    Ok (record {
      rules = rule (codes "prog" ∷ []) (codes "main.o" ∷ codes "util.o" ∷ []) (Some (text (codes "@cat $(OBJS) >$@" ∷ []))) ∷ [];
      suffix_rules = record { from = codes ".c"; to = codes ".o"; script = text (codes "pp $< > $@" ∷ []) } ∷ [];
      phony = [];
      macros = macro (codes "OBJS") (codes "main.o util.o") ∷ [];
    })
program = refl

-- targets and prerequisites are joined, each prerequisite once; a script may stand at any of a target's rule lines
several_rules : read (codes "a b: c d c" ∷ codes "b: e c" ∷ [] ∷ script (codes "echo $@ > b") ∷ script [] ∷ codes "  # on"
    ∷ script (codes "# said") ∷ codes "a:f" ∷ codes ".PHONY: q a" ∷ []) ≡
    Ok (record {
      rules =
          rule (codes "a" ∷ []) (codes "c" ∷ codes "d" ∷ codes "f" ∷ []) None ∷
          rule (codes "b" ∷ []) (codes "c" ∷ codes "d" ∷ codes "e" ∷ []) (Some (text (codes "echo $@ > b" ∷ codes "# said" ∷ [])))
          ∷ [];
      suffix_rules = [];
      phony = codes "q" ∷ codes "a" ∷ [];
      macros = [];
    })
several_rules = refl

-- a group is one rule where it has a script, with what others say of its members in the order of reading
a_group : read (codes "y: p" ∷ codes "all: x y" ∷ codes "x y x&: in" ∷ script (codes "cat in > x") ∷ codes "x: q p"
    ∷ codes "u v &: w" ∷ []) ≡
    Ok (record {
      rules =
          rule (codes "x" ∷ codes "y" ∷ []) (codes "p" ∷ codes "in" ∷ codes "q" ∷ []) (Some (text (codes "cat in > x" ∷ []))) ∷
          rule (codes "all" ∷ []) (codes "x" ∷ codes "y" ∷ []) None ∷
          rule (codes "u" ∷ []) (codes "w" ∷ []) None ∷ rule (codes "v" ∷ []) (codes "w" ∷ []) None ∷ [];
      suffix_rules = [];
      phony = [];
      macros = [];
    })
a_group = refl

-- suffixes are added, and cleared by a line without words; a rule is a suffix rule by the list that stands at the end
the_suffixes : read (codes ".b.a:" ∷ script (codes "1") ∷ codes ".c.o: x" ∷ script (codes "2") ∷ codes ".SUFFIXES:"
    ∷ codes ".SUFFIXES: .a .b .c .o .a" ∷ codes ".a.b:" ∷ script (codes "3") ∷ codes ".o.h:" ∷ script (codes "4") ∷ []) ≡
    Ok (record {
      rules = rule (codes ".c.o" ∷ []) (codes "x" ∷ []) (Some (text (codes "2" ∷ [])))
          ∷ rule (codes ".o.h" ∷ []) [] (Some (text (codes "4" ∷ []))) ∷ [];
      suffix_rules =
          record { from = codes ".a"; to = codes ".b"; script = text (codes "3" ∷ []) } ∷
          record { from = codes ".b"; to = codes ".a"; script = text (codes "1" ∷ []) } ∷ [];
      phony = [];
      macros = [];
    })
the_suffixes = refl

-- a file is read in place: its macros count after it, and a script line after its line belongs to its last rule
an_included_file : read (codes "y: $A" ∷ codes "include a.mk" ∷ script (codes "two") ∷ codes "z: $A" ∷ []) ≡
    Ok (record {
      rules = rule (codes "y" ∷ []) [] None ∷ rule (codes "x" ∷ []) (codes "1" ∷ [])
          (Some (text (codes "one" ∷ codes "two" ∷ []))) ∷ rule (codes "z" ∷ []) (codes "1" ∷ []) None ∷ [];
      suffix_rules = [];
      phony = [];
      macros = macro (codes "A") (codes "1") ∷ [];
    })
an_included_file = refl

-- the command line's macros come first and are not changed by the makefile
overridden : makefile_of (λ path. Some (text (codes "B = 2" ∷ codes "A = 3" ∷ codes "B = 4" ∷ []))) (codes "Makefile")
    (macro (codes "A") (codes "1") ∷ macro (codes "A") (codes "$(B)") ∷ []) ≡
    Ok (record {
      rules = [];
      suffix_rules = [];
      phony = [];
      macros = macro (codes "A") (codes "$(B)")
          ∷ macro (codes "B") (codes "4") ∷ [];
    })
overridden = refl

bad_override : makefile_of (λ path. Some (codes "bad")) (codes "Makefile") (macro (codes "A") (codes "$") ∷ [])
    ≡ Err (record { file = codes "Makefile"; line = 0; cause = BadMacro })
bad_override = refl

-- ---- the first line that fails, and why

no_kind : fails (codes "a: b" ∷ codes "c" ∷ codes "d" ∷ []) 2 BadLine
no_kind = refl

no_target : fails (codes "$A: b" ∷ []) 1 BadLine
no_target = refl

a_semicolon : fails (codes "a: b$(;" ∷ []) 1 BadLine
a_semicolon = refl

double_colon : fails (codes "a:: b$" ∷ []) 1 BadLine
double_colon = refl

colon_equals : fails (codes "$:=" ∷ []) 1 BadLine
colon_equals = refl

no_rule_above : fails (codes "A = 1" ∷ script [] ∷ []) 2 BadLine
no_rule_above = refl

a_macro_ends_a_rule : fails (codes "a: b" ∷ codes "A = 1" ∷ script (codes "echo") ∷ []) 3 BadLine
a_macro_ends_a_rule = refl

no_script_there : fails (codes ".PHONY: a" ∷ script [] ∷ script (codes "$") ∷ []) 3 BadLine
no_script_there = refl

a_bad_suffix : fails (codes ".SUFFIXES: .a b//c" ∷ []) 1 BadLine
a_bad_suffix = refl

a_special_group : fails (codes "a .PHONY &: b//" ∷ []) 1 BadLine
a_special_group = refl

include_nothing : fails (codes "include $A" ∷ []) 1 BadLine
include_nothing = refl

an_unclosed_reference : fails (codes "a $(b: c" ∷ []) 1 BadMacro
an_unclosed_reference = refl

a_bad_name : fails (codes "A B = 1" ∷ []) 1 BadMacro
a_bad_name = refl

a_bad_dollar : fails (codes "a//b: $-" ∷ []) 1 BadMacro
a_bad_dollar = refl

a_bad_script : fails (codes "a:" ∷ script (codes "$(a b)") ∷ codes "b" ∷ []) 2 BadMacro
a_bad_script = refl

a_bad_path : fails (codes "a: b: c" ∷ []) 1 BadPath
a_bad_path = refl

the_root : fails (codes ".: a" ∷ []) 1 BadPath
the_root = refl

a_loop_at_its_use : fails (codes "A = $A" ∷ codes "$A:" ∷ []) 2 MacroLoop
a_loop_at_its_use = refl

a_loop_at_its_definition : fails (codes "A = x" ∷ codes "B = $A" ∷ codes "A = $B" ∷ codes "B = $B" ∷ []) 3 MacroLoop
a_loop_at_its_definition = refl

two_scripts : fails (codes "a:" ∷ script (codes "1") ∷ codes "b a:" ∷ [] ∷ script (codes "$") ∷ []) 3 TwoScripts
two_scripts = refl

two_at_once : fails (codes "a a:" ∷ script (codes "1") ∷ []) 1 TwoScripts
two_at_once = refl

phony_script : fails (codes "a:" ∷ codes "b:" ∷ codes "a:" ∷ script (codes "1") ∷ codes ".PHONY: a" ∷ []) 3 PhonyScript
phony_script = refl

absent : fails (codes "include none b" ∷ []) 1 IncludeAbsent
absent = refl

in_an_included_file : read (codes "include a.mk bad.mk none" ∷ []) ≡ Err
    (record { file = codes "bad.mk"; line = 2; cause = BadLine })
in_an_included_file = refl

too_deep : read (codes "include self.mk" ∷ []) ≡ Err (record { file = codes "self.mk"; line = 1; cause = IncludeDepth })
too_deep = refl

the_expansion : expansion (record { rules = []; suffix_rules = []; phony = []; macros = some_macros }) (codes "$A $< $* $@")
    (codes "t") (Some (codes "f")) (codes "s") ≡ expansions.Lines (codes "x<t>y f s t")
the_expansion = refl
