-- Runs worked out by hand, checked by computation.
use Rattle.std.proofs.Common.{◌≡◌, ℕ, if◌then◌else◌, Some, None, Ok, Err, List, [], ◌∷◌, ◌++◌, refl, length, true, false, nat_lt}
use Rattle.std.proofs.Common.{◌+◌, ◌*◌}
use Rattle.std.specs.Prelude.{codes, decimal}
use Rattle.std.specs.Str.{bytes_eq}
use Rattle.cc_names.specs.Files.{Files}
use Rattle.cc_names.specs.declared.refusals.ScriptFault.TheVariants.{Absent, BadLine, TooBig, IncludeDepth, Failed, StrayWrite}
use Rattle.cc_names.specs.declared.refusals.ScriptFault.TheVariants.{NotWritten}
use Rattle.script_grammar.specs.Words.{words, without_at}
use Rattle.script_grammar.specs.Forms.{lines_in, first_lines, with_replaced, linked_text}
use Rattle.script_grammar.specs.Includes.{include_of, probes_of}
use Rattle.script_grammar.specs.Run.{run, Output, Made, with_output, output_limit}

-- a line and its newline
abbrev line : List ℕ → List ℕ
line text = text ++ 10 ∷ []

-- files in which `in` is `hi` and `other` is empty
abbrev some_files : Files
some_files path = if bytes_eq path (codes "in") then Some (line (codes "hi")) else if bytes_eq path (codes "other") then Some []
    else None

words_of_spaces : words (codes "cat  in > out") ≡ codes "cat" ∷ codes "in" ∷ codes ">" ∷ codes "out" ∷ []
words_of_spaces = refl

words_of_tabs : words (9 ∷ codes "echo" ++ 9 ∷ codes " a>b>>c>>>d ") ≡
    codes "echo" ∷ codes "a" ∷ codes ">" ∷ codes "b" ∷ codes ">>" ∷ codes "c" ∷ codes ">>" ∷ codes ">" ∷ codes "d" ∷ []
words_of_tabs = refl

words_of_blanks : words (codes "   ") ≡ []
words_of_blanks = refl

at_is_dropped_once : without_at (codes "  @@echo") ≡ codes "@echo"
at_is_dropped_once = refl

-- the script of the first build
copies : run (line (codes "cat in > out")) (codes "out" ∷ []) some_files ≡
    record { result = Ok (line (codes "hi") ∷ []); reads = codes "in" ∷ [] }
copies = refl

-- three scripts of one makefile: an absent file, a file that another unit made, and a greeting
absent : run (line (codes "cat nothere > a")) (codes "a" ∷ []) some_files ≡
    record { result = Err (Absent (codes "nothere")); reads = codes "nothere" ∷ [] }
absent = refl

greets : run (line (codes "echo hi > c")) (codes "c" ∷ []) some_files ≡
    record { result = Ok (line (codes "hi") ∷ []); reads = [] }
greets = refl

-- what is written is seen by later lines and is no read; each path is noted once, absent ones too
own_output : run (line (codes "@cat in >a") ++ 10 ∷ line (codes "cat a in a >> a") ++ codes "echo > > b")
    (codes "a" ∷ codes "b" ∷ []) some_files ≡
    record {
      result = Ok ((line (codes "hi") ++ line (codes "hi") ++ line (codes "hi") ++ line (codes "hi")) ∷ line (codes ">")
          ∷ []);
      reads = codes "in" ∷ [];
    }
own_output = refl

reads_in_order : run (codes "cat other in other none > a") (codes "a" ∷ []) some_files ≡
    record { result = Err (Absent (codes "none")); reads = codes "other" ∷ codes "in" ∷ codes "none" ∷ [] }
reads_in_order = refl

-- a line outside the language, before anything is read
bad_line : run (line (codes "cat in > out") ++ line (codes " @ ") ++ line (codes "cp in out")) (codes "out" ∷ []) some_files ≡
    record { result = Err (BadLine 3); reads = [] }
bad_line = refl

no_output : run (codes "cat in") (codes "out" ∷ []) some_files ≡ record { result = Err (BadLine 1); reads = [] }
no_output = refl

no_path : run (codes "cat a//b > out") (codes "out" ∷ []) some_files ≡ record { result = Err (BadLine 1); reads = [] }
no_path = refl

nothing_to_cat : run (codes "cat > out") (codes "out" ∷ []) some_files ≡ record { result = Err (BadLine 1); reads = [] }
nothing_to_cat = refl

-- a write outside the targets comes before the reads of its line
stray_write : run (codes "cat none > in") (codes "out" ∷ []) some_files ≡ record {
  result = Err (StrayWrite (codes "in"));
  reads = [];
}
stray_write = refl

-- the first target that is not written
not_written : run (codes "echo > b") (codes "a" ∷ codes "b" ∷ codes "c" ∷ []) some_files
    ≡ record { result = Err (NotWritten (codes "a")); reads = [] }
not_written = refl

-- an empty script writes nothing
empty_script : run [] (codes "a" ∷ []) some_files ≡ record { result = Err (NotWritten (codes "a")); reads = [] }
empty_script = refl

-- an output of more bytes than an output may have, such as 524,289 lines of one letter
too_big : (output : Output) (more : List ℕ) (made : Made) → nat_lt output_limit (output.before + length made.bytes + length more)
    ≡ true → with_output output more made ≡ Err (TooBig output.path)
too_big output more made h = rw h refl

too_many_lines : nat_lt output_limit (2 * 524289) ≡ true
too_many_lines = refl

just_enough : nat_lt output_limit (2 * 524288) ≡ false
just_enough = refl

-- the lines of a text, of which the last may lack its newline
lines_of_text : lines_in (10 ∷ line (codes "a") ++ codes "b") ≡ (10 ∷ []) ∷ line (codes "a") ∷ codes "b" ∷ []
lines_of_text = refl

first_two : first_lines 2 (line (codes "a") ++ line (codes "b") ++ line (codes "c")) ≡ line (codes "a") ++ line (codes "b")
first_two = refl

-- occurrences do not overlap, and what they are replaced by is not looked at again
replaced_from_the_left : with_replaced (codes "aa") (codes "ab") (codes "aaaaa") ≡ codes "ababa"
replaced_from_the_left = refl

listed_text : linked_text (codes "in") (line (codes "hi")) ≡ codes "in " ++ decimal 3 ++ 10 ∷ line (codes "hi")
listed_text = refl

-- which lines include a file
include_with_newline : include_of (line (codes "#include " ++ 34 ∷ codes "two/h" ++ 34 ∷ [])) ≡ Some (codes "two/h")
include_with_newline = refl

include_at_the_end : include_of (codes "#include " ++ 34 ∷ codes "h" ++ 34 ∷ []) ≡ Some (codes "h")
include_at_the_end = refl

include_of_no_path : include_of (codes "#include " ++ 34 ∷ codes "a//b" ++ 34 ∷ []) ≡ None
include_of_no_path = refl

include_and_a_blank : include_of (codes "#include " ++ 34 ∷ codes "h" ++ 34 ∷ 32 ∷ []) ≡ None
include_and_a_blank = refl

include_behind_a_blank : include_of (codes " #include " ++ 34 ∷ codes "h" ++ 34 ∷ []) ≡ None
include_behind_a_blank = refl

probes_in_order : probes_of (codes "one" ∷ codes "." ∷ codes "two/a" ∷ []) (codes "h") ≡ codes "h" ∷ codes "one/h" ∷ codes "h"
    ∷ codes "two/a/h" ∷ []
probes_in_order = refl

the_root_alone : probes_of (codes "one" ∷ []) (codes ".") ≡ codes "." ∷ []
the_root_alone = refl

-- sources with include lines: `a.c` includes `h`, which stands in `two` alone; `loop` includes itself
abbrev sources : Files
sources path =
    if bytes_eq path (codes "a.c") then Some (line (codes "#include " ++ 34 ∷ codes "h" ++ 34 ∷ []) ++ line (codes "end"))
    else if bytes_eq path (codes "two/h") then Some (line (codes "foo"))
    else if bytes_eq path (codes "loop") then Some (codes "#include " ++ 34 ∷ codes "loop" ++ 34 ∷ [])
    else None

-- a file that is found in the second directory: the probes before it are reads, and so absent ones
includes_by_directories : run (line (codes "pp -I one -I two a.c > a")) (codes "a" ∷ []) sources ≡
    record {
      result = Ok ((line (codes "foo") ++ line (codes "end")) ∷ []);
      reads = codes "a.c" ∷ codes "h" ∷ codes "one/h" ∷ codes "two/h" ∷ [];
    }
includes_by_directories = refl

include_found_nowhere : run (line (codes "pp -I one a.c > a")) (codes "a" ∷ []) sources ≡
    record { result = Err (Absent (codes "h")); reads = codes "a.c" ∷ codes "h" ∷ codes "one/h" ∷ [] }
include_found_nowhere = refl

include_without_end : run (line (codes "pp loop > a")) (codes "a" ∷ []) sources
    ≡ record { result = Err (IncludeDepth (codes "loop")); reads = codes "loop" ∷ [] }
include_without_end = refl

-- a text with a letter replaced, and its first line after it
two_forms : run (line (codes "sub i a in > out") ++ line (codes "head 1 in >> out")) (codes "out" ∷ []) some_files ≡
    record { result = Ok ((line (codes "ha") ++ line (codes "hi")) ∷ []); reads = codes "in" ∷ [] }
two_forms = refl

-- a line `fail`, by its number
fails : run (line (codes "echo > out") ++ line [] ++ codes "fail") (codes "out" ∷ []) some_files
    ≡ record { result = Err (Failed 3); reads = [] }
fails = refl

-- a `fail` with an output, a number with a zero before it, and a `-I` without its path are outside the language
fail_with_output : run (codes "fail > out") (codes "out" ∷ []) some_files ≡ record { result = Err (BadLine 1); reads = [] }
fail_with_output = refl

number_with_a_zero : run (codes "head 01 in > out") (codes "out" ∷ []) some_files
    ≡ record { result = Err (BadLine 1); reads = [] }
number_with_a_zero = refl

flag_without_a_directory : run (codes "pp -I in > out") (codes "out" ∷ []) some_files
    ≡ record { result = Err (BadLine 1); reads = [] }
flag_without_a_directory = refl
