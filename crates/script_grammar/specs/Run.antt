-- What a run of a script gives and reads.
use Rattle.std.specs.Prelude.{ℕ, zero, suc, ◌+◌, Bool, true, nat_lt, Option, Some, None, Result, Ok, Err, List, [], ◌∷◌, ◌++◌}
use Rattle.std.specs.Prelude.{length, map, if◌then◌else◌}
use Rattle.std.specs.List.{list_any, join_with_byte}
use Rattle.std.specs.Str.{bytes_eq}
use Rattle.cc_names.specs.Files.{Files}
use Rattle.cc_names.specs.declared.refusals.ScriptFault.{ScriptFault}
use Rattle.cc_names.specs.declared.refusals.ScriptFault.TheVariants.{Absent, TooBig, IncludeDepth, Failed, StrayWrite, NotWritten}
use Rattle.script_grammar.specs.Forms.{lines_in, whole, first_lines, with_replaced, digest_line, linked_text}
use Rattle.script_grammar.specs.Includes.{include_of, probes_of}
use Rattle.script_grammar.specs.Lines.{script_of}
use Rattle.script_grammar.specs.declared.lines.Work.{Work}
use Rattle.script_grammar.specs.declared.lines.Work.TheVariants.{Echo, Cat, Preprocess, Substitute, Head, Digest, Link}
use Rattle.script_grammar.specs.declared.lines.Line.{Line}
use Rattle.script_grammar.specs.declared.lines.Line.TheVariants.{Empty, Makes, Fail}

-- Something that asks for the texts of paths, one after the other, and goes on as it is answered.
pub data Asking (A : Type 0) : Type 0 where
  Done : A → Asking A
  Asks : List ℕ → (Option (List ℕ) → Asking A) → Asking A

-- a path after paths, unless it stands there
abbrev pub with_read : List (List ℕ) → List ℕ → List (List ℕ)
with_read paths path = if list_any (bytes_eq path) paths then paths else paths ++ path ∷ []

-- what something that asks came to, and the paths that were asked for by then
pub record Traced (A : Type 0) : Type 0 where
  pub value : A
  pub reads : List (List ℕ)

-- what it comes to over these files, each path that it asks for noted once after those before
abbrev pub trace_of : {A : Type 0} → Files → List (List ℕ) → Asking A → Traced A
trace_of files reads (Done a) = record { value = a; reads = reads }
trace_of files reads (Asks path next) = trace_of files (with_read reads path) (next (files path))

-- one after the other, the second by what the first came to
abbrev pub and_then : {A B : Type 0} → Asking A → (A → Asking B) → Asking B
and_then (Done a) next = next a
and_then (Asks path more) next = Asks path (λ found. and_then (more found) next)

-- what follows where there was no fault
abbrev pub unless_fault : {A B : Type 0} → (A → Asking (Result B ScriptFault)) → Result A ScriptFault
    → Asking (Result B ScriptFault)
unless_fault next (Err fault) = Done (Err fault)
unless_fault next (Ok a) = next a

-- a text by its path: the run's own output where this run has written it, else what the files have
abbrev pub see : Option (List ℕ) → List ℕ → Asking (Option (List ℕ))
see (Some own) path = Done (Some own)
see None path = Asks path Done

-- a text that has to be there
abbrev pub present : List ℕ → Option (List ℕ) → Result (List ℕ) ScriptFault
present path None = Err (Absent path)
present path (Some text) = Ok text

-- the text at a path, which has to be there
abbrev pub needed_text : Files → List ℕ → Asking (Result (List ℕ) ScriptFault)
needed_text own path = and_then (see (own path) path) (λ found. Done (present path found))

-- the most bytes that an output may have, the most files that `pp` is inside of, and the most probes of a run
abbrev pub output_limit : ℕ
output_limit = 1048576

abbrev pub depth_limit : ℕ
depth_limit = 32

abbrev pub probe_limit : ℕ
probe_limit = 100000

-- the output of a line: its path, and how many bytes it has before the line writes
pub record Output : Type 0 where
  pub path : List ℕ
  pub before : ℕ

-- what a line has made so far, and how many probes its run has made so far
pub record Made : Type 0 where
  pub bytes : List ℕ
  pub probes : ℕ

-- what a line has made with more bytes after it, where its output stays within the limit
abbrev pub with_output : Output → List ℕ → Made → Result Made ScriptFault
with_output output more made =
    if nat_lt output_limit (output.before + length made.bytes + length more) then Err (TooBig output.path)
    else Ok (record made { bytes = made.bytes ++ more })

-- a text that a probe found, and how many probes its run has made by then
pub record Found : Type 0 where
  pub text : List ℕ
  pub probes : ℕ

-- what one probe found, or else what another search finds
abbrev pub found_or : Asking (Result Found ScriptFault) → ℕ → Option (List ℕ) → Asking (Result Found ScriptFault)
found_or otherwise probes None = otherwise
found_or otherwise probes (Some text) = Done (Ok (record { text = text; probes = probes }))

-- The text of an included path: that of the first of these paths that has one. A run makes so many probes and no more.
abbrev pub probe_of : Files → List ℕ → List (List ℕ) → ℕ → Asking (Result Found ScriptFault)
probe_of own include [] probes = Done (Err (Absent include))
probe_of own include (path ∷ paths) probes =
    if nat_lt probes probe_limit
    then and_then (see (own path) path) (found_or (probe_of own include paths (probes + 1)) (probes + 1))
    else Done (Err (IncludeDepth include))

-- what a `pp` goes by: the run's own outputs, the directories of its include lines, and the line's output
pub record Preprocessing : Type 0 where
  pub own : Files
  pub directories : List (List ℕ)
  pub output : Output

-- an included path: its text, carried on by what is done with included texts
abbrev pub included_text : (List ℕ → Made → Asking (Result Made ScriptFault)) → Preprocessing → List ℕ → Made
    → Asking (Result Made ScriptFault)
included_text expand pp path made =
    and_then (probe_of pp.own path (probes_of pp.directories path) made.probes)
    (unless_fault (λ found. expand found.text (record made { probes = found.probes })))

-- a line, as it is or as what it includes
abbrev pub line_expanded : (List ℕ → Made → Asking (Result Made ScriptFault)) → Output → List ℕ → Option (List ℕ) → Made
    → Asking (Result Made ScriptFault)
line_expanded include output line None made = Done (with_output output line made)
line_expanded include output line (Some path) made = include path made

-- lines one after the other, up to the first fault
abbrev pub lines_expanded : (List ℕ → Made → Asking (Result Made ScriptFault)) → Output → List (List ℕ) → Made
    → Asking (Result Made ScriptFault)
lines_expanded include output [] made = Done (Ok made)
lines_expanded include output (line ∷ lines) made =
    and_then (line_expanded include output line (include_of line) made) (unless_fault (lines_expanded include output lines))

-- A text with each include line replaced by the text that it includes, so preprocessed too: so many levels and no more.
abbrev pub preprocessed_text : ℕ → Preprocessing → List ℕ → Made → Asking (Result Made ScriptFault)
preprocessed_text zero pp text = lines_expanded (λ path made. Done (Err (IncludeDepth path))) pp.output (lines_in text)
preprocessed_text (suc levels) pp text = lines_expanded (included_text (preprocessed_text levels pp) pp) pp.output (lines_in text)

-- a part of a line's output: bytes of the line itself, the text of a path in some form, or preprocessed
pub data Part : Type 0 where
  Says : List ℕ → Part
  TextOf : (List ℕ → List ℕ) → List ℕ → Part
  Preprocessed : List (List ℕ) → List ℕ → Part

-- the parts of the output of a line's work, in order
abbrev pub parts_of : Work → List Part
parts_of (Echo words) = Says (join_with_byte 32 words ++ 10 ∷ []) ∷ []
parts_of (Cat paths) = map (TextOf whole) paths
parts_of (Preprocess directories path) = Preprocessed directories path ∷ []
parts_of (Substitute from to path) = TextOf (with_replaced from to) path ∷ []
parts_of (Head lines path) = TextOf (first_lines lines) path ∷ []
parts_of (Digest path) = TextOf digest_line path ∷ []
parts_of (Link paths) = map (λ path. TextOf (linked_text path) path) paths

-- what a line has made with one part after it
abbrev pub with_part : Files → Output → Part → Made → Asking (Result Made ScriptFault)
with_part own output (Says more) made = Done (with_output output more made)
with_part own output (TextOf form path) made = and_then (needed_text own path)
    (unless_fault (λ text. Done (with_output output (form text) made)))
with_part own output (Preprocessed directories path) made =
    and_then (needed_text own path)
    (unless_fault (λ text. preprocessed_text depth_limit (record { own = own; directories = directories; output = output }) text
    made))

-- the same with parts, up to the first fault; every part sees the run's own outputs as they stood before the line
abbrev pub with_parts : Files → Output → List Part → Made → Asking (Result Made ScriptFault)
with_parts own output [] made = Done (Ok made)
with_parts own output (part ∷ parts) made = and_then (with_part own output part made) (unless_fault (with_parts own output parts))

-- what a run has done so far: the outputs that it has written, and how many probes it has made
pub record State : Type 0 where
  pub own : Files
  pub probes : ℕ

-- what an output begins with: what it has, for `>>`, and nothing for `>`
abbrev pub output_start : Bool → Option (List ℕ) → List ℕ
output_start true (Some bytes) = bytes
output_start _ _ = []

-- the run's own outputs with this one written
abbrev pub wrote : List ℕ → List ℕ → Files → Files
wrote output bytes own path = if bytes_eq output path then Some bytes else own path

-- a run after the work of a line, whose parts go to this output
abbrev pub write_output : State → Work → Bool → List ℕ → Asking (Result State ScriptFault)
write_output state work appends path =
    let begin = output_start appends (state.own path) in
    and_then (with_parts state.own (record { path = path; before = length begin }) (parts_of work)
    (record { bytes = []; probes = state.probes }))
    (unless_fault (λ made. Done (Ok (record { own = wrote path (begin ++ made.bytes) state.own; probes = made.probes }))))

-- a run after a line; a line that writes no target is a fault before all else
abbrev pub after_line : List (List ℕ) → State → Line → Asking (Result State ScriptFault)
after_line targets state Empty = Done (Ok state)
after_line targets state (Fail n) = Done (Err (Failed n))
after_line targets state (Makes work appends output) =
    if list_any (λ target. bytes_eq target output) targets then write_output state work appends output else Done
    (Err (StrayWrite output))

-- a run after lines
abbrev pub after_lines : List (List ℕ) → List Line → State → Asking (Result State ScriptFault)
after_lines targets [] state = Done (Ok state)
after_lines targets (line ∷ lines) state = and_then (after_line targets state line) (unless_fault (after_lines targets lines))

-- an output before outputs, or the fault that it was not written
abbrev pub output_before : List ℕ → Option (List ℕ) → Result (List (List ℕ)) ScriptFault → Result (List (List ℕ)) ScriptFault
output_before target None later = Err (NotWritten target)
output_before target (Some bytes) (Ok outputs) = Ok (bytes ∷ outputs)
output_before target (Some bytes) (Err fault) = Err fault

-- the output of each target, or the first that was not written
abbrev pub target_outputs : List (List ℕ) → Files → Result (List (List ℕ)) ScriptFault
target_outputs [] own = Ok []
target_outputs (target ∷ targets) own = output_before target (own target) (target_outputs targets own)

-- a run that goes on from here with these lines
abbrev pub run_from : List (List ℕ) → List Line → State → Asking (Result (List (List ℕ)) ScriptFault)
run_from targets lines state = and_then (after_lines targets lines state)
    (unless_fault (λ after. Done (target_outputs targets after.own)))

-- nothing is written and no probe is made when a run begins
abbrev pub nothing_written : State
nothing_written = record { own = λ path. None; probes = 0 }

-- a run of these lines
abbrev pub run_of_lines : List (List ℕ) → List Line → Asking (Result (List (List ℕ)) ScriptFault)
run_of_lines targets lines = run_from targets lines nothing_written

-- What a run comes to: an output for each target, or its first fault; and the paths that it asked the files for,
-- absent ones included, each once, in the order of first asking.
pub record Ran : Type 0 where
  pub result : Result (List (List ℕ)) ScriptFault
  pub reads : List (List ℕ)

-- what something that asks comes to over these files, and what it asks for
abbrev pub carried_out : Files → Asking (Result (List (List ℕ)) ScriptFault) → Ran
carried_out files asking = record { result = (trace_of files [] asking).value; reads = (trace_of files [] asking).reads }

-- a run of a text that was read as a script; one outside the language asks for nothing
abbrev pub run_of : List (List ℕ) → Result (List Line) ScriptFault → Asking (Result (List (List ℕ)) ScriptFault)
run_of targets (Err fault) = Done (Err fault)
run_of targets (Ok lines) = run_of_lines targets lines

-- The run of a script text with these targets over these files.
abbrev pub run : List ℕ → List (List ℕ) → Files → Ran
run script targets files = carried_out files (run_of targets (script_of script))
