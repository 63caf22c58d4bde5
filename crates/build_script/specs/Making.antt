-- What the code that makes an output goes by.
use Rattle.std.specs.Prelude.{ℕ, zero, suc, ◌+◌, ◌-◌, ◌*◌, Result, Ok, Err, List, [], ◌∷◌, length}
use Rattle.cc_names.specs.Files.{Files}
use Rattle.cc_names.specs.declared.refusals.ScriptFault.{ScriptFault}
use Rattle.cc_names.specs.declared.refusals.ScriptFault.TheVariants.{IncludeDepth}
use Rattle.script_grammar.specs.Forms.{whole, first_lines, with_replaced, digest_line, linked_text}
use Rattle.script_grammar.specs.Run.{Asking, Done, and_then, unless_fault, Output, Made, Found, Preprocessing, included_text}
use Rattle.script_grammar.specs.Run.{preprocessed_text, depth_limit, output_limit, probe_limit}
use Rattle.build_script.specs.declared.forms.Form.{Form}
use Rattle.build_script.specs.declared.forms.Form.TheVariants as forms

-- the form that a text takes, by the path that it stands at
abbrev pub form_of : Form → List ℕ → List ℕ → List ℕ
form_of forms.Whole path = whole
form_of (forms.FirstLines number) path = first_lines number
form_of (forms.Replaced from to) path = with_replaced from.now to.now
form_of forms.DigestLine path = digest_line
form_of forms.Listed path = linked_text path

-- an output by its parts
abbrev pub output_by_parts : List ℕ → ℕ → Output
output_by_parts path before = record { path = path; before = before }

-- `pp` goes on with the rests of the texts that it is inside of, the innermost first
abbrev pub resumed_making : Preprocessing → List (List ℕ) → Made → Asking (Result Made ScriptFault)
resumed_making pp [] made = Done (Ok made)
resumed_making pp (rest ∷ below) made = and_then (preprocessed_text (depth_limit - length below) pp rest made)
    (unless_fault (resumed_making pp below))

-- how much a `pp` may do at most: probes, bytes and texts to end
abbrev pub left_of : Output → Made → ℕ → ℕ
left_of output made inside = 2 * (probe_limit - made.probes) + (output_limit - (output.before + length made.bytes)) + inside

-- what an include line comes to where so many levels are left
abbrev pub includes : ℕ → Preprocessing → List ℕ → Made → Asking (Result Made ScriptFault)
includes zero pp path made = Done (Err (IncludeDepth path))
includes (suc levels) pp path made = included_text (preprocessed_text levels pp) pp path made

-- what a `pp` goes by, by its parts
abbrev pub preprocessing : Files → List (List ℕ) → Output → Preprocessing
preprocessing own directories output = record { own = own; directories = directories; output = output }

-- so many bytes made with so many probes, by their parts
abbrev pub made_by_parts : List ℕ → ℕ → Made
made_by_parts bytes probes = record { bytes = bytes; probes = probes }

-- a text that was found with so many probes made by then, by its parts
abbrev pub found_with : ℕ → List ℕ → Found
found_with probes text = record { text = text; probes = probes }
