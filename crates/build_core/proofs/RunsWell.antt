-- How a run goes without a fault, line by line: what it writes is within the limit, and its reads are those of the paths that its
-- script has and of its probes.
use Rattle.std.proofs.Common.{◌≡◌, refl, subst, ℕ, ◌+◌, ◌≤◌, Bool, true, false, Option, Some, None, Ok, Err, List, [], ◌∷◌, ◌++◌}
use Rattle.std.proofs.Common.{length, if◌then◌else◌, arith, length-append}
use Rattle.std.specs.List.{AllByRecursion, flat_map, list_any}
use Rattle.std.specs.Str.{bytes_eq}
use Rattle.cc_names.specs.Files.{Files}
use Rattle.cc_names.specs.Paths.{IsPath, root}
use Rattle.cc_names.specs.declared.refusals.ScriptFault.TheVariants.{StrayWrite, Failed}
use Rattle.script_grammar.specs.Run.{State, Done, Part, Says, TextOf, Preprocessed, Preprocessing, parts_of, Output, Made}
use Rattle.script_grammar.specs.Run.{with_output, needed_text, preprocessed_text, depth_limit, with_part, with_parts}
use Rattle.script_grammar.specs.Run.{output_start, wrote, write_output, after_line, after_lines}
use Rattle.script_grammar.specs.declared.lines.Line.{Line}
use Rattle.script_grammar.specs.declared.lines.Line.TheVariants.{Empty, Makes, Fail}
use Rattle.script_grammar.specs.declared.lines.Work.{Work}
use Rattle.build_core.proofs.RunsEach.{each_of_first, each_of_second}
use Rattle.build_core.proofs.RunsGo.{Leads, ends_so, leads_done, leads_then, AreReads, reads_wider, text_leads}
use Rattle.build_core.proofs.RunsPaths.{part_paths, line_paths}
use Rattle.build_core.proofs.RunsProbed.{MadeWell, said_leads, expanded_leads}

-- an output within the limit
abbrev pub IsShort : List ℕ → Type 0
IsShort output = length output ≤ 1048576

abbrev pub AreShort : Files → Type 0
AreShort own = (path bytes : List ℕ) → own path ≡ Some bytes → IsShort bytes

-- a text that has to be there, and then what is made of it
text_then : (files own : Files) (output : Output) (path : List ℕ) (n : ℕ) (made : Made) → files root ≡ None → IsPath path →
    Leads files (MadeWell output n made) (λ (text : List ℕ). MadeWell output (n + 1) made) (needed_text own path)
text_then files own output path n made rootless is_path = record {
  ends = λ reads h. ends_so (λ (text : List ℕ). AreReads (n + made.probes + 1)) (λ (text : List ℕ). MadeWell output (n + 1) made)
      (λ text after well. record {
        fits = h.fits;
        within = h.within;
        are = reads_wider (n + made.probes + 1) (n + 1 + made.probes)
            after (omega arith) well;
      }) _ _
      ((text_leads files own path (n + made.probes) rootless is_path).ends reads h.are);
}

-- so many paths and none more
none_more : (n : ℕ) → n ≡ n + 0
none_more n = omega arith

part_leads : (files own : Files) (output : Output) (n : ℕ) (part : Part) (made : Made) → files root ≡ None
    → AllByRecursion IsPath (part_paths part) →
    Leads files (MadeWell output n made) (MadeWell output (n + length (part_paths part))) (with_part own output part made)
part_leads files own output n (Says more) made rootless are =
    subst (λ k. Leads files (MadeWell output n made) (MadeWell output k) (Done (with_output output more made))) (none_more n)
    (said_leads files output more n made)
part_leads files own output n (TextOf form path) made rootless are =
    leads_then files (MadeWell output n made) (λ (text : List ℕ). MadeWell output (n + 1) made) (MadeWell output (n + 1))
    (needed_text own path) (λ text. Done (with_output output (form text) made))
    (text_then files own output path n made rootless are.0) (λ text. said_leads files output (form text) (n + 1) made)
part_leads files own output n (Preprocessed directories path) made rootless are =
    let pp : Preprocessing = record { own = own; directories = directories; output = output } in
    leads_then files (MadeWell output n made) (λ (text : List ℕ). MadeWell output (n + 1) made) (MadeWell output (n + 1))
    (needed_text own path) (λ text. preprocessed_text depth_limit pp text made)
    (text_then files own output path n made rootless are.0) (λ text. expanded_leads files depth_limit pp (n + 1) rootless text
    made)

-- so many paths and so many more
behind_both : (n : ℕ) (one two : List (List ℕ)) → n + length one + length two ≡ n + length (one ++ two)
behind_both n one two = omega (arith, length-append one two)

parts_leads : (files own : Files) (output : Output) (n : ℕ) (parts : List Part) (made : Made) → files root ≡ None
    → AllByRecursion IsPath (flat_map part_paths parts) →
    Leads files (MadeWell output n made) (MadeWell output (n + length (flat_map part_paths parts)))
    (with_parts own output parts made)
parts_leads files own output n [] made rootless are =
    subst (λ k. Leads files (MadeWell output n made) (MadeWell output k) (Done (Ok made))) (none_more n)
    (leads_done files (MadeWell output n made) (MadeWell output n) (Ok made) (λ reads h. h))
parts_leads files own output n (part ∷ parts) made rootless are =
    subst (λ k. Leads files (MadeWell output n made) (MadeWell output k) (with_parts own output (part ∷ parts) made))
    (behind_both n (part_paths part) (flat_map part_paths parts))
    (leads_then files (MadeWell output n made) (MadeWell output (n + length (part_paths part)))
    (MadeWell output (n + length (part_paths part) + length (flat_map part_paths parts)))
    (with_part own output part made) (with_parts own output parts)
    (part_leads files own output n part made rootless (each_of_first IsPath (part_paths part) (flat_map part_paths parts) are))
    (λ after. parts_leads files own output (n + length (part_paths part)) parts after rootless
    (each_of_second IsPath (part_paths part) (flat_map part_paths parts) are)))

begun_short : (appends : Bool) (o : Option (List ℕ)) → ((bytes : List ℕ) → o ≡ Some bytes → IsShort bytes)
    → IsShort (output_start appends o)
begun_short true (Some bytes) short = short bytes refl
begun_short true None short = omega arith
begun_short false o short = omega arith

wrote_short : (own : Files) (output made : List ℕ) → AreShort own → IsShort made → AreShort (wrote output made own)
wrote_short own output made short here path bytes = by (bytes_eq output path)
  where
    by : (t : Bool) → (if t then Some made else own path) ≡ Some bytes → IsShort bytes
    by true is = let same : made ≡ bytes = cc in subst IsShort same here
    by false is = short path bytes is

-- a run whose outputs are within the limit, with the reads of so many texts and its probes
pub record StateWell (n : ℕ) (state : State) (reads : List (List ℕ)) : Type 0 where
  pub short : AreShort state.own
  pub within : state.probes ≤ 100000
  pub are : AreReads (n + state.probes) reads

output_leads : (files : Files) (n : ℕ) (state : State) (work : Work) (appends : Bool) (path : List ℕ) → files root ≡ None
    → AllByRecursion IsPath (flat_map part_paths (parts_of work)) →
    Leads files (StateWell n state) (StateWell (n + length (flat_map part_paths (parts_of work))))
    (write_output state work appends path)
output_leads files n state work appends path rootless are =
    leads_then files (StateWell n state) (λ (made : Made) reads. AreShort state.own
    × MadeWell output more made reads) (StateWell more)
    (with_parts state.own output (parts_of work) fresh) (λ made. Done (Ok
    (record { own = wrote path (begin ++ made.bytes) state.own; probes = made.probes })))
    (record {
      ends = λ reads h. ends_so (MadeWell output more) (λ (made : Made) after. AreShort state.own
          × MadeWell output more made after) (λ made after well. (h.short, well)) _ _
          ((parts_leads files state.own output n (parts_of work) fresh rootless are).ends reads
          (record { fits = begun_so h.short; within = h.within; are = h.are }));
    })
    (λ made. leads_done files (λ reads. AreShort state.own × MadeWell output more made reads) (StateWell more)
    (Ok (record { own = wrote path (begin ++ made.bytes) state.own; probes = made.probes }))
    (λ reads h. record {
      short = wrote_short state.own path (begin ++ made.bytes) h.0 (let fits = h.1.fits in
          omega (arith, length-append begin made.bytes));
      within = h.1.within;
      are = h.1.are;
    }))
  where
    begin : List ℕ
    begin = output_start appends (state.own path)

    output : Output
    output = record { path = path; before = length begin }

    fresh : Made
    fresh = record { bytes = []; probes = state.probes }

    more : ℕ
    more = n + length (flat_map part_paths (parts_of work))

    begun_so : AreShort state.own → length begin + 0 ≤ 1048576
    begun_so short = let fits = begun_short appends (state.own path) (short path) in omega arith

line_leads : (files : Files) (targets : List (List ℕ)) (n : ℕ) (line : Line) (state : State) → files root ≡ None
    → AllByRecursion IsPath (line_paths line) →
    Leads files (StateWell n state) (StateWell (n + length (line_paths line))) (after_line targets state line)
line_leads files targets n Empty state rootless are =
    subst (λ k. Leads files (StateWell n state) (StateWell k) (Done (Ok state))) (none_more n)
    (leads_done files (StateWell n state) (StateWell n) (Ok state) (λ reads h. h))
line_leads files targets n (Fail number) state rootless are = leads_done files (StateWell n state) (StateWell (n + 0))
    (Err (Failed number)) (λ reads h. tt)
line_leads files targets n (Makes work appends output) state rootless are =
    elim (list_any (λ target. bytes_eq target output) targets)
    as (λ (t : Bool). Leads files (StateWell n state) (StateWell (n + length (line_paths (Makes work appends output))))
    (if t then write_output state work appends output else Done (Err (StrayWrite output)))) [
      | true ↦ output_leads files n state work appends output rootless are
      | false ↦ leads_done files (StateWell n state) (StateWell (n + length (line_paths (Makes work appends output))))
          (Err (StrayWrite output)) (λ reads h. tt)
    ]

pub run_leads : (files : Files) (targets : List (List ℕ)) (n : ℕ) (lines : List Line) (state : State) → files root ≡ None
    → AllByRecursion IsPath (flat_map line_paths lines) →
    Leads files (StateWell n state) (StateWell (n + length (flat_map line_paths lines))) (after_lines targets lines state)
run_leads files targets n [] state rootless are =
    subst (λ k. Leads files (StateWell n state) (StateWell k) (Done (Ok state))) (none_more n)
    (leads_done files (StateWell n state) (StateWell n) (Ok state) (λ reads h. h))
run_leads files targets n (line ∷ lines) state rootless are =
    subst (λ k. Leads files (StateWell n state) (StateWell k) (after_lines targets (line ∷ lines) state))
    (behind_both n (line_paths line) (flat_map line_paths lines))
    (leads_then files (StateWell n state) (StateWell (n + length (line_paths line)))
    (StateWell (n + length (line_paths line) + length (flat_map line_paths lines)))
    (after_line targets state line) (after_lines targets lines)
    (line_leads files targets n line state rootless (each_of_first IsPath (line_paths line) (flat_map line_paths lines) are))
    (λ after. run_leads files targets (n + length (line_paths line)) lines after rootless
    (each_of_second IsPath (line_paths line) (flat_map line_paths lines) are)))
