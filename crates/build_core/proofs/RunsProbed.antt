-- How a run looks for included files, and how `pp` goes.
use Rattle.std.proofs.Common.{◌≡◌, refl, ap, sym, subst, ◌∙◌, ℕ, zero, suc, ◌+◌, ◌-◌, ◌≤◌, Bool, true, false, Option, Some, None}
use Rattle.std.proofs.Common.{Result, Ok, Err, List, [], ◌∷◌, ◌++◌, length, take, drop, nat_eq, nat_lt, if◌then◌else◌, arith}
use Rattle.std.proofs.Common.{length-append}
use Rattle.std.proofs.lemmas.Bool.{ltb-true, ltb-false}
use Rattle.std.specs.List.{AllByRecursion, filter_map, cons_option, starts_with, ends_with}
use Rattle.std.specs.Result.{result_ok}
use Rattle.cc_names.specs.Files.{Files}
use Rattle.cc_names.specs.Formed.{IsBelowRoot}
use Rattle.cc_names.specs.Names.{unless_fault as unless_name_fault}
use Rattle.cc_names.specs.Paths.{IsPath, root, is_root, path_fault}
use Rattle.cc_names.specs.declared.names.NameFault.{NameFault}
use Rattle.cc_names.specs.declared.refusals.ScriptFault.{ScriptFault}
use Rattle.cc_names.specs.declared.refusals.ScriptFault.TheVariants.{Absent, TooBig, IncludeDepth}
use Rattle.cc_names.proofs.NamesOfPaths.{is_root-root}
use Rattle.script_grammar.specs.Forms.{lines_in}
use Rattle.script_grammar.specs.Includes.{without_newline, include_start, quoted_path, include_of, under, probes_of}
use Rattle.script_grammar.specs.Lines.{path_in}
use Rattle.script_grammar.specs.Run.{Asking, Done, trace_of, with_read, and_then, see, output_limit, probe_limit, Output, Made}
use Rattle.script_grammar.specs.Run.{with_output, Found, found_or, probe_of, Preprocessing, included_text, line_expanded}
use Rattle.script_grammar.specs.Run.{lines_expanded, preprocessed_text}
use Rattle.build_core.proofs.RunsGo.{Ends, Leads, ends_so, leads_done, leads_then, AreReads, reads_wider, noted_more}

-- a word that is read as a path is one
pub word_is : (word path : List ℕ) → path_in word ≡ Some path → (word ≡ path) × IsPath path
word_is word path h = by (path_fault word) refl h
  where
    by : (fault : Option NameFault) → path_fault word ≡ fault → result_ok (unless_name_fault fault word) ≡ Some path
        → (word ≡ path) × IsPath path
    by None is h = let same : word ≡ path = cc in (same, subst IsPath same (record { no_fault = is }))
    by (Some fault) is h = absurd (cc)

joined_below : (directory path : List ℕ) → is_root (directory ++ 47 ∷ path) ≡ false
joined_below [] [] = refl
joined_below [] (b ∷ path) = refl
joined_below (a ∷ []) path = refl
joined_below (a ∷ b ∷ directory) path = refl

-- an included path under a directory is below the root
under_below : (path directory place : List ℕ) → IsBelowRoot path → under path directory ≡ Some place → IsBelowRoot place
under_below path directory place below h = by (is_root directory) h
  where
    by : (t : Bool) → (if t then Some path else path_in (directory ++ 47 ∷ path)) ≡ Some place → IsBelowRoot place
    by true h = let same : path ≡ place = cc in subst IsBelowRoot same below
    by false h = let is = word_is (directory ++ 47 ∷ path) place h in (is.1, ap is_root (sym is.0) ∙ joined_below directory path)

places_below : (path : List ℕ) (directories : List (List ℕ)) → IsBelowRoot path
    → AllByRecursion IsBelowRoot (filter_map (under path) directories)
places_below path [] below = tt
places_below path (directory ∷ directories) below = by (under path directory) refl (places_below path directories below)
  where
    by : (o : Option (List ℕ)) → under path directory ≡ o → AllByRecursion IsBelowRoot (filter_map (under path) directories)
        → AllByRecursion IsBelowRoot (cons_option o (filter_map (under path) directories))
    by None is rest = rest
    by (Some place) is rest = (under_below path directory place below is, rest)

-- a text that was found, with the reads of so many texts and its probes
pub record FoundWell (n : ℕ) (found : Found) (reads : List (List ℕ)) : Type 0 where
  pub within : found.probes ≤ 100000
  pub are : AreReads (n + found.probes) reads

probed_leads : (files own : Files) (include : List ℕ) (paths : List (List ℕ)) (probes n : ℕ) → AllByRecursion IsBelowRoot paths
    → Leads files (AreReads (n + probes)) (FoundWell n) (probe_of own include paths probes)
probed_leads files own include [] probes n below = leads_done files (AreReads (n + probes)) (FoundWell n) (Err (Absent include))
    (λ reads h. tt)
probed_leads files own include (path ∷ paths) probes n below = by (nat_lt probes probe_limit) refl
    (probed_leads files own include paths (probes + 1) n below.1)
  where
    Rest : Type 0
    Rest = Leads files (AreReads (n + (probes + 1))) (FoundWell n) (probe_of own include paths (probes + 1))

    by_found : (o : Option (List ℕ)) → probes + 1 ≤ 100000 → Rest → (reads : List (List ℕ))
        → AreReads (n + (probes + 1)) (with_read reads path) →
        Ends (FoundWell n) (trace_of files (with_read reads path) (found_or (probe_of own include paths (probes + 1)) (probes + 1)
        o)).value
        (trace_of files (with_read reads path) (found_or (probe_of own include paths (probes + 1)) (probes + 1) o)).reads
    by_found None low rest reads h = rest.ends (with_read reads path) h
    by_found (Some text) low rest reads h = record { within = low; are = h }

    by_own : (o : Option (List ℕ)) → probes + 1 ≤ 100000 → Rest → Leads files (AreReads (n + probes)) (FoundWell n)
        (and_then (see o path) (found_or (probe_of own include paths (probes + 1)) (probes + 1)))
    by_own (Some text) low rest = leads_done files (AreReads (n + probes)) (FoundWell n)
        (Ok (record { text = text; probes = probes + 1 }))
        (λ reads h. record { within = low; are = reads_wider (n + probes) (n + (probes + 1)) reads (omega arith) h })
    by_own None low rest = record {
      ends = λ reads h. by_found (files path) low rest reads
          (noted_more (n + probes) (n + (probes + 1)) reads path (omega arith) below.0 h);
    }

    by : (t : Bool) → nat_lt probes probe_limit ≡ t → Rest →
        Leads files (AreReads (n + probes)) (FoundWell n) (if t then and_then (see (own path) path)
        (found_or (probe_of own include paths (probes + 1)) (probes + 1)) else Done (Err (IncludeDepth include)))
    by true test rest = by_own (own path) (omega (arith, ltb-true _ _ test)) rest
    by false test rest = leads_done files (AreReads (n + probes)) (FoundWell n) (Err (IncludeDepth include)) (λ reads h. tt)

-- the root alone is never found
root_leads : (files own : Files) (path : List ℕ) (probes n : ℕ) → files path ≡ None
    → Leads files (AreReads (n + probes)) (FoundWell n) (probe_of own path (path ∷ []) probes)
root_leads files own path probes n rootless = by (nat_lt probes probe_limit) refl
  where
    by_found : (o : Option (List ℕ)) → o ≡ None → (reads : List (List ℕ)) →
        Ends (FoundWell n) (trace_of files (with_read reads path) (found_or (probe_of own path [] (probes + 1)) (probes + 1)
        o)).value (trace_of files (with_read reads path) (found_or (probe_of own path [] (probes + 1)) (probes + 1) o)).reads
    by_found None is reads = tt
    by_found (Some text) is reads = absurd (cc)

    by_own : (o : Option (List ℕ)) → probes + 1 ≤ 100000 → Leads files (AreReads (n + probes)) (FoundWell n)
        (and_then (see o path) (found_or (probe_of own path [] (probes + 1)) (probes + 1)))
    by_own (Some text) low = leads_done files (AreReads (n + probes)) (FoundWell n)
        (Ok (record { text = text; probes = probes + 1 }))
        (λ reads h. record { within = low; are = reads_wider (n + probes) (n + (probes + 1)) reads (omega arith) h })
    by_own None low = record { ends = λ reads h. by_found (files path) rootless reads }

    by : (t : Bool) → nat_lt probes probe_limit ≡ t →
        Leads files (AreReads (n + probes)) (FoundWell n) (if t then and_then (see (own path) path)
        (found_or (probe_of own path [] (probes + 1)) (probes + 1)) else Done (Err (IncludeDepth path)))
    by true test = by_own (own path) (omega (arith, ltb-true _ _ test))
    by false test = leads_done files (AreReads (n + probes)) (FoundWell n) (Err (IncludeDepth path)) (λ reads h. tt)

find_leads : (files own : Files) (directories : List (List ℕ)) (path : List ℕ) (probes n : ℕ) → files root ≡ None → IsPath path →
    Leads files (AreReads (n + probes)) (FoundWell n) (probe_of own path (probes_of directories path) probes)
find_leads files own directories path probes n rootless is_path = by (is_root path) refl
  where
    by : (t : Bool) → is_root path ≡ t → Leads files (AreReads (n + probes)) (FoundWell n)
        (probe_of own path (path ∷ (if t then [] else filter_map (under path) directories)) probes)
    by true is = root_leads files own path probes n (ap files (is_root-root path is) ∙ rootless)
    by false is = probed_leads files own path (path ∷ filter_map (under path) directories) probes n (
      (is_path, is),
      places_below path directories (is_path, is),
    )

-- what a line has made within the limit of its output, with the reads of so many texts and its run's probes
pub record MadeWell (output : Output) (n : ℕ) (made : Made) (reads : List (List ℕ)) : Type 0 where
  pub fits : output.before + length made.bytes ≤ 1048576
  pub within : made.probes ≤ 100000
  pub are : AreReads (n + made.probes) reads

pub said_leads : (files : Files) (output : Output) (more : List ℕ) (n : ℕ) (made : Made)
    → Leads files (MadeWell output n made) (MadeWell output n) (Done (with_output output more made))
said_leads files output more n made = by (nat_lt output_limit (output.before + length made.bytes + length more)) refl
  where
    by : (t : Bool) → nat_lt output_limit (output.before + length made.bytes + length more) ≡ t →
        Leads files (MadeWell output n made) (MadeWell output n) (Done
        (if t then Err (TooBig output.path) else Ok (record made { bytes = made.bytes ++ more })))
    by true test = leads_done files (MadeWell output n made) (MadeWell output n) (Err (TooBig output.path)) (λ reads h. tt)
    by false test = leads_done files (MadeWell output n made) (MadeWell output n)
        (Ok (record made { bytes = made.bytes ++ more }))
        (λ reads h. record {
          fits = omega (arith, ltb-false _ _ test, length-append made.bytes more);
          within = h.within;
          are = h.are;
        })

-- the path of an include line is one
include_is : (line path : List ℕ) → include_of line ≡ Some path → IsPath path
include_is line path h = by (starts_with nat_eq (without_newline line) include_start) h
  where
    behind : List ℕ
    behind = drop (length include_start) (without_newline line)

    by_end : (t : Bool) → (if t then path_in (take (length behind - 1) behind) else None) ≡ Some path → IsPath path
    by_end true h = (word_is (take (length behind - 1) behind) path h).1
    by_end false h = absurd (cc)

    by : (t : Bool) → (if t then quoted_path behind else None) ≡ Some path → IsPath path
    by true h = by_end (ends_with nat_eq behind (34 ∷ [])) h
    by false h = absurd (cc)

lines_leads : (files : Files) (include : List ℕ → Made → Asking (Result Made ScriptFault)) (output : Output) (n : ℕ) →
    ((path : List ℕ) (made : Made) → IsPath path → Leads files (MadeWell output n made) (MadeWell output n) (include path made)) →
    (lines : List (List ℕ)) (made : Made) → Leads files (MadeWell output n made) (MadeWell output n)
    (lines_expanded include output lines made)
lines_leads files include output n each [] made = leads_done files (MadeWell output n made) (MadeWell output n) (Ok made)
    (λ reads h. h)
lines_leads files include output n each (line ∷ lines) made =
    leads_then files (MadeWell output n made) (MadeWell output n) (MadeWell output n)
    (line_expanded include output line (include_of line) made) (lines_expanded include output lines)
    (by (include_of line) refl) (lines_leads files include output n each lines)
  where
    by : (o : Option (List ℕ)) → include_of line ≡ o → Leads files (MadeWell output n made) (MadeWell output n)
        (line_expanded include output line o made)
    by None is = said_leads files output line n made
    by (Some path) is = each path made (include_is line path is)

included_leads : (files : Files) (expand : List ℕ → Made → Asking (Result Made ScriptFault)) (pp : Preprocessing) (n : ℕ)
    → files root ≡ None →
    ((text : List ℕ) (made : Made) → Leads files (MadeWell pp.output n made) (MadeWell pp.output n) (expand text made)) →
    (path : List ℕ) (made : Made) → IsPath path → Leads files (MadeWell pp.output n made) (MadeWell pp.output n)
    (included_text expand pp path made)
included_leads files expand pp n rootless each path made is_path =
    leads_then files (MadeWell pp.output n made) (λ (found : Found). MadeWell pp.output n (record made { probes = found.probes }))
    (MadeWell pp.output n)
    (probe_of pp.own path (probes_of pp.directories path) made.probes)
    (λ (found : Found). expand found.text (record made { probes = found.probes }))
    (record {
      ends = λ reads h. ends_so (FoundWell n) (λ (found : Found). MadeWell pp.output n (record made { probes = found.probes }))
          (λ found after well. record { fits = h.fits; within = well.within; are = well.are }) _ _
          ((find_leads files pp.own pp.directories path made.probes n rootless is_path).ends reads h.are);
    })
    (λ found. each found.text (record made { probes = found.probes }))

pub expanded_leads : (files : Files) (levels : ℕ) (pp : Preprocessing) (n : ℕ) → files root ≡ None → (text : List ℕ) (made : Made)
    →
    Leads files (MadeWell pp.output n made) (MadeWell pp.output n) (preprocessed_text levels pp text made)
expanded_leads files zero pp n rootless text made =
    lines_leads files (λ path made. Done (Err (IncludeDepth path))) pp.output n
    (λ path made is_path. leads_done files (MadeWell pp.output n made) (MadeWell pp.output n) (Err (IncludeDepth path))
    (λ reads h. tt)) (lines_in text) made
expanded_leads files (suc levels) pp n rootless text made =
    lines_leads files (included_text (preprocessed_text levels pp) pp) pp.output n
    (included_leads files (preprocessed_text levels pp) pp n rootless (expanded_leads files levels pp n rootless))
    (lines_in text) made
