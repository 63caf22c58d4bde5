-- A live object whose record matches a unit has stored what a run of the unit's script gives on what the unit sees.
use Rattle.std.proofs.Common.{◌≡◌, refl, ap, sym, subst, ◌∙◌, ℕ, Bool, true, false, cond, ◌&&◌, Option, Some, None, Result, Ok}
use Rattle.std.proofs.Common.{Err, List, [], ◌∷◌}
use Rattle.std.proofs.lemmas.Slice.Eq.{bytes_eq-Decides}
use Rattle.std.specs.List.{AllByRecursion, list_all}
use Rattle.std.specs.Prelude.{is_some, bytes_eq, find, option_and_then, option_map}
use Rattle.cc_names.specs.declared.refusals.ScriptFault.{ScriptFault}
use Rattle.cc_names.specs.declared.rows.Deed.{Deed}
use Rattle.cc_names.specs.declared.rows.Deed.TheVariants as deeds
use Rattle.cc_names.specs.declared.rows.ReadOf.{ReadOf}
use Rattle.cc_names.specs.declared.units.Unit.{Unit}
use Rattle.cc_names.proofs.Common.{and_first, and_second}
use Rattle.script_grammar.specs.Frame.{Agree}
use Rattle.script_grammar.specs.Run.{Ran, run}
use Rattle.script_grammar.proofs.FrameLemmas.{run_framed}
use Rattle.base_model.specs.Rows.{Base, first_rows, deed_at}
use Rattle.legal_history.specs.Builds.Active.{Build}
use Rattle.base_model.specs.Changes.{targets_of, targets_of_deed}
use Rattle.base_model.specs.Texts.{text_of_row}
use Rattle.legal_history.specs.Builds.Choices.{visible}
use Rattle.base_model.specs.Fits.{is_base}
use Rattle.legal_history.specs.Builds.Fresh.{script_text}
use Rattle.base_model.specs.Objects.{row_in, agrees, are_same_paths}
use Rattle.legal_history.specs.Queries.RecordTexts.{recorded_script, script_of_deed}
use Rattle.legal_history.specs.Builds.Reuse.{entry_agrees, record_matches, matches}
use Rattle.legal_history.specs.Builds.Values.{outputs_of_run, outputs_of_result, has_entries, reads_of_run, text_of_entry}
use Rattle.legal_history.specs.Builds.Values.{texts_of_entries, rerun, is_true, IsSound}
use Rattle.legal_history.specs.Laws.Objects.{outputs_of_deed, GivesLive, IsTheRun}
use Rattle.legal_history.proofs.Reuse.Reruns.{rerun_now}
use Rattle.legal_history.proofs.Reuse.SeenTexts.{SeesTrue, unit_sees_true, entry_text}
use Rattle.legal_history.proofs.Reuse.TrueObjects.{TrueObject, true_object, same_texts}

-- a row that an entry names agrees with what is seen at its path
pub named_agrees : (rows : List ℕ → Option ℕ) (entries : List ReadOf) (path : List ℕ) (r : ℕ)
    → list_all (entry_agrees rows) entries ≡ true → row_in entries path ≡ Some r → agrees r (rows path) ≡ true
named_agrees rows [] path r h is = absurd (cc)
named_agrees rows (entry ∷ entries) path r h is =
    by (bytes_eq entry.path path) refl is (named_agrees rows entries path r
    (and_second (entry_agrees rows entry) (list_all (entry_agrees rows) entries) h))
  where
    by : (t : Bool) → bytes_eq entry.path path ≡ t → option_map (λ (entry : ReadOf). entry.row)
        (cond t (Some entry) (find (λ entry. bytes_eq entry.path path) entries)) ≡ Some r →
        (row_in entries path ≡ Some r → agrees r (rows path) ≡ true) → agrees r (rows path) ≡ true
    by true e is rest =
        let number : entry.row ≡ r = cc in
        let same : entry.path ≡ path = (bytes_eq-Decides entry.path path).0 e in
        subst (λ r. agrees r (rows path) ≡ true) number
        (subst (λ p. agrees entry.row (rows p) ≡ true) same (and_first (entry_agrees rows entry)
        (list_all (entry_agrees rows) entries) h))
    by false e is rest = rest is

-- the texts of the entries are those that are seen, at each path that has an entry
seen_alike : (b : Base) (rows : List ℕ → Option ℕ) (entries : List ReadOf) (path : List ℕ) → SeesTrue b rows
    → list_all (entry_agrees rows) entries ≡ true → is_some (row_in entries path) ≡ true →
    texts_of_entries b (rerun b) entries path ≡ text_of_row b path (rows path)
seen_alike b rows entries path sees agree has = by (row_in entries path) refl has
  where
    by : (o : Option ℕ) → row_in entries path ≡ o → is_some o ≡ true → option_and_then (text_of_entry b (rerun b) path) o
        ≡ text_of_row b path (rows path)
    by None is has = absurd (cc)
    by (Some r) is has = entry_text b rows path r sees (named_agrees rows entries path r agree is)

all_alike : (b : Base) (rows : List ℕ → Option ℕ) (entries : List ReadOf) (reads : List (List ℕ)) → SeesTrue b rows
    → list_all (entry_agrees rows) entries ≡ true → has_entries entries reads ≡ true →
    AllByRecursion (λ path. texts_of_entries b (rerun b) entries path ≡ text_of_row b path (rows path)) reads
all_alike b rows entries [] sees agree has = tt
all_alike b rows entries (path ∷ reads) sees agree has = (
  seen_alike b rows entries path sees agree (and_first (is_some (row_in entries path)) (has_entries entries reads) has),
  all_alike b rows entries reads sees agree (and_second (is_some (row_in entries path)) (has_entries entries reads) has),
)

-- a record that matches, with what the object was published as
pub record MatchingRecord (targets : List (List ℕ)) (script : List ℕ) (rows : List ℕ
    → Option ℕ) (made : List (List ℕ)) (words : List ℕ) (entries : List ReadOf) : Type 0 where
  pub same_targets : made ≡ targets
  pub same_script : words ≡ script
  pub agree : list_all (entry_agrees rows) entries ≡ true

pub matching : (targets : List (List ℕ)) (script : List ℕ) (rows : List ℕ
    → Option ℕ) (v : List ℕ) (made : List (List ℕ)) (words : List ℕ) (entries : List ReadOf) (outputs : List (List ℕ)) →
    record_matches targets script rows (Some (deeds.Publish v made words entries outputs)) ≡ true
    → MatchingRecord targets script rows made words entries
matching targets script rows v made words entries outputs h =
    let prefix = and_first (are_same_paths made targets && bytes_eq words script) (list_all (entry_agrees rows) entries) h in
    record {
      same_targets = same_texts made targets (and_first (are_same_paths made targets) (bytes_eq words script) prefix);
      same_script = (bytes_eq-Decides words script).0 (and_second (are_same_paths made targets) (bytes_eq words script) prefix);
      agree = and_second (are_same_paths made targets && bytes_eq words script) (list_all (entry_agrees rows) entries) h;
    }

succeeded : (r : Result (List (List ℕ)) ScriptFault) (outputs : List (List ℕ)) → outputs_of_result r ≡ Some outputs
    → r ≡ Ok outputs
succeeded (Ok others) outputs h = let same : others ≡ outputs = cc in ap Ok same
succeeded (Err fault) outputs h = absurd (cc)

-- the run of a true object's record on what is seen, where the record agrees with it
run_on_seen : (b : Base) (id : ℕ) (rows : List ℕ → Option ℕ) (o : TrueObject b id) → is_base b ≡ true → SeesTrue b rows
    → list_all (entry_agrees rows) o.entries ≡ true →
    (run o.script o.targets (λ path. text_of_row b path (rows path))).result ≡ Ok o.outputs
run_on_seen b id rows o base sees agree =
    let again : rerun b id ≡ Some (run o.script o.targets (texts_of_entries b (rerun b) o.entries)) =
    (rerun_now b id (deeds.Publish o.view o.targets o.script o.entries o.outputs) base o.is).is in
    let asked : has_entries o.entries (run o.script o.targets (texts_of_entries b (rerun b) o.entries)).reads ≡ true =
    ap (λ ran. has_entries o.entries (reads_of_run ran)) (sym again) ∙ o.asked in
    let alike : Agree (texts_of_entries b (rerun b) o.entries) (λ path. text_of_row b path (rows path))
    (run o.script o.targets (texts_of_entries b (rerun b) o.entries)).reads =
    record {
      at = all_alike b rows o.entries (run o.script o.targets (texts_of_entries b (rerun b) o.entries)).reads sees agree
          asked;
    } in
    let equal = (run_framed o.script o.targets).equal (texts_of_entries b (rerun b) o.entries)
    (λ path. text_of_row b path (rows path)) alike in
    ap (λ (ran : Ran). ran.result) (sym equal)
    ∙ succeeded (run o.script o.targets (texts_of_entries b (rerun b) o.entries)).result o.outputs (ap outputs_of_run (sym again)
    ∙ o.ran)

-- The law of a match.
pub match_is_run : (b : Base) (build : Build) (n : ℕ) (unit : Unit) (id : ℕ) → is_base b ≡ true
    → is_base (first_rows build.rows b) ≡ true → IsSound b → GivesLive b build → is_true b id ≡ true
    → matches b build n unit id ≡ true →
    IsTheRun b build n unit id
match_is_run b build n unit id base rows sound gives true_one match =
    let o = true_object b id true_one in
    let m = matching unit.targets (script_text unit.script) (visible b build n unit) o.view o.targets o.script o.entries o.outputs
    (ap (record_matches unit.targets (script_text unit.script) (visible b build n unit)) (sym o.is) ∙ match) in
    let ran = run_on_seen b id (visible b build n unit) o base (unit_sees_true b build n unit rows sound gives) m.agree in
    record {
      outputs = o.outputs;
      targets = ap targets_of_deed o.is ∙ m.same_targets;
      stored = ap outputs_of_deed o.is;
      runs = ap (λ script. (run script unit.targets (λ path. text_of_row b path (visible b build n unit path))).result)
          (sym m.same_script)
          ∙ ap (λ targets. (run o.script targets (λ path. text_of_row b path (visible b build n unit path))).result)
          (sym m.same_targets) ∙ ran;
    }

-- an object whose record matches a unit has the unit's targets
pub match_targets : (b : Base) (build : Build) (n : ℕ) (unit : Unit) (id : ℕ) → matches b build n unit id ≡ true
    → targets_of b id ≡ unit.targets
match_targets b build n unit id match = by (deed_at b id) match
  where
    by_deed : (deed : Deed) → record_matches unit.targets (script_text unit.script) (visible b build n unit) (Some deed) ≡ true
        → targets_of_deed (Some deed) ≡ unit.targets
    by_deed (deeds.Publish v made words entries outputs) h = (matching unit.targets (script_text unit.script)
        (visible b build n unit) v made words entries outputs h).same_targets
    by_deed deed h = absurd (cc)

    by : (o : Option Deed) → record_matches unit.targets (script_text unit.script) (visible b build n unit) o ≡ true
        → targets_of_deed o ≡ unit.targets
    by None h = absurd (cc)
    by (Some deed) h = by_deed deed h

-- and its script
pub match_script : (b : Base) (build : Build) (n : ℕ) (unit : Unit) (id : ℕ) → matches b build n unit id ≡ true
    → recorded_script b id ≡ script_text unit.script
match_script b build n unit id match = by (deed_at b id) match
  where
    by_deed : (deed : Deed) → record_matches unit.targets (script_text unit.script) (visible b build n unit) (Some deed) ≡ true
        → script_of_deed (Some deed) ≡ script_text unit.script
    by_deed (deeds.Publish v made words entries outputs) h = (matching unit.targets (script_text unit.script)
        (visible b build n unit) v made words entries outputs h).same_script
    by_deed deed h = absurd (cc)

    by : (o : Option Deed) → record_matches unit.targets (script_text unit.script) (visible b build n unit) o ≡ true
        → script_of_deed o ≡ script_text unit.script
    by None h = absurd (cc)
    by (Some deed) h = by_deed deed h
