-- The run of a ready unit's script in a build gives what it gives from nothing.
use Rattle.std.proofs.Common.{◌≡◌, refl, ap, sym, ◌∙◌, ℕ, Bool, true, false, ◌||◌, Option, Some, None, List, [], ◌∷◌, map}
use Rattle.std.specs.Option.{option_or}
use Rattle.std.specs.Prelude.{is_some, bytes_eq, if◌then◌else◌}
use Rattle.cc_names.specs.Files.{Files}
use Rattle.cc_names.specs.declared.steps.UnitEnd.TheVariants.{Kept}
use Rattle.cc_names.specs.declared.units.Unit.{Unit}
use Rattle.script_grammar.specs.Run.{run}
use Rattle.base_model.specs.Rows.{Base, first_rows, only_where}
use Rattle.legal_history.specs.Builds.Active.{Build, Came, Started, Concluded, Given, object_of}
use Rattle.legal_history.specs.Builds.Choices.{unit_of_member, object_among, visible, here}
use Rattle.base_model.specs.Texts.{text_of_row, texts, output_at}
use Rattle.base_model.specs.Closures.{is_path_among}
use Rattle.legal_history.specs.Builds.Fresh.{output_of, output_or_file, script_text}
use Rattle.legal_history.specs.Builds.Freshness.{Agrees, HasOutputs, AgreesSoFar, done_in}
use Rattle.legal_history.specs.Builds.Consistency.{IsReady}
use Rattle.base_model.specs.Seen.{file_at}
use Rattle.legal_history.specs.Builds.Serials.{Outcome, Made, Without, unit_of, makes, needed_units}
use Rattle.base_model.proofs.FilesBelow.{file_text}
use Rattle.legal_history.proofs.Builds.FreshSeen.{bytes_turned}
use Rattle.legal_history.proofs.Builds.Pairs.{Pair, unit_in, member_of, finished_of, pairs_before, members_paired, done_paired}
use Rattle.legal_history.proofs.Builds.Pairs.{needed_mapped}
use Rattle.legal_history.proofs.Builds.NeededAgree.{PairsAgree, ready_over, needed_agree}

-- no output stands at a path that is no target
output_none : (path : List ℕ) (targets outputs : List (List ℕ)) → is_path_among path targets ≡ false
    → output_at path targets outputs ≡ None
output_none path [] outputs h = refl
output_none path (target ∷ targets) [] h = refl
output_none path (target ∷ targets) (output ∷ outputs) h = by (bytes_eq path target) refl h (output_none path targets outputs)
  where
    turned : (t : Bool) → bytes_eq target path ≡ t → bytes_eq path target ≡ false → t ≡ false
    turned true e apart = absurd (let back = bytes_turned target path e in cc)
    turned false e apart = refl

    by : (t : Bool) → bytes_eq path target ≡ t → (t || is_path_among path targets) ≡ false
        → (is_path_among path targets ≡ false → output_at path targets outputs ≡ None) →
        output_at path (target ∷ targets) (output ∷ outputs) ≡ None
    by true e h rest = absurd (cc)
    by false e h rest = ap (λ c. if c then Some output else output_at path targets outputs) (turned (bytes_eq target path) refl e)
        ∙ rest h

-- what such units leave at a path is what their objects have there
text_same : (b : Base) (files : Files) (path : List ℕ) (pairs : List Pair) (row : Option ℕ) → PairsAgree b pairs
    → text_of_row b path row ≡ files path →
    text_of_row b path (option_or (object_among path (map member_of pairs)) row)
    ≡ output_or_file files (map finished_of pairs) path
text_same b files path [] row h same = same
text_same b files path (p ∷ pairs) row h same = by h.0.came p.outcome h.0.is refl h.0.agrees
    (text_same b files path pairs row h.1 same)
  where
    given : (id : ℕ) (outputs : List (List ℕ)) (t : Bool) → makes path p.unit ≡ t → HasOutputs b p.unit id outputs →
        text_of_row b path (option_or (object_among path (map member_of pairs)) row)
        ≡ output_or_file files (map finished_of pairs) path →
        text_of_row b path (option_or (option_or (only_where t (Some id)) (object_among path (map member_of pairs))) row)
        ≡ option_or (output_at path p.unit.targets outputs) (output_or_file files (map finished_of pairs) path)
    given id outputs true is has rest = has.texts path ∙ kept (output_at path p.unit.targets outputs) (has.whole path is)
      where
        kept : (o : Option (List ℕ)) → is_some o ≡ true → o ≡ option_or o (output_or_file files (map finished_of pairs) path)
        kept None h = absurd (cc)
        kept (Some x) h = refl
    given id outputs false is has rest = rest ∙ ap (λ o. option_or o (output_or_file files (map finished_of pairs) path))
        (sym (output_none path p.unit.targets outputs is))

    nothing : (t : Bool) → only_where {A = ℕ} t None ≡ None
    nothing true = refl
    nothing false = refl

    by : (came : Came) (outcome : Outcome) → p.came ≡ Some came → p.outcome ≡ outcome → Agrees b p.unit came outcome →
        text_of_row b path (option_or (object_among path (map member_of pairs)) row)
        ≡ output_or_file files (map finished_of pairs) path →
        text_of_row b path (option_or (option_or (only_where (makes path p.unit) (object_of p.came))
        (object_among path (map member_of pairs))) row) ≡ option_or (output_of path p.unit p.outcome)
        (output_or_file files (map finished_of pairs) path)
    by (Given id) (Made outputs) is out agrees rest = rw (is, out) (given id outputs (makes path p.unit) refl agrees rest)
    by (Given id) (Without end) is out agrees rest = absurd agrees
    by (Concluded end) (Without other) is out agrees rest = rw (is, out, agrees.1, nothing (makes path p.unit)) rest
    by (Concluded (Kept id)) (Made outputs) is out agrees rest = rw (
      is,
      out,
    ) (given id outputs (makes path p.unit) refl agrees rest)
    by (Concluded end) (Made outputs) is out agrees rest = absurd agrees
    by Started outcome is out agrees rest = absurd agrees

-- what a ready unit sees is what it sees from nothing
pub seen_same : (b : Base) (build : Build) (n : ℕ) (u : Unit) (path : List ℕ) → AgreesSoFar b build → IsReady build u →
    text_of_row b path (visible b build n u path)
    ≡ output_or_file (texts (first_rows build.rows b) build.view) (needed_units unit_of u.prerequisites
    (done_in (first_rows build.rows b) build n)) path
seen_same b build n u path h ready =
    ap (λ ms. text_of_row b path (option_or (object_among path ms) (file_at rows build.view path)))
    (ap (needed_units unit_of_member u.prerequisites) (members_paired rows build n)
    ∙ needed_mapped member_of unit_of_member u.prerequisites (pairs_before rows build n))
    ∙ text_same b (texts rows build.view) path (needed_units unit_in u.prerequisites (pairs_before rows build n))
    (file_at rows build.view path)
    (needed_agree b build n u.prerequisites h (ready_over b build u h.consistent ready))
    (file_text b build.rows build.view path h.consistent.base)
    ∙ ap (λ fs. output_or_file (texts rows build.view) fs path)
    (sym (ap (needed_units unit_of u.prerequisites) (done_paired rows build n)
    ∙ needed_mapped finished_of unit_of u.prerequisites (pairs_before rows build n)))
  where
    rows : Base
    rows = first_rows build.rows b

-- the run of a ready unit is the run from nothing
pub run_same : (b : Base) (build : Build) (n : ℕ) (u : Unit) → AgreesSoFar b build → IsReady build u →
    here b build n u ≡ run (script_text u.script) u.targets (output_or_file (texts (first_rows build.rows b) build.view)
    (needed_units unit_of u.prerequisites (done_in (first_rows build.rows b) build n)))
run_same b build n u h ready = λ i. run (script_text u.script) u.targets (λ path. seen_same b build n u path h ready i)
