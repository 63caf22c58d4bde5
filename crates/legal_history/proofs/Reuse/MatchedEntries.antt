-- Each entry of a record that matches a unit is what the unit sees at its path.
use Rattle.std.proofs.Common.{◌≡◌, ℕ, suc, true, Option, Some, None, List}
use Rattle.cc_names.specs.declared.rows.Deed.{Deed}
use Rattle.cc_names.specs.declared.rows.Deed.TheVariants as deeds
use Rattle.cc_names.specs.declared.units.Unit.{Unit}
use Rattle.cc_names.proofs.Common.{number_found}
use Rattle.base_model.specs.Rows.{Base, deed_at}
use Rattle.legal_history.specs.Builds.Active.{Build}
use Rattle.legal_history.specs.Builds.Choices.{visible}
use Rattle.base_model.specs.Closures.{entries_of_deed}
use Rattle.legal_history.specs.Builds.Fresh.{script_text}
use Rattle.base_model.specs.Objects.{record_of, row_in, agrees}
use Rattle.legal_history.specs.Builds.Reuse.{matches, record_matches}
use Rattle.legal_history.specs.Laws.Given.{SeenBy}
use Rattle.legal_history.proofs.Reuse.Matched.{matching, named_agrees}
use Rattle.legal_history.proofs.Reuse.Members.{seen_by}
use Rattle.legal_history.proofs.Reuse.SeenTexts.{none_is}

entry_agrees_at : (b : Base) (build : Build) (n : ℕ) (unit : Unit) (id : ℕ) (path : List ℕ) (r : ℕ)
    → matches b build n unit id ≡ true → row_in (record_of b id) path ≡ Some r → agrees r (visible b build n unit path) ≡ true
entry_agrees_at b build n unit id path r match is = by (deed_at b id) match is
  where
    by_deed : (deed : Deed) → record_matches unit.targets (script_text unit.script) (visible b build n unit) (Some deed) ≡ true
        → row_in (entries_of_deed (Some deed)) path ≡ Some r → agrees r (visible b build n unit path) ≡ true
    by_deed (deeds.Publish v made words entries outputs) h is =
        named_agrees (visible b build n unit) entries path r (matching unit.targets (script_text unit.script)
        (visible b build n unit) v made words entries outputs h).agree is
    by_deed deed h is = absurd (cc)

    by : (o : Option Deed) → record_matches unit.targets (script_text unit.script) (visible b build n unit) o ≡ true
        → row_in (entries_of_deed o) path ≡ Some r → agrees r (visible b build n unit path) ≡ true
    by None h is = absurd (cc)
    by (Some deed) h is = by_deed deed h is

pub entry_is_seen : (b : Base) (build : Build) (n : ℕ) (unit : Unit) (id : ℕ) (path : List ℕ) (r : ℕ)
    → matches b build n unit id ≡ true → row_in (record_of b id) path ≡ Some (suc r) → SeenBy b build n unit path (suc r)
entry_is_seen b build n unit id path r match is = seen_by b build n unit path (suc r)
    (number_found (suc r) (visible b build n unit path) (entry_agrees_at b build n unit id path (suc r) match is))

pub absent_is_unseen : (b : Base) (build : Build) (n : ℕ) (unit : Unit) (id : ℕ) (path : List ℕ)
    → matches b build n unit id ≡ true → row_in (record_of b id) path ≡ Some 0 → visible b build n unit path ≡ None
absent_is_unseen b build n unit id path match is = none_is (visible b build n unit path)
    (entry_agrees_at b build n unit id path 0 match is)
