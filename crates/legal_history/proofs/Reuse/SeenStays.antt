-- What a unit of a consistent build sees, and what its run gives on it, stays when rows are added.
use Rattle.std.proofs.Common.{◌≡◌, refl, ap, sym, subst, ◌∙◌, ℕ, ◌<◌, Option, Some, None, List, ◌++◌}
use Rattle.cc_names.specs.declared.units.Unit.{Unit}
use Rattle.script_grammar.specs.Run.{run}
use Rattle.base_model.specs.Rows.{Base, size, first_rows}
use Rattle.legal_history.specs.Builds.Active.{Build}
use Rattle.legal_history.specs.Builds.Choices.{here, visible, visible_in}
use Rattle.base_model.specs.Texts.{text_of_row}
use Rattle.legal_history.specs.Builds.Consistency.{IsConsistent}
use Rattle.legal_history.specs.Builds.Fresh.{script_text}
use Rattle.legal_history.specs.Laws.Given.{SeenBy, ByUnit, ByFile}
use Rattle.base_model.proofs.FilesBelow.{beyond, file_is_below}
use Rattle.base_model.proofs.Stay.{first_rows_stay_all, more_below, text_stays_all}
use Rattle.legal_history.proofs.Reuse.Members.{seen_by}

seen_below : (b : Base) (build : Build) (n : ℕ) (unit : Unit) (path : List ℕ) (row : ℕ) → IsConsistent b build
    → visible b build n unit path ≡ Some row → row < size b
seen_below b build n unit path row h is = by (seen_by b build n unit path row is)
  where
    by : SeenBy b build n unit path row → row < size b
    by (ByUnit g) = (h.objects g.m g.unit row g.is_unit g.given).below
    by (ByFile file) =
        let more = beyond b build.rows in
        subst (λ c. row < size c) (sym more.is) (more_below more.more (first_rows build.rows b) row
        (file_is_below (first_rows build.rows b) build.view path row h.base file))

pub seen_stays : (more b : Base) (build : Build) (n : ℕ) (unit : Unit) (path : List ℕ) → IsConsistent b build
    → visible (more ++ b) build n unit path ≡ visible b build n unit path
seen_stays more b build n unit path h = ap (λ rows. visible_in rows build n unit path)
    (first_rows_stay_all more b build.rows h.rows)

-- the text of what is seen is the same in a base with more rows
pub seen_text_stays : (more b : Base) (build : Build) (n : ℕ) (unit : Unit) (path : List ℕ) → IsConsistent b build
    → text_of_row (more ++ b) path (visible b build n unit path) ≡ text_of_row b path (visible b build n unit path)
seen_text_stays more b build n unit path h = by (visible b build n unit path) refl
  where
    by : (o : Option ℕ) → visible b build n unit path ≡ o → text_of_row (more ++ b) path o ≡ text_of_row b path o
    by None is = refl
    by (Some r) is = text_stays_all more b r path (seen_below b build n unit path r h is)

pub run_stays : (more b : Base) (build : Build) (n : ℕ) (unit : Unit) → IsConsistent b build
    → here (more ++ b) build n unit ≡ here b build n unit
run_stays more b build n unit h =
    λ i. run (script_text unit.script) unit.targets (λ path. (ap (text_of_row (more ++ b) path)
    (seen_stays more b build n unit path h) ∙ seen_text_stays more b build n unit path h) i)
