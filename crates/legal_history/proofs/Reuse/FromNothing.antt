-- An object that is worth a unit's run is what the unit comes to in the build from nothing.
use Rattle.std.proofs.Common.{◌≡◌, refl, ap, sym, ◌∙◌, ℕ, ◌<◌, Option, Some, None, List}
use Rattle.cc_names.specs.declared.rows.Deed.{Deed}
use Rattle.cc_names.specs.declared.rows.Deed.TheVariants as deeds
use Rattle.cc_names.specs.declared.units.Unit.{Unit}
use Rattle.base_model.specs.Rows.{Base, size, first_rows, deed_at}
use Rattle.legal_history.specs.Builds.Active.{Build}
use Rattle.base_model.specs.Changes.{targets_of, targets_of_deed}
use Rattle.base_model.specs.Texts.{text_of_row, output_at, text}
use Rattle.legal_history.specs.Builds.Choices.{visible}
use Rattle.legal_history.specs.Builds.Fresh.{outcome_of_run, script_text}
use Rattle.legal_history.specs.Builds.Freshness.{AgreesSoFar, early_from_nothing}
use Rattle.legal_history.specs.Builds.Consistency.{IsReady}
use Rattle.base_model.proofs.Deeds.{deed_below}
use Rattle.legal_history.proofs.Builds.ReadyUnits.{outcome_by_run, outputs_whole}
use Rattle.legal_history.specs.Laws.FromNothing.{IsAsFromNothing}
use Rattle.legal_history.specs.Laws.Objects.{IsTheRun, outputs_of, outputs_of_deed}
use Rattle.legal_history.proofs.Reuse.TrueObjects.{object_text}

-- an object with stored outputs is a row of the base that has them as its texts
record HasStored (b : Base) (id : ℕ) (outputs : List (List ℕ)) : Type 0 where
  below : id < size b
  texts : (path : List ℕ) → text b id path ≡ output_at path (targets_of b id) outputs

has_stored : (b : Base) (id : ℕ) (outputs : List (List ℕ)) → outputs_of b id ≡ Some outputs → HasStored b id outputs
has_stored b id outputs h = by (deed_at b id) refl h
  where
    by_deed : (deed : Deed) → deed_at b id ≡ Some deed → outputs_of_deed (Some deed) ≡ Some outputs → HasStored b id outputs
    by_deed (deeds.Publish v targets script entries others) is h =
        let same : others ≡ outputs = cc in
        record {
          below = deed_below b id (deeds.Publish v targets script entries others) is;
          texts = λ path. object_text b id v targets script entries others path is ∙ ap (output_at path targets) same
              ∙ ap (λ o. output_at path (targets_of_deed o) outputs) (sym is);
        }
    by_deed deed is h = absurd (cc)

    by : (o : Option Deed) → deed_at b id ≡ o → outputs_of_deed o ≡ Some outputs → HasStored b id outputs
    by None is h = absurd (cc)
    by (Some deed) is h = by_deed deed is h

pub run_is_from_nothing : (b : Base) (build : Build) (n : ℕ) (unit : Unit) (id : ℕ) → AgreesSoFar b build → IsReady build unit
    → early_from_nothing (first_rows build.rows b) build n unit ≡ None → IsTheRun b build n unit id
    → IsAsFromNothing b build n unit id
run_is_from_nothing b build n unit id agrees ready early r =
    let stored = has_stored b id r.outputs r.stored in
    record {
      outputs = r.outputs;
      made = outcome_by_run b build n unit agrees ready early ∙ ap outcome_of_run r.runs;
      has = record {
        is_object = record { below = stored.below; targets = r.targets };
        texts = λ path. stored.texts path ∙ ap (λ targets. output_at path targets r.outputs) r.targets;
        whole = outputs_whole (script_text unit.script) unit.targets r.outputs
            (λ path. text_of_row b path (visible b build n unit path)) r.runs;
      };
    }
