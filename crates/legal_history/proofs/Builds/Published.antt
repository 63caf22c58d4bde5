-- The object that a unit's run publishes agrees with what the unit comes to from nothing.
use Rattle.std.proofs.Common.{◌≡◌, refl, ap, sym, subst, ◌∙◌, ℕ, true, false, Option, Some, None, Result, Ok, Err, List, ◌∷◌}
use Rattle.std.proofs.Common.{arith}
use Rattle.std.specs.Prelude.{is_some}
use Rattle.cc_names.specs.Formed.{Plain}
use Rattle.cc_names.specs.declared.refusals.ScriptFault.{ScriptFault}
use Rattle.cc_names.specs.declared.rows.Deed.{Deed}
use Rattle.cc_names.specs.declared.rows.Deed.TheVariants as deeds
use Rattle.cc_names.specs.declared.rows.ReadOf.{ReadOf}
use Rattle.cc_names.specs.declared.rows.Tag.{Tag}
use Rattle.cc_names.specs.declared.units.Unit.{Unit}
use Rattle.base_model.specs.Rows.{Base, size, first_rows, row_at, deed_of}
use Rattle.legal_history.specs.Builds.Active.{Build, Given}
use Rattle.base_model.specs.Changes.{targets_of_deed}
use Rattle.legal_history.specs.Builds.Choices.{here, visible, entries, publish_of, publish_by}
use Rattle.base_model.specs.Texts.{text_of_row, Bytes, OfRow, NoText, of_output, output_at, text}
use Rattle.legal_history.specs.Builds.Fresh.{outcome_of_run, script_text}
use Rattle.legal_history.specs.Builds.Freshness.{Agrees, HasOutputs, AgreesSoFar, outcome_in, early_from_nothing}
use Rattle.legal_history.specs.Builds.Consistency.{IsObjectOf, IsReady}
use Rattle.legal_history.specs.Builds.Serials.{makes}
use Rattle.base_model.proofs.Owned.{same_is_same}
use Rattle.base_model.proofs.Stay.{first_rows_stay}
use Rattle.legal_history.proofs.Builds.ReadyUnits.{outcome_by_run, outputs_whole}

-- what the deed of a publish is made of
pub record IsPublish (b : Base) (build : Build) (n : ℕ) (unit : Unit) (deed : Deed) : Type 0 where
  pub outputs : List (List ℕ)
  pub ran : (here b build n unit).result ≡ Ok outputs
  pub is : deed ≡ deeds.Publish build.view unit.targets (script_text unit.script)
      (entries (visible b build n unit) (here b build n unit).reads) outputs

pub is_publish : (b : Base) (build : Build) (n : ℕ) (unit : Unit) (deed : Deed) → publish_of b build n unit ≡ Some deed
    → IsPublish b build n unit deed
is_publish b build n unit deed h = by (here b build n unit).result refl h
  where
    by : (r : Result (List (List ℕ)) ScriptFault) → (here b build n unit).result ≡ r
        → publish_by build unit (entries (visible b build n unit) (here b build n unit).reads) r ≡ Some deed
        → IsPublish b build n unit deed
    by (Err fault) ran h = absurd (cc)
    by (Ok outputs) ran h = record { outputs = outputs; ran = ran; is = cc }

-- the text of the newest row, where it published something
newest_text : (tag : Tag) (moment : ℕ) (v : List ℕ) (targets : List (List ℕ)) (script : List ℕ) (reads : List ReadOf)
    (outputs : List (List ℕ)) (b : Base) (path : List ℕ) →
    text (record { tag = tag; moment = moment; deed = deeds.Publish v targets script reads outputs } ∷ b) (size b) path
    ≡ output_at path targets outputs
newest_text tag moment v targets script reads outputs b path =
    ap (λ t. elim t as (λ x. Option (List ℕ)) [
      | false ↦ text b (size b) path
      | true ↦ elim (of_output (output_at path targets outputs)) as (λ x. Option (List ℕ)) [
        | Bytes bytes ↦
            Some bytes
        | OfRow origin ↦ text b origin path
        | NoText ↦ None
      ]
    ]) (same_is_same (size b))
    ∙ by (output_at path targets outputs)
  where
    by : (o : Option (List ℕ)) → elim (of_output o) as (λ x. Option (List ℕ)) [
      | Bytes bytes ↦ Some bytes
      | OfRow origin ↦
          text b origin path
      | NoText ↦ None
    ] ≡ o
    by None = refl
    by (Some output) = refl

newest_object : (tag : Tag) (moment : ℕ) (v : List ℕ) (unit : Unit) (script : List ℕ) (reads : List ReadOf)
    (outputs : List (List ℕ)) (b : Base) →
    IsObjectOf (record { tag = tag; moment = moment; deed = deeds.Publish v unit.targets script reads outputs } ∷ b) unit (size b)
newest_object tag moment v unit script reads outputs b = record {
  below = omega arith;
  targets = ap (λ t. targets_of_deed (deed_of (elim t as (λ x. Option Plain) [
    | true ↦
        Some (record { tag = tag; moment = moment; deed = deeds.Publish v unit.targets script reads outputs })
    | false ↦
        row_at b (size b)
  ])))
      (same_is_same (size b));
}

-- the object that a publish makes is one of its unit
pub published_object : (row : Plain) (b : Base) (build : Build) (n : ℕ) (unit : Unit) → IsPublish b build n unit row.deed
    → IsObjectOf (row ∷ b) unit (size b)
published_object row b build n unit p =
    subst (λ deed. IsObjectOf (record { tag = row.tag; moment = row.moment; deed = deed } ∷ b) unit (size b)) (sym p.is)
    (newest_object row.tag row.moment build.view unit (script_text unit.script)
    (entries (visible b build n unit) (here b build n unit).reads) p.outputs b)

newest_has : (tag : Tag) (moment : ℕ) (v : List ℕ) (unit : Unit) (script : List ℕ) (reads : List ReadOf) (outputs : List (List ℕ))
    (b : Base) →
    ((path : List ℕ) → makes path unit ≡ true → is_some (output_at path unit.targets outputs) ≡ true) →
    HasOutputs (record { tag = tag; moment = moment; deed = deeds.Publish v unit.targets script reads outputs } ∷ b) unit (size b)
    outputs
newest_has tag moment v unit script reads outputs b whole = record {
  is_object = newest_object tag moment v unit script reads outputs b;
  texts = newest_text tag moment v unit.targets script reads outputs b;
  whole = whole;
}

pub given_agrees : (row : Plain) (b : Base) (build : Build) (n : ℕ) (unit : Unit) → AgreesSoFar b build → IsReady build unit
    → early_from_nothing (first_rows build.rows b) build n unit ≡ None →
    IsPublish b build n unit row.deed → Agrees (row ∷ b) unit (Given (size b))
    (outcome_in (first_rows build.rows (row ∷ b)) build n unit)
given_agrees row b build n unit h ready early p =
    subst (Agrees (row ∷ b) unit (Given (size b)))
    (sym (ap (λ rows. outcome_in rows build n unit) (first_rows_stay row b build.rows h.consistent.rows)
    ∙ outcome_by_run b build n unit h ready early ∙ ap outcome_of_run p.ran))
    (subst (λ deed. HasOutputs (record { tag = row.tag; moment = row.moment; deed = deed } ∷ b) unit (size b) p.outputs)
    (sym p.is)
    (newest_has row.tag row.moment build.view unit (script_text unit.script)
    (entries (visible b build n unit) (here b build n unit).reads) p.outputs b
    (outputs_whole (script_text unit.script) unit.targets p.outputs (λ path. text_of_row b path (visible b build n unit path))
    p.ran)))
