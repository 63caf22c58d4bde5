-- A base that the files represent differs from the one that is opened in outputs of scrubbed objects alone.
use Rattle.std.proofs.Common.{◌≡◌, refl, ap, sym, ◌∙◌, subst, ℕ, Bool, true, false, ◌==◌, Some, List, [], ◌∷◌, map}
use Rattle.cc_names.specs.declared.rows.Stored.{Stored}
use Rattle.cc_names.specs.declared.rows.Stored.TheVariants.{Here, There}
use Rattle.cc_names.specs.declared.rows.Deed.{Deed}
use Rattle.cc_names.specs.declared.rows.Deed.TheVariants as deeds
use Rattle.base_model.specs.Blanked.{AreSameButForOutputs, AreSameButForScrubbedOutputs}
use Rattle.base_model.specs.Rows.{Base, size, deed_at}
use Rattle.cc_names.proofs.Common.{same_number}
use Rattle.legal_history.specs.Builds.Values.{IsSound}
use Rattle.legal_history.proofs.Outputs.Alike.{sound_alike}
use Rattle.legal_history.proofs.Outputs.Deeds.{deed_among}
use Rattle.story_log.specs.Stored.Fitting.{plain_rows}
use Rattle.story_log.specs.Stored.Founds.{FoundFiles, IsOutput, AreOutputs, IsDeedOf, AreRowsOf, is_live, Represents}
use Rattle.story_log.specs.Stored.Opened.{output_opened, deed_opened, row_opened, rows_opened, base_opened}
use Rattle.story_log.proofs.Stored.Alike.{same_size, opened_size, opened_alike, represented_alike, represented_is_base, same_live}

-- the outputs of a live object
output_kept : (objects : List ℕ) (stored : Stored) (output : List ℕ) → IsOutput true objects stored output
    → output_opened true objects stored ≡ output
output_kept objects (Here bytes) output is = sym is
output_kept objects (There e) output is = (is refl).1

outputs_kept : (objects : List ℕ) (stored : List Stored) (outputs : List (List ℕ)) → AreOutputs true objects stored outputs
    → map (output_opened true objects) stored ≡ outputs
outputs_kept objects [] [] are = refl
outputs_kept objects [] (output ∷ outputs) are = absurd are
outputs_kept objects (stored ∷ more) [] are = absurd are
outputs_kept objects (stored ∷ more) (output ∷ outputs) are =
    λ i. output_kept objects stored output are.0 i ∷ outputs_kept objects more outputs are.1 i

deed_kept : (objects : List ℕ) (spelt deed : Deed) → IsDeedOf true objects spelt deed → deed_opened true objects spelt ≡ deed
deed_kept objects (deeds.PublishAt view targets script entries stored) deed is =
    (λ i. deeds.Publish view targets script entries (outputs_kept objects stored is.0 is.2 i)) ∙ sym is.1
deed_kept objects spelt deed is = sym is

live_kept : (lives : ℕ → Bool) (objects : List ℕ) (stored b : Base) (id : ℕ) → AreRowsOf lives objects stored b → lives id ≡ true
    → deed_at (rows_opened lives objects stored) id ≡ deed_at b id
live_kept lives objects [] [] id are live = refl
live_kept lives objects [] (row ∷ older) id are live = absurd are
live_kept lives objects (spelt ∷ earlier) [] id are live = absurd are
live_kept lives objects (spelt ∷ earlier) (row ∷ older) id are live =
    (λ i. deed_among (number i == id) (row_opened (lives (size earlier)) objects spelt) (rows_opened lives objects earlier) id)
    ∙ by (size older == id) refl (live_kept lives objects earlier older id are.1 live)
  where
    sizes : size earlier ≡ size older
    sizes = same_size lives objects earlier older are.1

    number : size (rows_opened lives objects earlier) ≡ size older
    number = opened_size lives objects earlier ∙ sizes

    by : (t : Bool) → (size older == id) ≡ t → deed_at (rows_opened lives objects earlier) id ≡ deed_at older id
        → deed_among t (row_opened (lives (size earlier)) objects spelt) (rows_opened lives objects earlier) id
        ≡ deed_among t row older id
    by true is rest =
        let lives_here : lives (size older) ≡ true = ap lives (same_number (size older) id is) ∙ live in
        let deed = deed_kept objects spelt.deed row.deed (subst (λ b. IsDeedOf b objects spelt.deed row.deed) lives_here
        are.0.deed) in
        (λ i. Some (deed_opened ((ap lives sizes ∙ lives_here) i) objects spelt.deed)) ∙ ap Some deed
    by false is rest = rest

module _ (found : FoundFiles) (b : Base) (r : Represents found b) where
  abbrev opened : Base
  opened = base_opened found.objects r.stored

  spelt_alike : AreSameButForOutputs (plain_rows r.stored) b
  spelt_alike = represented_alike (is_live b) found.objects r.stored b r.rows

  same : is_live b ≡ is_live (plain_rows r.stored)
  same = same_live (plain_rows r.stored) b spelt_alike

  pub represented_same : AreSameButForScrubbedOutputs b opened
  represented_same = record {
    rows = sym spelt_alike ∙ opened_alike found.objects r.stored;
    kept = λ id live.
        (λ i. deed_at (rows_opened (sym same i) found.objects r.stored) id)
        ∙ live_kept (is_live b) found.objects r.stored b id r.rows live;
  }

  -- so the one that is opened is sound where that one is
  pub opened_is_sound : IsSound b → IsSound opened
  opened_is_sound = sound_alike b opened represented_same (represented_is_base found b r)
