-- The row that is made of what a run gave is the one that the unit publishes, and has the form of a row.
use Rattle.std.proofs.Common.{◌≡◌, true, ap, sym, ◌∙◌, ℕ, zero, suc, ◌<◌, Some, List, [], ◌∷◌, length, map, get_or, slice_get}
use Rattle.std.proofs.Common.{arith}
use Rattle.cc_names.specs.Formed.{Plain, IsDeedFormed}
use Rattle.cc_names.specs.declared.rows.Deed.{Deed}
use Rattle.cc_names.specs.declared.rows.Deed.TheVariants as deeds
use Rattle.cc_names.specs.declared.units.Unit.{Unit}
use Rattle.base_model.specs.Rows.{Base}
use Rattle.legal_history.specs.Builds.Active.{Build}
use Rattle.legal_history.specs.Builds.Choices.{as_entry, in_order, entries, here, publish_by, publish_of, visible}
use Rattle.base_model.specs.Fits.{is_base}
use Rattle.legal_history.specs.Builds.Fresh.{script_text}
use Rattle.build_core.proofs.RunsFormed.{published_is_formed}
use Rattle.build_core.specs.Publishing.{CanPublish, RunGave, IsPublishOf}

-- what stands at an index is what a look-up there finds
pub at_index : {A : Type 0} (xs : List A) (n : ℕ) (x : A) → n < length xs → x ≡ get_or xs n x → slice_get xs n ≡ Some x
at_index [] n x within is = absurd (omega arith)
at_index (y ∷ xs) zero x within is = ap (λ z. Some z) (sym is)
at_index (y ∷ xs) (suc n) x within is = at_index xs n x (omega arith) is

-- the deed of a publish by a unit of the build
abbrev pub deed_of_run : Build → Unit → List (List ℕ × ℕ) → List (List ℕ) → Deed
deed_of_run build unit found outputs = deeds.Publish build.view unit.targets (script_text unit.script) (map as_entry found)
    outputs

-- The deed of what a run gave is the one that the unit would publish.
pub published : (b : Base) (build : Build) (n : ℕ) (unit : Unit) (outputs reads : List (List ℕ)) (found : List (List ℕ × ℕ))
    → RunGave b build n unit outputs reads → found ≡ in_order (visible b build n unit) reads →
    publish_of b build n unit ≡ Some (deed_of_run build unit found outputs)
published b build n unit outputs reads found ran is =
    ap (publish_by build unit (entries (visible b build n unit) (here b build n unit).reads)) ran.result
    ∙ ap (λ paths. Some (deeds.Publish build.view unit.targets (script_text unit.script) (entries (visible b build n unit) paths)
    outputs)) ran.asked
    ∙ ap (λ pairs. Some (deed_of_run build unit pairs outputs)) (sym is)

-- So it is formed.
pub published_formed : (b : Base) (build : Build) (n : ℕ) (unit : Unit) (outputs reads : List (List ℕ)) (found : List (List ℕ
    × ℕ)) → is_base b ≡ true → CanPublish b build unit → RunGave b build n unit outputs reads →
    found ≡ in_order (visible b build n unit) reads → IsDeedFormed (deed_of_run build unit found outputs)
published_formed b build n unit outputs reads found base can ran is =
    published_is_formed b build n unit (deed_of_run build unit found outputs) base can
    (published b build n unit outputs reads found ran is)

-- So a row with that deed is the one that the unit publishes.
pub row_published : (b : Base) (build : Build) (n : ℕ) (unit : Unit) (moment : ℕ) (outputs reads : List (List ℕ))
    (found : List (List ℕ × ℕ)) (row : Plain) → RunGave b build n unit outputs reads →
    found ≡ in_order (visible b build n unit) reads → row ≡ record {
      tag = build.tag;
      moment = moment;
      deed = deed_of_run build unit found outputs;
    } → IsPublishOf b build n unit moment row
row_published b build n unit moment outputs reads found row ran is made = record {
  tag = ap (λ (r : Plain). r.tag) made;
  made = ap (λ (r : Plain). r.moment) made;
  deed = published b build n unit outputs reads found ran is ∙ ap (λ (r : Plain). Some r.deed) (sym made);
}
