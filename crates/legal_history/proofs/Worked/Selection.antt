-- A worked selection: a view that selects a source by the record of an object, of which the source has a newer version.
use Rattle.std.proofs.Common.{◌≡◌, refl, ℕ, Bool, true, false, cond, Some, None, List, [], ◌∷◌, ◌++◌, arith}
use Rattle.std.specs.FinMap.Entries.{find}
use Rattle.std.specs.Ordering.{eq_by_cmp}
use Rattle.std.specs.Prelude.{codes, is_some}
use Rattle.cc_names.specs.declared.rows.Deed.TheVariants as deeds
use Rattle.base_model.specs.Rows.{Base}
use Rattle.base_model.specs.Closures.{Input, input_cmp, closure}
use Rattle.base_model.specs.Fits.{is_base}
use Rattle.base_model.specs.Objects.{uncovered_path}
use Rattle.legal_history.specs.Queries.VersionNames.{line}
use Rattle.legal_history.specs.Worked.{base_of}
use Rattle.legal_history.proofs.Worked.TwoViews.{all_deeds, v}
use Rattle.legal_history.specs.Laws.Selected.{IsSelected, IsVersion, SeesByRecord}
use Rattle.base_model.proofs.Covered.{one_input}

abbrev x : List ℕ
x = codes "x"

abbrev selected_by_record : Base
selected_by_record = base_of (all_deeds ++ (deeds.Checkout v 6 8 true ∷ deeds.Save v 6 (line (codes "foo")) ∷ deeds.Checkin v 6
    ∷ deeds.Mkview x ∷ deeds.Setcs x (line (codes "element in -config out@@10") ++ line (codes "element * /main/LATEST")) ∷ []))

it_is_a_base : is_base selected_by_record ≡ true
it_is_a_base = refl

the_closure : closure selected_by_record 10 ≡ ((codes "in", 8), 8) ∷ []
the_closure = refl

it_is_covered : uncovered_path selected_by_record x 10 ≡ None
it_is_covered = refl

by_the_record : SeesByRecord selected_by_record x (codes "out") 10 (codes "in") 6
by_the_record = record { picked = _; rule = _; stands = refl; decides = refl; by_record = refl }

-- the one input of the closure
one_of : (input : Input) → is_some (find input_cmp input (closure selected_by_record 10)) ≡ true → input.1 ≡ 8
one_of input h = by (eq_by_cmp input_cmp input (codes "in", 8)) refl h
  where
    by : (t : Bool) → eq_by_cmp input_cmp input (codes "in", 8) ≡ t → is_some {T = ℕ} (cond t (Some 8) None) ≡ true → input.1 ≡ 8
    by true e h = (one_input input (codes "in", 8) e).row
    by false e h = absurd (cc)

it_is_selected : IsSelected selected_by_record x (codes "out") 10 (codes "in") 8
it_is_selected = IsVersion 6 (omega arith) (record { only = λ input has version. one_of input has }) by_the_record
