-- The first uncovered path is the first at which the view sees another row.
use Rattle.std.proofs.Common.{◌≡◌, refl, ap, ℕ, Some, List, [], ◌∷◌}
use Rattle.std.specs.Option.{option_or}
use Rattle.base_model.specs.Closures.{Inputs, closure}
use Rattle.base_model.specs.Rows.{Base, only_where}
use Rattle.base_model.specs.Objects.{uncovered_path, uncovered_among}
use Rattle.view_lookup.specs.FirstInputs.{first_among, first_input}
use Rattle.vob_history.specs.Covering.{differs}

among : (b : Base) (v : List ℕ) (inputs : Inputs) → first_among (differs b v) inputs ≡ uncovered_among b v inputs
among b v [] = refl
among b v (input ∷ inputs) = ap (option_or (only_where (differs b v input.0.0 input.1) (Some input.0.0))) (among b v inputs)

pub first_uncovered : (b : Base) (v : List ℕ) (id : ℕ) → first_input b (differs b v) id ≡ uncovered_path b v id
first_uncovered b v id = among b v (closure b id)
