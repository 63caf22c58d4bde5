-- The first outsider is the first path where a row is there that made no version.
use Rattle.std.proofs.Common.{◌≡◌, refl, ap, ℕ, Some, [], ◌∷◌}
use Rattle.std.specs.Option.{option_or}
use Rattle.base_model.specs.Closures.{Inputs, closure}
use Rattle.base_model.specs.Rows.{Base, only_where}
use Rattle.legal_history.specs.Commands.LabelLines.{outsider, outsider_among}
use Rattle.view_lookup.specs.FirstInputs.{first_among, first_input}
use Rattle.checkout_desk.specs.Outsiders.{is_outside}

among : (b : Base) (inputs : Inputs) → first_among (is_outside b) inputs ≡ outsider_among b inputs
among b [] = refl
among b (input ∷ inputs) = ap (option_or (only_where (is_outside b input.0.0 input.1) (Some input.0.0))) (among b inputs)

pub first_outsider : (b : Base) (id : ℕ) → first_input b (is_outside b) id ≡ outsider b id
first_outsider b id = among b (closure b id)
