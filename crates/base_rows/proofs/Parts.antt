-- What rows do to a thing of a view, parted into what they do to the view's life and to the thing.
use Rattle.std.proofs.Common.{◌≡◌, ℕ, Bool, true, false, ◌&&◌, ◌==◌, List, bytes_eq, refl}
use Rattle.cc_names.specs.Last.{Effect, Keeps, Ends, Sets, only_if}
use Rattle.cc_names.specs.declared.rows.Deed.{Deed}
use Rattle.cc_names.specs.declared.rows.Deed.TheVariants as deeds
use Rattle.base_model.specs.Rows.{Base, size}
use Rattle.base_model.specs.Views.{Checkout, making_effect, making_of_out, made_out, out_effect, private_effect, set_by}
use Rattle.std.specs.Prelude.{Option, Some, None, option_map}
use Rattle.base_rows.specs.Effects.{end_effect, file_effect, taken_effect, stored_checkout, plain_checkout, map_effect}
use Rattle.base_rows.specs.Effects.{row_of_stored, checkout_effect, saved_effect}
use Rattle.base_rows.specs.Lifetimes.{ended_or, or_else}
use Rattle.base_rows.specs.LookUps.{Deeds}

-- an end alone
ended : {A : Type 0} (is : Bool) → only_if {A = A} is Ends ≡ ended_or (only_if is Ends) Keeps
ended true = refl
ended false = refl

pub private_parts : (v path : List ℕ) (older : Base) (deed : Deed) → private_effect v path (size older) deed
    ≡ ended_or (end_effect v older deed) (file_effect v path older deed)
private_parts v path older (deeds.Mkview w) = ended (bytes_eq w v)
private_parts v path older (deeds.Rmview w) = ended (bytes_eq w v)
private_parts v path older deed = refl

pub out_parts : (v : List ℕ) (e : ℕ) (older : Base) (deed : Deed) → out_effect v e (size older) deed
    ≡ ended_or (end_effect v older deed) (taken_effect v e older deed)
out_parts v e older (deeds.Mkview w) = ended (bytes_eq w v)
out_parts v e older (deeds.Rmview w) = ended (bytes_eq w v)
out_parts v e older deed = refl

-- a checkout is the same again
pub plain_again : (checkout : Option Checkout) → option_map plain_checkout (option_map stored_checkout checkout) ≡ checkout
plain_again None = refl
plain_again (Some checkout) = refl

-- the effect on the text of a checkout, whatever becomes of the view
abbrev pub text_effect : List ℕ → ℕ → Deeds ℕ
text_effect v e older deed = or_else (map_effect row_of_stored (checkout_effect v e older deed)) (saved_effect v e older deed)

made_again : (effect : Effect Checkout) → making_of_out effect ≡ or_else
    (map_effect row_of_stored (map_effect stored_checkout effect)) Keeps
made_again Keeps = refl
made_again Ends = refl
made_again (Sets checkout) = refl

ended_again : (is : Bool) → making_of_out (only_if is Ends) ≡ ended_or (only_if is Ends) Keeps
ended_again true = refl
ended_again false = refl

pub making_parts : (v : List ℕ) (e : ℕ) (older : Base) (deed : Deed) → making_effect v e (size older) deed
    ≡ ended_or (end_effect v older deed) (text_effect v e older deed)
making_parts v e older (deeds.Mkview w) = ended_again (bytes_eq w v)
making_parts v e older (deeds.Rmview w) = ended_again (bytes_eq w v)
making_parts v e older (deeds.Mkelem w directory name kind out) = made_again
    (set_by v e (made_out (size older) (deeds.Mkelem w directory name kind out)))
making_parts v e older (deeds.Checkout w f origin reserved) = made_again
    (set_by v e (made_out (size older) (deeds.Checkout w f origin reserved)))
making_parts v e older (deeds.Branch w f origin name out) = made_again
    (set_by v e (made_out (size older) (deeds.Branch w f origin name out)))
making_parts v e older (deeds.Checkin w f) = made_again (only_if (bytes_eq w v && (f == e)) Ends)
making_parts v e older (deeds.Uncheckout w f) = made_again (only_if (bytes_eq w v && (f == e)) Ends)
making_parts v e older deed = refl
