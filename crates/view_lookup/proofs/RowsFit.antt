-- When the row of a deed made the text of a file.
use Rattle.std.proofs.Common.{◌≡◌, ℕ, Some, List, refl}
use Rattle.cc_names.specs.declared.rows.Deed.{Deed}
use Rattle.cc_names.specs.declared.rows.Deed.TheVariants as deeds
use Rattle.base_model.specs.Conditions.{element_of_text, is_some_file, makes_file_text}
use Rattle.base_model.specs.Rows.{Base}

-- a deed that puts no file makes the text of an element or none
pub text_of_element : (b : Base) (r : ℕ) (deed : Deed) → ((v q text : List ℕ) → deed ≡ deeds.Put v q text → ⊥)
    → is_some_file b (element_of_text b r deed) ≡ makes_file_text b r (Some deed)
text_of_element b r (deeds.Put v q text) other = absurd (other v q text refl)
text_of_element b r deed other = refl
