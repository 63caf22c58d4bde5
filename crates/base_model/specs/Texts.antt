-- The text that a row made.
use Rattle.std.specs.Prelude.{ℕ, true, false, ◌==◌, Option, Some, None, List, [], ◌∷◌, option_and_then, bytes_eq, if◌then◌else◌}
use Rattle.cc_names.specs.declared.rows.Deed.{Deed}
use Rattle.cc_names.specs.declared.rows.Deed.TheVariants as deeds
use Rattle.base_model.specs.Rows.{Base, size}
use Rattle.base_model.specs.Views.{making}
use Rattle.cc_names.specs.Files.{Files}
use Rattle.base_model.specs.Seen.{file_at}

-- where the text that a row makes comes from: the row itself, an earlier row, or nowhere
pub data TextSource : Type 0 where
  Bytes : List ℕ → TextSource
  OfRow : ℕ → TextSource
  NoText : TextSource

-- the text of the row that made the view's own
abbrev pub of_making : Option ℕ → TextSource
of_making None = NoText
of_making (Some row) = OfRow row

-- the output at the place of the target with this path
abbrev pub output_at : List ℕ → List (List ℕ) → List (List ℕ) → Option (List ℕ)
output_at path [] outputs = None
output_at path (target ∷ targets) [] = None
output_at path (target ∷ targets) (output ∷ outputs) = if bytes_eq target path then Some output else output_at path targets
    outputs

-- an output, where there is one
abbrev pub of_output : Option (List ℕ) → TextSource
of_output None = NoText
of_output (Some output) = Bytes output

-- A new element's version 0 is empty. A checkout or a branch begins with its origin's text, a checkin keeps what the
-- view's checkout had at that moment, and a publish has an output for each of its targets.
abbrev pub source_of : Base → List ℕ → Deed → TextSource
source_of older path (deeds.Mkelem v directory name kind out) = Bytes []
source_of older path (deeds.Checkout v e origin reserved) = OfRow origin
source_of older path (deeds.Branch v e origin name out) = OfRow origin
source_of older path (deeds.Save v e text) = Bytes text
source_of older path (deeds.Checkin v e) = of_making (making older v e)
source_of older path (deeds.Put v q text) = Bytes text
source_of older path (deeds.Publish v targets script entries outputs) = of_output (output_at path targets outputs)
source_of older path deed = NoText

-- The text that row r made; of an object, its output at the path.
abbrev pub text : Base → ℕ → List ℕ → Option (List ℕ)
text [] r path = None
text (row ∷ older) r path =
    elim (size older == r) [
      | false ↦ text older r path
      | true ↦ elim (source_of older path row.deed) [
        | Bytes bytes ↦ Some bytes
        | OfRow origin ↦ text older origin path
        | NoText ↦
            None
      ]
    ]

-- the text of the row that a path was found to have
abbrev pub text_of_row : Base → List ℕ → Option ℕ → Option (List ℕ)
text_of_row b path row = option_and_then (λ r. text b r path) row

-- the texts of the files that the view sees
abbrev pub texts : Base → List ℕ → Files
texts b v path = option_and_then (λ row. text b row path) (file_at b v path)
