-- What two bases with the same first rows say alike.
use Rattle.std.specs.Prelude.{◌≡◌, ℕ, List}
use Rattle.cc_names.specs.Labels.{holder, labels_of_first_rows}
use Rattle.cc_names.specs.Versions.{of_first_rows}
use Rattle.base_model.specs.Rows.{Base, first_rows}
use Rattle.base_model.specs.Changes.{tree, labels}
use Rattle.base_model.specs.Texts.{texts}
use Rattle.base_model.specs.Seen.{at, file_at, directory_at}

-- Two bases say the same of their first t rows: which versions there are, where labels stand, and what stands at each path
-- of each view, with the row that made a file and with its text.
pub record SayTheSame (t : ℕ) (old new : Base) : Type 0 where
  pub versions : of_first_rows t (tree new) ≡ of_first_rows t (tree old)
  pub placed : labels_of_first_rows t (labels new) ≡ labels_of_first_rows t (labels old)
  pub holders : (label : List ℕ) (e : ℕ) → holder (labels (first_rows t new)) label e ≡ holder (labels (first_rows t old)) label e
  pub seen : (v path : List ℕ) → at (first_rows t new) v path ≡ at (first_rows t old) v path
  pub files : (v path : List ℕ) → file_at (first_rows t new) v path ≡ file_at (first_rows t old) v path
  pub directories : (v path : List ℕ) → directory_at (first_rows t new) v path ≡ directory_at (first_rows t old) v path
  pub texts : (v path : List ℕ) → texts (first_rows t new) v path ≡ texts (first_rows t old) v path
