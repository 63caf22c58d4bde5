-- What marking a row changes.
use Rattle.std.specs.Prelude.{◌≡◌, ℕ, ◌==◌, Option, List}
use Rattle.cc_names.specs.Versions.{put_if}
use Rattle.base_rows.specs.Marked.{IsChained, rows_by, with_marks}
use Rattle.base_rows.specs.declared.marks.Link.{Link}

-- a row is marked for a key, and for no other
pub record MarksRow (row key : ℕ) (links : List Link) (heads : ℕ → Option ℕ) (links' : List Link) (heads' : ℕ
    → Option ℕ) : Type 0 where
  pub chained : IsChained links heads → IsChained links' heads'
  pub rows : IsChained links heads → (q : ℕ) → rows_by links' heads' q ≡ put_if (key == q) row (rows_by links heads q)

-- a row is marked for each of these keys, and for no other
pub record MarksAll (row : ℕ) (keys : List ℕ) (links : List Link) (heads : ℕ → Option ℕ) (links' : List Link) (heads' : ℕ
    → Option ℕ) : Type 0 where
  pub chained : IsChained links heads → IsChained links' heads'
  pub rows : IsChained links heads → (q : ℕ) → rows_by links' heads' q ≡ with_marks row q keys (rows_by links heads q)
