-- In which directory an element was made.
use Rattle.std.specs.Prelude.{ℕ, Option, Some, None}
use Rattle.cc_names.specs.declared.rows.Deed.{Deed}
use Rattle.cc_names.specs.declared.rows.Deed.TheVariants as deeds
use Rattle.base_model.specs.Rows.{Base, deed_at}

-- the directory in which a deed makes an element
abbrev pub directory_of_deed : Option Deed → Option ℕ
directory_of_deed (Some (deeds.Mkelem v directory name kind out)) = Some directory
directory_of_deed _ = None

-- the directory in which an element was made; the root has none
abbrev pub directory_of : Base → ℕ → Option ℕ
directory_of b e = directory_of_deed (deed_at b e)
