-- Rows that give views something, and names in directories.
use Rattle.std.specs.Prelude.{ℕ, Bool, false, ◌==◌, List, bytes_eq}
use Rattle.cc_names.specs.Last.{Sets, only_if}
use Rattle.cc_names.specs.declared.rows.Deed.{Deed}
use Rattle.cc_names.specs.declared.rows.Deed.TheVariants as deeds
use Rattle.base_model.specs.Rows.{size}
use Rattle.base_rows.specs.LookUps.{Deeds}

-- whether a deed gives the view something
abbrev pub gives_view : List ℕ → Deed → Bool
gives_view v (deeds.Put w path text) = bytes_eq w v
gives_view v (deeds.Publish w targets script entries outputs) = bytes_eq w v
gives_view v (deeds.Wink w id) = bytes_eq w v
gives_view v deed = false

-- whether a deed gives a name in the directory
abbrev pub gives_in : ℕ → Deed → Bool
gives_in d (deeds.Mkelem v directory name kind out) = directory == d
gives_in d (deeds.Mv v directory from_name to_name) = directory == d
gives_in d deed = false

-- a view puts a private file, or comes to hold an object
abbrev pub own_effect : List ℕ → Deeds ℕ
own_effect v older deed = only_if (gives_view v deed) (Sets (size older))

-- a name is given in a directory
abbrev pub naming_effect : ℕ → Deeds ℕ
naming_effect d older deed = only_if (gives_in d deed) (Sets (size older))
