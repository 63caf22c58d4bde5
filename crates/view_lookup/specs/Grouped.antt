-- Deeds by what they are about, as code asks in groups whether they fit.
use Rattle.std.specs.Prelude.{Bool, true, false}
use Rattle.cc_names.specs.declared.rows.Deed.{Deed}
use Rattle.cc_names.specs.declared.rows.Deed.TheVariants as deeds

-- whether a deed changes the catalog of a view's checkout of a directory
abbrev pub is_of_catalog : Deed → Bool
is_of_catalog (deeds.Mkelem v directory name kind out) = true
is_of_catalog (deeds.Rmname v directory name) = true
is_of_catalog (deeds.Mv v directory from_name to_name) = true
is_of_catalog deed = false

-- whether a deed makes a checkout or a branch, or changes or ends a checkout
abbrev pub is_of_checkout : Deed → Bool
is_of_checkout (deeds.Checkout v e origin reserved) = true
is_of_checkout (deeds.Branch v e origin name out) = true
is_of_checkout (deeds.Save v e text) = true
is_of_checkout (deeds.Checkin v e) = true
is_of_checkout (deeds.Uncheckout v e) = true
is_of_checkout deed = false

-- whether a deed marks versions: by labels, or by a merge
abbrev pub is_of_version : Deed → Bool
is_of_version (deeds.Label label e version) = true
is_of_version (deeds.Unlabel label e) = true
is_of_version (deeds.Labels label placed) = true
is_of_version (deeds.Arrow e tail head) = true
is_of_version deed = false

-- whether a deed gives a view another config spec, which takes memory to read
abbrev pub sets_spec : Deed → Bool
sets_spec (deeds.Setcs v text) = true
sets_spec deed = false
