-- When a row fits a base, and what is a base at all.
use Rattle.std.specs.Prelude.{ℕ, Bool, true, false, not, ◌&&◌, ◌==◌, nat_lt, is_some, is_none, is_ok, [], ◌∷◌}
use Rattle.std.specs.List.{list_all}
use Rattle.cc_names.specs.References.{held_at}
use Rattle.cc_names.specs.declared.rows.Deed.{Deed}
use Rattle.cc_names.specs.declared.rows.Deed.TheVariants as deeds
use Rattle.base_model.specs.ConfigSpecs.Specs.{rules_of}
use Rattle.base_model.specs.Rows.{Base, size}
use Rattle.base_model.specs.Changes.{objects_held, live_row}
use Rattle.base_model.specs.Checkouts.{is_latest}
use Rattle.base_model.specs.Closures.{is_version_of}
use Rattle.base_model.specs.Conditions.{exists, has_out, is_file, is_directory, has_name, has_out_by_name, is_unreserved}
use Rattle.base_model.specs.Conditions.{may_check_in, is_label_type, is_branch_type, is_type_taken, has_branch, has_label}
use Rattle.base_model.specs.Conditions.{is_entry, may_be_scrubbed, is_placed, arrow_row}
use Rattle.base_model.specs.Views.{out, private}

-- a reserved checkout asks that nobody holds the branch
abbrev pub may_reserve : Base → ℕ → Bool → Bool
may_reserve b origin true = is_unreserved b origin
may_reserve b origin false = true

-- Whether a deed fits a base. What a deed names is what the base has there. A publish whose outputs stand in the file of
-- objects is a spelling of a row, and the row of a base has the bytes.
abbrev pub deed_fits : Base → Deed → Bool
deed_fits b (deeds.Mkview v) = not (exists b v)
deed_fits b (deeds.Rmview v) = exists b v
deed_fits b (deeds.Setcs v text) = exists b v && is_ok (rules_of text)
deed_fits b (deeds.Mkelem v d name kind taken) = exists b v && has_out b v d && is_directory b d && not (has_name b v d name)
deed_fits b (deeds.Checkout v e origin reserved) =
    exists b v && not (has_out b v e) && is_version_of b e origin && is_latest b origin && may_reserve b origin reserved
deed_fits b (deeds.Branch v e origin name taken) =
    exists b v && not (has_out b v e) && is_version_of b e origin && is_branch_type b name && not (has_branch b e name)
deed_fits b (deeds.Save v e text) = has_out b v e && is_file b e
deed_fits b (deeds.Checkin v e) = may_check_in b v (out b v e)
deed_fits b (deeds.Uncheckout v e) = has_out b v e
deed_fits b (deeds.Rmname v d name) = has_out b v d && has_name b v d name && not (has_out_by_name b v d name)
deed_fits b (deeds.Mv v d from_name to_name) = has_out b v d && has_name b v d from_name && not (has_name b v d to_name)
deed_fits b (deeds.Put v path text) = exists b v
deed_fits b (deeds.Rm v path) = is_some (private b v path)
deed_fits b (deeds.Mktype kind name) = not (is_type_taken b name)
deed_fits b (deeds.Label label e version) = is_label_type b label && is_version_of b e version
deed_fits b (deeds.Unlabel label e) = has_label b label e
deed_fits b (deeds.Publish v targets script entries outputs) = exists b v && list_all (is_entry b) entries
deed_fits b (deeds.Wink v id) = exists b v && is_some (live_row b id)
deed_fits b (deeds.Drop v path) = is_some (held_at (objects_held b) v path)
deed_fits b (deeds.Scrub objects) = list_all (may_be_scrubbed b) objects
deed_fits b (deeds.Labels label placed) = is_label_type b label && list_all (is_placed b) placed
deed_fits b (deeds.Arrow e tail head) =
    is_version_of b e tail && is_version_of b e head && not (tail == head) && is_none (arrow_row b e tail head)
deed_fits b (deeds.PublishAt v targets script entries outputs) = false

-- the most rows that a base may have, row 0 included
abbrev pub row_limit : ℕ
row_limit = 4000000

-- whether a deed may make the next row of a base
abbrev pub fits : Base → Deed → Bool
fits b deed = nat_lt (size b) row_limit && deed_fits b deed

-- whether rows are a base: each fits those below it
abbrev pub is_base : Base → Bool
is_base [] = true
is_base (row ∷ older) = fits older row.deed && is_base older
