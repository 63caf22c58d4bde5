-- A row fits a base where it fits without outputs: neither its own nor those of objects are asked for.
use Rattle.std.proofs.Common.{◌≡◌, refl, ◌∙◌, ℕ, Bool, true, false, not, ◌&&◌, ◌||◌, ◌==◌, Option, Some, None, List, [], ◌∷◌}
use Rattle.std.specs.List.{list_all}
use Rattle.std.specs.Option.{option_or}
use Rattle.std.specs.Prelude.{nat_lt, is_some, is_none, is_ok, option_and_then}
use Rattle.cc_names.specs.Branches.{branch_named, branch_of_version}
use Rattle.cc_names.specs.Labels.{holder}
use Rattle.cc_names.specs.References.{held_at, is_held}
use Rattle.cc_names.specs.Versions.{is_number, kind_of, latest, version_id}
use Rattle.cc_names.specs.declared.rows.Deed.{Deed}
use Rattle.cc_names.specs.declared.rows.Deed.TheVariants as deeds
use Rattle.cc_names.specs.declared.rows.Placed.{Placed}
use Rattle.cc_names.specs.declared.rows.ReadOf.{ReadOf}
use Rattle.base_model.specs.ConfigSpecs.Specs.{rules_of}
use Rattle.base_model.specs.Blanked.{blank_deed, with_blanks}
use Rattle.base_model.specs.Catalogs.{element_named}
use Rattle.base_model.specs.Checkouts.{is_latest}
use Rattle.base_model.specs.Closures.{is_path_among, is_of_element, is_version_of}
use Rattle.base_model.specs.Conditions.{exists, has_out, is_file, is_file_kind, is_directory_kind, has_name, may_check_in}
use Rattle.base_model.specs.Conditions.{is_label_kind, is_branch_kind, is_reserved_name, is_put, is_some_file, makes_file_text}
use Rattle.base_model.specs.Conditions.{is_entry, may_be_scrubbed, is_arrow, arrow_row}
use Rattle.base_model.specs.Fits.{may_reserve, deed_fits, row_limit, fits, is_base}
use Rattle.base_model.specs.Rows.{Base, deed_at, only_where}
use Rattle.base_model.specs.Views.{Checkout}
use Rattle.base_model.proofs.VersionRows.{element_stays}
use Rattle.legal_history.proofs.Outputs.Deeds.{deed_same, size_same, at_same}
use Rattle.legal_history.proofs.Outputs.States.{view_same, out_same, private_same, type_same, live_same, targets_same, tree_same}
use Rattle.legal_history.proofs.Outputs.States.{labels_same, held_same, own_same, reserver_same, other_reserver_same}

version_same : (b : Base) (e r : ℕ) → is_version_of (with_blanks b) e r ≡ is_version_of b e r
version_same b e r = λ i. is_of_element e (version_id (tree_same b i) r)

latest_same : (b : Base) (version : ℕ) → is_latest (with_blanks b) version ≡ is_latest b version
latest_same b version =
    λ i. is_number version (option_and_then (λ branch. latest (tree_same b i) branch None)
    (branch_of_version (tree_same b i) version))

exists_same : (b : Base) (v : List ℕ) → exists (with_blanks b) v ≡ exists b v
exists_same b v = λ i. is_some (view_same b v i)

has_out_same : (b : Base) (v : List ℕ) (e : ℕ) → has_out (with_blanks b) v e ≡ has_out b v e
has_out_same b v e = λ i. is_some (out_same b v e i)

file_same : (b : Base) (e : ℕ) → is_file (with_blanks b) e ≡ is_file b e
file_same b e = λ i. is_file_kind (kind_of (tree_same b i) e)

has_name_same : (b : Base) (v : List ℕ) (d : ℕ) (name : List ℕ) → has_name (with_blanks b) v d name ≡ has_name b v d name
has_name_same b v d name = λ i. is_some (element_named name (own_same b v d i))

reserve_same : (b : Base) (origin : ℕ) (reserved : Bool) → may_reserve (with_blanks b) origin reserved
    ≡ may_reserve b origin reserved
reserve_same b origin true =
    λ i. is_none (option_and_then (λ branch. reserver_same b branch i) (branch_of_version (tree_same b i) origin))
reserve_same b origin false = refl

check_in_same : (b : Base) (v : List ℕ) (o : Option Checkout) → may_check_in (with_blanks b) v o ≡ may_check_in b v o
check_in_same b v None = refl
check_in_same b v (Some checkout) =
    λ i. is_none (option_and_then (λ branch. other_reserver_same b v branch i)
    (branch_of_version (tree_same b i) checkout.origin))
    && latest_same b checkout.origin i

file_text_by : (b : Base) (r : ℕ) (o : Option Deed) → makes_file_text (with_blanks b) r o ≡ makes_file_text b r o
file_text_by b r None = refl
file_text_by b r (Some deed) = λ i. is_put deed || some_file (element_stays b (with_blanks b) r deed i) i
  where
    some_file : (o : Option ℕ) → is_some_file (with_blanks b) o ≡ is_some_file b o
    some_file None = refl
    some_file (Some e) = file_same b e

entry_same : (b : Base) (entry : ReadOf) → is_entry (with_blanks b) entry ≡ is_entry b entry
entry_same b entry = λ i. (entry.row == 0) || file_text i || is_path_among entry.path (targets_same b entry.row i)
  where
    file_text : makes_file_text (with_blanks b) entry.row (deed_at (with_blanks b) entry.row)
        ≡ makes_file_text b entry.row (deed_at b entry.row)
    file_text = at_same (makes_file_text (with_blanks b) entry.row) refl b entry.row
        ∙ file_text_by b entry.row (deed_at b entry.row)

scrubbed_same : (b : Base) (id : ℕ) → may_be_scrubbed (with_blanks b) id ≡ may_be_scrubbed b id
scrubbed_same b id = λ i. is_some (live_same b id i) && not (is_held (held_same b i) id)

arrow_same : (b : Base) (e tail head : ℕ) → arrow_row (with_blanks b) e tail head ≡ arrow_row b e tail head
arrow_same [] e tail head = refl
arrow_same (row ∷ older) e tail head =
    λ i. option_or (only_where (deed_same (is_arrow e tail head) refl row.deed i) (Some (size_same older i)))
    (arrow_same older e tail head i)

deed_fits_same : (b : Base) (deed : Deed) → deed_fits (with_blanks b) (blank_deed deed) ≡ deed_fits b deed
deed_fits_same b (deeds.Mkview v) = λ i. not (exists_same b v i)
deed_fits_same b (deeds.Rmview v) = exists_same b v
deed_fits_same b (deeds.Setcs v text) = λ i. exists_same b v i && is_ok (rules_of text)
deed_fits_same b (deeds.Mkelem v d name kind taken) =
    λ i. exists_same b v i && has_out_same b v d i && is_directory_kind (kind_of (tree_same b i) d)
    && not (has_name_same b v d name i)
deed_fits_same b (deeds.Checkout v e origin reserved) =
    λ i. exists_same b v i && not (has_out_same b v e i) && version_same b e origin i
    && latest_same b origin i && reserve_same b origin reserved i
deed_fits_same b (deeds.Branch v e origin name taken) =
    λ i. exists_same b v i && not (has_out_same b v e i) && version_same b e origin i
    && is_branch_kind (type_same b name i) && not (is_some (branch_named (tree_same b i) e name))
deed_fits_same b (deeds.Save v e text) = λ i. has_out_same b v e i && file_same b e i
deed_fits_same b (deeds.Checkin v e) = λ i. check_in_same b v (out_same b v e i) i
deed_fits_same b (deeds.Uncheckout v e) = has_out_same b v e
deed_fits_same b (deeds.Rmname v d name) =
    λ i. has_out_same b v d i && has_name_same b v d name i
    && not (is_some (option_and_then (λ e. out_same b v e i) (element_named name (own_same b v d i))))
deed_fits_same b (deeds.Mv v d from_name to_name) =
    λ i. has_out_same b v d i && has_name_same b v d from_name i && not (has_name_same b v d to_name i)
deed_fits_same b (deeds.Put v path text) = exists_same b v
deed_fits_same b (deeds.Rm v path) = λ i. is_some (private_same b v path i)
deed_fits_same b (deeds.Mktype kind name) = λ i. not (is_some (type_same b name i) || is_reserved_name name)
deed_fits_same b (deeds.Label label e version) = λ i. is_label_kind (type_same b label i) && version_same b e version i
deed_fits_same b (deeds.Unlabel label e) = λ i. is_some (holder (labels_same b i) label e)
deed_fits_same b (deeds.Publish v targets script entries outputs) =
    λ i. exists_same b v i && list_all (λ entry. entry_same b entry i) entries
deed_fits_same b (deeds.Wink v id) = λ i. exists_same b v i && is_some (live_same b id i)
deed_fits_same b (deeds.Drop v path) = λ i. is_some (held_at (held_same b i) v path)
deed_fits_same b (deeds.Scrub objects) = λ i. list_all (λ id. scrubbed_same b id i) objects
deed_fits_same b (deeds.Labels label placed) =
    λ i. is_label_kind (type_same b label i) && list_all (λ (one : Placed). version_same b one.element one.version i) placed
deed_fits_same b (deeds.Arrow e tail head) =
    λ i. version_same b e tail i && version_same b e head i && not (tail == head) && is_none (arrow_same b e tail head i)
deed_fits_same b (deeds.PublishAt v targets script entries outputs) = refl

pub fits_same : (b : Base) (deed : Deed) → fits (with_blanks b) (blank_deed deed) ≡ fits b deed
fits_same b deed = λ i. nat_lt (size_same b i) row_limit && deed_fits_same b deed i

pub base_same : (b : Base) → is_base (with_blanks b) ≡ is_base b
base_same [] = refl
base_same (row ∷ older) = λ i. fits_same older row.deed i && base_same older i
