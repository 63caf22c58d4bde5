-- Views, trees, labels, catalogs, checkouts and references are those of a blanked base.
use Rattle.std.proofs.Common.{◌≡◌, refl, ℕ, ◌&&◌, ◌==◌, not, Option, Some, None, List, [], ◌∷◌}
use Rattle.std.specs.Prelude.{find, option_map, bytes_eq}
use Rattle.cc_names.specs.Branches.{branch_of_version}
use Rattle.cc_names.specs.References.{references}
use Rattle.cc_names.specs.Versions.{is_number, put_if}
use Rattle.cc_names.specs.declared.changes.TreeChange.{TreeChange}
use Rattle.cc_names.specs.declared.changes.TreeChange.TheVariants.{ElementMade, BranchMade}
use Rattle.cc_names.specs.declared.changes.ReferenceChange.{ReferenceChange}
use Rattle.cc_names.specs.declared.changes.ReferenceChange.TheVariants.{Won}
use Rattle.cc_names.specs.declared.rows.Deed.{Deed}
use Rattle.cc_names.specs.declared.rows.Deed.TheVariants as deeds
use Rattle.base_model.specs.Blanked.{blank_deed, with_blanks}
use Rattle.base_model.specs.Catalogs.{catalog_of, own_of, catalog_source, edit_of, catalog_after, made_or_older}
use Rattle.base_model.specs.Changes.{tree, tree_after, with_checkin, labels, labels_after, targets_of, targets_of_deed, holdings}
use Rattle.base_model.specs.Changes.{holdings_after, objects_held, live_row, live_effect, kind_of_type, type_effect}
use Rattle.base_model.specs.Checkouts.{row_of_checkout, with_standing, standing_among, checkout_view, reserves, reserver}
use Rattle.base_model.specs.Checkouts.{other_reserver}
use Rattle.base_model.specs.Closures.{is_publish, is_publish_deed}
use Rattle.base_model.specs.Rows.{Base}
use Rattle.base_model.specs.Views.{TakenOut, view_row, view_effect, out, out_effect, made_out, making, making_effect, private}
use Rattle.base_model.specs.Views.{private_effect}
use Rattle.legal_history.proofs.Outputs.Deeds.{deed_same, size_same, last_same, at_same}

pub view_same : (b : Base) (v : List ℕ) → view_row (with_blanks b) v ≡ view_row b v
view_same b v = last_same (view_effect v) (λ n. refl) b

pub out_same : (b : Base) (v : List ℕ) (e : ℕ) → out (with_blanks b) v e ≡ out b v e
out_same b v e = last_same (out_effect v e) (λ n. refl) b

pub making_same : (b : Base) (v : List ℕ) (e : ℕ) → making (with_blanks b) v e ≡ making b v e
making_same b v e = last_same (making_effect v e) (λ n. refl) b

pub private_same : (b : Base) (v path : List ℕ) → private (with_blanks b) v path ≡ private b v path
private_same b v path = last_same (private_effect v path) (λ n. refl) b

pub type_same : (b : Base) (name : List ℕ) → kind_of_type (with_blanks b) name ≡ kind_of_type b name
type_same b name = last_same (λ n. type_effect name) (λ n. refl) b

pub live_same : (b : Base) (id : ℕ) → live_row (with_blanks b) id ≡ live_row b id
live_same b id = last_same (live_effect id) (λ n. refl) b

pub targets_same : (b : Base) (id : ℕ) → targets_of (with_blanks b) id ≡ targets_of b id
targets_same b id = at_same targets_of_deed refl b id

pub publish_same : (b : Base) (id : ℕ) → is_publish (with_blanks b) id ≡ is_publish b id
publish_same b id = at_same is_publish_deed refl b id

tree_step : (older : Base) (moment : ℕ) (deed : Deed) (changes : List TreeChange) →
    tree_after (with_blanks older) moment (blank_deed deed) changes ≡ tree_after older moment deed changes
tree_step older moment (deeds.Mkelem v directory name kind taken) changes =
    λ i. ElementMade (size_same older i) moment kind ∷ changes
tree_step older moment (deeds.Branch v e origin name taken) changes =
    λ i. BranchMade (size_same older i) moment e origin name ∷ changes
tree_step older moment (deeds.Checkin v e) changes = λ i. with_checkin (size_same older i) moment (out_same older v e i) changes
tree_step older moment deed changes = refl

pub tree_same : (b : Base) → tree (with_blanks b) ≡ tree b
tree_same [] = refl
tree_same (row ∷ older) = λ i. tree_step older row.moment row.deed (tree_same older i) i

pub labels_same : (b : Base) → labels (with_blanks b) ≡ labels b
labels_same [] = refl
labels_same (row ∷ older) = λ i. deed_same (λ deed. labels_after (size_same older i) deed (labels_same older i)) refl row.deed i

holdings_step : (older : Base) (deed : Deed) (changes : List ReferenceChange) →
    holdings_after (with_blanks older) (blank_deed deed) changes ≡ holdings_after older deed changes
holdings_step older (deeds.Publish v targets script entries outputs) changes = λ i. Won v targets (size_same older i) ∷ changes
holdings_step older (deeds.Wink v id) changes = λ i. Won v (targets_same older id i) id ∷ changes
holdings_step older deed changes = refl

holdings_same : (b : Base) → holdings (with_blanks b) ≡ holdings b
holdings_same [] = refl
holdings_same (row ∷ older) = λ i. holdings_step older row.deed (holdings_same older i) i

pub held_same : (b : Base) → objects_held (with_blanks b) ≡ objects_held b
held_same b = λ i. references (holdings_same b i)

record SameCatalogs (b : Base) : Type 0 where
  versions : (r : ℕ) → catalog_of (with_blanks b) r ≡ catalog_of b r
  checkouts : (v : List ℕ) (d : ℕ) → own_of (with_blanks b) v d ≡ own_of b v d

catalogs_same : (b : Base) → SameCatalogs b
catalogs_same [] = record { versions = λ r. refl; checkouts = λ v d. refl }
catalogs_same (row ∷ older) =
    let before = catalogs_same older in
    record {
      versions = λ r i. made_or_older (size_same older i == r) (deed_same catalog_source refl row.deed i)
          (λ r. before.versions r i) (λ v d. before.checkouts v d i) r;
      checkouts = λ v d i. catalog_after (deed_same (edit_of v d (size_same older i)) refl row.deed i) (λ r. before.versions r i)
          (before.checkouts v d i);
    }

pub own_same : (b : Base) (v : List ℕ) (d : ℕ) → own_of (with_blanks b) v d ≡ own_of b v d
own_same b = (catalogs_same b).checkouts

standing_step : (b : Base) (o : Option TakenOut) (older : List TakenOut) →
    with_standing (with_blanks b) o older ≡ with_standing b o older
standing_step b None older = refl
standing_step b (Some taken) older =
    λ i. put_if (is_number taken.checkout.row (option_map row_of_checkout (out_same b taken.view taken.element i))) taken older

standing_same : (b rows : Base) → standing_among (with_blanks b) (with_blanks rows) ≡ standing_among b rows
standing_same b [] = refl
standing_same b (row ∷ older) =
    λ i. standing_step b (deed_same (made_out (size_same older i)) refl row.deed i) (standing_same b older i) i

reserves_same : (b : Base) (branch : ℕ) (taken : TakenOut) → reserves (with_blanks b) branch taken ≡ reserves b branch taken
reserves_same b branch taken =
    λ i. taken.checkout.reserved && is_number branch (branch_of_version (tree_same b i) taken.checkout.origin)

pub reserver_same : (b : Base) (branch : ℕ) → reserver (with_blanks b) branch ≡ reserver b branch
reserver_same b branch = λ i. option_map checkout_view (find (λ taken. reserves_same b branch taken i) (standing_same b b i))

pub other_reserver_same : (b : Base) (v : List ℕ) (branch : ℕ) → other_reserver (with_blanks b) v branch
    ≡ other_reserver b v branch
other_reserver_same b v branch =
    λ i. option_map checkout_view (find (λ taken. not (bytes_eq taken.view v) && reserves_same b branch taken i)
    (standing_same b b i))
