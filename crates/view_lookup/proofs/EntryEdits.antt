-- What an edit of a catalog does to one name in it.
use Rattle.std.proofs.Common.{◌≡◌, ℕ, Bool, true, false, not, cond, ◌||◌, Option, Some, None, List, refl, ap, sym, subst, ◌∙◌}
use Rattle.std.proofs.Common.{bytes_eq}
use Rattle.std.specs.Prelude.{is_some}
use Rattle.std.specs.Cmp.Lexicographic.{slice_cmp}
use Rattle.std.specs.FinMap.Entries.{find-put, find-where_key}
use Rattle.std.specs.Ordering.{nat_cmp, is_eq}
use Rattle.std.specs.declared.cmp.Ordering.TheVariants.{Equal}
use Rattle.std.proofs.lemmas.Cmp.{nat_list_cmp_total}
use Rattle.std.proofs.lemmas.Map.Text.{is_eq-slice_cmp}
use Rattle.std.proofs.lemmas.Slice.Eq.{bytes_eq-Decides}
use Rattle.cc_names.proofs.Common.{bytes_swapped}
use Rattle.base_model.specs.Catalogs.{Catalog, Edit, Same, BeginsEmpty, BeginsAs, Adds, Removes, Renames, element_named}
use Rattle.base_model.specs.Catalogs.{with_name, without_name, with_new_name, catalog_after}
use Rattle.base_rows.specs.Changed.{begins, changes}

flipped_true : (a b : List ℕ) → bytes_eq a b ≡ true → bytes_eq b a ≡ true
flipped_true a b is = subst (λ c. bytes_eq b c ≡ true) (sym ((bytes_eq-Decides a b).0 is)) ((bytes_eq-Decides b b).1 refl)

-- a name in a catalog with one more name
pub found_with : (name other : List ℕ) (e : ℕ) (catalog : Catalog) → element_named name (with_name other e catalog)
    ≡ cond (bytes_eq name other) (Some e) (element_named name catalog)
found_with name other e catalog =
    find-put (slice_cmp nat_cmp) nat_list_cmp_total name other e catalog
    ∙ ap (λ is. cond is (Some e) (element_named name catalog)) (is_eq-slice_cmp name other)

-- a name in a catalog without one
pub found_without : (name other : List ℕ) (catalog : Catalog) → element_named name (without_name other catalog)
    ≡ cond (not (bytes_eq name other)) (element_named name catalog) None
found_without name other catalog = find-where_key (slice_cmp nat_cmp) (λ key. not (bytes_eq key other)) name same catalog
  where
    same : (key : List ℕ) → slice_cmp nat_cmp name key ≡ Equal → not (bytes_eq key other) ≡ not (bytes_eq name other)
    same key ties = ap (λ text. not (bytes_eq text other)) (sym ((bytes_eq-Decides name key).0 (sym (is_eq-slice_cmp name key)
        ∙ ap is_eq ties)))

found_with_new : (name other : List ℕ) (found : Option ℕ) (catalog : Catalog) → bytes_eq name other ≡ false
    → element_named name (with_new_name other found catalog) ≡ element_named name catalog
found_with_new name other None catalog apart = refl
found_with_new name other (Some e) catalog apart = found_with name other e catalog
    ∙ ap (λ is. cond is (Some e) (element_named name catalog)) apart

-- an edit that neither begins the catalog nor changes the name leaves it
pub left_alone : (name : List ℕ) (edit : Edit) (of_version : ℕ → Catalog) (own : Catalog) → begins edit ≡ false
    → changes name edit ≡ false → element_named name (catalog_after edit of_version own) ≡ element_named name own
left_alone name Same of_version own none kept = refl
left_alone name BeginsEmpty of_version own none kept = absurd (cc)
left_alone name (BeginsAs origin) of_version own none kept = absurd (cc)
left_alone name (Adds other e) of_version own none kept =
    found_with name other e own ∙ ap (λ is. cond is (Some e) (element_named name own)) (bytes_swapped other name false kept)
left_alone name (Removes other) of_version own none kept =
    found_without name other own ∙ ap (λ is. cond (not is) (element_named name own) None) (bytes_swapped other name false kept)
left_alone name (Renames from_name to_name) of_version own none kept =
    let apart : (bytes_eq from_name name ≡ false) × (bytes_eq to_name name ≡ false) =
    both (bytes_eq from_name name) (bytes_eq to_name name) kept in
    found_with_new name to_name (element_named from_name own) (without_name from_name own)
    (bytes_swapped to_name name false apart.1)
    ∙ found_without name from_name own
    ∙ ap (λ is. cond (not is) (element_named name own) None) (bytes_swapped from_name name false apart.0)
  where
    both : (one two : Bool) → (one || two) ≡ false → (one ≡ false) × (two ≡ false)
    both true two h = absurd (cc)
    both false two h = (refl, h)

-- a name that was added
pub added : (name other : List ℕ) (e : ℕ) (own : Catalog) → bytes_eq other name ≡ true
    → element_named name (with_name other e own) ≡ Some e
added name other e own is = found_with name other e own ∙ ap (λ same. cond same (Some e) (element_named name own))
    (bytes_swapped other name true is)

-- a name that was removed
pub removed : (name other : List ℕ) (own : Catalog) → bytes_eq other name ≡ true
    → element_named name (without_name other own) ≡ None
removed name other own is = found_without name other own ∙ ap (λ same. cond (not same) (element_named name own) None)
    (bytes_swapped other name true is)

-- a name that something else had before
pub moved_here : (name from_name to_name : List ℕ) (own : Catalog) → bytes_eq to_name name ≡ true
    → is_some (element_named from_name own) ≡ true
    → element_named name (with_new_name to_name (element_named from_name own) (without_name from_name own))
    ≡ element_named from_name own
moved_here name from_name to_name own is there = by (element_named from_name own) there
  where
    by : (found : Option ℕ) → is_some found ≡ true → element_named name (with_new_name to_name found (without_name from_name own))
        ≡ found
    by None some = absurd (cc)
    by (Some e) some = added name to_name e (without_name from_name own) is

-- a name whose element has another one now
pub moved_away : (name from_name to_name : List ℕ) (own : Catalog) → bytes_eq to_name name ≡ false
    → bytes_eq from_name name ≡ true
    → element_named name (with_new_name to_name (element_named from_name own) (without_name from_name own)) ≡ None
moved_away name from_name to_name own apart is =
    found_with_new name to_name (element_named from_name own) (without_name from_name own)
    (bytes_swapped to_name name false apart)
    ∙ removed name from_name own is
