-- What the record of an object lists is, as it is made, the listing itself.
use Rattle.std.proofs.Common.{◌≡◌, refl, ap, sym, subst, ◌∙◌, ℕ, cond, Some, [], ◌∷◌}
use Rattle.std.proofs.lemmas.Cmp.{nat_cmp_total}
use Rattle.std.specs.BTreeMap.{is_at}
use Rattle.std.specs.FinMap.Entries.{below_all, find, is_sorted, same_entries}
use Rattle.std.specs.List.{AllByRecursion}
use Rattle.std.specs.List.Sorted.{IsStrictlySortedBy}
use Rattle.std.specs.Map.{keys_of, lookup}
use Rattle.std.specs.Ordering.{is_eq, is_lt, nat_cmp}
use Rattle.std.specs.Prelude.{T}
use Rattle.std.specs.declared.cmp.Ordering.TheVariants.{Less}
use Rattle.cc_names.proofs.Common.{test_both}
use Rattle.base_model.specs.Closures.{closure, listing}
use Rattle.base_model.specs.Rows.{Base}
use Rattle.base_model.proofs.Listings.{in_order}
use Rattle.base_model.proofs.Tables.{tied}
use Rattle.base_rows.specs.Listings.{HasListing, Versions}

found_same : (e : ℕ) (versions : Versions) → lookup (is_at (nat_cmp e)) versions ≡ find nat_cmp e versions
found_same e [] = refl
found_same e (one ∷ others) = ap (cond (is_eq (nat_cmp e one.0)) (Some one.1)) (found_same e others)

all_below : (e : ℕ) (versions : Versions) → AllByRecursion (λ y. nat_cmp e y ≡ Less) (keys_of versions)
    → T (below_all nat_cmp e versions)
all_below e [] h = tt
all_below e (one ∷ others) h = test_both (is_lt (nat_cmp e one.0)) (below_all nat_cmp e others) (subst T (sym (ap is_lt h.0)) tt)
    (all_below e others h.1)

-- keys that ascend are in order
ascend : (versions : Versions) → IsStrictlySortedBy nat_cmp (keys_of versions) → T (is_sorted nat_cmp versions)
unfolding IsStrictlySortedBy
ascend [] h = tt
ascend (one ∷ others) h = test_both (below_all nat_cmp one.0 others) (is_sorted nat_cmp others) (all_below one.0 others h.0)
    (ascend others h.1)

same_in_order : (versions : Versions) (b : Base) (id : ℕ) → T (is_sorted nat_cmp versions)
    → ((e : ℕ) → find nat_cmp e versions ≡ find nat_cmp e (listing b id)) → versions ≡ listing b id
same_in_order versions b id sorted same = same_entries nat_cmp nat_cmp_total tied versions (listing b id) sorted
    (in_order b (closure b id)) same

-- what is made of an object is what its record lists
pub stored_listing : (versions : Versions) (b : Base) (id : ℕ) → IsStrictlySortedBy nat_cmp (keys_of versions)
    → HasListing versions (listing b id) → versions ≡ listing b id
stored_listing versions b id ordered has = same_in_order versions b id (ascend versions ordered) (λ e. sym (found_same e versions)
    ∙ has e)
