-- What follows a version is a row of the base.
use Rattle.std.proofs.Common.{◌≡◌, refl, ap, subst, ◌∙◌, ℕ, suc, ◌<◌, Bool, true, false, ◌&&◌, ◌||◌, ◌==◌, Option, Some}
use Rattle.std.proofs.Common.{None, List, [], ◌∷◌, arith}
use Rattle.std.specs.Prelude.{cond, find, not, option_and_then, option_map}
use Rattle.cc_names.specs.Branches.{origin_by}
use Rattle.cc_names.specs.Versions.{Version, change_at, is_number, version_of_number, row_of_change, row_of_version, version_at}
use Rattle.cc_names.specs.Versions.{versions_on}
use Rattle.cc_names.specs.declared.changes.TreeChange.{TreeChange}
use Rattle.cc_names.specs.declared.rows.Deed.{Deed}
use Rattle.cc_names.specs.declared.rows.Deed.TheVariants as deeds
use Rattle.cc_names.proofs.Common.{same_inside, number_found, same_number, and_first, and_second}
use Rattle.base_model.specs.Rows.{Base, size}
use Rattle.base_model.specs.Changes.{tree}
use Rattle.base_model.specs.Closures.{is_version_of}
use Rattle.base_model.specs.Fits.{deed_fits, is_base}
use Rattle.legal_history.specs.Queries.Merges.{follows, is_arrow_between, is_branch_from, is_successor, leads}
use Rattle.base_model.proofs.Below.{within}
use Rattle.base_model.proofs.OnBranches.{all_stand}
use Rattle.base_model.proofs.Owned.{row_fits, rows_below}
use Rattle.base_model.proofs.VersionRows.{version_below}

-- a version on a branch is one
numbered_below : (b : Base) (branch k r : ℕ) → version_of_number (tree b) branch k ≡ Some r → r < size b
numbered_below b branch k r h = by (find (λ v. v.number == k) (versions_on (tree b) branch)) refl h
  where
    by : (o : Option Version) → find (λ v. v.number == k) (versions_on (tree b) branch) ≡ o → option_map row_of_version o ≡ Some r
        → r < size b
    by None found h = absurd (cc)
    by (Some v) found h =
        let stands = (all_stand b).stands branch (λ v. v.number == k) v found in
        subst (λ n. n < size b) (same_inside h) ((within b).numbers v.row stands.change stands.made)

successor_below : (b : Base) (one two : ℕ) → is_successor b one two ≡ true → two < size b
successor_below b one two h = by (version_at (tree b) one) (number_found two
    (option_and_then (λ version. version_of_number (tree b) version.branch (suc version.number)) (version_at (tree b) one)) h)
  where
    by : (o : Option Version) → option_and_then (λ version. version_of_number (tree b) version.branch (suc version.number)) o
        ≡ Some two → two < size b
    by None h = absurd (cc)
    by (Some version) h = numbered_below b version.branch (suc version.number) two h

-- a change of this number is found by it
found_change : (changes : List TreeChange) (one two : ℕ) → is_branch_from changes one two ≡ true → (c : TreeChange)
    × (change_at changes two ≡ Some c)
found_change [] one two h = absurd (cc)
found_change (change ∷ older) one two h = by (row_of_change change == two) (is_number one (origin_by change)) refl h
    (found_change older one two)
  where
    by : (s t : Bool) → (row_of_change change == two) ≡ s → ((s && t) || is_branch_from older one two) ≡ true
        → (is_branch_from older one two ≡ true → (c : TreeChange) × (change_at older two ≡ Some c)) →
        (c : TreeChange) × (change_at (change ∷ older) two ≡ Some c)
    by true t e h rest = (change, ap (λ x. cond x (Some change) (change_at older two)) e)
    by false t e h rest = let before = rest h in (before.0, ap (λ x. cond x (Some change) (change_at older two)) e ∙ before.1)

branch_below : (b : Base) (one two : ℕ) → is_branch_from (tree b) one two ≡ true → two < size b
branch_below b one two h = let c = found_change (tree b) one two h in (within b).numbers two c.0 c.1

head_below : (b : Base) (one two : ℕ) (deed : Deed) → deed_fits b deed ≡ true → leads one two deed ≡ true → two < size b
head_below b one two (deeds.Arrow e tail head) fit h =
    let number = same_number head two (and_second (tail == one) (head == two) h) in
    let prefix = and_first (is_version_of b e tail && is_version_of b e head && not (tail == head)) _ fit in
    subst (λ n. n < size b) number
    (version_below b e head (and_second (is_version_of b e tail) (is_version_of b e head)
    (and_first (is_version_of b e tail && is_version_of b e head) (not (tail == head)) prefix)))
head_below b one two deed fit h = absurd (cc)

arrow_below : (b : Base) (one two : ℕ) → is_base b ≡ true → is_arrow_between b one two ≡ true → two < size b
arrow_below [] one two base h = absurd (cc)
arrow_below (row ∷ older) one two base h = by (leads one two row.deed) refl h
    (arrow_below older one two (rows_below row older base))
  where
    by : (t : Bool) → leads one two row.deed ≡ t → (t || is_arrow_between older one two) ≡ true
        → (is_arrow_between older one two ≡ true → two < size older) → two < size (row ∷ older)
    by true e h rest = let low = head_below older one two row.deed (row_fits row older base) e in omega arith
    by false e h rest = let low = rest h in omega arith

pub follower_below : (b : Base) (one two : ℕ) → is_base b ≡ true → follows b one two ≡ true → two < size b
follower_below b one two base h = by (is_successor b one two) (is_branch_from (tree b) one two) refl refl h
  where
    by : (s t : Bool) → is_successor b one two ≡ s → is_branch_from (tree b) one two ≡ t
        → (s || t || is_arrow_between b one two) ≡ true → two < size b
    by true t e f h = successor_below b one two e
    by false true e f h = branch_below b one two f
    by false false e f h = arrow_below b one two base h
