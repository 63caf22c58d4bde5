-- In a base a checkout's origin is a version of its element.
use Rattle.std.proofs.Common.{◌≡◌, refl, ap, sym, subst, ◌∙◌, ℕ, Bool, true, false, cond, not, ◌&&◌, ◌==◌, Option, Some, None}
use Rattle.std.proofs.Common.{List, ◌∷◌, length}
use Rattle.std.specs.Prelude.{option_and_then, bytes_eq, find}
use Rattle.cc_names.specs.Formed.{Plain}
use Rattle.cc_names.specs.Last.{Ends, Sets, only_if}
use Rattle.cc_names.specs.Versions.{Version, version_id_of, change_at, versions_on, version_of_change, put_if, version_id}
use Rattle.cc_names.specs.Versions.{element_of_branch, element_by, row_of_change, branch_of_change}
use Rattle.cc_names.specs.declared.changes.TreeChange.{TreeChange}
use Rattle.cc_names.specs.declared.changes.TreeChange.TheVariants.{ElementMade, BranchMade}
use Rattle.cc_names.specs.declared.rows.Deed.{Deed}
use Rattle.cc_names.specs.declared.rows.Deed.TheVariants as deeds
use Rattle.cc_names.specs.declared.rows.Tag.{Tag}
use Rattle.cc_names.specs.declared.rows.Out.{Out}
use Rattle.cc_names.specs.declared.rows.Out.TheVariants as outs
use Rattle.cc_names.proofs.Common.{same_inside, same_number, and_second}
use Rattle.base_model.specs.Rows.{Base, size}
use Rattle.base_model.specs.Changes.{tree}
use Rattle.base_model.specs.Checkouts.{is_latest}
use Rattle.base_model.specs.Conditions.{exists, has_out}
use Rattle.base_model.specs.Closures.{is_of_element, is_version_of}
use Rattle.base_model.specs.Fits.{deed_fits, is_base, may_reserve}
use Rattle.base_model.specs.Views.{Checkout, TakenOut, made_out, taken_out, checkout_of_element, checkout_of_branch, set_by}
use Rattle.base_model.specs.Views.{out_effect, out}
use Rattle.base_model.proofs.Below.{last_holds}
use Rattle.base_model.proofs.Owned.{row_fits, rows_below, same_is_same, third_of}
use Rattle.base_model.proofs.VersionsStay.{Parts, version_id_by, version_stays}

-- the newest change is found by its number
pub newest_change : (change : TreeChange) (before : List TreeChange) (n : ℕ) → (row_of_change change == n) ≡ true
    → change_at (change ∷ before) n ≡ Some change
newest_change change before n e = ap (λ b. cond b (Some change) (change_at before n)) e

pub newest_version : (v : Version) (rest : List Version) (n : ℕ) (on : Bool) → on ≡ true → (v.row == n) ≡ true
    → find (λ v. v.row == n) (put_if on v rest) ≡ Some v
newest_version v rest n on here number = rw here (ap (λ b. cond b (Some v) (find (λ v. v.row == n) rest)) number)

-- the version id by the newest change, which makes its own branch of element e
own_parts : (change : TreeChange) (before : List TreeChange) (e n : ℕ) → (row_of_change change == n) ≡ true
    → branch_of_change change ≡ n → element_by change ≡ Some e →
    Parts (change ∷ before) n (version_id_of (version_of_change change (length (versions_on before (branch_of_change change)))) e)
own_parts change before e n number branch owner = record {
  change = change;
  version = version_of_change change (length (versions_on before (branch_of_change change)));
  made = newest_change change before n number;
  found = newest_version (version_of_change change (length (versions_on before (branch_of_change change))))
      (versions_on before (branch_of_change change)) n
      (branch_of_change change == branch_of_change change) (same_is_same (branch_of_change change)) number;
  owner = ap (λ m. element_of_branch (change ∷ before) m) branch ∙ ap (option_and_then element_by)
      (newest_change change before n number) ∙ owner;
  is = refl;
}

own_version : (change : TreeChange) (before : List TreeChange) (e n : ℕ) → (row_of_change change == n) ≡ true
    → branch_of_change change ≡ n → element_by change ≡ Some e →
    is_of_element e (version_id (change ∷ before) n) ≡ true
own_version change before e n number branch owner =
    subst (λ o. is_of_element e o ≡ true) (sym (version_id_by (change ∷ before) n _
    (own_parts change before e n number branch owner))) (same_is_same e)

-- a checkout that a row makes is of an element of which its origin is a version, once the row is there
abbrev HasItsOrigin : Base → TakenOut → Type 0
HasItsOrigin b taken = is_version_of b taken.element taken.checkout.origin ≡ true

origin_of_element : (older : Base) (row : Plain) (v : List ℕ) (out_too : Bool) (taken : TakenOut)
    → is_version_of (row ∷ older) (size older) (size older) ≡ true →
    taken_out v (size older) (checkout_of_element out_too (size older)) ≡ Some taken → HasItsOrigin (row ∷ older) taken
origin_of_element older row v true taken h e = subst (HasItsOrigin (row ∷ older)) (same_inside e) h
origin_of_element older row v false taken h e = absurd (cc)

origin_of_branch : (older : Base) (row : Plain) (v : List ℕ) (f : ℕ) (how : Out) (taken : TakenOut)
    → is_version_of (row ∷ older) f (size older) ≡ true →
    taken_out v f (checkout_of_branch how (size older)) ≡ Some taken → HasItsOrigin (row ∷ older) taken
origin_of_branch older row v f outs.No taken h e = absurd (cc)
origin_of_branch older row v f outs.Reserved taken h e = subst (HasItsOrigin (row ∷ older)) (same_inside e) h
origin_of_branch older row v f outs.Unreserved taken h e = subst (HasItsOrigin (row ∷ older)) (same_inside e) h

origin_of_made : (older : Base) (tag : Tag) (moment : ℕ) (deed : Deed) (taken : TakenOut) → deed_fits older deed ≡ true →
    made_out (size older) deed ≡ Some taken → HasItsOrigin (record { tag = tag; moment = moment; deed = deed } ∷ older) taken
origin_of_made older tag moment (deeds.Mkelem v directory name kind out_too) taken fit e =
    origin_of_element older (record { tag = tag; moment = moment; deed = deeds.Mkelem v directory name kind out_too }) v out_too
    taken
    (own_version (ElementMade (size older) moment kind) (tree older) (size older) (size older) (same_is_same (size older)) refl
    refl) e
origin_of_made older tag moment (deeds.Checkout v f origin reserved) taken fit e =
    subst (HasItsOrigin (record { tag = tag; moment = moment; deed = deeds.Checkout v f origin reserved } ∷ older))
    (same_inside e)
    (version_stays (record { tag = tag; moment = moment; deed = deeds.Checkout v f origin reserved }) older f origin
    (third_of (exists older v) (not (has_out older v f)) (is_version_of older f origin) (is_latest older origin)
    (may_reserve older origin reserved) fit))
origin_of_made older tag moment (deeds.Branch v f origin name how) taken fit e =
    origin_of_branch older (record { tag = tag; moment = moment; deed = deeds.Branch v f origin name how }) v f how taken
    (own_version (BranchMade (size older) moment f origin name) (tree older) f (size older) (same_is_same (size older)) refl refl)
    e
origin_of_made older tag moment deed taken fit e = absurd (cc)

-- what a made checkout sets is its own
pub set_is : (v : List ℕ) (e : ℕ) (made : Option TakenOut) (checkout : Checkout) → set_by v e made ≡ Sets checkout
    → (taken : TakenOut) × (made ≡ Some taken) × (taken.element ≡ e) × (taken.checkout ≡ checkout)
set_is v e None checkout h = absurd (cc)
set_is v e (Some taken) checkout h = by (bytes_eq taken.view v && (taken.element == e)) refl h
  where
    by : (x : Bool) → (bytes_eq taken.view v && (taken.element == e)) ≡ x → only_if x (Sets taken.checkout) ≡ Sets checkout →
        (t : TakenOut) × (Some taken ≡ Some t) × (t.element ≡ e) × (t.checkout ≡ checkout)
    by true test h = let number = and_second (bytes_eq taken.view v) (taken.element == e) test in
        (taken, refl, same_number taken.element e number, cc)
    by false test h = absurd (cc)

ends_nothing : (test : Bool) (checkout : Checkout) → only_if test Ends ≡ Sets checkout → ⊥
ends_nothing true checkout h = cc
ends_nothing false checkout h = cc

pub out_sets : (v : List ℕ) (e n : ℕ) (deed : Deed) (checkout : Checkout) → out_effect v e n deed ≡ Sets checkout
    → set_by v e (made_out n deed) ≡ Sets checkout
out_sets v e n (deeds.Mkview w) checkout h = absurd (ends_nothing _ checkout h)
out_sets v e n (deeds.Rmview w) checkout h = absurd (ends_nothing _ checkout h)
out_sets v e n (deeds.Checkin w f) checkout h = absurd (ends_nothing _ checkout h)
out_sets v e n (deeds.Uncheckout w f) checkout h = absurd (ends_nothing _ checkout h)
out_sets v e n deed checkout h = h

pub out_is_version : (b : Base) (v : List ℕ) (e : ℕ) (checkout : Checkout) → is_base b ≡ true → out b v e ≡ Some checkout
    → is_version_of b e checkout.origin ≡ true
out_is_version b v e checkout h is =
    last_holds {X = Plain} {A = Checkout} (λ b checkout. is_base b ≡ true
    → is_version_of b e checkout.origin ≡ true) (λ older row. out_effect v e (size older) row.deed)
    (λ row older checkout before h. version_stays row older e checkout.origin (before (rows_below row older h)))
    (λ row older checkout effect h.
    let set = set_is v e (made_out (size older) row.deed) checkout (out_sets v e (size older) row.deed checkout effect) in
    let sound = origin_of_made older row.tag row.moment row.deed set.0 (row_fits row older h) set.1 in
    subst (λ c. is_version_of (row ∷ older) e c.origin ≡ true) set.3
    (subst (λ e. is_version_of (row ∷ older) e set.0.checkout.origin ≡ true) set.2 sound))
    b checkout is h
