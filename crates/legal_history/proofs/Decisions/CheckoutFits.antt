-- The rows of checkouts, of checkins and of branches fit.
use Rattle.std.proofs.Common.{◌≡◌, refl, ap, ◌∙◌, ℕ, Bool, true, false, ◌==◌, Option, Some, None, List, [], ◌∷◌, not, nat_lt}
use Rattle.std.specs.Prelude.{is_some, is_none, option_and_then, option_map, find, reverse}
use Rattle.cc_names.specs.Branches.{branch_of_version, branch_named}
use Rattle.cc_names.specs.Versions.{Version, versions_on, latest, is_before, is_number, row_of_version, branch_of_change}
use Rattle.cc_names.specs.declared.refusals.Refusal.{Refusal}
use Rattle.cc_names.specs.Paths.{names_of}
use Rattle.cc_names.specs.declared.rows.Out.{Out}
use Rattle.cc_names.specs.declared.selection.Picked.{Picked}
use Rattle.cc_names.specs.declared.selection.Rule.{Rule}
use Rattle.cc_names.specs.declared.selection.Seen.TheVariants.{Element}
use Rattle.cc_names.specs.declared.refusals.Refusal.TheVariants as refusals
use Rattle.cc_names.specs.declared.rows.Deed.TheVariants as deeds
use Rattle.base_model.specs.Rows.{Base, size}
use Rattle.base_model.specs.Changes.{tree}
use Rattle.base_model.specs.Checkouts.{latest_beside, is_latest, other_reserver, branch_of}
use Rattle.legal_history.specs.Commands.CheckoutLines.{checkin, checkin_of, checkin_tests, checkout, checkout_of}
use Rattle.legal_history.specs.Commands.CheckoutLines.{checkout_by_rule, checkout_tests, checkout_by, checkout_deed, reserves_if}
use Rattle.legal_history.specs.Commands.CheckoutLines.{branch_by, deciding_rule, mkbranch, mkbranch_of, mkbranch_tests}
use Rattle.legal_history.specs.Commands.CheckoutLines.{out_unless, out_by, uncheckout, uncheckout_of}
use Rattle.base_model.specs.Closures.{is_version_of}
use Rattle.base_model.specs.Conditions.{has_out, may_check_in, exists, is_branch_type, has_branch}
use Rattle.legal_history.specs.Commands.Decisions.{Scene}
use Rattle.legal_history.specs.Commands.Found.{for_element, for_selected}
use Rattle.base_model.specs.Fits.{is_base, fits, row_limit, may_reserve}
use Rattle.base_model.specs.Seen.{at}
use Rattle.legal_history.specs.Commands.CheckoutTests.{needs_no_other, needs_latest_origin, refused_unless_same, needs_out}
use Rattle.legal_history.specs.Commands.CheckoutTests.{needs_not_out}
use Rattle.legal_history.specs.Commands.Tests.{needs_view, needs_idle, needs_branch_type, needs_no_branch}
use Rattle.base_model.specs.Views.{Checkout, out}
use Rattle.legal_history.proofs.Decisions.FileFits.{Fits, RowFits}
use Rattle.legal_history.proofs.Decisions.Handed.{past_is, element_is, row_is, selected_is}
use Rattle.base_model.proofs.Origins.{out_is_version}
use Rattle.legal_history.proofs.Decisions.Passed.{unless_passes, fits_by, AllPass}
use Rattle.base_model.proofs.VersionsStay.{parts_of, of_element}
use Rattle.base_model.proofs.CatalogElements.{IsElement}
use Rattle.base_model.proofs.Makings.{making_is_out, seen_element}
use Rattle.base_model.proofs.Picks.{IsPick, picked_is}

-- what passes where an element is asked to be out, or not to be
pub was_out : (path : List ℕ) (taken : Option Checkout) → needs_out path taken ≡ None → is_some taken ≡ true
was_out path (Some checkout) e = refl
was_out path None e = absurd (cc)

pub was_not_out : (taken : Option Checkout) → needs_not_out taken ≡ None → is_some taken ≡ false
was_not_out None e = refl
was_not_out (Some checkout) e = absurd (cc)

-- an element that stands at a path of a base, with what was picked of it
pub record Picks (b : Base) (v : List ℕ) (e : ℕ) (picked : Picked) : Type 0 where
  pub element : IsElement b e
  pub pick : IsPick b v e picked

pub picks_at : (b : Base) (v path : List ℕ) (e : ℕ) (picked : Picked) → is_base b ≡ true → at b v path ≡ Element e picked
    → Picks b v e picked
picks_at b v path e picked base is =
    let seen = seen_element b v (reverse (names_of path)) e picked is in
    record {
      element = seen.element;
      pick = picked_is b v e (reverse (reverse (names_of path))) picked base seen.element
          seen.picks;
    }

-- where the view has not the element out, a version was picked
picked_version : (b : Base) (v : List ℕ) (e : ℕ) (picked : Picked) → is_base b ≡ true → IsPick b v e picked
    → is_some (out b v e) ≡ false → is_version_of b e picked.row ≡ true
picked_version b v e picked base pick idle = by picked.out refl
  where
    by : (own : Bool) → picked.out ≡ own → is_version_of b e picked.row ≡ true
    by true is = absurd (let taken = making_is_out b v e picked.row base (pick.own is) in cc)
    by false is = pick.version is

-- a branch with some version has a latest one
first_found : (versions : List Version) (r : ℕ) (v : Version) → find (λ v. v.row == r) versions ≡ Some v
    → is_some (option_map row_of_version (find (λ v. is_before None v.moment) versions)) ≡ true
first_found [] r v h = absurd (cc)
first_found (one ∷ more) r v h = refl

-- beside a version there is a latest one
has_latest : (b : Base) (e r : ℕ) → is_version_of b e r ≡ true → is_some (latest_beside b r) ≡ true
has_latest b e r h =
    let p = of_element b e r h in
    let parts = parts_of (tree b) r p.0 p.1 in
    let branch : branch_of_version (tree b) r ≡ Some (branch_of_change parts.change) =
    ap (option_map branch_of_change) parts.made in
    ap (λ o. is_some (option_and_then (λ branch. latest (tree b) branch None) o)) branch
    ∙ first_found (versions_on (tree b) (branch_of_change parts.change)) r parts.version parts.found

latest_passes : (version : ℕ) (newest : Option ℕ) → is_some newest ≡ true → refused_unless_same version newest ≡ None
    → is_number version newest ≡ true
latest_passes version None there h = absurd (cc)
latest_passes version (Some newest) there h = unless_passes _ _ h

pub none_mapped : {A : Type 0} (f : A → Refusal) (o : Option A) → option_map f o ≡ None → is_none o ≡ true
none_mapped f None h = refl
none_mapped f (Some a) h = absurd (cc)

no_some : {A : Type 0} (o : Option A) → is_none o ≡ true → is_some o ≡ false
no_some None h = refl
no_some (Some a) h = absurd (cc)

branch_fits : (b : Base) (v : List ℕ) (e origin : ℕ) (name : List ℕ) (how : Out) → nat_lt (size b) row_limit ≡ true
    → exists b v ≡ true → is_some (out b v e) ≡ false →
    is_version_of b e origin ≡ true → needs_branch_type b name ≡ None → needs_no_branch b e name ≡ None
    → fits b (deeds.Branch v e origin name how) ≡ true
branch_fits b v e origin name how room there idle version typed free =
    let type : is_branch_type b name ≡ true = unless_passes _ _ typed in
    let new : has_branch b e name ≡ false = no_some (branch_named (tree b) e name) (none_mapped refusals.BranchExists _ free) in
    let idle_too : has_out b v e ≡ false = idle in
    fits_by b (deeds.Branch v e origin name how) room (rw (there, idle_too, version, type, new) refl)

reserve_passes : (b : Base) (origin : ℕ) (unreserved : Bool) → AllPass (reserves_if b origin unreserved)
    → may_reserve b origin (not unreserved) ≡ true
reserve_passes b origin true h = refl
reserve_passes b origin false h = none_mapped refusals.Reserved _ h.0

checkout_made : (s : Scene) (v : List ℕ) (unreserved : Bool) (e : ℕ) (picked : Picked) (name : Option (List ℕ))
    → nat_lt (size s.base) row_limit ≡ true →
    exists s.base v ≡ true → is_some (out s.base v e) ≡ false → is_version_of s.base e picked.row ≡ true →
    AllPass (checkout_by s.base unreserved e picked name) → fits s.base (checkout_deed v unreserved e picked name) ≡ true
checkout_made s v unreserved e picked (Some name) room there idle version h =
    branch_fits s.base v e picked.row name (out_by unreserved) room there idle version h.0 h.1.0
checkout_made s v unreserved e picked None room there idle version h =
    let origin = picked.row in
    let idle_too : has_out s.base v e ≡ false = idle in
    let last : is_latest s.base origin ≡ true = latest_passes origin (latest_beside s.base origin)
    (has_latest s.base e origin version) h.0 in
    let reserved : may_reserve s.base origin (not unreserved) ≡ true = reserve_passes s.base origin unreserved h.1 in
    fits_by s.base (deeds.Checkout v e origin (not unreserved)) room (rw (there, idle_too, version, last, reserved) refl)

pub checkout_fits : (s : Scene) (v : List ℕ) (unreserved : Bool) (path : List ℕ) → is_base s.base ≡ true
    → RowFits s (checkout s v unreserved path)
checkout_fits s v unreserved path base =
    past_is (Fits s) (needs_view s.base v ∷ needs_idle s v ∷ []) (for_selected path (at s.base v path)
    (checkout_of s v unreserved))
    (λ before. selected_is (Fits s) path (at s.base v path) (checkout_of s v unreserved) (λ e picked is.
    by e picked (unless_passes _ _ before.0) (picks_at s.base v path e picked base is).pick (deciding_rule s.base v picked)))
  where
    by : (e : ℕ) (picked : Picked) → exists s.base v ≡ true → IsPick s.base v e picked → (rule : Option Rule)
        → RowFits s (checkout_by_rule s v unreserved e picked rule)
    by e picked there pick rule =
        row_is (Fits s) s (checkout_tests s v unreserved e picked rule) (checkout_deed v unreserved e picked (branch_by rule))
        (λ m.
        let idle = was_not_out (out s.base v e) m.pass.0 in
        checkout_made s v unreserved e picked (branch_by rule) m.room there idle (picked_version s.base v e picked base pick idle)
        m.pass.1.1)

pub mkbranch_fits : (s : Scene) (v : List ℕ) (nco : Bool) (name path : List ℕ) → is_base s.base ≡ true
    → RowFits s (mkbranch s v nco name path)
mkbranch_fits s v nco name path base =
    past_is (Fits s) (needs_view s.base v ∷ needs_idle s v ∷ []) (for_selected path (at s.base v path) (mkbranch_of s v nco name))
    (λ before. selected_is (Fits s) path (at s.base v path) (mkbranch_of s v nco name) (λ e picked is.
    by e picked (unless_passes _ _ before.0) (picks_at s.base v path e picked base is).pick))
  where
    by : (e : ℕ) (picked : Picked) → exists s.base v ≡ true → IsPick s.base v e picked
        → RowFits s (mkbranch_of s v nco name e picked)
    by e picked there pick =
        row_is (Fits s) s (mkbranch_tests s v name e) (deeds.Branch v e picked.row name (out_unless nco)) (λ m.
        let idle = was_not_out (out s.base v e) m.pass.0 in
        branch_fits s.base v e picked.row name (out_unless nco) m.room there idle
        (picked_version s.base v e picked base pick idle) m.pass.1.0 m.pass.1.1.0)

pub uncheckout_fits : (s : Scene) (v path : List ℕ) → RowFits s (uncheckout s v path)
uncheckout_fits s v path =
    past_is (Fits s) (needs_view s.base v ∷ needs_idle s v ∷ []) (for_element path (at s.base v path) (uncheckout_of s v path))
    (λ before. element_is (Fits s) path (at s.base v path) (uncheckout_of s v path) of_element)
  where
    of_element : (e : ℕ) → RowFits s (uncheckout_of s v path e)
    of_element e = row_is (Fits s) s (needs_out path (out s.base v e) ∷ []) (deeds.Uncheckout v e)
        (λ m. fits_by s.base (deeds.Uncheckout v e) m.room (was_out path _ m.pass.0))

checked_in : (b : Base) (v : List ℕ) (e : ℕ) (taken : Option Checkout)
    → ((c : Checkout) → taken ≡ Some c → is_version_of b e c.origin ≡ true) → is_some taken ≡ true →
    needs_no_other b v taken ≡ None → needs_latest_origin b taken ≡ None → may_check_in b v taken ≡ true
checked_in b v e None known there free newest = absurd (cc)
checked_in b v e (Some c) known there free newest =
    let alone : is_none (option_and_then (other_reserver b v) (branch_of b c)) ≡ true = none_mapped refusals.Reserved _ free in
    let last : is_latest b c.origin ≡ true = latest_passes c.origin (latest_beside b c.origin)
    (has_latest b e c.origin (known c refl)) newest in
    rw (alone, last) refl

pub checkin_fits : (s : Scene) (v : List ℕ) (identical : Bool) (path : List ℕ) → is_base s.base ≡ true
    → RowFits s (checkin s v identical path)
checkin_fits s v identical path h =
    past_is (Fits s) (needs_view s.base v ∷ needs_idle s v ∷ []) (for_element path (at s.base v path)
    (checkin_of s v identical path))
    (λ before. element_is (Fits s) path (at s.base v path) (checkin_of s v identical path) of_element)
  where
    of_element : (e : ℕ) → RowFits s (checkin_of s v identical path e)
    of_element e =
        row_is (Fits s) s (checkin_tests s v identical path e) (deeds.Checkin v e)
        (λ m. fits_by s.base (deeds.Checkin v e) m.room
        (checked_in s.base v e (out s.base v e) (λ c is. out_is_version s.base v e c h is)
        (was_out path (out s.base v e) m.pass.0) m.pass.1.0 m.pass.1.1.0))
