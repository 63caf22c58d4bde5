-- A checkin makes the next version on the branch of its checkout's origin, where there are both.
use Rattle.std.proofs.Common.{◌≡◌, ℕ, List, ◌∷◌, Option, Some, None, ap, sym, subst, ◌∙◌}
use Rattle.std.specs.Prelude.{IfOk}
use Rattle.cc_names.specs.Branches.{branch_of_version}
use Rattle.cc_names.specs.Formed.{Plain}
use Rattle.cc_names.specs.declared.changes.TreeChange.TheVariants.{VersionMade}
use Rattle.cc_names.specs.declared.rows.Deed.{Deed}
use Rattle.cc_names.specs.declared.rows.Deed.TheVariants as deeds
use Rattle.base_model.specs.Changes.{tree, tree_after, with_checkin, with_version}
use Rattle.base_model.specs.Rows.{Base, size}
use Rattle.base_model.specs.Views.{Checkout, out}
use Rattle.base_rows.proofs.Growths.{rooted}
use Rattle.base_rows.specs.Effects.{plain_checkout}
use Rattle.view_lookup.proofs.NextNames.{branch_below, no_version, version_next}
use Rattle.view_lookup.proofs.version_names.next_name.Goals as goal

-- the trees after a checkin of what the view has checked out
behind_checkin : (row : Plain) (b : Base) (v : List ℕ) (e : ℕ) (taken : Option Checkout) → row.deed ≡ deeds.Checkin v e
    → out b v e ≡ taken → tree (row ∷ b) ≡ with_checkin (size b) row.moment taken (tree b)
behind_checkin row b v e taken is found =
    ap (λ (deed : Deed). tree_after b row.moment deed (tree b)) is ∙ ap
    (λ (o : Option Checkout). with_checkin (size b) row.moment o (tree b)) found

pub returns-in-None : goal.returns-in-None
returns-in-None c = λ row is.
    let b = c.args.rows.now in
    c.nothing.ensures ∙ sym (no_version row b (behind_checkin row b c.args.view.now c.args.element None is
    (sym c.in-None.ensures)))

pub returns-in-None-branch_of_version : goal.returns-in-None-branch_of_version
returns-in-None-branch_of_version c = λ row is.
    let b = c.args.rows.now in
    c.nothing-in-None-branch_of_version.ensures
    ∙ sym (no_version row b (behind_checkin row b c.args.view.now c.args.element (Some (plain_checkout c.in-Some.checkout)) is
    (sym c.in-Some.ensures)
    ∙ ap (λ o. with_version (size b) row.moment o (tree b)) (sym c.in-None-branch_of_version.ensures)))

pub name_on-requires : goal.name_on-requires
name_on-requires c = rooted (tree c.args.rows.now) c.in-Some.checkout.origin c.in-Some-branch_of_version.branch
    (sym c.in-Some-branch_of_version.ensures)

pub returns-in-Some-branch_of_version : goal.returns-in-Some-branch_of_version
returns-in-Some-branch_of_version c = λ row is.
    let b = c.args.rows.now in
    let branch = c.in-Some-branch_of_version.branch in
    let on : branch_of_version (tree b) c.in-Some.checkout.origin ≡ Some branch = sym c.in-Some-branch_of_version.ensures in
    let made : tree (row ∷ b) ≡ VersionMade (size b) row.moment branch ∷ tree b =
    behind_checkin row b c.args.view.now c.args.element (Some (plain_checkout c.in-Some.checkout)) is (sym c.in-Some.ensures)
    ∙ ap (λ o. with_version (size b) row.moment o (tree b)) on in
    subst (λ (name : List ℕ). IfOk c.name_on.result (λ text. text ≡ name))
    (sym (version_next row b branch row.moment (branch_below b c.in-Some.checkout.origin branch on) made)) c.name_on.ensures
