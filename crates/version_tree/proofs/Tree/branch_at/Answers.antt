use Rattle.std.proofs.Common.{◌≡◌, reverse, map, ap, ◌∙◌}
use Rattle.std.specs.Prelude.{option_copied}
use Rattle.cc_names.specs.Falling.{Falls}
use Rattle.version_tree.specs.Branches.{row_of_later}
use Rattle.version_tree.specs.TreeFields.{branch_at}
use Rattle.version_tree.proofs.Found.{if_copied, versions_found, versions_found_of_first_rows, found_falls}
use Rattle.version_tree.proofs.Tree.branch_at.Goals as goal

pub returns-clause-versions : goal.returns-clause-versions
returns-clause-versions c =
    let found : option_copied c.item_of.result ≡ branch_at (reverse c.self.inside.branches.items) c.args.branch =
    c.item_of.ensures ∙ ap (λ items. branch_at (reverse items) c.args.branch) c.deref.ensures.value in
    rw (← c.self.view_is) (versions_found _ _ c.self.invariant c.args.branch _ found)

pub returns-clause-first_rows : goal.returns-clause-first_rows
returns-clause-first_rows c =
    let found : option_copied c.item_of.result ≡ branch_at (reverse c.self.inside.branches.items) c.args.branch =
    c.item_of.ensures ∙ ap (λ items. branch_at (reverse items) c.args.branch) c.deref.ensures.value in
    λ rows. rw (← c.self.view_is) (versions_found_of_first_rows _ _ c.self.invariant c.args.branch _ found rows)

pub returns-clause-falls : goal.returns-clause-falls
returns-clause-falls c =
    let found : option_copied c.item_of.result ≡ branch_at (reverse c.self.inside.branches.items) c.args.branch =
    c.item_of.ensures ∙ ap (λ items. branch_at (reverse items) c.args.branch) c.deref.ensures.value in
    if_copied (λ branch. Falls (map row_of_later (reverse branch.later.items))) c.item_of.result
    (found_falls _ _ c.self.invariant c.args.branch _ found)
