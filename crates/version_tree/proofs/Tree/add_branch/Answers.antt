use Rattle.std.proofs.Common.{[], ◌∷◌, map, reverse, refl, rules}
use Rattle.std.proofs.lemmas.List.{reverse-append}
use Rattle.cc_names.specs.declared.changes.TreeChange.TheVariants.{BranchMade}
use Rattle.cc_names.specs.Falling.{IsAbove}
use Rattle.version_tree.specs.TreeFields.{row_of_made}
use Rattle.version_tree.specs.declared.changes.Made.{Made}
use Rattle.version_tree.specs.declared.branches.Branch.{Branch}
use Rattle.version_tree.proofs.Steps.{rows_of_made, branch_added}
use Rattle.version_tree.proofs.Readiness.{push_keeps}
use Rattle.version_tree.proofs.Tree.add_branch.Goals as goal

-- the branch with its version 0
pub invariant_of-self : goal.invariant_of-self
invariant_of-self c =
    let made = c.self.inside.made.items in
    let branches = c.self.inside.branches.items in
    let m : Made = record { change = BranchMade c.args.row c.args.moment c.args.element c.args.origin c.args.name } in
    let b : Branch = record { row = c.args.row; moment = c.args.moment; later = c.new-later.result } in
    let above : IsAbove c.args.row (map row_of_made (reverse made)) = rw (rows_of_made (reverse made)) at
    (rw (← c.self.view_is) at c.requires.above) in
    rw (
      c.push_reserved.ensures.items,
      c.push_reserved-2.ensures.items,
      reverse-append made (m ∷ []),
      reverse-append branches (b ∷ []),
    )
    (branch_added m b (reverse made) (reverse branches) c.self.invariant refl refl refl c.new-later.ensures.items above)

-- branches that have room keep it
pub returns : goal.returns
returns c =
    let made = c.self.inside.made.items in
    let m : Made = record { change = BranchMade c.args.row c.args.moment c.args.element c.args.origin c.args.name } in
    let items = c.self.inside.branches.items in
    let b : Branch = record { row = c.args.row; moment = c.args.moment; later = c.new-later.result } in
    rw (← c.self.view_is) (record {
      changes = rw (c.push_reserved.ensures.items, reverse-append made (m ∷ [])) refl;
      room = search rules;
      ready = λ q other is. rw c.push_reserved-2.ensures.items (push_keeps q items b is);
    })
