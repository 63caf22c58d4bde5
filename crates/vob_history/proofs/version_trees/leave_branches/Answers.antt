-- One branch after the other is added.
use Rattle.std.proofs.Common.{ℕ, ◌+◌, List, [], ◌∷◌, ◌++◌, drop, get_or, map, append-nil, append_assoc, ap, sym, ◌∙◌}
use Rattle.std.proofs.lemmas.List.{at_drop_all, at_drop_more}
use Rattle.vob_history.specs.declared.version_trees.Part.{Part}
use Rattle.vob_history.specs.declared.version_trees.Part.TheVariants.{Branch}
use Rattle.vob_history.proofs.version_trees.leave_branches.Goals as goal

pub loop-branch-preserved : goal.loop-branch-preserved
loop-branch-preserved c =
    let depth = c.args.depth in
    let branches = c.deref-branch-items.result.now in
    let i = c.loop-branch.branch-index in
    let left = c.loop-branch.left.items in
    let rest : List Part = map (Branch depth) (drop (i + 1) branches) in
    ap (λ (parts : List Part). parts ++ rest) c.in_ok-push.ensures.items
    ∙ append_assoc left (Branch depth (get_or branches i 0) ∷ []) rest
    ∙ sym (at_drop_more (λ (more : List ℕ). left ++ map (Branch depth) more) branches i 0 c.loop-branch-test.true)
    ∙ c.loop-branch.invariant

pub returns : goal.returns
returns c =
    let depth = c.args.depth in
    let branches = c.deref-branch-items.result.now in
    let left = c.loop-branch.left.items in
    sym (append-nil left)
    ∙ sym (at_drop_all (λ (more : List ℕ). left ++ map (Branch depth) more) branches c.loop-branch.branch-index
    c.loop-branch-test.false)
    ∙ c.loop-branch.invariant
    ∙ ap (λ (more : List ℕ). c.args.left.now.items ++ map (Branch depth) more) (c.deref-branch-items.ensures.value
    ∙ c.in_ok-branches.ensures)
