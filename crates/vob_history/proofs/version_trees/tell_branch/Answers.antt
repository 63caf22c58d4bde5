-- A branch begins with its line, and its versions are left to tell.
use Rattle.std.proofs.Common.{◌≡◌, ℕ, ◌+◌, ◌<◌, List, [], ◌∷◌, ◌++◌, append_assoc, ap, ap₂, sym, subst, ◌∙◌}
use Rattle.legal_history.specs.Queries.VersionNames.{at_version, branch_name, line}
use Rattle.vob_history.specs.VersionTrees.{left_lines, steps_left, steps_of}
use Rattle.vob_history.specs.declared.version_trees.Part.{Part}
use Rattle.vob_history.specs.declared.version_trees.Part.TheVariants.{Branch}
use Rattle.vob_history.proofs.TreeParts.{branch_fewer, branch_is_written}
use Rattle.vob_history.proofs.version_trees.tell_branch.Goals as goal

pub returns-clause-reported : goal.returns-clause-reported
returns-clause-reported c = λ e.
    let b = c.args.rows.now in
    let path = c.args.path.now in
    let text = c.args.text.now.items in
    let name = branch_name b c.args.branch in
    let written : c.push.new.self.items ≡ text ++ line (at_version path name) =
    c.in_ok-push.ensures.items
    ∙ ap (λ (bytes : List ℕ). bytes ++ 10 ∷ [])
    (c.in_ok-push_at_version.ensures ∙ ap₂ (λ (one two : List ℕ). text ++ at_version one two) c.as_bytes.ensures.bytes
    (c.deref.ensures.value ∙ c.in_ok-name.ensures))
    ∙ append_assoc text (at_version path name) (10 ∷ []) in
    ap₂ (λ (bytes : List ℕ) (parts : List Part). bytes ++ left_lines b path e parts) written c.in_ok-push-2.ensures.items
    ∙ branch_is_written b path e text c.args.left.now.items c.args.depth c.args.branch c.if-depth-eq0.false

pub returns-clause-fewer : goal.returns-clause-fewer
returns-clause-fewer c =
    let b = c.args.rows.now in
    let left = c.args.left.now.items in
    subst (λ (parts : List Part). steps_left b parts < steps_of b (Branch c.args.depth c.args.branch) + steps_left b left)
    (sym c.in_ok-push-2.ensures.items)
    (branch_fewer b left c.args.depth c.args.branch c.if-depth-eq0.false)
