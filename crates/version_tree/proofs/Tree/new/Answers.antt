use Rattle.std.proofs.Common.{◌≡◌, [], ◌∷◌, refl, rules}
use Rattle.cc_names.specs.declared.rows.Kind.TheVariants.{Directory}
use Rattle.cc_names.specs.declared.changes.TreeChange.TheVariants.{ElementMade}
use Rattle.version_tree.specs.declared.changes.Made.{Made}
use Rattle.version_tree.specs.declared.branches.Branch.{Branch}
use Rattle.version_tree.proofs.Found.{nothing_in_step}
use Rattle.version_tree.proofs.Steps.{branch_added}
use Rattle.version_tree.proofs.Tree.new.Goals as goal

-- the root and its branch `main`
pub invariant_of-result : goal.invariant_of-result
invariant_of-result c =
    let m : Made = record { change = ElementMade 0 0 Directory } in
    let b : Branch = record { row = 0; moment = 0; later = c.new.result } in
    let made : c.push.new.self.items ≡ m ∷ [] = search rules in
    let branches : c.push-2.new.self.items ≡ b ∷ [] = search rules in
    rw (made, branches) (branch_added m b [] [] nothing_in_step refl refl refl c.new.ensures.items tt)
