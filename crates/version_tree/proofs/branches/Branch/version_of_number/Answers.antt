use Rattle.std.proofs.Common.{reverse, sym, ◌∙◌, ap}
use Rattle.std.proofs.lemmas.List.{reverse-reverse}
use Rattle.version_tree.specs.Branches.{row_within}
use Rattle.version_tree.proofs.VersionsStored.{numbered_stored}
use Rattle.version_tree.proofs.branches.Branch.version_of_number.Goals as goal

-- the row of the number, where it is among the first ones
pub returns : goal.returns
returns c =
    let branch = c.args.self.now in
    let kept = numbered_stored branch.row branch.moment (reverse branch.later.items) c.args.rows c.args.number in
    c.among_first_rows.ensures ∙ ap (row_within c.args.rows) c.row_numbered.ensures
    ∙ sym (rw (reverse-reverse branch.later.items) at kept)
