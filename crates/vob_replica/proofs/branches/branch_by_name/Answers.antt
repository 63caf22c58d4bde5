use Rattle.std.proofs.Common.{◌≡◌, ◌∙◌, None, Some, rules}
use Rattle.vob_replica.specs.BranchNames.{told}
use Rattle.vob_replica.proofs.NameLaws.{told-there, told-none}
use Rattle.vob_replica.proofs.branches.branch_by_name.Goals as goal

pub returns-in-Some : goal.returns-in-Some
returns-in-Some c =
    let names = c.args.names.now in
    let is : Some c.in-Some.branch.now ≡ told names c.args.element.now c.args.name.now = search rules in
    c.find_in.ensures
    ∙ told-there names _ c.args.element.now c.args.name.now c.in-Some.branch.now c.requires.kept.order c.requires.names is

pub returns-in-None : goal.returns-in-None
returns-in-None c =
    let names = c.args.names.now in
    let is : None ≡ told names c.args.element.now c.args.name.now = search rules in
    told-none names _ c.args.element.now c.args.name.now c.requires.names is
