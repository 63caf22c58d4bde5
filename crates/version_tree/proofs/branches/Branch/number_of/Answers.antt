use Rattle.std.proofs.Common.{◌≡◌, ◌<◌, eqb, true, false, cond, length, Some, None, slice_get, sym, ◌∙◌, ap, arith}
use Rattle.std.specs.Prelude.{find}
use Rattle.std.proofs.lemmas.Bool.Decides.{nat_tests}
use Rattle.std.proofs.lemmas.Grind.{common_steps}
use Rattle.version_tree.specs.Branches.{row_of_later}
use Rattle.version_tree.proofs.VersionsStored.{number_found, number_missed}
use Rattle.version_tree.proofs.branches.Branch.number_of.Goals as goal

-- a version after version 0
pub returns-in-Some : goal.returns-in-Some
returns-in-Some c =
    let branch = c.args.self.now in
    let found : slice_get branch.later.items c.in-Some.behind ≡ find (λ l. eqb (row_of_later l) c.args.row) branch.later.items =
    grind (arith, common_steps, c.place_of.ensures.found, c.in-Some.is, c.deref.ensures.value) in
    let within : c.in-Some.behind < length branch.later.items =
    grind (arith, common_steps, c.place_of.ensures.within, c.in-Some.is, c.deref.ensures.value) in
    sym (number_found branch.row branch.moment branch.later.items c.args.row c.requires c.in-Some.behind within found)

-- version 0
pub returns-in-None : goal.returns-in-None
returns-in-None c =
    let branch = c.args.self.now in
    let missed : find (λ l. eqb (row_of_later l) c.args.row) branch.later.items ≡ None =
    grind (arith, common_steps, c.place_of.ensures.found, c.in-None.is, c.deref.ensures.value) in
    let same : eqb branch.row c.args.row ≡ true = grind (arith, nat_tests, c.if-self-row.true) in
    sym (number_missed branch.row branch.moment branch.later.items c.args.row c.requires missed
    ∙ ap (λ t. cond t (Some 0) None) same)

-- no version of this branch
pub returns-in-None-2 : goal.returns-in-None-2
returns-in-None-2 c =
    let branch = c.args.self.now in
    let missed : find (λ l. eqb (row_of_later l) c.args.row) branch.later.items ≡ None =
    grind (arith, common_steps, c.place_of.ensures.found, c.in-None.is, c.deref.ensures.value) in
    let differs : eqb branch.row c.args.row ≡ false = grind (arith, nat_tests, c.if-self-row.false) in
    sym (number_missed branch.row branch.moment branch.later.items c.args.row c.requires missed
    ∙ ap (λ t. cond t (Some 0) None) differs)
