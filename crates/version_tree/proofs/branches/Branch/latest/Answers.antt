use Rattle.std.proofs.Common.{◌≡◌, ◌≤◌, length, Some, None, sym, ap, ◌∙◌, take, reverse, ltb, arith}
use Rattle.std.specs.Prelude.{option_map, find}
use Rattle.std.specs.Option.{option_or}
use Rattle.std.proofs.lemmas.Grind.{common_steps}
use Rattle.cc_names.specs.Versions.{is_before}
use Rattle.version_tree.specs.Branches.{row_of_later, row_if}
use Rattle.version_tree.proofs.VersionsStored.{latest_search}
use Rattle.version_tree.proofs.branches.Branch.latest.Goals as goal

-- a version after version 0 is the last one
pub returns-in-Some : goal.returns-in-Some
returns-in-Some c =
    let branch = c.args.self.now in
    let walked : option_map row_of_later (find (λ l. is_before c.args.before l.moment)
    (reverse (take c.count_below-count.result branch.later.items))) ≡ Some c.in-Some.row =
    grind (arith, common_steps, c.last_before.ensures, c.in-Some.is) in
    let within : c.count_below-count.result ≤ length branch.later.items =
    omega (arith, c.count_below-count.ensures.within, ap length c.deref.ensures.value) in
    sym (latest_search branch c.args.before c.args.rows c.count_below-count.result within
    (rw c.deref.ensures.value at c.count_below-count.ensures.below)
    ∙ ap (λ o. option_or o (row_if (ltb branch.row c.args.rows) (is_before c.args.before branch.moment) branch.row)) walked)

-- it is version 0, or there is none
pub returns-in-None : goal.returns-in-None
returns-in-None c =
    let branch = c.args.self.now in
    let walked : option_map row_of_later (find (λ l. is_before c.args.before l.moment)
    (reverse (take c.count_below-count.result branch.later.items))) ≡ None =
    grind (arith, common_steps, c.last_before.ensures, c.in-None.is) in
    let within : c.count_below-count.result ≤ length branch.later.items =
    omega (arith, c.count_below-count.ensures.within, ap length c.deref.ensures.value) in
    c.first_before.ensures ∙ sym (latest_search branch c.args.before c.args.rows c.count_below-count.result within
    (rw c.deref.ensures.value at c.count_below-count.ensures.below)
    ∙ ap (λ o. option_or o (row_if (ltb branch.row c.args.rows) (is_before c.args.before branch.moment) branch.row)) walked)
