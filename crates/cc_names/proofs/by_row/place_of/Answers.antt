use Rattle.std.proofs.Common.{◌≡◌, ◌<◌, ◌≤◌, eqb, length, get_or, false, sym, ◌∙◌, arith, rules}
use Rattle.std.proofs.lemmas.Bool.Decides.{nat_tests}
use Rattle.std.proofs.lemmas.Option.{slice_get-get_or}
use Rattle.cc_names.proofs.ByRows.{find_at_row, find_other_row, find_past}
use Rattle.cc_names.proofs.by_row.place_of.Goals as goal

-- the item where the search ended has the row
pub returns-in-Some-clause-found : goal.returns-in-Some-clause-found
returns-in-Some-clause-found g c =
    let row_in = g.T.ByRow.row_in in
    let xs = c.args.items.now in
    let i = c.count_below-place.result in
    let item = c.in-Some.item.now in
    let within : i < length xs = search rules in
    let there : get_or xs i item ≡ item = search rules in
    let same : row_in (get_or xs i item) ≡ c.args.row = rw there (sym c.row.ensures ∙ c.if-row.true) in
    slice_get-get_or xs i item within ∙ sym (find_at_row row_in xs c.args.row i c.requires c.count_below-place.ensures.below item
    within same)

-- it has another one
pub returns-in_default-clause-found : goal.returns-in_default-clause-found
returns-in_default-clause-found g c =
    let row_in = g.T.ByRow.row_in in
    let xs = c.args.items.now in
    let i = c.count_below-place.result in
    let item = c.in-Some.item.now in
    let within : i < length xs = search rules in
    let there : get_or xs i item ≡ item = search rules in
    let other : eqb (row_in item) c.args.row ≡ false = grind (arith, nat_tests, c.row.ensures, c.if-row.false) in
    let differs : eqb (row_in (get_or xs i item)) c.args.row ≡ false = rw there other in
    sym (find_other_row row_in xs c.args.row i c.requires c.count_below-place.ensures.below item within differs)

-- all items have lower rows
pub returns-in_default-2-clause-found : goal.returns-in_default-2-clause-found
returns-in_default-2-clause-found g c =
    let past : length c.args.items.now ≤ c.count_below-place.result = search rules in
    sym (find_past g.T.ByRow.row_in c.args.items.now c.args.row _ c.requires c.count_below-place.ensures.below past)
