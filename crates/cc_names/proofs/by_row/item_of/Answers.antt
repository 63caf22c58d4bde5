use Rattle.std.proofs.Common.{◌≡◌, ◌<◌, length, get_or, slice_get, eqb, Some, None, sym, ap, ◌∙◌, rules}
use Rattle.std.specs.Prelude.{find, option_copied}
use Rattle.std.proofs.lemmas.Option.{slice_get-get_or}
use Rattle.cc_names.proofs.ByRows.{find-reverse}
use Rattle.cc_names.proofs.by_row.item_of.Goals as goal

-- the item at the place that was found
pub returns : goal.returns
returns g c =
    let row_in = g.T.ByRow.row_in in
    let items = c.args.items.now in
    let item = c.index-items-place.result in
    let found : slice_get items c.in_ok-place.place ≡ find (λ x. eqb (row_in x) c.args.row) items = search rules in
    let within : c.in_ok-place.place < length items = search rules in
    let there : get_or items c.in_ok-place.place item ≡ item = search rules in
    ap Some (sym there) ∙ sym (slice_get-get_or items c.in_ok-place.place item within) ∙ found
    ∙ sym (find-reverse row_in c.args.row items c.requires)

-- nothing was found
pub returns-in_err-place : goal.returns-in_err-place
returns-in_err-place g c =
    let row_in = g.T.ByRow.row_in in
    let missed : None ≡ find (λ x. eqb (row_in x) c.args.row) c.args.items.now = search rules in
    ap option_copied c.from_residual.ensures ∙ missed ∙ sym (find-reverse row_in c.args.row c.args.items.now c.requires)
