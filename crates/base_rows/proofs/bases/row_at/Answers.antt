-- Row n + 1 stands at place n of the list of rows.
use Rattle.std.proofs.Common.{Bor, ℕ, suc, Option, Some, None, List, sym, refl, ap, ◌≡◌, ◌∙◌, ◌<◌, ◌≤◌, length, reverse, get_or}
use Rattle.std.proofs.Common.{arith, IfSome}
use Rattle.std.proofs.lemmas.Bool.Decides.{nat_tests}
use Rattle.std.proofs.lemmas.List.{reverse-reverse}
use Rattle.std.proofs.lemmas.Option.{slice_get_past, slice_get_read}
use Rattle.std.specs.List.{slice_get}
use Rattle.std.specs.Option.{option_copied}
use Rattle.std.specs.Prelude.{is_some, nat_lt}
use Rattle.base_model.specs.Rows.{Base, row_at}
use Rattle.base_rows.proofs.RowTexts.{row_numbered, no_row}
use Rattle.base_rows.proofs.bases.row_at.Goals as goal

-- what a look-up in a slice gives
looked_up : {X : Type 0} (xs : List X) (i : ℕ) (found : Option (Bor X)) → is_some found ≡ nat_lt i (length xs)
    → IfSome found (λ x. x.now ≡ get_or xs i x.now) → option_copied found ≡ slice_get xs i
looked_up xs i None there known =
    let past : length xs ≤ i = grind (arith, nat_tests) in
    sym (slice_get_past xs i past)
looked_up xs i (Some x) there known =
    let within : i < length xs = grind (arith, nat_tests) in
    sym (slice_get_read xs (length xs) i x.now refl within known)

pub returns-in_err-index : goal.returns-in_err-index
returns-in_err-index c =
    let zero : c.args.number ≡ 0 = omega (arith, c.in_err-index.ensures) in
    ap option_copied c.from_residual.ensures
    ∙ sym (ap (row_at c.args.rows.now) zero ∙ no_row c.args.rows.now)

pub returns : goal.returns
returns c =
    let index = c.in_ok-index.index in
    let kept = c.as_slice.result.now in
    let number : c.args.number ≡ suc index = omega (arith, c.in_ok-index.ensures) in
    let back : reverse kept ≡ c.args.rows.now = ap (λ (rows : Base). reverse rows) c.as_slice.ensures
    ∙ reverse-reverse c.args.rows.now in
    looked_up kept index c.get.result c.get.ensures.lookup.0 c.get.ensures.lookup.1
    ∙ sym (ap (row_at c.args.rows.now) number ∙ ap (λ (rows : Base). row_at rows (suc index)) (sym back)
    ∙ row_numbered kept index)
