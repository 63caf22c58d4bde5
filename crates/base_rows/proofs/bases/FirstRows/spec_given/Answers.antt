-- A row among the first ones gave what it gave among all; a row after them is none of theirs.
use Rattle.std.proofs.Common.{◌≡◌, ◌<◌, ◌≤◌, suc, List, map, reverse, ap, sym, subst, ◌∙◌, arith}
use Rattle.std.specs.Option.{option_and_then}
use Rattle.cc_names.specs.Falling.{Falls}
use Rattle.base_model.specs.Rows.{Base, deed_at, deed_of, first_rows, size}
use Rattle.base_rows.specs.SetSpecs.{row_of_parsed, rules_at, rules_set, specs_set}
use Rattle.base_rows.specs.Shown.{Shown}
use Rattle.base_rows.specs.declared.view_specs.Parsed.{Parsed}
use Rattle.base_rows.proofs.Prefixes.{size_of_first}
use Rattle.base_rows.proofs.SpecsSet.{no_row_past, row_of_first, rules_by_row, specs_fall}
use Rattle.base_rows.proofs.bases.FirstRows.spec_given.Goals as goal

pub returns-then-size-row : goal.returns-then-size-row
returns-then-size-row c =
    let b = c.args.self.now in
    let past : size b ≤ c.args.row = omega (arith, c.size.ensures.size) in
    ap (λ row. option_and_then rules_set (deed_of row)) (sym (no_row_past b c.args.row past))

pub spec_of-requires : goal.spec_of-requires
spec_of-requires c =
    let all : Base = reverse c.base.inside.rows.items in
    let kept : reverse c.as_slice.result.now ≡ specs_set all = ap (λ (specs : List Parsed). reverse specs)
    c.as_slice.ensures.value ∙ c.base.invariant.specs in
    record { falling = subst (λ (specs : List Parsed). Falls (map row_of_parsed specs)) (sym kept) (specs_fall all) }

pub returns : goal.returns
returns c =
    let row = c.args.row in
    let count = c.self.inside.count in
    let all : Base = reverse c.base.inside.rows.items in
    let kept : reverse c.as_slice.result.now ≡ specs_set all = ap (λ (specs : List Parsed). reverse specs)
    c.as_slice.ensures.value ∙ c.base.invariant.specs in
    let first : first_rows (suc count) all ≡ c.args.self.now = ap (λ (shown : Shown). first_rows (suc count) shown.base)
    c.base.view_is ∙ c.self.view_is in
    let rows : size c.args.self.now ≡ suc count = ap (λ (b : Base). size b) (sym c.self.view_is)
    ∙ size_of_first c.self.inside.base.now.base count c.self.invariant.within in
    let within : row < suc count = omega (arith, c.size.ensures.size) in
    c.spec_of.ensures
    ∙ ap (rules_at row) kept
    ∙ rules_by_row all row
    ∙ ap (λ found. option_and_then rules_set (deed_of found)) (sym (row_of_first all (suc count) row within))
    ∙ ap (λ (b : Base). option_and_then rules_set (deed_at b row)) first
