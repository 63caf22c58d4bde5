-- The row that the number names, where there is one, has the text, or an older row has.
use Rattle.std.proofs.Common.{◌≡◌, None, sym, ap, ◌∙◌, arith, rules}
use Rattle.std.specs.Option.{option_copied}
use Rattle.base_model.specs.Rows.{Base, first_rows, row_at, size}
use Rattle.base_model.specs.Texts.{source_of, text}
use Rattle.base_model.proofs.Stay.{all_rows}
use Rattle.view_lookup.specs.Sources.{plain_source}
use Rattle.view_lookup.proofs.TextRows.{below_shorter, text_by, text_of_row, text_by_its_row}
use Rattle.view_lookup.proofs.texts.text_of.Goals as goal

pub loop-found-init : goal.loop-found-init
loop-found-init c =
    let b = c.args.rows.now in
    ap (λ (rows : Base). text rows c.args.row c.args.path.now) (c.first_rows-older.ensures
    ∙ ap (λ n. first_rows n b) c.size.ensures.size ∙ all_rows b (size b) (omega arith))

pub returns-in-Bytes : goal.returns-in-Bytes
returns-in-Bytes c =
    let path = c.args.path.now in
    let older = c.loop-found.older in
    let number = c.loop-found.number in
    let first = c.first_rows-older-in-Some.result in
    let update_by_row : text older number path ≡ text_by first path (plain_source c.source_of-source.result) =
    text_by_its_row older number path
    ∙ ap (text_of_row (first_rows number older) path) (sym c.in-Some.ensures)
    ∙ ap (text_by (first_rows number older) path)
    (sym (c.source_of-source.ensures ∙ ap (source_of (first_rows number older) path) c.deed.ensures.deed))
    ∙ ap (λ (b : Base). text_by b path (plain_source c.source_of-source.result)) (sym c.first_rows-older-in-Some.ensures) in
    sym (ap (λ source. text_by first path (plain_source source)) c.in-Bytes.is) ∙ sym update_by_row ∙ c.loop-found.invariant

pub loop-found-smaller : goal.loop-found-smaller
loop-found-smaller c =
    let older = c.loop-found.older in
    let number = c.loop-found.number in
    rw c.first_rows-older-in-Some.ensures (below_shorter older number c.in-Some.found.now (sym c.in-Some.ensures))

pub loop-found-preserved : goal.loop-found-preserved
loop-found-preserved c =
    let path = c.args.path.now in
    let older = c.loop-found.older in
    let number = c.loop-found.number in
    let first = c.first_rows-older-in-Some.result in
    let update_by_row : text older number path ≡ text_by first path (plain_source c.source_of-source.result) =
    text_by_its_row older number path
    ∙ ap (text_of_row (first_rows number older) path) (sym c.in-Some.ensures)
    ∙ ap (text_by (first_rows number older) path)
    (sym (c.source_of-source.ensures ∙ ap (source_of (first_rows number older) path) c.deed.ensures.deed))
    ∙ ap (λ (b : Base). text_by b path (plain_source c.source_of-source.result)) (sym c.first_rows-older-in-Some.ensures) in
    sym (ap (λ source. text_by first path (plain_source source)) c.in-OfRow.is) ∙ sym update_by_row ∙ c.loop-found.invariant

pub returns-in-NoText : goal.returns-in-NoText
returns-in-NoText c =
    let path = c.args.path.now in
    let older = c.loop-found.older in
    let number = c.loop-found.number in
    let first = c.first_rows-older-in-Some.result in
    let update_by_row : text older number path ≡ text_by first path (plain_source c.source_of-source.result) =
    text_by_its_row older number path
    ∙ ap (text_of_row (first_rows number older) path) (sym c.in-Some.ensures)
    ∙ ap (text_by (first_rows number older) path)
    (sym (c.source_of-source.ensures ∙ ap (source_of (first_rows number older) path) c.deed.ensures.deed))
    ∙ ap (λ (b : Base). text_by b path (plain_source c.source_of-source.result)) (sym c.first_rows-older-in-Some.ensures) in
    sym (ap (λ source. text_by first path (plain_source source)) c.in-NoText.is) ∙ sym update_by_row ∙ c.loop-found.invariant

pub returns : goal.returns
returns c =
    let path = c.args.path.now in
    let older = c.loop-found.older in
    let number = c.loop-found.number in
    let none : c.row_at.result ≡ None = search rules in
    let nowhere : row_at older number ≡ None = sym c.row_at.ensures ∙ ap option_copied none in
    sym (text_by_its_row older number path ∙ ap (text_of_row (first_rows number older) path) nowhere) ∙ c.loop-found.invariant
