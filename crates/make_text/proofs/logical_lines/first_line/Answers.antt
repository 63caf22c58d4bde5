use Rattle.std.proofs.Common.{◌∷◌, [], ◌∙◌, sym, ap, length, ◌<◌, false}
use Rattle.std.specs.List.{slice_split}
use Rattle.cc_names.specs.Cuts.{is_newline}
use Rattle.make_grammar.specs.LogicalLines.{lines_from, next_number}
use Rattle.make_text.proofs.LineLemmas.{first_last, first_apart, first_joined_step}
use Rattle.make_text.proofs.logical_lines.first_line.Goals as goal

pub returns-in_default : goal.returns-in_default
returns-in_default c =
    let cut = rw c.in_default.is at c.cut_line.ensures in
    let some : 0 < length c.cut_line.result.0.now = rw cut.1 c.requires in
    first_last c.args.number c.args.text.now c.cut_line.result.0.now cut.0 some
    ∙ ap (λ v. record { number = c.args.number; bytes = v } ∷ []) (sym c.in_ok-from_bytes.ensures)

pub returns-in_default-cut_backslash : goal.returns-in_default-cut_backslash
returns-in_default-cut_backslash c =
    let cut = rw c.in-Some.is at c.cut_line.ensures in
    first_apart c.args.number c.args.text.now c.cut_line.result.0.now c.in-Some.rest.now cut.0 c.in_default-cut_backslash.ensures
    ∙ ap (λ v. record { number = c.args.number; bytes = v } ∷ lines_from false (next_number c.args.number)
    (slice_split is_newline c.in-Some.rest.now)) (sym c.in_ok-bytes.ensures)
    ∙ ap (λ v. record { number = c.args.number; bytes = c.in_ok-bytes.bytes }
    ∷ lines_from false v (slice_split is_newline c.in-Some.rest.now)) (sym c.next_number.ensures)

pub returns : goal.returns
returns c =
    let cut = rw c.in-Some.is at c.cut_line.ensures in
    let back = c.in-Some-cut_backslash.ensures in
    first_joined_step c.args.text.now c.in-Some.rest.now c.args.number cut.0 back.0 back.1 c.in_ok-bytes-2.ensures.items
    c.in_ok-push.ensures.items c.next_number-2.ensures
    (c.in_ok-rest.ensures c.args.number ∙ ap (λ v. record { number = c.args.number; bytes = v }
    ∷ lines_from false c.in_ok-rest.after (slice_split is_newline c.in_ok-rest.rest.now)) (sym c.of.ensures))
