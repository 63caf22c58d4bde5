-- The line of one name after the other is written.
use Rattle.std.proofs.Common.{ℕ, List, ◌++◌, append-nil, append_assoc, map, ap, sym, ◌∙◌}
use Rattle.std.specs.List.{concat}
use Rattle.legal_history.specs.Queries.DirectoryTexts.{names_in}
use Rattle.cleartool.specs.Listed.{seen_line}
use Rattle.view_lookup.proofs.ByKeys.{text_of_key}
use Rattle.cleartool.proofs.ListedNames.{ls_by_names, line_at_is}
use Rattle.cleartool.proofs.directory_texts.ls_text.Goals as goal

pub loop-name-preserved : goal.loop-name-preserved
loop-name-preserved c = λ sees.
    let b = c.args.rows.now in
    let v = c.args.view.now in
    let directory = c.args.directory.now in
    let reported : List ℕ → List ℕ = text_of_key (seen_line b v directory) (names_in b v directory) in
    let text = c.loop-name.text.items in
    let name = c.in-Some.name.now in
    let rest = concat (map reported c.next.new.self) in
    let line = line_at_is c.parts_join.ensures b v directory c.args.element c.in_ok-names.names.keys c.in_ok-names.ensures.names
    c.size.ensures.base c.in_ok-names.ensures.path sees name c.in_ok-push_name.ensures.name in
    ap (λ (bytes : List ℕ). bytes ++ rest) (c.in_ok-push_name.ensures.line ∙ ap (λ (bytes : List ℕ). text ++ bytes) (sym line))
    ∙ append_assoc text (reported name) rest
    ∙ ap (λ (left : List (List ℕ)). text ++ concat (map reported left)) (sym c.in-Some.ensures.steps)
    ∙ c.loop-name.invariant sees

pub returns : goal.returns
returns c = λ sees.
    let b = c.args.rows.now in
    let v = c.args.view.now in
    let directory = c.args.directory.now in
    let reported : List ℕ → List ℕ = text_of_key (seen_line b v directory) (names_in b v directory) in
    let text = c.loop-name.text.items in
    c.of.ensures
    ∙ sym (append-nil text)
    ∙ ap (λ (left : List (List ℕ)). text ++ concat (map reported left)) (sym c.in-None.ensures.steps.0)
    ∙ c.loop-name.invariant sees
    ∙ ap (λ (left : List (List ℕ)). concat (map reported left)) c.into_iter-name-iterator.ensures.into_iter_gives.0
    ∙ ls_by_names c.parts_join.ensures b v directory c.args.element c.in_ok-names.names.keys c.in_ok-names.ensures.names
    c.size.ensures.base c.in_ok-names.ensures.path sees c.into_iter-name-iterator.ensures.into_iter_gives.4
