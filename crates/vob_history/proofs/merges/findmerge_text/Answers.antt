-- The line of one element after the other is written.
use Rattle.std.proofs.Common.{ℕ, List, ◌++◌, append-nil, append_assoc, map, ap, sym, ◌∙◌}
use Rattle.std.specs.List.{concat}
use Rattle.legal_history.specs.Queries.Merges.{Elements, found_line}
use Rattle.vob_history.proofs.ElementsBelow.{same_elements}
use Rattle.vob_history.proofs.merges.findmerge_text.Goals as goal

pub loop-place-preserved : goal.loop-place-preserved
loop-place-preserved c =
    let b = c.args.rows.now in
    let v = c.args.view.now in
    let name = c.args.branch.now in
    let lines : Elements → List ℕ = λ found. concat (map (λ one. found_line b v name one.0 one.1) found) in
    let text = c.loop-place.text.items in
    let rest = lines c.next.new.self in
    let line = found_line b v name c.in-Some.place.now c.in-Some.seen.now in
    ap (λ (bytes : List ℕ). bytes ++ rest) c.in_ok-push_found.ensures
    ∙ append_assoc text line rest
    ∙ ap (λ (left : Elements). text ++ lines left) (sym c.in-Some.ensures.steps)
    ∙ c.loop-place.invariant

pub returns : goal.returns
returns c =
    let b = c.args.rows.now in
    let v = c.args.view.now in
    let name = c.args.branch.now in
    let lines : Elements → List ℕ = λ found. concat (map (λ one. found_line b v name one.0 one.1) found) in
    let text = c.loop-place.text.items in
    let gives = c.into_iter-place-iterator.ensures.into_iter_gives in
    c.of.ensures
    ∙ sym (append-nil text)
    ∙ ap (λ (left : Elements). text ++ lines left) (sym c.in-None.ensures.steps.0)
    ∙ c.loop-place.invariant
    ∙ ap lines (gives.0 ∙ same_elements b v c.args.path.now c.in_ok-elements.elements.entries gives.5 c.in_ok-elements.ensures)
