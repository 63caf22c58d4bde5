-- The words and the name are written one after the other.
use Rattle.std.proofs.Common.{ℕ, List, [], ◌∷◌, ◌++◌, append_assoc, ap, ◌∙◌}
use Rattle.vob_history.proofs.lines.push_line.Goals as goal

pub returns : goal.returns
returns c =
    let text = c.args.text.now.items in
    let words = c.args.words.now in
    let name = c.args.name.now in
    c.in_ok-push.ensures.items
    ∙ ap (λ (bytes : List ℕ). bytes ++ 10 ∷ []) (c.in_ok-extend_from_slice-2.ensures.items
    ∙ ap (λ (bytes : List ℕ). bytes ++ name) c.in_ok-extend_from_slice.ensures.items ∙ append_assoc text words name)
    ∙ append_assoc text (words ++ name) (10 ∷ [])
