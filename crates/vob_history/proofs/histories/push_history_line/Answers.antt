-- The parts of the line are written one after the other.
use Rattle.std.proofs.Common.{◌≡◌, ℕ, List, [], ◌∷◌, ◌++◌, append_assoc, ap, sym, ◌∙◌}
use Rattle.date_text.specs.Dates.{date_as_text}
use Rattle.vob_history.proofs.histories.push_history_line.Goals as goal

joined : (text date words name : List ℕ) → (((((text ++ date) ++ 32 ∷ []) ++ words) ++ name) ++ 10 ∷ []) ≡ text
    ++ ((date ++ 32 ∷ (words ++ name)) ++ 10 ∷ [])
joined text date words name =
    append_assoc (((text ++ date) ++ 32 ∷ []) ++ words) name (10 ∷ [])
    ∙ append_assoc ((text ++ date) ++ 32 ∷ []) words (name ++ 10 ∷ [])
    ∙ append_assoc (text ++ date) (32 ∷ []) (words ++ (name ++ 10 ∷ []))
    ∙ append_assoc text date (32 ∷ (words ++ (name ++ 10 ∷ [])))
    ∙ ap (λ (rest : List ℕ). text ++ rest) (sym (append_assoc date (32 ∷ (words ++ name)) (10 ∷ [])
    ∙ ap (λ (rest : List ℕ). date ++ 32 ∷ rest) (append_assoc words name (10 ∷ []))))

pub returns : goal.returns
returns c =
    let text = c.args.text.now.items in
    let words = c.args.words.now in
    let name = c.args.name.now in
    let date : c.as_bytes.result.now ≡ date_as_text c.args.moment = c.as_bytes.ensures ∙ c.print.ensures.text in
    c.in_ok-push-2.ensures.items
    ∙ ap (λ (bytes : List ℕ). bytes ++ 10 ∷ [])
    (c.in_ok-extend_from_slice-3.ensures.items
    ∙ ap (λ (bytes : List ℕ). bytes ++ name)
    (c.in_ok-extend_from_slice-2.ensures.items
    ∙ ap (λ (bytes : List ℕ). bytes ++ words)
    (c.in_ok-push.ensures.items
    ∙ ap (λ (bytes : List ℕ). bytes ++ 32 ∷ []) (c.in_ok-extend_from_slice.ensures.items
    ∙ ap (λ (bytes : List ℕ). text ++ bytes) date))))
    ∙ joined text (date_as_text c.args.moment) words name
