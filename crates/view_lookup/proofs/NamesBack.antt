-- Names as code holds them, told from the last one on.
use Rattle.std.proofs.Common.{◌≡◌, ℕ, List, [], ◌∷◌, ◌++◌, map, reverse, ap, ◌∙◌, Bor}
use Rattle.std.proofs.lemmas.List.{map-append, reverse-append}

-- with one name more after them, that one comes first
pub one_more : (items : List (Bor (List ℕ))) (name : Bor (List ℕ)) → reverse
    (map (λ (name : Bor (List ℕ)). name.now) (items ++ name ∷ [])) ≡ name.now
    ∷ reverse (map (λ (name : Bor (List ℕ)). name.now) items)
one_more items name =
    ap reverse (map-append (λ (name : Bor (List ℕ)). name.now) items (name ∷ []))
    ∙ reverse-append (map (λ (name : Bor (List ℕ)). name.now) items) (name.now ∷ [])
