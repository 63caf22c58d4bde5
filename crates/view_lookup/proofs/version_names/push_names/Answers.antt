-- The last name that is left goes after what is written.
use Rattle.std.proofs.Common.{◌≡◌, ℕ, ◌<◌, List, [], ◌∷◌, ◌++◌, length, map, reverse, append-nil, append_assoc, refl, ap, sym}
use Rattle.std.proofs.Common.{◌∙◌, arith, Bor, rules}
use Rattle.legal_history.specs.Queries.VersionNames.{behind_slashes}
use Rattle.view_lookup.proofs.NamesBack.{one_more}
use Rattle.view_lookup.proofs.version_names.push_names.Goals as goal

shorter : (items : List (Bor (List ℕ))) (name : Bor (List ℕ)) → length items < length (items ++ name ∷ [])
shorter [] name = omega arith
shorter (first ∷ items) name = let below = shorter items name in omega (arith, below)

pub loop-left-init : goal.loop-left-init
loop-left-init c = refl

pub returns-in-None : goal.returns-in-None
returns-in-None c =
    let none : c.loop-left.left.items ≡ [] = search rules in
    sym (ap (λ (items : List (Bor (List ℕ))). c.loop-left.text.items ++ behind_slashes
    (reverse (map (λ (name : Bor (List ℕ)). name.now) items))) none ∙ append-nil c.loop-left.text.items)
    ∙ c.loop-left.invariant

pub loop-left-smaller : goal.loop-left-smaller
loop-left-smaller c =
    let below = shorter c.pop.new.self.items c.in-Some.name in
    let count = ap length c.in-Some.ensures.items in
    omega (arith, below, count)

pub loop-left-preserved : goal.loop-left-preserved
loop-left-preserved c =
    let left = reverse (map (λ (name : Bor (List ℕ)). name.now) c.pop.new.self.items) in
    let name = c.in-Some.name.now in
    ap (λ (bytes : List ℕ). bytes ++ behind_slashes left) (c.in_ok-extend_from_slice-in-Some.ensures.items
    ∙ ap (λ (bytes : List ℕ). bytes ++ name) c.in_ok-push-in-Some.ensures.items)
    ∙ append_assoc (c.loop-left.text.items ++ 47 ∷ []) name (behind_slashes left)
    ∙ append_assoc c.loop-left.text.items (47 ∷ []) (name ++ behind_slashes left)
    ∙ ap (λ (names : List (List ℕ)). c.loop-left.text.items ++ behind_slashes names)
    (sym (ap (λ (items : List (Bor (List ℕ))). reverse (map (λ (name : Bor (List ℕ)). name.now) items)) c.in-Some.ensures.items
    ∙ one_more c.pop.new.self.items c.in-Some.name))
    ∙ c.loop-left.invariant
