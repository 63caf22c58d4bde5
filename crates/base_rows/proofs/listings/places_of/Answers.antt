-- One version after the other is placed.
use Rattle.std.proofs.Common.{List, ℕ, ◌∷◌, [], ◌++◌, append-nil, append_assoc, map, ap, sym, ◌∙◌}
use Rattle.cc_names.specs.declared.rows.Placed.{Placed}
use Rattle.base_model.specs.Closures.{as_placed}
use Rattle.base_rows.proofs.listings.places_of.Goals as goal

pub loop-element-init : goal.loop-element-init
loop-element-init c =
    ap (λ (items : List Placed). items ++ map as_placed c.into_iter-element-iterator.result) c.new-placed.ensures.items
    ∙ ap (λ (left : List (ℕ × ℕ)). map as_placed left) c.into_iter-element-iterator.ensures.into_iter_gives.0

pub loop-element-preserved : goal.loop-element-preserved
loop-element-preserved c =
    let items = c.loop-element.placed.items in
    let one : ℕ × ℕ = (c.in-Some.element.now, c.in-Some.version.now) in
    let rest = map as_placed c.next.new.self in
    ap (λ (placed : List Placed). placed ++ rest) c.in_ok-push.ensures.items
    ∙ append_assoc items (as_placed one ∷ []) rest
    ∙ ap (λ (left : List (ℕ × ℕ)). items ++ map as_placed left) (sym c.in-Some.ensures.steps)
    ∙ c.loop-element.invariant

pub returns-clause-placed : goal.returns-clause-placed
returns-clause-placed c =
    let items = c.loop-element.placed.items in
    sym (append-nil items)
    ∙ ap (λ (left : List (ℕ × ℕ)). items ++ map as_placed left) (sym c.in-None.ensures.steps.0)
    ∙ c.loop-element.invariant
