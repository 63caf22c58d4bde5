-- Each branch on the way up leaves the next one, among fewer rows.
use Rattle.std.proofs.Common.{◌≡◌, ℕ, zero, suc, ◌<◌, ◌≤◌, List, [], ◌∷◌, ◌++◌, Option, length, map, reverse, append-nil, le_refl}
use Rattle.std.proofs.Common.{append_assoc, ap, ap₂, sym, subst, ◌∙◌, arith, Bor}
use Rattle.view_lookup.specs.Naming.{names_above}
use Rattle.base_model.specs.Changes.{tree}
use Rattle.base_model.specs.Rows.{Base, first_rows, size}
use Rattle.base_model.proofs.Stay.{all_rows}
use Rattle.base_rows.proofs.Prefixes.{size_of_first}
use Rattle.view_lookup.proofs.NamesBack.{one_more}
use Rattle.view_lookup.proofs.version_names.names_upwards.Goals as goal

-- the rows below one of a base are fewer
fewer : (b : Base) (n : ℕ) → 1 ≤ n → n < size b → length (first_rows n b) < length b
fewer b zero behind below = absurd (omega (arith, behind))
fewer b (suc n) behind below =
    let size_is = size_of_first b n (omega (arith, below)) in
    omega (arith, size_is, below)

pub loop-next-init : goal.loop-next-init
loop-next-init c =
    let rows = c.args.rows.now in
    let all : c.first_rows-older.result ≡ rows = c.first_rows-older.ensures ∙ ap (λ n. first_rows n rows) c.size.ensures.size
    ∙ all_rows rows (size rows) (le_refl (size rows)) in
    ap₂ (λ (b : Base) (items : List (Bor (List ℕ))). names_above (tree b) c.args.branch
    ++ reverse (map (λ (name : Bor (List ℕ)). name.now) items)) all c.new-names.ensures.items
    ∙ append-nil (names_above (tree rows) c.args.branch)

pub returns-in-None : goal.returns-in-None
returns-in-None c =
    let found = reverse (map (λ (name : Bor (List ℕ)). name.now) c.loop-next.names.items) in
    sym (ap (λ (next : Option ℕ). names_above (tree c.loop-next.older) next ++ found) c.in-None.is) ∙ c.loop-next.invariant

pub returns-in-None-leaving : goal.returns-in-None-leaving
returns-in-None-leaving c =
    let found = reverse (map (λ (name : Bor (List ℕ)). name.now) c.loop-next.names.items) in
    sym (ap (λ (next : Option ℕ). names_above (tree c.loop-next.older) next ++ found) c.in-Some.is
    ∙ ap (λ (names : List (List ℕ)). names ++ found) c.in-None-leaving.ensures.main)
    ∙ c.loop-next.invariant

pub loop-next-smaller : goal.loop-next-smaller
loop-next-smaller c =
    subst (λ (b : Base). length b < length c.loop-next.older) (sym c.first_rows-older-in-Some-leaving.ensures)
    (fewer c.loop-next.older c.in-Some.branch c.in-Some-leaving.ensures.behind c.in-Some-leaving.ensures.below)

pub loop-next-preserved : goal.loop-next-preserved
loop-next-preserved c =
    let older = c.loop-next.older in
    let branch = c.in-Some.branch in
    let found = reverse (map (λ (name : Bor (List ℕ)). name.now) c.loop-next.names.items) in
    let above = names_above (tree (first_rows branch older)) c.in-Some-leaving.above in
    ap₂ (λ (b : Base) (items : List (Bor (List ℕ))). names_above (tree b) c.in-Some-leaving.above
    ++ reverse (map (λ (name : Bor (List ℕ)). name.now) items)) c.first_rows-older-in-Some-leaving.ensures
    c.in_ok-push-in-Some-leaving.ensures.items
    ∙ ap (λ (names : List (List ℕ)). above ++ names) (one_more c.loop-next.names.items c.in-Some-leaving.name)
    ∙ sym (append_assoc above (c.in-Some-leaving.name.now ∷ []) found)
    ∙ ap (λ (names : List (List ℕ)). names ++ found) (sym c.in-Some-leaving.ensures.leaves)
    ∙ ap (λ (next : Option ℕ). names_above (tree older) next ++ found) (sym c.in-Some.is)
    ∙ c.loop-next.invariant
