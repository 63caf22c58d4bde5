use Rattle.std.proofs.Common.{◌≡◌, ◌+◌, ◌-◌, ◌<◌, ◌≤◌, ℕ, List, get_or, length, length-drop, drop, false, subst, ◌∙◌, ap, arith}
use Rattle.std.proofs.lemmas.Grind.{common_steps}
use Rattle.std.specs.List.{All}
use Rattle.cc_names.specs.Paths.{is_slash}
use Rattle.cc_names.proofs.PathParts.{parts-of_one, parts-at}
use Rattle.cc_names.proofs.paths.last_slash.Goals as goal

-- no slash from a place on
none_behind : (path : List ℕ) (place : ℕ) → ((k : ℕ) → place ≤ k → k < length path → is_slash (get_or path k 0) ≡ false)
    → All (λ b. is_slash b ≡ false) (drop place path)
none_behind path place h k d m =
    let inside : place + k < length path = omega (arith, length-drop place path) in
    let same : get_or (drop place path) k d ≡ get_or path (place + k) 0 = grind (arith, common_steps) in
    ap is_slash same ∙ h (place + k) (omega arith) inside

behind : (path : List ℕ) (end : ℕ) → 0 < end → ((k : ℕ) → end ≤ k → k < length path → is_slash (get_or path k 0) ≡ false)
    → All (λ b. is_slash b ≡ false) (drop (end - 1 + 1) path)
behind path end positive h =
    let next : end ≡ end - 1 + 1 = omega arith in
    subst (λ n. All (λ b. is_slash b ≡ false) (drop n path)) next (none_behind path end h)

pub returns-then-path-end-eq47-clause-below : goal.returns-then-path-end-eq47-clause-below
returns-then-path-end-eq47-clause-below c =
    (parts-at c.args.path.now (c.end.end - 1) c.requires.path c.requires.below (omega (arith, c.end.invariant.0))
    c.if-path-end-eq47.true (behind c.args.path.now c.end.end c.end-test.true c.end.invariant.1)).1

pub returns-then-path-end-eq47-clause-parts : goal.returns-then-path-end-eq47-clause-parts
returns-then-path-end-eq47-clause-parts c =
    (parts-at c.args.path.now (c.end.end - 1) c.requires.path c.requires.below (omega (arith, c.end.invariant.0))
    c.if-path-end-eq47.true (behind c.args.path.now c.end.end c.end-test.true c.end.invariant.1)).0

pub returns-clause-parts : goal.returns-clause-parts
returns-clause-parts c =
    parts-of_one c.args.path.now c.requires.path c.requires.below (none_behind c.args.path.now 0
    (λ k low high. c.end.invariant.1 k (omega arith) high))
