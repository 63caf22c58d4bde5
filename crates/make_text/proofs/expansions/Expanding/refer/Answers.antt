use Rattle.std.proofs.Common.{◌≡◌, ◌+◌, ◌-◌, ◌++◌, refl, sym, ap, ◌∙◌, take, drop, arith}
use Rattle.make_text.specs.Steps.{Undefined, Known, Begins, Meets}
use Rattle.make_text.proofs.expansions.Expanding.refer.Goals as goal

pub returns-in_default : goal.returns-in_default
returns-in_default c =
    let found = rw c.in_default.is at c.in_ok-index.ensures in
    Undefined found refl refl refl refl

pub returns-in-Begun : goal.returns-in-Begun
returns-in-Begun c =
    let found = rw c.in-Some.is at c.in_ok-index.ensures in
    Meets c.in-Some.index found
    (sym c.get.ensures ∙ c.in-Begun.is)
    refl

pub returns-in_ok-extend_from_within-in-Expanded : goal.returns-in_ok-extend_from_within-in-Expanded
returns-in_ok-extend_from_within-in-Expanded c =
    let found = rw c.in-Some.is at c.in_ok-index.ensures in
    let long : c.in-Expanded.start + c.in-Expanded.len - c.in-Expanded.start ≡ c.in-Expanded.len = omega arith in
    Known c.in-Some.index c.in-Expanded.start c.in-Expanded.len found
    (sym c.get.ensures ∙ c.in-Expanded.is)
    refl refl refl
    (c.in_ok-extend_from_within-in-Expanded.ensures.items
    ∙ ap (λ n. c.args.self.now.written.items ++ take n (drop c.in-Expanded.start c.args.self.now.written.items)) long)

pub returns-in_ok-set-in-Untouched : goal.returns-in_ok-set-in-Untouched
returns-in_ok-set-in-Untouched c =
    let found = rw c.in-Some.is at c.in_ok-index.ensures in
    Begins c.in-Some.index _ found
    (sym c.get.ensures ∙ c.in-Untouched.is)
    refl refl (c.len.ensures ∙ c.args.self.now.written.ok.0) c.value-self.ensures c.in_ok-push-in-Untouched.ensures.items
    c.in_ok-set-in-Untouched.ensures refl
