use Rattle.std.proofs.Common.{◌≡◌, List, ℕ, take, drop, length, ◌-◌, ◌+◌, sym, ◌∙◌, ap, ◌<◌, is_some, length-drop, arith}
use Rattle.std.proofs.lemmas.Grind.{common_steps}
use Rattle.std.specs.List.{slice_split}
use Rattle.cc_names.specs.Paths.{first_fault, is_slash}
use Rattle.cc_names.proofs.FirstFaults.{first_fault-found, first_fault-passed, first_fault-last}
use Rattle.cc_names.proofs.paths.first_fault.Goals as goal

pub returns-then-is_some : goal.returns-then-is_some
returns-then-is_some c =
    let place = sym c.first_slash.ensures.place ∙ c.in-Some.is in
    let here = ap is_some (sym c.fault_at-fault.ensures) ∙ sym c.is_some.ensures ∙ c.if-is_some.true in
    c.fault_at-fault.ensures ∙ sym (c.rest.invariant.fault ∙ first_fault-found c.rest.place c.rest.rest.now c.in-Some.index place
    here)

behind : (n : ℕ) (xs : List ℕ) → take (length xs - n) (drop n xs) ≡ drop n xs
behind n xs = grind (arith, common_steps)

place-behind : (place i n : ℕ) (rest : List ℕ) → i < length rest → place + length rest ≡ n
    → place + (i + 1) + length (take (length rest - (i + 1)) (drop (i + 1) rest)) ≡ n
place-behind place i n rest inside whole = simp (behind, length-drop) (omega arith)

pub rest-preserved : goal.rest-preserved
rest-preserved c =
    let place = sym c.first_slash.ensures.place ∙ c.in-Some.is in
    let inside : c.in-Some.index < length c.rest.rest.now = grind (arith, common_steps) in
    let none = ap is_some (sym c.fault_at-fault.ensures) ∙ sym c.is_some.ensures ∙ c.if-is_some.false in
    let whole = behind (c.in-Some.index + 1) c.rest.rest.now in
    record {
      place = place-behind c.rest.place c.in-Some.index _ c.rest.rest.now inside c.rest.invariant.place;
      fault = c.rest.invariant.fault ∙ first_fault-passed c.rest.place c.rest.rest.now c.in-Some.index place inside none
          ∙ ap (λ (rest : List ℕ). first_fault (c.rest.place + (c.in-Some.index + 1)) (slice_split is_slash rest)) (sym whole);
    }

pub returns : goal.returns
returns c = c.fault_at.ensures ∙ sym (c.rest.invariant.fault ∙ first_fault-last c.rest.place c.rest.rest.now
    (sym c.first_slash.ensures.place ∙ c.in_default.is))
