use Rattle.std.proofs.Common.{◌≡◌, ◌++◌, ◌∷◌, ap, sym, ◌∙◌, map, List, ℕ}
use Rattle.script_grammar.specs.Words.{arrows}
use Rattle.build_script.proofs.WordLemmas.{arrows_cut, pushed}
use Rattle.build_script.proofs.words.push_arrows.Goals as goal

pub loop-pair-preserved : goal.loop-pair-preserved
loop-pair-preserved c =
    let s = c.in-Some.ensures.steps in
    let cut : arrows c.loop-pair.pair-iterator.rest.now ≡ c.in-Some.pair.now ∷ arrows c.next.new.self.rest.now =
    arrows_cut _ _ _ s.1.0 (rw c.loop-pair.invariant.two at s.1.1) s.1.2 in
    record {
      two = s.0 ∙ c.loop-pair.invariant.two;
      arrows = rw c.in_ok-push.ensures.items (pushed _ _ _ ∙ ap (λ (more : List (List ℕ)). map (λ w. w.now)
          c.loop-pair.found.items ++ more) (sym cut) ∙ c.loop-pair.invariant.arrows);
    }
