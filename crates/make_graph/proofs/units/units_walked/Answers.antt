use Rattle.std.proofs.Common.{◌≡◌, ◌+◌, ◌++◌, ◌∷◌, [], ap, sym, ◌∙◌, refl, drop, get_or, option_copied}
use Rattle.make_grammar.specs.Graphs.{unit_of, units_walked}
use Rattle.make_graph.proofs.WalkedLemmas.{walked_more, walked_past}
use Rattle.make_graph.proofs.units.units_walked.Goals as goal
use Rattle.make_graph.proofs.units.units_walked.Goals.{in-Some+in_ok-unit_of+in_ok-push, in_default}

pub loop-number-preserved : goal.loop-number-preserved
loop-number-preserved c =
    let order = c.args.order.now in
    let i = c.loop-number.number-index in
    let rest = units_walked c.args.make.now c.args.units.now (drop (i + 1) order) in
    elim c.match-serving_at.branch [
      | in-Some+in_ok-unit_of+in_ok-push w ↦
          let pushed : c.match-serving_at.made.items ≡ c.loop-number.made.items ++ unit_of c.args.make.now w.in-Some.serving.now
          ∷ [] = cc (w.made-is, w.in_ok-push.ensures.items, w.in_ok-unit_of.ensures) in
          ap (λ l. l ++ rest) pushed
          ∙ walked_more c.args.make.now c.args.units.now c.loop-number.made.items _ order i (get_or order i 0)
          w.in-Some.serving.now c.loop-number-test.true refl (sym c.serving_at.ensures
          ∙ ap option_copied w.in-Some.is) c.loop-number.invariant
      | in_default w ↦
          ap (λ v. v.items ++ rest) w.made-is
          ∙ walked_past c.args.make.now c.args.units.now c.loop-number.made.items _ order i (get_or order i 0)
          c.loop-number-test.true refl (sym c.serving_at.ensures ∙ ap option_copied w.in_default.is) c.loop-number.invariant
    ]
