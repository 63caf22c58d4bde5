use Rattle.std.proofs.Common.{Ok, ap, sym, ◌∙◌, subst, [], ◌∷◌, Result, List, ℕ, arith}
use Rattle.make_grammar.specs.Walks.{Walk, number_of}
use Rattle.make_graph.specs.Visits.{WalkGoes, visit_of_unit, resume, news}
use Rattle.make_graph.specs.declared.walks.Visit.{Visit}
use Rattle.make_graph.proofs.VisitLemmas.{news_opened, news_few, entered_new, enter_first}
use Rattle.make_graph.proofs.walks.take_goal.Goals as goal

pub run-requires-clause-room : goal.run-requires-clause-room
run-requires-clause-room c =
    let was_new = (entered_new c.args.walk.now.marks (number_of c.args.units.now c.args.path.now) c.in-Enter.unit
    (sym c.meet.ensures ∙ c.in-Enter.is)).1 in
    let fewer = news_opened c.args.walk.now.marks c.in-Enter.unit was_new in
    let same = ap (λ (v : Walk). news v.marks) c.mark.ensures in
    let few = news_few c.args.walk.now.marks in
    omega (arith, fewer, same, few, c.requires.size)

pub returns-in_ok-first-in-Enter-clause-goes : goal.returns-in_ok-first-in-Enter-clause-goes
returns-in_ok-first-in-Enter-clause-goes c =
    let all = enter_first c.args.units.now c.args.path.now c.args.walk.now c.in-Enter.unit (sym c.meet.ensures ∙ c.in-Enter.is)
    ∙ (ap (resume c.args.units.now 0 (visit_of_unit c.args.units.now c.in-Enter.unit ∷ [])) (sym c.mark.ensures)
    ∙ ap (λ (f : Visit). resume c.args.units.now 0 (f ∷ []) c.mark.new.self) (sym c.in_ok-first-in-Enter.ensures)) in
    subst (λ (r : Result Walk (List ℕ)). WalkGoes c.run.result r (Ok c.run.new.walk)) (sym all) c.run.ensures.goes
