use Rattle.std.proofs.Common.{◌≡◌, ◌<◌, ◌++◌, [], ◌∷◌, Some, Err, length, ap, sym, ◌∙◌, option_copied, append_assoc}
use Rattle.std.proofs.Common.{length-append, arith}
use Rattle.make_grammar.specs.Walks.{Walk, number_of, with_open_unit}
use Rattle.make_graph.specs.Visits.{visit_of_unit, past_next, next_of, resume, news}
use Rattle.make_graph.specs.declared.walks.Visit.{Visit}
use Rattle.make_graph.proofs.VisitLemmas.{step_close, step_past, step_again, step_enter, news_opened, news_closed, entered_new}
use Rattle.make_graph.proofs.walks.advance.Goals as goal
use Rattle.make_graph.proofs.walks.advance.Goals.{in-Past+in_ok-push-in-Past}
use Rattle.make_graph.proofs.walks.advance.Goals.{in-Enter+in_ok-visit-in-Enter+in_ok-push-in-Enter+in_ok-push-in-Enter-2}

pub returns-in_default-clause-goes : goal.returns-in_default-clause-goes
returns-in_default-clause-goes c =
    step_close c.args.units.now c.args.stack.now.items c.args.top c.args.walk.now (sym c.next_path.ensures.path
    ∙ ap option_copied c.in_default.is)
    ∙ ap (resume c.args.units.now 0 c.args.stack.now.items) (sym c.in_ok-close.ensures)

pub returns-in_default-clause-room : goal.returns-in_default-clause-room
returns-in_default-clause-room c =
    let same = ap (λ (w : Walk). news w.marks) c.in_ok-close.ensures in
    let fewer = news_closed c.args.walk.now.marks c.args.top.unit in
    omega (arith, same, fewer, c.requires.room)

pub returns-in-Again-clause-goes : goal.returns-in-Again-clause-goes
returns-in-Again-clause-goes c =
    let lt : length c.args.stack.now.items < length c.args.units.now = omega (arith, c.requires.room) in
    step_again c.args.units.now c.args.stack.now.items c.args.top c.in-Some.path.now c.args.walk.now lt
    (sym c.next_path.ensures.path ∙ ap option_copied c.in-Some.is) (sym c.meet.ensures ∙ c.in-Again.is)
    ∙ ap (λ p. Err p) (sym c.in_ok-copy-in-Again.ensures.copy)

pub returns-clause-goes : goal.returns-clause-goes
returns-clause-goes c =
    let lt : length c.args.stack.now.items < length c.args.units.now = omega (arith, c.requires.room) in
    let next : next_of c.args.top ≡ Some c.in-Some.path.now = sym c.next_path.ensures.path ∙ ap option_copied c.in-Some.is in
    elim c.match-meet.branch [
      | in-Past+in_ok-push-in-Past w ↦
          let pushed : c.match-meet.stack.items ≡ c.args.stack.now.items ++ past_next c.args.top ∷ [] =
          cc (w.stack-is, w.in_ok-push-in-Past.ensures.items, w.past_next.ensures) in
          step_past c.args.units.now c.args.stack.now.items c.args.top c.in-Some.path.now c.args.walk.now lt next
          (sym c.meet.ensures ∙ w.in-Past.is)
          ∙ (ap (λ l. resume c.args.units.now 0 l c.args.walk.now) (sym pushed)
          ∙ ap (resume c.args.units.now 0 c.match-meet.stack.items) (sym w.walk-is))
      | in-Enter+in_ok-visit-in-Enter+in_ok-push-in-Enter+in_ok-push-in-Enter-2 w ↦
          let first : Visit = visit_of_unit c.args.units.now w.in-Enter.unit in
          let pushed : c.match-meet.stack.items ≡ (c.args.stack.now.items ++ past_next c.args.top ∷ []) ++ first ∷ [] =
          cc (
            w.stack-is,
            w.in_ok-push-in-Enter.ensures.items,
            w.in_ok-push-in-Enter-2.ensures.items,
            w.past_next-in-Enter.ensures,
            w.in_ok-visit-in-Enter.ensures,
          ) in
          step_enter c.args.units.now c.args.stack.now.items c.args.top c.in-Some.path.now c.args.walk.now w.in-Enter.unit lt next
          (sym c.meet.ensures ∙ w.in-Enter.is)
          ∙ (ap (λ l. resume c.args.units.now 0 l (with_open_unit w.in-Enter.unit c.args.walk.now))
          (sym (append_assoc c.args.stack.now.items (past_next c.args.top ∷ []) (first ∷ [])) ∙ sym pushed)
          ∙ ap (resume c.args.units.now 0 c.match-meet.stack.items) (sym (w.walk-is ∙ w.mark.ensures)))
    ]

pub returns-clause-room : goal.returns-clause-room
returns-clause-room c =
    let room = c.requires.room in
    elim c.match-meet.branch [
      | in-Past+in_ok-push-in-Past w ↦
          let pushed : c.match-meet.stack.items ≡ c.args.stack.now.items ++ past_next c.args.top ∷ [] =
          cc (w.stack-is, w.in_ok-push-in-Past.ensures.items, w.past_next.ensures) in
          let longer = ap length pushed ∙ length-append c.args.stack.now.items (past_next c.args.top ∷ []) in
          let same = ap (λ (v : Walk). news v.marks) w.walk-is in
          omega (arith, longer, same, room)
      | in-Enter+in_ok-visit-in-Enter+in_ok-push-in-Enter+in_ok-push-in-Enter-2 w ↦
          let first : Visit = visit_of_unit c.args.units.now w.in-Enter.unit in
          let pushed : c.match-meet.stack.items ≡ (c.args.stack.now.items ++ past_next c.args.top ∷ []) ++ first ∷ [] =
          cc (
            w.stack-is,
            w.in_ok-push-in-Enter.ensures.items,
            w.in_ok-push-in-Enter-2.ensures.items,
            w.past_next-in-Enter.ensures,
            w.in_ok-visit-in-Enter.ensures,
          ) in
          let longer = ap length pushed ∙ (length-append (c.args.stack.now.items ++ past_next c.args.top ∷ []) (first ∷ [])) in
          let long = length-append c.args.stack.now.items (past_next c.args.top ∷ []) in
          let same = ap (λ (v : Walk). news v.marks) (w.walk-is ∙ w.mark.ensures) in
          let was_new = (entered_new c.args.walk.now.marks (number_of c.args.units.now c.in-Some.path.now) w.in-Enter.unit
          (sym c.meet.ensures ∙ w.in-Enter.is)).1 in
          let fewer = news_opened c.args.walk.now.marks w.in-Enter.unit was_new in
          omega (arith, longer, long, same, fewer, room)
    ]
