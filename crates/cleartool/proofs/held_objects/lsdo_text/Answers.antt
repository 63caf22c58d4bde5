-- The line at one path after the other is written.
use Rattle.std.proofs.Common.{ℕ, List, ◌++◌, append-nil, append_assoc, map, ap, sym, ◌∙◌}
use Rattle.std.specs.List.{concat}
use Rattle.cleartool.specs.HeldObjects.{held_line_at}
use Rattle.cleartool.proofs.HeldListed.{lsdo_by_paths}
use Rattle.cleartool.proofs.held_objects.lsdo_text.Goals as goal

pub loop-path-preserved : goal.loop-path-preserved
loop-path-preserved c =
    let line = held_line_at c.args.rows.now c.args.view.now in
    let text = c.loop-path.text.items in
    let rest = concat (map line c.next.new.self) in
    record {
      lines = ap (λ (bytes : List ℕ). bytes ++ rest) c.in_ok-push_held_object.ensures.line
          ∙ append_assoc text (line c.in-Some.path.now) rest
          ∙ ap (λ (left : List (List ℕ)). text ++ concat (map line left)) (sym c.in-Some.ensures.steps)
          ∙ c.loop-path.invariant.lines;
      holders = c.in_ok-push_held_object.ensures.kept;
    }

pub returns : goal.returns
returns c =
    let b = c.args.rows.now in
    let v = c.args.view.now in
    let line = held_line_at b v in
    let text = c.loop-path.text.items in
    c.of.ensures
    ∙ sym (append-nil text)
    ∙ ap (λ (left : List (List ℕ)). text ++ concat (map line left)) (sym c.in-None.ensures.steps.0)
    ∙ c.loop-path.invariant.lines
    ∙ ap (λ (left : List (List ℕ)). concat (map line left)) c.into_iter-path-iterator.ensures.into_iter_gives.0
    ∙ lsdo_by_paths b v c.in_ok-paths.paths.keys c.into_iter-path-iterator.ensures.into_iter_gives.4 c.in_ok-paths.ensures.found
