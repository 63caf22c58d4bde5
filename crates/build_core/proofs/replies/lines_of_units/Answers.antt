-- The lines of one more unit stand after those of the units before it.
use Rattle.std.proofs.Common.{◌≡◌, ℕ, ◌+◌, List, sym, ap, ap₂, ◌∙◌, ◌∷◌, ◌++◌, append_assoc, arith}
use Rattle.std.specs.Prelude.{is_some}
use Rattle.cc_names.specs.declared.replies.UnitLine.{UnitLine}
use Rattle.cc_names.specs.declared.units.Unit.{Unit}
use Rattle.base_model.specs.Rows.{Base}
use Rattle.legal_history.specs.Builds.Active.{Build, came_to, object_of}
use Rattle.legal_history.specs.Builds.Replied.{lines_from, unit_lines_of, reported_targets, word_of_came}
use Rattle.build_core.proofs.replies.lines_of_units.Goals as goal

one_more : (b : Base) (build : Build) (n : ℕ) (unit : Unit) (targets : List (List ℕ)) (rest more : List Unit)
    (all before next : List UnitLine) →
    all ≡ before ++ lines_from b build n rest → rest ≡ unit ∷ more → targets
    ≡ reported_targets (is_some (object_of (came_to build n))) unit.targets →
    next ≡ before ++ unit_lines_of (λ path. word_of_came b build path (came_to build n)) targets
    → all ≡ next ++ lines_from b build (n + 1) more
one_more b build n unit targets rest more all before next kept split same pushed =
    kept
    ∙ ap (λ units. before ++ lines_from b build n units) split
    ∙ sym (append_assoc before (unit_lines_of (λ path. word_of_came b build path (came_to build n))
    (reported_targets (is_some (object_of (came_to build n))) unit.targets)) (lines_from b build (n + 1) more))
    ∙ ap (λ paths. (before ++ unit_lines_of (λ path. word_of_came b build path (came_to build n)) paths)
    ++ lines_from b build (n + 1) more) (sym same)
    ∙ ap (λ lines. lines ++ lines_from b build (n + 1) more) (sym pushed)

pub loop-unit-preserved : goal.loop-unit-preserved
loop-unit-preserved c = record {
  lines = one_more c.args.rows.now c.args.build.now c.loop-unit.number c.in-Some.unit.now c.reported_targets-targets.result.now
      c.loop-unit.rest.now c.in-Some.more.now _ _ _
      c.loop-unit.invariant.lines c.in-Some.ensures.cases.0 (c.reported_targets-targets.ensures
      ∙ ap₂ reported_targets (c.is_some-has_object.ensures ∙ ap is_some c.object_of.ensures) c.as_slice.ensures)
      c.in_ok-push_lines.ensures;
  count = omega (arith, c.loop-unit.invariant.count, c.in-Some.ensures.cases.1);
}
