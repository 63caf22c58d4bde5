-- The first of the makers that has no outcome is the first unit that is awaited.
use Rattle.std.proofs.Common.{◌≡◌, ◌<◌, ap, sym, subst, ◌∙◌, not, length, IfSome}
use Rattle.std.specs.Prelude.{find}
use Rattle.legal_history.specs.Builds.Active.{came_to, is_outcome}
use Rattle.make_graph.specs.Waits.{prerequisites_at}
use Rattle.build_core.specs.UnitSteps.{first_awaited}
use Rattle.build_core.proofs.Waiting.{awaited_maker, awaited_within}
use Rattle.build_core.proofs.steps.first_awaited.Goals as goal

pub returns-clause-first : goal.returns-clause-first
returns-clause-first c =
    c.first_without_outcome.ensures.first
    ∙ (ap (find (λ n. not (is_outcome (came_to c.args.build.now n)))) c.makers.ensures
    ∙ awaited_maker c.args.build.now (prerequisites_at c.args.build.now.units c.args.unit))

pub returns-clause-within : goal.returns-clause-within
returns-clause-within c =
    let build = c.args.build.now in
    let paths = prerequisites_at build.units c.args.unit in
    let first : first_awaited build paths ≡ c.first_without_outcome.result =
    sym (awaited_maker build paths)
    ∙ sym (ap (find (λ n. not (is_outcome (came_to build n)))) c.makers.ensures)
    ∙ sym c.first_without_outcome.ensures.first in
    subst (λ o. IfSome o (λ m. m < length build.units)) first (awaited_within build paths)
