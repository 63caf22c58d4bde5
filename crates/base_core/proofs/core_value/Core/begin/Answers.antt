-- a build begins, goes on, or its command is refused
use Rattle.std.proofs.Common.{length, ap, sym, subst, arith}
use Rattle.clearmake.specs.Going.{Finishes}
use Rattle.base_core.proofs.Building.Goings.{goes_nowhere}
use Rattle.base_core.proofs.Building.OpenSteps.{refused_finishes}
use Rattle.base_core.proofs.core_value.Core.begin.Goals as goal

pub overflow_cast-result : goal.overflow_cast-result
overflow_cast-result g c = omega (
  arith,
  (c.find_build.ensures.kept c.in-Some.build.now
      (sym c.in-Some.ensures.active)).formed.few,
  ap length c.units.ensures,
)

pub returns-in-Some-clause-ok : goal.returns-in-Some-clause-ok
returns-in-Some-clause-ok g c = (
  goes_nowhere c.args.self.now.story c.args.lane,
  record {
    build = c.in-Some.build.now;
    active = sym c.in-Some.ensures.active;
    of_units = ap length (sym c.units.ensures);
    few = omega (
      arith,
      (c.find_build.ensures.kept c.in-Some.build.now (sym c.in-Some.ensures.active)).formed.few,
      ap length c.units.ensures,
    );
  },
)

pub returns-in-Err-Is-clause-ok : goal.returns-in-Err-Is-clause-ok
returns-in-Err-Is-clause-ok g c =
    subst (λ l. Finishes c.args.self.now.story c.refuse.new.self.story l) (ap (λ t. t.lane) c.tag-tag.ensures)
    (refused_finishes c.args.self.now.story c.refuse.new.self.story c.tag-tag.result.lane c.refuse.ensures.acts)
