-- A unit that waits for none is ready.
use Rattle.std.proofs.Common.{◌≡◌, None, ap, sym, ◌∙◌}
use Rattle.make_graph.specs.Waits.{prerequisites_of}
use Rattle.build_core.specs.UnitSteps.{first_awaited}
use Rattle.build_core.proofs.Waiting.{awaits_none}
use Rattle.build_core.proofs.steps.next.Goals as goal

pub returns-in-Some-2 : goal.returns-in-Some-2
returns-in-Some-2 c =
    let none : first_awaited c.args.build.now c.args.unit.now.prerequisites ≡ None =
    ap (first_awaited c.args.build.now) (sym (ap prerequisites_of c.requires.unit)) ∙ sym c.in_default.ensures.first
    in
    record {
      ready = awaits_none c.args.build.now c.args.unit.now.prerequisites none;
      ends = sym c.in_ok-end.ensures ∙ c.in-Some-2.is;
    }

pub reuse_or_start-requires-clause-open_unit : goal.reuse_or_start-requires-clause-open_unit
reuse_or_start-requires-clause-open_unit c =
    let none : first_awaited c.args.build.now c.args.unit.now.prerequisites ≡ None =
    ap (first_awaited c.args.build.now) (sym (ap prerequisites_of c.requires.unit)) ∙ sym c.in_default.ensures.first
    in
    record {
      ready = awaits_none c.args.build.now c.args.unit.now.prerequisites none;
      runs = sym c.in_ok-end.ensures ∙ c.in_default-2.is;
    }
