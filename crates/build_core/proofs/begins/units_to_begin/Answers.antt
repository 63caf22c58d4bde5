-- The units that a makefile gives are formed.
use Rattle.std.proofs.Common.{◌≡◌, length, ap, arith}
use Rattle.std.specs.Prelude.{option_copied}
use Rattle.base_model.specs.Texts.{texts}
use Rattle.legal_history.proofs.Builds.OrderedUnits.{units_in_order}
use Rattle.build_core.proofs.RunsUnits.{units_formed}
use Rattle.build_core.proofs.begins.units_to_begin.Goals as goal

pub returns-clause-formed : goal.returns-clause-formed
returns-clause-formed c = record {
  formed = units_formed (texts c.args.rows.now c.args.view.now) (option_copied c.args.file) c.args.macros.now c.args.goals.now
      c.in_ok-graph.graph c.in_ok-graph.ensures;
  few = (let count : length c.units.result.now ≡ length c.in_ok-graph.graph = ap length c.units.ensures.units in
      omega (arith, c.units.ensures.few, count));
}

pub returns-clause-in_order : goal.returns-clause-in_order
returns-clause-in_order c =
    units_in_order (texts c.args.rows.now c.args.view.now) (option_copied c.args.file) c.args.macros.now c.args.goals.now
    c.in_ok-graph.graph c.in_ok-graph.ensures
