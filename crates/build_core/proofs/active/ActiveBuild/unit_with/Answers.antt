use Rattle.std.proofs.Common.{◌≡◌, ◌<◌, ap, sym, subst, ◌∙◌, length, IfSome}
use Rattle.make_grammar.specs.Numbers.{number_from as number_of}
use Rattle.make_grammar.specs.UnitLaws.{made_by_unit}
use Rattle.legal_history.specs.Builds.Active.{Build, unit_with}
use Rattle.legal_history.proofs.Builds.OrderedUnits.{same_number}
use Rattle.build_core.proofs.UnitNumbers.{within}
use Rattle.build_core.proofs.active.ActiveBuild.unit_with.Goals as goal

pub returns-clause-number : goal.returns-clause-number
returns-clause-number c =
    c.unit_of.ensures
    ∙ (ap (λ (build : Build). number_of made_by_unit 0 c.args.path.now build.units) c.self.view_is
    ∙ sym (same_number 0 c.args.path.now c.args.self.now.units))

pub returns-clause-within : goal.returns-clause-within
returns-clause-within c =
    let units = c.args.self.now.units in
    let found : c.unit_of.result ≡ unit_with c.args.self.now c.args.path.now =
    c.unit_of.ensures
    ∙ (ap (λ (build : Build). number_of made_by_unit 0 c.args.path.now build.units) c.self.view_is
    ∙ sym (same_number 0 c.args.path.now units))
    in
    subst (λ o. IfSome o (λ n. n < length units)) (sym found) (within c.args.path.now units)
