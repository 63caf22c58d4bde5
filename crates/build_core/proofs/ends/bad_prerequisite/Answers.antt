-- Where none of the units that make its prerequisites failed or was blocked, none of these is bad.
use Rattle.std.proofs.Common.{◌≡◌, false, ap, sym, ◌∙◌, arith}
use Rattle.std.specs.List.{list_any}
use Rattle.legal_history.specs.Builds.Active.{came_to}
use Rattle.legal_history.specs.Builds.Serials.{is_bad}
use Rattle.legal_history.specs.Builds.Turns.{standing_of_came}
use Rattle.make_graph.specs.Waits.{makers_of, prerequisites_of, prerequisites_at}
use Rattle.build_core.proofs.Early.{none_bad}
use Rattle.build_core.proofs.ends.bad_prerequisite.Goals as goal

pub returns-then-not-has_bad_unit : goal.returns-then-not-has_bad_unit
returns-then-not-has_bad_unit c =
    let build = c.args.build.now in
    let any = list_any (λ n. is_bad (standing_of_came (came_to build n))) in
    let paths : prerequisites_at build.units c.args.number ≡ c.args.unit.now.prerequisites =
    ap prerequisites_of c.requires.unit in
    let good : any (makers_of build.units c.args.unit.now.prerequisites) ≡ false =
    ap (λ l. any (makers_of build.units l)) (sym paths) ∙ (sym (ap any c.makers.ensures)
    ∙ (sym c.has_bad_unit.ensures ∙ grind (arith, c.if-not-has_bad_unit.true, c.if-not-has_bad_unit.ensures))) in
    sym (none_bad c.args.rows.now build c.args.unit.now.prerequisites good)
