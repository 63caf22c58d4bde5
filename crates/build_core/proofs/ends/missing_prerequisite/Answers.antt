-- Where units make all of its prerequisites, none is missing.
use Rattle.std.proofs.Common.{◌≡◌, ap, sym, ◌∙◌, length, arith}
use Rattle.make_graph.specs.Waits.{makers_of, prerequisites_of, prerequisites_at}
use Rattle.build_core.proofs.Early.{none_missing}
use Rattle.build_core.proofs.ends.missing_prerequisite.Goals as goal

pub returns-then-makers-len : goal.returns-then-makers-len
returns-then-makers-len c =
    let build = c.args.build.now in
    let paths : prerequisites_at build.units c.args.number ≡ c.args.unit.now.prerequisites =
    ap prerequisites_of c.requires.unit in
    let made : length c.makers.result.now ≡ length (makers_of build.units c.args.unit.now.prerequisites) =
    ap length c.makers.ensures ∙ ap (λ l. length (makers_of build.units l)) paths in
    let all : length (makers_of build.units c.args.unit.now.prerequisites) ≡ length c.args.unit.now.prerequisites =
    omega (arith, made, c.if-makers-len.true, c.len.ensures) in
    sym (none_missing c.args.rows.now build c.args.unit.now.prerequisites all)
