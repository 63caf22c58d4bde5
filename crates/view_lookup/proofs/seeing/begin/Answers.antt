-- What was kept of as many rows is of these.
use Rattle.std.proofs.Common.{subst, ◌∙◌}
use Rattle.std.specs.Prelude.{IfSome}
use Rattle.base_rows.specs.SeenFiles.{IsSeenIn}
use Rattle.view_lookup.proofs.seeing.begin.Goals as goal

pub returns-in-Some-clause-files : goal.returns-in-Some-clause-files
returns-in-Some-clause-files c =
    let kept = subst (λ it. IfSome it (IsSeenIn c.args.rows.now c.args.view.now)) c.in-Some.is c.requires in
    kept.1 (c.if-kept-size.true ∙ c.size.ensures.size)
