-- The path has a place just where it is a target.
use Rattle.std.proofs.Common.{◌∙◌}
use Rattle.base_rows.proofs.TargetOrders.{among_targets, has_place}
use Rattle.base_rows.proofs.objects.has_target.Goals as goal

pub returns-clause-among : goal.returns-clause-among
returns-clause-among c =
    let path = c.args.target.now in
    c.is_some.ensures ∙ has_place path _ c.target_place.result c.target_place.ensures.place

pub returns-clause-target : goal.returns-clause-target
returns-clause-target c =
    let path = c.args.target.now in
    c.is_some.ensures ∙ has_place path _ c.target_place.result c.target_place.ensures.place ∙ among_targets path _
