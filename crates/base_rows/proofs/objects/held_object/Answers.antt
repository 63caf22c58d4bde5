-- The newest row of the object, unless the view ended after it.
use Rattle.std.proofs.Common.{refl, sym, ap₂, ◌∙◌}
use Rattle.base_rows.specs.Effects.{gone_effect, object_effect}
use Rattle.base_rows.specs.Lifetimes.{within}
use Rattle.base_rows.proofs.Endings.{last_within}
use Rattle.base_rows.proofs.Holdings.{held_by_last, held_effect}
use Rattle.base_rows.proofs.objects.held_object.Goals as goal

pub returns : goal.returns
returns c =
    let v = c.args.view.now in
    let path = c.args.path.now in
    c.within.ensures
    ∙ ap₂ within c.last_gone.ensures c.newest.ensures
    ∙ sym (last_within (held_effect v path) (gone_effect v) (object_effect v path) (λ older deed. refl) c.args.rows.now)
    ∙ sym (held_by_last c.args.rows.now v path)
