-- The newest, which the view does not hold at every target.
use Rattle.std.proofs.Common.{sym, ◌∙◌}
use Rattle.build_core.proofs.ChosenObjects.{none_is_chosen, other_is_chosen}
use Rattle.build_core.proofs.reuse.other_match.Goals as goal

pub returns-in-Some : goal.returns-in-Some
returns-in-Some c =
    let it = c.args.unit.now in
    other_is_chosen it.rows.now it.build.now it.number it.unit.now c.in-Some.id c.requires.rebuild c.requires.any c.requires.own
    (sym c.newest_match.ensures ∙ c.in-Some.is)

pub returns-in-None : goal.returns-in-None
returns-in-None c =
    let it = c.args.unit.now in
    none_is_chosen it.rows.now it.build.now it.number it.unit.now c.requires.rebuild c.requires.any c.requires.own
    (sym c.newest_match.ensures ∙ c.in-None.is)
