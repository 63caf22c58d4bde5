use Rattle.std.proofs.Common.{◌≡◌, drop}
use Rattle.cc_names.specs.Paths.{names_of}
use Rattle.base_model.specs.ConfigSpecs.Rules.{pick}
use Rattle.spec_text.proofs.picks.pick_from.Given as goal

-- what is picked is what the rules that are left pick
abbrev pub invariant-loop-rule : goal.invariant-loop-rule
invariant-loop-rule g l =
    let sources = g.S.Selectable.selectables l.sources in
    pick sources l.element (names_of l.path) l.rules ≡ pick sources l.element (names_of l.path) (drop l.rule-index l.rule-items)
