-- the dependants that can be driven are the units that are released
use Rattle.std.proofs.Common.{◌≡◌, ap, sym, ◌∙◌, ◌++◌, arith}
use Rattle.std.proofs.lemmas.List.{append-nil, at_drop_all}
use Rattle.std.specs.List.{filter}
use Rattle.build_core.specs.Releasing.{can_be_driven}
use Rattle.build_core.proofs.ReleasedUnits.{released_are}
use Rattle.build_core.proofs.releases.released_units.Goals as goal

pub returns : goal.returns
returns c =
    let test = can_be_driven c.args.build.now in
    let dependants = c.dependants-dependants.result.now in
    let kept = c.loop-dependant.released.items in
    let all : kept ≡ filter test dependants =
    sym (append-nil kept) ∙ sym (at_drop_all (λ rest. kept ++ filter test rest) dependants c.loop-dependant.dependant-index
    (omega arith)) ∙ c.loop-dependant.invariant in
    all ∙ ap (filter test) c.dependants-dependants.ensures ∙ released_are c.args.build.now c.args.unit
