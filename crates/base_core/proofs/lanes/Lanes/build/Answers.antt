-- the lane's build, or no lane
use Rattle.std.proofs.Common.{◌-◌, length, get_or, sym, ap, ◌∙◌, arith}
use Rattle.build_core.specs.Slots.{numbered_slots}
use Rattle.legal_history.specs.Builds.Active.{build_of}
use Rattle.base_core.specs.Keeping.Lanes.{builds_in}
use Rattle.base_core.proofs.Keeping.LaneSets.{build_there, builds_count}
use Rattle.base_core.proofs.Keeping.SlotLists.{build_nowhere, build_zero}
use Rattle.base_core.proofs.lanes.Lanes.build.Goals as goal
use Rattle.base_core.proofs.lanes.Lanes.build.Goals.{then-lane-eq0-via-then-lane-eq0}
use Rattle.base_core.proofs.lanes.Lanes.build.Goals.{then-lane-eq0-via-else-lane-eq0+then-lane-len}

pub returns-then-lane-eq0 : goal.returns-then-lane-eq0
returns-then-lane-eq0 c = elim c.then-lane-eq0.branch [
  | then-lane-eq0-via-then-lane-eq0 w ↦ sym (ap (build_of (numbered_slots 1 (builds_in c.args.self.now))) w.if-lane-eq0.true
      ∙ build_zero (builds_in c.args.self.now))
  | then-lane-eq0-via-else-lane-eq0+then-lane-len w ↦ sym (build_nowhere (builds_in c.args.self.now) c.args.lane
      (omega (arith, w.if-lane-len.true, w.len.ensures, builds_count c.args.self.now, ap length c.self.view_is)))
]

pub returns : goal.returns
returns c =
    c.as_ref.ensures.value ∙ ap (λ lane. lane.build) c.behind-self.view_is ∙ ap (λ lane. lane.build) c.index.ensures
    ∙ ap (λ lanes. (get_or lanes (c.args.lane - 1) c.index.result.now).build) c.self.view_is
    ∙ sym (build_there c.args.self.now c.args.lane c.index.result.now (omega (arith, c.if-lane-eq0.false))
    (omega (arith, c.if-lane-len.false, c.len.ensures, ap length c.self.view_is)))
