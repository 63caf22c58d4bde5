-- the first build in the view, lane by lane
use Rattle.std.proofs.Common.{sym, ap, ◌∙◌, Some}
use Rattle.std.specs.Prelude.{bytes_eq}
use Rattle.base_core.specs.Keeping.Lanes.{builds_in}
use Rattle.base_core.proofs.Keeping.LaneSets.{builds_count}
use Rattle.base_core.proofs.Keeping.SlotLists.{building_tag, tag_none, tag_first}
use Rattle.base_core.proofs.lanes.building_in.Goals as goal

pub returns-in-Some : goal.returns-in-Some
returns-in-Some c =
    ap Some c.tag.ensures
    ∙ sym (tag_first (builds_in c.loop-lane.rest.now) (builds_in c.in-Some.more.now) c.in-Some.lane.now.build
    c.in-Some-build.build c.args.view.now (ap builds_in c.in-Some.ensures.cases.0) (ap (λ lane. lane.build) (sym c.lane.view_is)
    ∙ c.in-Some-build.is) (ap (λ bytes. bytes_eq bytes c.args.view.now) (sym (c.as_bytes.ensures.bytes ∙ c.view.ensures))
    ∙ sym c.eq.ensures ∙ c.if-eq.true))
    ∙ c.loop-lane.invariant ∙ sym (building_tag 1 (builds_in c.args.lanes.now) c.args.view.now)

pub returns : goal.returns
returns c =
    sym (tag_none (builds_in c.loop-lane.rest.now) c.args.view.now (builds_count c.loop-lane.rest.now
    ∙ c.in_default.ensures.cases)) ∙ c.loop-lane.invariant ∙ sym (building_tag 1 (builds_in c.args.lanes.now) c.args.view.now)
