use Rattle.std.proofs.Common.{refl, sym, ap, ◌∙◌}
use Rattle.session_text.specs.declared.kinds.Kind.TheVariants as kinds
use Rattle.session_text.specs.Reading.{FindsLane}
use Rattle.session_text.proofs.Seen.{IsSeen, behind, right-at, lane-step}
use Rattle.session_text.proofs.phases.LanesLeft.next.Goals as goal

pub go_to-requires-clause-right : goal.go_to-requires-clause-right
go_to-requires-clause-right c =
    let finds : FindsLane c.rest-rest.result c.in-Some.words c.find_lane.new.rest = c.in-Some.ensures in
    let seen : IsSeen c.self.inside.place c.rest-rest.result (kinds.Lane c.in-Some.words) c.find_lane.new.rest
    c.bytes_left-left.result =
    record {
      rest = c.rest-rest.ensures.rest;
      within = c.rest-rest.ensures.within;
      found = finds.found;
      left = c.bytes_left-left.ensures;
    } in
    right-at c.self.inside.place c.in_ok-place.place c.rest-rest.result c.find_lane.new.rest (kinds.Lane c.in-Some.words)
    c.bytes_left-left.result
    c.in_ok-place.ensures seen c.rest-rest.ensures.right

pub go_to-requires-2-clause-right : goal.go_to-requires-2-clause-right
go_to-requires-2-clause-right c =
    let finds : FindsLane c.rest-rest.result c.in-Some.words c.find_lane.new.rest = c.in-Some.ensures in
    let seen : IsSeen c.self.inside.place c.rest-rest.result (kinds.Lane c.in-Some.words) c.find_lane.new.rest
    c.bytes_left-left.result =
    record {
      rest = c.rest-rest.ensures.rest;
      within = c.rest-rest.ensures.within;
      found = finds.found;
      left = c.bytes_left-left.ensures;
    } in
    right-at c.self.inside.place c.self.inside.place c.rest-rest.result c.find_lane.new.rest (kinds.Lane c.in-Some.words)
    c.bytes_left-left.result
    refl seen c.rest-rest.ensures.right

pub returns-clause-ok : goal.returns-clause-ok
returns-clause-ok c =
    let finds : FindsLane c.rest-rest.result c.in-Some.words c.find_lane.new.rest = c.in-Some.ensures in
    let seen : IsSeen c.self.inside.place c.rest-rest.result (kinds.Lane c.in-Some.words) c.find_lane.new.rest
    c.bytes_left-left.result =
    record {
      rest = c.rest-rest.ensures.rest;
      within = c.rest-rest.ensures.within;
      found = finds.found;
      left = c.bytes_left-left.ensures;
    } in
    lane-step c.self.inside.place c.go_to.new.self c.go_to-2.new.self c.rest-rest.result c.find_lane.new.rest
    c.bytes_left-left.result c.in-Some.words c.in_ok-name.name c.args.self.now c.of.result
    seen finds.same (sym c.self.view_is) c.in_ok-name.ensures
    (c.go_to.ensures ∙ ap (λ place. behind place c.bytes_left-left.result) c.in_ok-place.ensures) c.go_to-2.ensures c.of.ensures
