use Rattle.std.proofs.Common.{◌≡◌, ◌+◌, true, false, ap, sym, ◌∙◌, arith}
use Rattle.std.specs.List.{list_any}
use Rattle.std.proofs.lemmas.List.{at_drop_all}
use Rattle.legal_history.specs.Stories.Steps.{state_of}
use Rattle.base_core.specs.Story.Replying.{replies_of}
use Rattle.session_run.specs.Story.Rendered.{is_failure, lanes_fail}
use Rattle.session_run.proofs.Story.FailedLanes.{first_fails}
use Rattle.session_run.proofs.failures.any_failed.Goals as goal

pub loop-index-preserved : goal.loop-index-preserved
loop-index-preserved g c =
    let story = c.args.core.now.story in
    let none : list_any is_failure (replies_of story (c.loop-index.index + 1)) ≡ false =
    ap (list_any is_failure) (sym c.replies.ensures) ∙ sym c.has_failure.ensures ∙ c.if-has_failure.false in
    c.loop-index.invariant ∙ first_fails (state_of story).phase.lanes (replies_of story) c.loop-index.index false
    (omega (arith, c.lanes-lanes.ensures)) none

pub returns-then-has_failure : goal.returns-then-has_failure
returns-then-has_failure g c =
    let story = c.args.core.now.story in
    let one : list_any is_failure (replies_of story (c.loop-index.index + 1)) ≡ true =
    ap (list_any is_failure) (sym c.replies.ensures) ∙ sym c.has_failure.ensures ∙ c.if-has_failure.true in
    sym (c.loop-index.invariant ∙ first_fails (state_of story).phase.lanes (replies_of story) c.loop-index.index true
    (omega (arith, c.lanes-lanes.ensures)) one)

pub returns : goal.returns
returns g c =
    let story = c.args.core.now.story in
    sym (c.loop-index.invariant ∙ at_drop_all (λ v. lanes_fail (c.loop-index.index + 1) v (replies_of story))
    (state_of story).phase.lanes c.loop-index.index (omega (arith, c.lanes-lanes.ensures)))
