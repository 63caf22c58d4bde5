-- the answer to a lane's next command is that of its state
use Rattle.std.proofs.Common.{◌≡◌, None, ap, sym, subst, ◌∙◌}
use Rattle.view_lookup.specs.Answering.{AnswersAs}
use Rattle.legal_history.specs.Builds.Active.{build_of}
use Rattle.legal_history.specs.Queries.QueryLines.{query_answer}
use Rattle.legal_history.specs.Stories.Steps.{state_of}
use Rattle.clearmake.specs.Nexts.{next_of_lane}
use Rattle.base_core.proofs.Keeping.Idle.{acting_is_free}
use Rattle.base_core.proofs.Acting.NextCommands.{answered_so}
use Rattle.base_core.proofs.core_value.Core.find_answer.Goals as goal

pub returns : goal.returns
returns g c =
    let s = state_of c.args.self.now.story in
    let same = ap (λ v. v.story) c.self.view_is in
    let free : build_of s.active c.args.lane ≡ None = subst (λ t. build_of (state_of t).active c.args.lane ≡ None) same
    (acting_is_free c.self.inside.log c.self.inside.lanes c.self.inside.moment c.args.lane c.self.invariant
    (ap (λ t. next_of_lane (state_of t) c.args.lane) same ∙ c.requires.act)) in
    answered_so s c.args.lane c.args.query.now c.answer.result free c.requires.command
    (subst (λ rows. AnswersAs c.answer.result (query_answer rows c.args.query.now)) (c.rows.ensures
    ∙ sym c.self.invariant.story.base ∙ ap (λ t. (state_of t).base) same) c.answer.ensures)
