-- the words have a form, whose text is a session or one of sites, or none
use Rattle.std.proofs.Common.{refl, sym, subst}
use Rattle.session_run.specs.Calls.Causes.{TakesNoMore, intake_by, intake_of}
use Rattle.session_run.specs.Running.Unstarted.{GivesText, IsUnstarted}
use Rattle.session_run.proofs.Calls.Ready.{are_said, given_so, not_given_so, takes_none}
use Rattle.session_run.proofs.sessions.session_given.Goals as goal

pub text_given-requires : goal.text_given-requires
text_given-requires g c = are_said c.args.words.now c.in-Some.form (sym c.in-Some.ensures)

pub returns-in-Ok-clause-gives : goal.returns-in-Ok-clause-gives
returns-in-Ok-clause-gives g c =
    given_so (intake_of c.args.words.now (g.S.Source.ghost_state c.args.source.now)
    (g.S.Source.ghost_state c.text_given.new.source))
    c.in-Some.form c.in-Ok.text c.session_of.result (sym c.in-Some.ensures)
    (subst (λ form. GivesText c.in-Some.form (intake_by form (g.S.Source.ghost_state c.args.source.now)
    (g.S.Source.ghost_state c.text_given.new.source)) c.in-Ok.text) c.in-Some.ensures c.in-Ok.ensures.gives)
    c.session_of.ensures.gives

pub returns-in-Ok-clause-why : goal.returns-in-Ok-clause-why
returns-in-Ok-clause-why g c =
    not_given_so (intake_of c.args.words.now (g.S.Source.ghost_state c.args.source.now)
    (g.S.Source.ghost_state c.text_given.new.source))
    c.in-Some.form c.in-Ok.text c.session_of.result (sym c.in-Some.ensures)
    (subst (λ form. GivesText c.in-Some.form (intake_by form (g.S.Source.ghost_state c.args.source.now)
    (g.S.Source.ghost_state c.text_given.new.source)) c.in-Ok.text) c.in-Some.ensures c.in-Ok.ensures.gives)
    c.session_of.ensures.why

pub returns-in-Ok-clause-taken : goal.returns-in-Ok-clause-taken
returns-in-Ok-clause-taken g c =
    subst (λ form. TakesNoMore (intake_by form (g.S.Source.ghost_state c.args.source.now)
    (g.S.Source.ghost_state c.text_given.new.source))) c.in-Some.ensures c.text_given.ensures.taken

pub returns-in-Err-clause-why : goal.returns-in-Err-clause-why
returns-in-Err-clause-why g c =
    subst (λ form. IsUnstarted c.in-Err.unstarted (intake_by form (g.S.Source.ghost_state c.args.source.now)
    (g.S.Source.ghost_state c.text_given.new.source))) c.in-Some.ensures c.in-Err.ensures.why

pub returns-in-Err-clause-taken : goal.returns-in-Err-clause-taken
returns-in-Err-clause-taken g c =
    subst (λ form. TakesNoMore (intake_by form (g.S.Source.ghost_state c.args.source.now)
    (g.S.Source.ghost_state c.text_given.new.source))) c.in-Some.ensures c.text_given.ensures.taken

pub returns-in_default-clause-taken : goal.returns-in_default-clause-taken
returns-in_default-clause-taken g c = takes_none _ (record { text = refl; given = refl; calls = refl; faults = refl }) refl
