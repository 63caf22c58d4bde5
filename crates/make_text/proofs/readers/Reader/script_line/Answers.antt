use Rattle.std.proofs.Common.{◌≡◌, ap, ◌∙◌, sym, subst, Ok, Some}
use Rattle.cc_names.specs.Answers.{FaultIs}
use Rattle.make_grammar.specs.Statements.{Reading, if_no_fault}
use Rattle.make_text.specs.ReadingSteps.{with_newest_line}
use Rattle.make_text.specs.Readers.{KeepsScripted, open_rule, script_tested, older_of}
use Rattle.make_text.proofs.ReaderLemmas.{keeps_scripted, script_line_is, then_fault}
use Rattle.make_text.proofs.readers.Reader.script_line.Goals as goal

pub invariant_of-self : goal.invariant_of-self
invariant_of-self c =
    let line = c.args.bytes.now in
    let open_ = subst (λ (r : Reading). Some c.in-Some.rule.now ≡ open_rule r.takes_script r.rules) c.self.view_is
    c.in-Some.ensures in
    let kept = subst (λ (r : Reading). KeepsScripted c.self.inside.scripted.keys r.rules) c.self.view_is c.self.invariant in
    let put = c.in_ok-add_script_line-in-Ok.ensures ∙ ap (with_newest_line line) c.self.view_is in
    keeps_scripted c.self.inside.scripted.keys c.args.self c.add_script_line.new.self c.args.file.now c.args.line line
    c.in-Some.rule.now open_ kept c.in-Ok.ensures put

pub returns-in_ok-add_script_line-in-Ok : goal.returns-in_ok-add_script_line-in-Ok
returns-in_ok-add_script_line-in-Ok c =
    let old = c.args.self in
    let line = c.args.bytes.now in
    let open_ = subst (λ (r : Reading). Some c.in-Some.rule.now ≡ open_rule r.takes_script r.rules) c.self.view_is
    c.in-Some.ensures in
    let put = c.in_ok-add_script_line-in-Ok.ensures ∙ ap (with_newest_line line) c.self.view_is in
    script_line_is c.args.file.now c.args.line line c.in-Some.rule.now old open_
    (sym c.is_blank_line.ensures ∙ c.if-is_blank_line.false)
    ∙ (ap (λ r. if_no_fault r (λ (r : Reading). Ok (with_newest_line line r))) c.in-Ok.ensures
    ∙ ap Ok (sym put))

pub returns-in-Err : goal.returns-in-Err
returns-in-Err c =
    let old = c.args.self in
    let line = c.args.bytes.now in
    let open_ = subst (λ (r : Reading). Some c.in-Some.rule.now ≡ open_rule r.takes_script r.rules) c.self.view_is
    c.in-Some.ensures in
    let read = script_line_is c.args.file.now c.args.line line c.in-Some.rule.now old open_
    (sym c.is_blank_line.ensures ∙ c.if-is_blank_line.false) in
    subst (FaultIs c.in-Err.fault) (sym read)
    (then_fault c.in-Err.fault (script_tested c.args.file.now c.args.line line c.in-Some.rule.now (older_of old.rules) old)
    (λ (r : Reading). Ok (with_newest_line line r)) c.in-Err.ensures)
