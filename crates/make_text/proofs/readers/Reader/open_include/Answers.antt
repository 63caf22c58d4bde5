use Rattle.std.proofs.Common.{◌≡◌, ap, ◌∙◌, sym, subst, Ok}
use Rattle.cc_names.specs.Answers.{FaultIs}
use Rattle.make_text.specs.ReadingSteps.{ended_rule}
use Rattle.make_grammar.specs.Statements.{Reading, include_by_words, include_line, include_words, macros_of, within_limits}
use Rattle.make_text.proofs.ReaderLemmas.{paths_fault}
use Rattle.make_text.proofs.readers.Reader.open_include.Goals as goal

pub returns-in-Ok-within_limits : goal.returns-in-Ok-within_limits
returns-in-Ok-within_limits c =
    let words = subst (λ (r : Reading). include_words (macros_of r.macros) c.args.behind.now ≡ Ok c.in-Ok.paths)
    c.self.view_is c.in-Ok.ensures.paths in
    let ended : ended_rule c.args.self ≡ c.end_rule.new.self = ap ended_rule (sym c.self.view_is ∙ sym c.in-Ok.ensures.same)
    ∙ sym c.end_rule.ensures in
    (words, ap (within_limits c.args.file.now c.args.line) ended ∙ c.in-Ok-within_limits.ensures)

pub returns-in-Ok : goal.returns-in-Ok
returns-in-Ok c include =
    let old = c.args.self in
    let words = subst (λ (r : Reading). include_words (macros_of r.macros) c.args.behind.now ≡ Ok c.in-Ok.paths)
    c.self.view_is c.in-Ok.ensures.paths in
    let read = ap (include_by_words include c.args.file.now c.args.line old) words in
    let ended : c.end_rule.new.self ≡ ended_rule old = c.end_rule.ensures ∙ ap ended_rule
    (c.in-Ok.ensures.same ∙ c.self.view_is) in
    let fault = subst (λ (r : Reading). FaultIs c.in-Err.fault (within_limits c.args.file.now c.args.line r)) ended
    c.in-Err.ensures in
    subst (FaultIs c.in-Err.fault) (sym read)
    (paths_fault include c.in-Ok.paths c.in-Err.fault (within_limits c.args.file.now c.args.line (ended_rule old)) fault)

pub returns-in-Err-Is : goal.returns-in-Err-Is
returns-in-Err-Is c include =
    let fault = rw c.in-Err-Is.field-0-is at c.in-Err-Is.ensures.paths in
    let read = ap (include_by_words include c.args.file.now c.args.line c.self.inside.reading) fault in
    subst (λ (r : Reading). FaultIs c.reading_fault.result (include_line include c.args.file.now c.args.line c.args.behind.now r))
    c.self.view_is
    (subst (FaultIs c.reading_fault.result) (sym read) c.reading_fault.ensures)
