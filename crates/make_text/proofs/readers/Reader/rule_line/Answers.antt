use Rattle.std.proofs.Common.{◌≡◌, ap, ◌∙◌, sym, subst, Ok, List, ℕ}
use Rattle.cc_names.specs.Answers.{FaultIs}
use Rattle.make_grammar.specs.Statements.{Reading, macros_of, rule_by_words, rule_line, with_rule, reading_fault}
use Rattle.make_text.proofs.SideLemmas.{words_said}
use Rattle.make_text.proofs.readers.Reader.rule_line.Goals as goal

pub add_rule-requires : goal.add_rule-requires
add_rule-requires c =
    words_said (macros_of c.self.inside.reading.macros) c.args.before.now c.args.behind.now c.in-Ok.words c.in-Ok.ensures.words

pub returns-in-Ok : goal.returns-in-Ok
returns-in-Ok c =
    let old = c.self.inside.reading in
    let file = c.args.file.now.value in
    let read =
    ap (rule_by_words file c.args.line old) c.in-Ok.ensures.words
    ∙ (ap (λ (r : Reading). Ok (with_rule file c.args.line c.in-Ok.words r)) (sym c.in-Ok.ensures.same)
    ∙ ap Ok (sym c.in_ok-add_rule-in-Ok.ensures)) in
    subst (λ (r : Reading). rule_line file c.args.line c.args.before.now c.args.behind.now r ≡ Ok
    c.in_ok-add_rule-in-Ok.field-0) c.self.view_is read

pub returns-in-Err-Is : goal.returns-in-Err-Is
returns-in-Err-Is c =
    let old = c.self.inside.reading in
    let words = rw c.in-Err-Is.field-0-is at c.in-Err-Is.ensures.words in
    let read = ap (rule_by_words c.args.file.now.value c.args.line old) words in
    let fault = subst (λ (file : List ℕ). FaultIs c.reading_fault.result (reading_fault file c.args.line c.in-Err-Is.cause))
    c.deref.ensures c.reading_fault.ensures in
    subst (λ (r : Reading). FaultIs c.reading_fault.result
    (rule_line c.args.file.now.value c.args.line c.args.before.now c.args.behind.now r)) c.self.view_is
    (subst (FaultIs c.reading_fault.result) (sym read) fault)
