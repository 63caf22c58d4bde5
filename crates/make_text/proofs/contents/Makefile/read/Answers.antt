use Rattle.std.proofs.Common.{ap, ◌∙◌, sym, subst, ℕ, List}
use Rattle.cc_names.specs.Answers.{FaultIs, Gives}
use Rattle.make_grammar.specs.Grammar.{checked_contents, lines_read}
use Rattle.make_text.proofs.EndingLemmas.{checked_fault, makefile_is}
use Rattle.make_text.proofs.contents.Makefile.read.Goals as goal

pub returns-in-Ok : goal.returns-in-Ok
returns-in-Ok g c =
    let files = g.X.Texts.texts c.args.texts.now in
    let file = c.args.file.now in
    let overrides = c.args.overrides.now in
    let path = c.in_ok-file.ensures.ok ∙ c.in_ok-copy.ensures.copy in
    let lines =
    ap (λ (text : List ℕ). lines_read files file text overrides) (sym c.text_or_empty-text.ensures)
    ∙ (ap (λ (p : List ℕ). lines_read files p c.text_or_empty-text.result.now overrides) (sym path) ∙ c.in-Ok.ensures) in
    subst (Gives c.checked_contents.result) (sym (makefile_is files file overrides (files file) ∙ ap checked_contents lines))
    c.checked_contents.ensures

pub returns : goal.returns
returns g c =
    let files = g.X.Texts.texts c.args.texts.now in
    let file = c.args.file.now in
    let overrides = c.args.overrides.now in
    let path = c.in_ok-file.ensures.ok ∙ c.in_ok-copy.ensures.copy in
    let lines =
    ap (λ (text : List ℕ). lines_read files file text overrides) (sym c.text_or_empty-text.ensures)
    ∙ ap (λ (p : List ℕ). lines_read files p c.text_or_empty-text.result.now overrides) (sym path) in
    subst (FaultIs c.in-Err.fault) (sym (makefile_is files file overrides (files file)))
    (subst (λ r. FaultIs c.in-Err.fault (checked_contents r)) (sym lines) (checked_fault c.in-Err.fault _ c.in-Err.ensures))
