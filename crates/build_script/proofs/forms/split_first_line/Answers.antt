use Rattle.std.proofs.Common.{◌≡◌, ◌+◌, ◌-◌, ◌∷◌, [], ◌<◌, ◌==◌, false, ℕ, List, length, take, ap, sym, ◌∙◌, arith}
use Rattle.cc_names.proofs.Common.{rest_is_whole}
use Rattle.script_grammar.specs.Forms.{lines_in}
use Rattle.build_script.proofs.FormLemmas.{lines_in-at, lines_in-none}
use Rattle.build_script.proofs.forms.split_first_line.Goals as goal

filled : (text : List ℕ) → false ≡ (length text == 0) → 0 < length text
filled [] e = cc
filled (b ∷ text) e = omega arith

pub returns-in-Some-clause-lines : goal.returns-in-Some-clause-lines
returns-in-Some-clause-lines c =
    lines_in-at c.args.text.now c.in-Some.place (sym c.first_newline.ensures.place ∙ c.in-Some.is)
    ∙ ap (λ (rest : List ℕ). take (c.in-Some.place + 1) c.args.text.now ∷ lines_in rest)
    (sym (rest_is_whole (c.in-Some.place + 1) c.args.text.now))

pub returns-in-None-2-clause-lines : goal.returns-in-None-2-clause-lines
returns-in-None-2-clause-lines c = lines_in-none c.args.text.now (sym c.first_newline.ensures.place
    ∙ c.in-None.is) (filled c.args.text.now c.if-is_empty.ensures)
