use Rattle.std.proofs.Common.{◌≡◌, ◌≢◌, ◌∙◌, ℕ, ◌+◌, ◌<◌, Some, None, List, [], ◌∷◌, take, length, sym, ap, arith}
use Rattle.std.proofs.lemmas.List.{take_rest}
use Rattle.cc_names.specs.Cuts.{lines_of}
use Rattle.cc_names.proofs.LinesAndWords.{lines-next}
use Rattle.session_text.proofs.kinds.cut_session_line.Goals as goal

some_byte : (bytes : List ℕ) → 0 < length bytes → bytes ≢ []
some_byte bytes h e = let none : length bytes ≡ 0 = ap length e in absurd (omega arith)

pub returns-in-Some-clause-lines : goal.returns-in-Some-clause-lines
returns-in-Some-clause-lines c =
    lines-next c.args.bytes.now (Some c.in-Some.end) (some_byte c.args.bytes.now c.requires) (sym c.in-Some.is
    ∙ c.first_newline.ensures.place)
    ∙ ap (λ (v : List ℕ). take c.in-Some.end c.args.bytes.now ∷ lines_of v) (sym (take_rest c.args.bytes.now (c.in-Some.end + 1)))

pub returns-in-None-clause-lines : goal.returns-in-None-clause-lines
returns-in-None-clause-lines c =
    lines-next c.args.bytes.now None (some_byte c.args.bytes.now c.requires) (sym c.in-None.is ∙ c.first_newline.ensures.place)
