use Rattle.std.proofs.Common.{◌∙◌, sym, ap, ◌≡◌, ◌∷◌, length, arith, inl, inr, true}
use Rattle.std.proofs.lemmas.Grind.{common_steps}
use Rattle.cc_names.specs.Cuts.{words_of, starts_with_word, behind}
use Rattle.cc_names.proofs.LinesAndWords.{words-next}
use Rattle.cc_names.proofs.cuts.Words.next.Goals as goal

pub returns : goal.returns
returns c =
    let rest = c.past_blanks-rest.result.now in
    let first : starts_with_word rest ≡ true =
    elim c.past_blanks-rest.ensures.first [
      | inl e ↦ let len : length rest ≡ 0 = ap length e in absurd (grind (arith, common_steps))
      | inr h ↦ h
    ] in
    let cut = words-next rest c.first_blank.result first c.first_blank.ensures.place in
    let view : words_of c.self.inside.rest.now ≡ c.args.self.now = c.self.view_is in
    sym view ∙ sym c.past_blanks-rest.ensures.words ∙ cut ∙ ap (λ v. v ∷ words_of (behind rest c.first_blank.result))
    (sym c.cut_at.ensures.0)
    ∙ ap (λ v. c.cut_at.result.0.now ∷ words_of v) (sym c.cut_at.ensures.1)
