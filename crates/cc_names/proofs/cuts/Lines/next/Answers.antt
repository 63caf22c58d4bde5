use Rattle.std.proofs.Common.{◌∙◌, sym, ap, ◌≡◌, ◌∷◌, length, arith}
use Rattle.std.proofs.lemmas.Grind.{common_steps}
use Rattle.cc_names.specs.Cuts.{lines_of, behind}
use Rattle.cc_names.proofs.LinesAndWords.{lines-next}
use Rattle.cc_names.proofs.cuts.Lines.next.Goals as goal

pub returns : goal.returns
returns c =
    let cut = lines-next c.self.inside.rest.now c.first_newline.result (λ e. let len : length c.self.inside.rest.now
    ≡ 0 = ap length e in grind (arith, common_steps)) c.first_newline.ensures.place in
    let view : lines_of c.self.inside.rest.now ≡ c.args.self.now = c.self.view_is in
    sym view ∙ cut ∙ ap (λ v. v ∷ lines_of (behind c.self.inside.rest.now c.first_newline.result)) (sym c.cut_at.ensures.0)
    ∙ ap (λ v. c.cut_at.result.0.now ∷ lines_of v) (sym c.cut_at.ensures.1)
