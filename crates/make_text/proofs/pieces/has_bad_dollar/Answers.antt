use Rattle.std.proofs.Common.{◌∙◌, sym, ap}
use Rattle.std.specs.List.{list_any}
use Rattle.make_grammar.specs.Macros.{is_bad_dollar, pieces_of}
use Rattle.make_text.proofs.PieceLemmas.{passing_part}
use Rattle.make_text.proofs.pieces.has_bad_dollar.Goals as goal

pub parts-preserved : goal.parts-preserved
parts-preserved c =
    sym (passing_part c.cut_part.result.0 (pieces_of c.cut_part.result.1.now) c.in_default.not-Bad)
    ∙ ap (list_any is_bad_dollar) (sym c.cut_part.ensures.pieces)
    ∙ c.parts.invariant
