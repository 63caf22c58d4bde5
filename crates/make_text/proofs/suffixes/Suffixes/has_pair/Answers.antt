use Rattle.std.proofs.Common.{ap, ◌∙◌, sym}
use Rattle.std.specs.List.{list_all}
use Rattle.make_grammar.specs.Statements.{is_suffix}
use Rattle.make_text.proofs.PairLemmas.{pair_if}
use Rattle.make_text.proofs.suffixes.Suffixes.has_pair.Goals as goal

pub returns : goal.returns
returns c =
    let all = ap (list_all is_suffix) (sym c.self.view_is) ∙ c.self.invariant in
    pair_if c.args.self.now c.args.bytes.now c.cut.result.0.now c.cut.result.1.now c.has_both.result all c.cut.ensures.first
    c.cut.ensures.second c.has_both.ensures
