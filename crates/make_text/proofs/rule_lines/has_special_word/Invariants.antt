use Rattle.std.proofs.Common.{◌≡◌, map, drop}
use Rattle.std.specs.List.{list_any}
use Rattle.make_grammar.specs.Statements.{is_special}
use Rattle.make_text.proofs.rule_lines.has_special_word.Given as goal

abbrev pub invariant-loop-word : goal.invariant-loop-word
invariant-loop-word l = list_any is_special (map (λ word. word.now) (drop l.word-index l.words))
    ≡ list_any is_special (map (λ word. word.now) l.words)
