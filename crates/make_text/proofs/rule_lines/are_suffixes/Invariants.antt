use Rattle.std.proofs.Common.{◌≡◌, map, drop}
use Rattle.std.specs.List.{list_all}
use Rattle.make_grammar.specs.Statements.{is_suffix}
use Rattle.make_text.proofs.rule_lines.are_suffixes.Given as goal

abbrev pub invariant-loop-word : goal.invariant-loop-word
invariant-loop-word l = list_all is_suffix (map (λ word. word.now) (drop l.word-index l.words))
    ≡ list_all is_suffix (map (λ word. word.now) l.words)
