use Rattle.std.proofs.Common.{◌≡◌, map, drop}
use Rattle.make_grammar.specs.Macros.{is_among}
use Rattle.make_grammar.specs.Statements.{suffixes_name}
use Rattle.make_text.proofs.rule_lines.names_suffixes.Given as goal

abbrev pub invariant-loop-word : goal.invariant-loop-word
invariant-loop-word l = is_among (map (λ word. word.now) (drop l.word-index l.words)) suffixes_name
    ≡ is_among (map (λ word. word.now) l.words) suffixes_name
