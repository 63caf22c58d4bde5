use Rattle.std.proofs.Common.{ap, ◌∙◌, sym, Ok, Some, None, option_map, map}
use Rattle.make_text.proofs.WordLemmas.{below_root_is}
use Rattle.make_text.proofs.rule_lines.words_as_paths.Goals as goal

pub returns-in-Some : goal.returns-in-Some
returns-in-Some c =
    below_root_is (map (λ word. word.now) c.args.words.now) (Some c.in-Some.paths.items)
    (sym (ap (option_map (λ v. v.items)) c.in-Some.is) ∙ c.in_ok-paths.ensures)
    ∙ ap Ok (sym c.of.ensures)

pub returns-in-None : goal.returns-in-None
returns-in-None c =
    below_root_is (map (λ word. word.now) c.args.words.now) None (sym (ap (option_map (λ v. v.items)) c.in-None.is)
    ∙ c.in_ok-paths.ensures)
