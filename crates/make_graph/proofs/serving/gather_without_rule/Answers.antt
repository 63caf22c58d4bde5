use Rattle.std.proofs.Common.{ap, ◌∙◌, filter, fold, not, List, ℕ}
use Rattle.make_grammar.specs.Units.{is_rule_target}
use Rattle.make_grammar.specs.WordPaths.{with_path_once}
use Rattle.make_graph.proofs.ServingLemmas.{put_both}
use Rattle.make_graph.proofs.serving.gather_without_rule.Goals as goal

pub returns : goal.returns
returns c =
    let make = c.args.make.now in
    let goals = c.args.goals.now in
    put_both make goals c.prerequisites.result.now c.put_without_rule.new.others.keys c.put_without_rule-2.new.others.keys
    (c.in_ok-put_without_rule.ensures ∙ ap (λ (l : List (List ℕ)). fold with_path_once l
    (filter (λ path. not (is_rule_target make.rules path)) goals)) c.with_hasher-others.ensures.empty)
    c.in_ok-put_without_rule-2.ensures c.prerequisites.ensures
