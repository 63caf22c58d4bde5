use Rattle.std.proofs.Common.{◌≡◌, ap, ◌∙◌, flat_map, fold, List, ℕ}
use Rattle.make_text.specs.Gathering.{prerequisites_at}
use Rattle.make_text.specs.Joining.{joined_rule}
use Rattle.make_grammar.specs.WordPaths.{with_path_once}
use Rattle.make_text.proofs.GatherLemmas.{put_joined}
use Rattle.make_text.proofs.ReaderLemmas.{on_ok}
use Rattle.make_text.proofs.gathering.Gathered.put_rule.Goals as goal

pub returns-clause-paths : goal.returns-clause-paths
returns-clause-paths c =
    let keys = c.args.self.now.paths.keys in
    let new = c.put_lines.new.self.paths.keys in
    let lines = c.args.lines.now in
    let rule = c.args.rule.now in
    on_ok c.put_lines.result (new ≡ fold with_path_once keys (flat_map (prerequisites_at lines) c.lines.result.now))
    (new ≡ fold with_path_once keys (joined_rule lines rule).prerequisites) c.put_lines.ensures.paths
    (λ is. is ∙ (ap (λ (numbers : List ℕ). fold with_path_once keys (flat_map (prerequisites_at lines) numbers)) c.lines.ensures
    ∙ put_joined lines rule keys))
