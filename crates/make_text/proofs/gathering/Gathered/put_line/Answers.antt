use Rattle.std.proofs.Common.{ap, ◌∙◌, fold}
use Rattle.make_grammar.specs.WordPaths.{with_path_once}
use Rattle.make_text.proofs.GatherLemmas.{put_step}
use Rattle.make_text.proofs.gathering.Gathered.put_line.Goals as goal

pub returns-clause-put : goal.returns-clause-put
returns-clause-put c =
    let keys = c.args.self.now.paths.keys in
    put_step c.args.lines.now c.args.self.now.marks.items _ keys _ c.args.number c.requires c.mark.ensures.marks
    (c.mark.ensures.paths ∙ (c.in_ok-put_paths.ensures ∙ ap (fold with_path_once keys) c.prerequisites_at.ensures))
