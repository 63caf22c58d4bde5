-- The three parts are written one after the other.
use Rattle.std.proofs.Common.{ℕ, List, ◌++◌, map, ap, ◌∙◌}
use Rattle.std.specs.Prelude.{codes}
use Rattle.std.specs.List.{concat}
use Rattle.legal_history.specs.Queries.RecordTexts.{path_lines, unless_same}
use Rattle.vob_history.proofs.DifferingPaths.{differences_written}
use Rattle.vob_history.proofs.record_differences.diffcr_text.Goals as goal

pub returns : goal.returns
returns c =
    let b = c.args.rows.now in
    let first = c.record_of-first.result in
    let second = c.record_of-second.result in
    let keys = c.in_ok-paths.paths.keys in
    differences_written b c.args.one c.args.two first second c.are_same_paths-same_targets.result c.eq-same_script.result keys c.of.result
    c.record_of-first.ensures.targets c.record_of-second.ensures.targets c.record_of-first.ensures.script
    c.record_of-second.ensures.script c.record_of-first.ensures.entries c.record_of-second.ensures.entries
    c.are_same_paths-same_targets.ensures c.eq-same_script.ensures c.in_ok-push_listed.ensures.ordered c.in_ok-paths.ensures
    (c.of.ensures ∙ c.in_ok-push_listed.ensures.reported
    ∙ ap (λ (bytes : List ℕ). bytes ++ concat (map (path_lines b first.entries.now second.entries.now) keys))
    (c.in_ok-push_unless-2.ensures
    ∙ ap (λ (bytes : List ℕ). bytes ++ unless_same c.eq-same_script.result (codes "script differs\n"))
    (c.in_ok-push_unless.ensures ∙ ap (λ (bytes : List ℕ). bytes ++ unless_same c.are_same_paths-same_targets.result
    (codes "targets differ\n")) c.new-text.ensures.items)))
