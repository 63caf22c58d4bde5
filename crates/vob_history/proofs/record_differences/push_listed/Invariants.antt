use Rattle.std.proofs.Common.{◌≡◌, ◌++◌, map}
use Rattle.std.specs.List.{concat}
use Rattle.legal_history.specs.Queries.RecordTexts.{path_lines}
use Rattle.vob_history.proofs.record_differences.push_listed.Given as goal

-- what is written, and then what is known of the paths that are left
abbrev pub invariant-loop-path : goal.invariant-loop-path
invariant-loop-path l =
    l.text.items ++ concat (map (path_lines l.rows l.one l.two) l.path-iterator) ≡ l.initial.text.items
    ++ concat (map (path_lines l.rows l.one l.two) l.initial.path-iterator)
