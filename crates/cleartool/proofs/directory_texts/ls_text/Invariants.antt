use Rattle.std.proofs.Common.{◌≡◌, ◌++◌, map}
use Rattle.std.specs.List.{concat}
use Rattle.legal_history.specs.Queries.DirectoryTexts.{names_in}
use Rattle.cleartool.specs.Listed.{SeesDirectory, seen_line}
use Rattle.view_lookup.proofs.ByKeys.{text_of_key}
use Rattle.cleartool.proofs.directory_texts.ls_text.Given as goal

-- what is written, and then the lines of the names that are left
abbrev pub invariant-loop-name : goal.invariant-loop-name
invariant-loop-name l =
    SeesDirectory l.rows l.view l.directory l.element →
    l.text.items ++ concat (map (text_of_key (seen_line l.rows l.view l.directory) (names_in l.rows l.view l.directory))
    l.name-iterator)
    ≡ concat (map (text_of_key (seen_line l.rows l.view l.directory) (names_in l.rows l.view l.directory))
    l.initial.name-iterator)
