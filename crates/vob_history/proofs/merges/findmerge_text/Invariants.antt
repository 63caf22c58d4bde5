use Rattle.std.proofs.Common.{◌≡◌, ◌++◌, map}
use Rattle.std.specs.List.{concat}
use Rattle.legal_history.specs.Queries.Merges.{found_line}
use Rattle.vob_history.proofs.merges.findmerge_text.Given as goal

-- what is written, and then the lines of the elements that are left
abbrev pub invariant-loop-place : goal.invariant-loop-place
invariant-loop-place l =
    l.text.items ++ concat (map (λ found. found_line l.rows l.view l.branch found.0 found.1) l.place-iterator)
    ≡ concat (map (λ found. found_line l.rows l.view l.branch found.0 found.1) l.initial.place-iterator)
