use Rattle.std.proofs.Common.{◌≡◌, ◌++◌, drop, map}
use Rattle.std.specs.List.{concat}
use Rattle.vob_history.specs.Histories.{history_row_lines}
use Rattle.vob_history.proofs.histories.push_rows.Given as goal

-- what is written, and then the lines of the rows that are left
abbrev pub invariant-loop-number : goal.invariant-loop-number
invariant-loop-number l =
    l.text.items ++ concat (map (history_row_lines l.rows l.element) (drop l.number-index l.numbers)) ≡ l.initial.text.items
    ++ concat (map (history_row_lines l.rows l.element) l.numbers)
