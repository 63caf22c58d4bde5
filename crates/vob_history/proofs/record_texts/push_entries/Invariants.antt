use Rattle.std.proofs.Common.{◌≡◌, ◌++◌, drop, map}
use Rattle.std.specs.List.{concat}
use Rattle.vob_history.specs.Recorded.{entry_line}
use Rattle.vob_history.proofs.record_texts.push_entries.Given as goal

-- what is written, and then the lines of the entries that are left
abbrev pub invariant-loop-entry : goal.invariant-loop-entry
invariant-loop-entry l =
    l.text.items ++ concat (map (entry_line l.rows) (drop l.entry-index l.entries)) ≡ l.initial.text.items
    ++ concat (map (entry_line l.rows) l.entries)
