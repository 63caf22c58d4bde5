use Rattle.std.proofs.Common.{drop}
use Rattle.std.specs.List.{list_any}
use Rattle.cc_names.specs.Versions.{is_number}
use Rattle.vob_history.specs.Reached.{AddsVersions, arrow_source_at}
use Rattle.vob_history.specs.declared.reached.Walk.{Walk}
use Rattle.vob_history.proofs.reached.Walk.add_arrow_sources.Given as goal

-- what adds the tails that are left adds all
abbrev pub invariant-loop-arrow : goal.invariant-loop-arrow
invariant-loop-arrow l =
    (next : Walk) → AddsVersions (λ n. list_any (λ row. is_number n (arrow_source_at l.rows row))
    (drop l.arrow-index l.arrow-items)) l.self next → AddsVersions
    (λ n. list_any (λ row. is_number n (arrow_source_at l.rows row)) l.arrow-items) l.initial.self next
