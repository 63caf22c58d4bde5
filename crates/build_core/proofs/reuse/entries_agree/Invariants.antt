use Rattle.std.proofs.Common.{◌≡◌, drop}
use Rattle.std.specs.List.{list_all}
use Rattle.legal_history.specs.Builds.Choices.{visible}
use Rattle.legal_history.specs.Builds.Reuse.{entry_agrees}
use Rattle.build_core.proofs.reuse.entries_agree.Given as goal

abbrev pub invariant-loop-entry : goal.invariant-loop-entry
invariant-loop-entry l =
    list_all (entry_agrees (visible l.unit.rows.now l.unit.build.now l.unit.number l.unit.unit.now))
    (drop l.entry-index l.entries) ≡
    list_all (entry_agrees (visible l.unit.rows.now l.unit.build.now l.unit.number l.unit.unit.now)) l.entries
