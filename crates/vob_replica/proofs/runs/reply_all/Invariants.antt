use Rattle.std.proofs.Common.{◌≡◌, ◌++◌, drop}
use Rattle.std.specs.Prelude.{◌||◌}
use Rattle.std.specs.List.{list_any}
use Rattle.vob_replica.specs.Runs.{is_refused}
use Rattle.vob_replica.specs.World.{answers_behind, replies_behind}
use Rattle.vob_replica.proofs.runs.reply_all.Given as goal

abbrev pub invariant-loop-event : goal.invariant-loop-event
invariant-loop-event l = record {
  at : l.number ≡ l.event-index;
  text :
      l.text.items ++ replies_behind l.number l.sites (drop l.event-index l.events)
      ≡ l.initial.text.items ++ replies_behind 0 l.initial.sites l.events;
  refused :
      (l.refused || list_any is_refused (answers_behind l.sites (drop l.event-index l.events)))
      ≡ list_any is_refused (answers_behind l.initial.sites l.events);
}
