use Rattle.std.proofs.Common.{arith, fold}
use Rattle.disk_model.specs.Devices.{new_device}
use Rattle.disk_model.specs.Records.{with_traced_calls}
use Rattle.disk_model.proofs.Recording.{missed_replayed}
use Rattle.disk_model.proofs.Stops.{length_failing}
use Rattle.disk_model.proofs.memory.MemoryDisk.miss.Goals as goal

pub overflow_add-self-then-self-lt18446744073709551615 :
    goal.overflow_add-self-then-self-lt18446744073709551615
overflow_add-self-then-self-lt18446744073709551615 c =
    let disk = c.args.self.now in
    omega (
      arith,
      disk.replayed.a_tick_each,
      length_failing disk.failed
          (fold with_traced_calls (new_device disk.first.journal.items disk.first.objects.items) disk.trace.items),
    )

pub invariant_of-self : goal.invariant_of-self
invariant_of-self c =
    let disk = c.args.self.now in
    record {
      replayed = missed_replayed disk _ c.one_more-self.ensures c.if-self-lt18446744073709551615.true;
    }
