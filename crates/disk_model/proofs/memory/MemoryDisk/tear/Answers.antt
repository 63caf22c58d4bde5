use Rattle.std.proofs.Common.{◌≡◌, [], ◌∷◌, ◌++◌, cond, is_ok, sym, ◌∙◌, ap, inr, refl, arith}
use Rattle.disk_model.specs.Overwriting.{AreOverwritten}
use Rattle.disk_model.specs.Records.{with_traced_call}
use Rattle.disk_model.specs.MemoryDisks.{modeled_device}
use Rattle.disk_model.specs.declared.calls.Call.TheVariants as calls
use Rattle.disk_model.specs.declared.calls.TracedCall.{TracedCall}
use Rattle.disk_model.proofs.Recording.{recorded_more, torn_replayed, unless_err}
use Rattle.disk_model.proofs.memory.MemoryDisk.tear.Goals as goal

pub invariant_of-self-2 : goal.invariant_of-self-2
invariant_of-self-2 c =
    let disk = c.args.self.now in
    let traced : TracedCall = record {
      failed_before = disk.failed;
      call = calls.Tear c.args.file c.args.place c.in-Ok.text
          c.args.lost;
    } in
    let kept : c.push.new.self.items ≡ disk.trace.items ++ traced ∷ [] =
    c.push.ensures.items ∙ ap (λ r. cond (is_ok r) (c.reserve.new.self.items ++ traced ∷ []) c.reserve.new.self.items)
    c.unwrap.ensures
    ∙ ap (λ xs. xs ++ traced ∷ []) c.reserve.ensures.items in
    let wrote = unless_err c.overwrite.result (AreOverwritten c.args.file c.args.place c.args.landed.now disk.current
    c.overwrite.new.self) (sym c.is_err-2.ensures.value ∙ c.if-is_err-2.false) c.overwrite.ensures.ok in
    record {
      replayed =
          torn_replayed disk c.push.new.self.items traced c.overwrite.new.self c.args.file c.args.place c.args.lost
          c.args.landed.now _ kept refl (ap (λ t. calls.Tear c.args.file c.args.place t c.args.lost) c.in-Ok.ensures)
          c.requires wrote c.one_more-self.ensures (omega (arith, c.if-self.false, disk.replayed.ticks_fit));
    }

pub returns-clause-modeled : goal.returns-clause-modeled
returns-clause-modeled c =
    let disk = c.args.self.now in
    let traced : TracedCall = record {
      failed_before = disk.failed;
      call = calls.Tear c.args.file c.args.place c.in-Ok.text
          c.args.lost;
    } in
    let kept : c.push.new.self.items ≡ disk.trace.items ++ traced ∷ [] =
    c.push.ensures.items ∙ ap (λ r. cond (is_ok r) (c.reserve.new.self.items ++ traced ∷ []) c.reserve.new.self.items)
    c.unwrap.ensures
    ∙ ap (λ xs. xs ++ traced ∷ []) c.reserve.ensures.items in
    inr (recorded_more disk.first.journal.items disk.first.objects.items disk.trace.items c.push.new.self.items disk.failed traced
    kept refl
    ∙ ap (λ call. with_traced_call call (modeled_device disk)) (ap (λ t. calls.Tear c.args.file c.args.place t c.args.lost)
    c.in-Ok.ensures))
