-- What the record of a disk in memory says of its counts.
use Rattle.std.proofs.Common.{◌≡◌, ◌<◌, ◌≤◌, ◌+◌, ◌-◌, ◌^◌, ℕ, zero, suc, Bool, true, false, ◌==◌, Result, Ok, Err, OnOk, is_err}
use Rattle.std.proofs.Common.{List, [], ◌∷◌, ◌++◌, length, fold, refl, sym, ◌∙◌, ap, subst, if◌then◌else◌, arith}
use Rattle.std.proofs.lemmas.List.Sums.{fold-append}
use Rattle.disk_model.specs.Contents.{IsReplayed}
use Rattle.disk_model.specs.Counting.{next_count}
use Rattle.disk_model.specs.Devices.{Device, Event, Tore, Failed, new_device, with_call, bytes_now, is_failed, failures}
use Rattle.disk_model.specs.Files.{overwritten}
use Rattle.disk_model.specs.Records.{failing, with_traced_calls, device_of, with_traced_call}
use Rattle.disk_model.specs.DiskStates.{CountsFailures}
use Rattle.disk_model.specs.MemoryDisks.{modeled_device}
use Rattle.disk_model.specs.Overwriting.{AreOverwritten}
use Rattle.disk_model.specs.declared.calls.Call.TheVariants as calls
use Rattle.disk_model.specs.declared.calls.TracedCall.{TracedCall}
use Rattle.disk_model.specs.declared.memory.Contents.{Contents}
use Rattle.disk_model.specs.declared.memory.MemoryDisk.{MemoryDisk}

at_most_one : (failed : Bool) → (if failed then 1 else 0) ≤ 1
at_most_one true = omega arith
at_most_one false = omega arith

pub failures_most : (calls : List Event) → failures calls ≤ length calls
failures_most [] = omega arith
failures_most (event ∷ earlier) = omega (arith, at_most_one (is_failed event), failures_most earlier)

-- a call that failed, with its tick
pub failed_counts : (ticks faults : ℕ) (event : Event) (d : Device) → is_failed event ≡ true → CountsFailures ticks faults d
    → ticks ≡ length d.calls
    → ticks < 2 ^ 64 - 1 → CountsFailures (ticks + 1) (next_count faults) (with_call event d)
failed_counts ticks faults event d failed counts ticked more =
    let most = failures_most d.calls in
    let one : failures (event ∷ d.calls) ≡ 1 + failures d.calls = ap (λ b. (if b then 1 else 0) + failures d.calls) failed in
    let same = counts.no_other more in
    record {
      each = omega (arith, one, most, ticked, more, same);
      no_other = λ later. omega (arith, one, most, ticked, more, same);
    }

-- a call that is a fault and was not made
pub unmade_counts : (ticks faults : ℕ) (d : Device) → CountsFailures ticks faults d → ticks ≡ length d.calls → 2 ^ 64 - 1 ≤ ticks
    → ticks < 2 ^ 64
    → CountsFailures ticks (next_count faults) d
unmade_counts ticks faults d counts ticked end fits = record {
  each = omega (arith, counts.each, failures_most d.calls, ticked, fits);
  no_other = λ later. absurd (omega (arith, later, end));
}

-- the device of a trace with one call more, which names all calls that failed since the last
pub recorded_more : (journal objects : List ℕ) (trace more : List TracedCall) (failed : ℕ) (traced : TracedCall)
    → more ≡ trace ++ traced ∷ [] → traced.failed_before ≡ failed
    → device_of journal objects more 0 ≡ with_traced_call traced.call (device_of journal objects trace failed)
recorded_more journal objects trace more failed traced is before =
    ap (fold with_traced_calls (new_device journal objects)) is ∙ fold-append with_traced_calls (new_device journal objects) trace
    (traced ∷ [])
    ∙ ap (λ n. with_traced_call traced.call (failing n (fold with_traced_calls (new_device journal objects) trace))) before

-- a call more of a disk in memory failed and changed nothing
pub missed_replayed : (disk : MemoryDisk) (faults' : ℕ) → faults' ≡ next_count disk.faults → disk.ticks < 2 ^ 64 - 1
    → IsReplayed (device_of disk.first.journal.items disk.first.objects.items disk.trace.items (disk.failed + 1))
    disk.current.journal.items disk.current.objects.items (disk.ticks + 1) faults'
missed_replayed disk faults' rose more =
    let d = modeled_device disk in
    let number : disk.failed + 1 ≡ suc disk.failed = omega arith in
    let one : device_of disk.first.journal.items disk.first.objects.items disk.trace.items (disk.failed + 1)
    ≡ with_call Failed d = ap (device_of disk.first.journal.items disk.first.objects.items disk.trace.items) number in
    let was = disk.replayed in
    subst (λ e. IsReplayed e disk.current.journal.items disk.current.objects.items (disk.ticks + 1) faults') (sym one)
    (record {
      journal_reads = was.journal_reads;
      objects_read = was.objects_read;
      a_tick_each = omega (arith, was.a_tick_each);
      a_fault_each = subst (λ n. CountsFailures (disk.ticks + 1) n (with_call Failed d)) (sym rose)
          (failed_counts disk.ticks disk.faults Failed d refl was.a_fault_each was.a_tick_each more);
      ticks_fit = omega (arith, more);
      faults_fit = omega (arith, rose);
    })

-- what a torn write leaves of both files
torn_files : (file place size : ℕ) (landed now_journal now_objects : List ℕ) (d : Device) → file ≤ 1 → now_journal ≡ bytes_now 0 d
    → now_objects ≡ bytes_now 1 d
    → ((if file == 0 then overwritten place landed now_journal else now_journal)
    ≡ bytes_now 0 (with_call (Tore file place size (overwritten place landed (bytes_now file d))) d))
    × ((if file == 0 then now_objects else overwritten place landed now_objects)
    ≡ bytes_now 1 (with_call (Tore file place size (overwritten place landed (bytes_now file d))) d))
torn_files zero place size landed now_journal now_objects d within journal objects =
    (ap (overwritten place landed) journal, objects)
torn_files (suc zero) place size landed now_journal now_objects d within journal objects =
    (journal, ap (overwritten place landed) objects)
torn_files (suc (suc n)) place size landed now_journal now_objects d within journal objects = absurd (omega (arith, within))

-- a write of a disk in memory failed, and a prefix of its piece landed
pub torn_replayed : (disk : MemoryDisk) (more : List TracedCall) (traced : TracedCall) (now : Contents) (file place lost : ℕ)
    (landed : List ℕ) (faults' : ℕ)
    → more ≡ disk.trace.items ++ traced ∷ [] → traced.failed_before ≡ disk.failed
    → traced.call ≡ calls.Tear file place landed lost → file ≤ 1 → AreOverwritten file place landed disk.current now
    → faults' ≡ next_count disk.faults → disk.ticks < 2 ^ 64 - 1
    → IsReplayed (device_of disk.first.journal.items disk.first.objects.items more 0) now.journal.items now.objects.items
    (disk.ticks + 1) faults'
torn_replayed disk more traced now file place lost landed faults' is before call within wrote rose room =
    let d = modeled_device disk in
    let event = Tore file place (length landed + lost) (overwritten place landed (bytes_now file d)) in
    let was = disk.replayed in
    let files = torn_files file place (length landed + lost) landed disk.current.journal.items disk.current.objects.items d within
    was.journal_reads was.objects_read in
    let made : device_of disk.first.journal.items disk.first.objects.items more 0 ≡ with_call event d =
    recorded_more disk.first.journal.items disk.first.objects.items disk.trace.items more disk.failed traced is before
    ∙ ap (λ c. with_traced_call c d) call in
    subst (λ e. IsReplayed e now.journal.items now.objects.items (disk.ticks + 1) faults') (sym made)
    (record {
      journal_reads = wrote.journal ∙ files.0;
      objects_read = wrote.objects ∙ files.1;
      a_tick_each = omega (arith, was.a_tick_each);
      a_fault_each = subst (λ n. CountsFailures (disk.ticks + 1) n (with_call event d)) (sym rose)
          (failed_counts disk.ticks disk.faults event d refl was.a_fault_each was.a_tick_each room);
      ticks_fit = omega (arith, room);
      faults_fit = omega (arith, rose);
    })

-- what holds where an answer is no error
pub unless_err : {T E : Type 0} (r : Result T E) (P : Type 0) → is_err r ≡ false → OnOk r P → P
unless_err (Ok x) P sound h = h
unless_err (Err e) P sound h = absurd (cc)
