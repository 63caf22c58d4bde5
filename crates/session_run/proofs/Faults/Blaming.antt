-- Whose fault it was, by the calls on the device.
use Rattle.std.proofs.Common.{◌≡◌, ◌⊎◌, ◌<◌, ◌≤◌, ◌+◌, ◌-◌, ◌^◌, ℕ, Bool, true, false, not, ◌&&◌, if◌then◌else◌, Option, Some}
use Rattle.std.proofs.Common.{None, List, [], ◌∷◌, ◌++◌, length, reverse, drop, refl, sym, ◌∙◌, ap, ap₂, subst, inl, inr, arith}
use Rattle.std.proofs.Common.{length-append}
use Rattle.std.proofs.lemmas.List.{reverse-append, append_assoc, length-reverse, take_at, drop_at}
use Rattle.std.proofs.lemmas.List.Folds.{list_all-append}
use Rattle.std.proofs.lemmas.Bool.{cases_lt}
use Rattle.std.specs.List.{list_all}
use Rattle.cc_names.specs.Formed.{Plain}
use Rattle.cc_names.specs.declared.steps.Counts.{Counts}
use Rattle.cc_names.specs.declared.steps.StoryStep.{StoryStep}
use Rattle.cc_names.specs.declared.steps.StoryStep.TheVariants as story_steps
use Rattle.disk_model.specs.Counting.{next_count}
use Rattle.disk_model.specs.Devices.{Device, Event, Measured, Fetched, Wrote, Tore, Synced, Failed, bytes_now, failures}
use Rattle.disk_model.specs.DiskStates.{DiskState, IfModeled, Both, IsCounted, CountsFailures}
use Rattle.disk_model.proofs.Recording.{failures_most}
use Rattle.legal_history.specs.Stories.States.{State, End, start}
use Rattle.legal_history.specs.Stories.Steps.{after, state_from, state_of}
use Rattle.vob_journal.specs.Added.{Adds, WritesOn, is_reading_call, may_read, may_write}
use Rattle.vob_journal.specs.Pieces.{OpensBy, ReadsForth, ReadsOnce, but_failed}
use Rattle.vob_journal.proofs.Adding.{adds_none, adds_then}
use Rattle.vob_journal.proofs.Telling.{both_map, both_then}
use Rattle.story_log.specs.Stopping.Backed.{may_be_open}
use Rattle.story_log.specs.Stopping.Standing.{tick_of}
use Rattle.base_core.specs.Story.Counted.{CountsStep, CountsSteps, TailedDisk}
use Rattle.session_run.specs.Faults.Accounted.{CountsFrom, SettlesJournal}
use Rattle.session_run.specs.Faults.Blamed.{failed_by, MeetsFault, FailsAtFaults, SettlesBehind, RestsBehind, reads_first}
use Rattle.session_run.specs.Faults.Blamed.{IsBlamed}
use Rattle.session_run.specs.Story.Begun.{first_step}

pub failures_more : (more earlier : List Event) → failures (more ++ earlier) ≡ failures more + failures earlier
failures_more [] earlier = omega arith
failures_more (event ∷ more) earlier = omega (arith, failures_more more earlier)

failures_back : (calls : List Event) → failures (reverse calls) ≡ failures calls
failures_back [] = refl
failures_back (event ∷ calls) =
    let one = failures_more (reverse calls) (event ∷ []) in
    ap failures (reverse-append (event ∷ []) calls) ∙ omega (arith, one, failures_back calls)

-- the calls of a device, the oldest first, begin with those of an earlier one
first_calls : (kind : Event → Bool) (d e : Device) (added : Adds kind d e)
    → reverse e.calls ≡ reverse d.calls ++ reverse added.more
first_calls kind d e added = ap reverse added.calls ∙ reverse-append added.more d.calls

failed_before : (d : Device) (calls rest : List Event) → calls ≡ reverse d.calls ++ rest
    → failed_by (length d.calls) calls ≡ failures d.calls
failed_before d calls rest is =
    ap (failed_by (length d.calls)) is ∙ ap failures (take_at (reverse d.calls) rest (length d.calls) (length-reverse d.calls))
    ∙ failures_back d.calls

-- The counts of a device that went on
module _ (kind : Event → Bool) (one two : DiskState) (d e : Device) (first : IsCounted one) (second : IsCounted two)
    (is : one.modeled ≡ Some d) (be : two.modeled ≡ Some e) (added : Adds kind d e) where
  ticks_one : one.ticks ≡ length d.calls
  ticks_one = subst (λ modeled. IfModeled modeled (λ d. one.ticks ≡ length d.calls)) is first.modeled

  ticks_two : two.ticks ≡ length e.calls
  ticks_two = subst (λ modeled. IfModeled modeled (λ d. two.ticks ≡ length d.calls)) be second.modeled

  counts_one : CountsFailures one.ticks one.faults d
  counts_one = subst (λ modeled. IfModeled modeled (CountsFailures one.ticks one.faults)) is first.failed

  counts_two : CountsFailures two.ticks two.faults e
  counts_two = subst (λ modeled. IfModeled modeled (CountsFailures two.ticks two.faults)) be second.failed

  longer : length e.calls ≡ length added.more + length d.calls
  longer = ap length added.calls ∙ length-append added.more d.calls

  failed_more : failures e.calls ≡ failures added.more + failures d.calls
  failed_more = ap failures added.calls ∙ failures_more added.more d.calls

  -- no more failed than faults were counted
  none_more : (n : ℕ) → two.faults ≤ one.faults + n → failures added.more ≤ n
  none_more n most = elim (cases_lt one.ticks (2 ^ 64 - 1)) [
    | inl within ↦ omega (arith, counts_one.no_other within, counts_two.each, failed_more, most)
    | inr end ↦ omega (arith, failures_most added.more, longer, ticks_one, ticks_two, second.ticks, end)
  ]

  pub same_failed : two.faults ≡ one.faults → failures e.calls ≡ failures d.calls
  same_failed same = omega (arith, none_more 0 (omega (arith, same)), failed_more)

  pub one_failed : (two.faults ≡ one.faults) ⊎ (two.faults ≡ next_count one.faults) → failures e.calls ≤ failures d.calls + 1
  one_failed (inl same) = omega (arith, none_more 1 (omega (arith, same)), failed_more)
  one_failed (inr rose) = omega (arith, none_more 1 (omega (arith, rose)), failed_more)

  -- a fault below the end of ticks
  pub some_failed : two.ticks < 2 ^ 64 - 1 → two.faults ≡ next_count one.faults → (one.faults ≡ failures d.calls)
      × (two.faults ≡ failures e.calls) × (two.faults ≡ one.faults + 1)
  some_failed within rose =
      let was = counts_one.no_other (omega (arith, within, longer, ticks_one, ticks_two)) in
      let now = counts_two.no_other within in
      (was, now, omega (arith, rose, now, failures_most e.calls, ticks_two, within))

  -- so many calls more at most
  pub so_many : (n : ℕ) → two.ticks ≤ one.ticks + n → length e.calls ≤ length d.calls + n
  so_many n most = omega (arith, ticks_one, ticks_two, most)

  -- and none, where none was made
  pub no_call : two.ticks ≡ one.ticks → length e.calls ≡ length d.calls
  no_call same = sym ticks_two ∙ same ∙ ticks_one

-- what was reported before, where more is told now
modeled_before : (R : Device → Device → Type 0) (old new : Option Device) (e : Device) → new ≡ Some e → Both R old new
    → (d : Device) × (old ≡ Some d) × R d e
modeled_before R old new e is both = by old (subst (λ modeled. Both R old modeled) is both)
  where
    by : (old : Option Device) → Both R old (Some e) → (d : Device) × (old ≡ Some d) × R d e
    by None h = absurd h
    by (Some d) h = (d, refl, h)

adds_idle : (modeled : Option Device) → Both (Adds may_write) modeled modeled
adds_idle None = tt
adds_idle (Some d) = adds_none may_write d

same_adds : (old new : TailedDisk) → new ≡ old → Both (Adds may_write) old.disk.modeled new.disk.modeled
same_adds old new e = subst (λ t. Both (Adds may_write) old.disk.modeled t.disk.modeled) (sym e) (adds_idle old.disk.modeled)

adds_on : (one two three : Option Device) → Both (Adds may_write) one two → Both (Adds may_write) two three
    → Both (Adds may_write) one three
adds_on one two three h k = both_then (Adds may_write) (Adds may_write) (Adds may_write) one two three (adds_then may_write) h k

of_writes : (one two : Option Device) → Both WritesOn one two → Both (Adds may_write) one two
of_writes one two h = both_map WritesOn (Adds may_write) one two (λ d e w. w.adds) h

step_adds : (s : State) (step : StoryStep) (old new : TailedDisk) → CountsStep s step old new
    → Both (Adds may_write) old.disk.modeled new.disk.modeled
step_adds s (story_steps.Commit row tick) old new h = of_writes old.disk.modeled new.disk.modeled h.4
step_adds s (story_steps.Fault tag left before faults tick) old new h = of_writes old.disk.modeled new.disk.modeled h.6
step_adds s step old new h = same_adds old new h

steps_add : (s : State) (more : List StoryStep) (old new : TailedDisk) → CountsSteps s more old new
    → Both (Adds may_write) old.disk.modeled new.disk.modeled
steps_add s [] old new h = same_adds old new h
steps_add s (step ∷ more) old new h = adds_on old.disk.modeled h.0.disk.modeled new.disk.modeled (step_adds s step old h.0 h.1)
    (steps_add (after s step) more h.0 new h.2)

both_at : (R : Device → Device → Type 0) (old new : Option Device) (d e : Device) → old ≡ Some d → new ≡ Some e → Both R old new
    → R d e
both_at R old new d e is be h = subst (λ modeled. Both R (Some d) modeled) be (subst (λ modeled. Both R modeled new) is h)

-- the newest end was made on this device, on which so many of the calls had been made and had failed
abbrev IsNewest : ℕ → List Event → List End → Device → Type 0
IsNewest handed calls [] d = failures d.calls ≡ failed_by handed calls
IsNewest handed calls (end ∷ ends) d = (tick_of end ≡ length d.calls) × (failed_by (tick_of end) calls ≡ failures d.calls)

-- the journal was settled at the end
module _ (old now : DiskState) (d e : Device) (first : IsCounted old) (second : IsCounted now) (is : old.modeled ≡ Some d)
    (be : now.modeled ≡ Some e) where
  settling_adds : (ajar : Bool) → SettlesJournal ajar old now → Adds may_write d e
  settling_adds ajar settles = (both_at WritesOn old.modeled now.modeled d e is be settles.writes).adds

  settles_behind : (ajar : Bool) (tick : ℕ) → tick ≡ length d.calls → failed_by tick (reverse e.calls) ≡ failures d.calls
      → SettlesJournal ajar old now → SettlesBehind ajar tick (reverse e.calls)
  settles_behind true tick at failed settles = (
    omega (
      arith,
      length-reverse e.calls,
      at,
      so_many may_write old now d e first second is be (settling_adds true settles) 2
          settles.few,
    ),
    omega (
      arith,
      failures_back e.calls,
      failed,
      one_failed may_write old now d e first second is be (settling_adds true settles)
          settles.faults,
    ),
  )
  settles_behind false tick at failed settles =
      length-reverse e.calls ∙ no_call may_write old now d e first second is be (settling_adds false settles)
      (ap (λ s. s.ticks) (settles.rests refl)) ∙ sym at

  pub ends_well : (handed : ℕ) (ends : List End) → IsNewest handed (reverse e.calls) ends d
      → SettlesJournal (may_be_open ends) old now → RestsBehind handed ends (reverse e.calls)
  ends_well handed [] newest settles =
      failures_back e.calls ∙ same_failed may_write old now d e first second is be (settling_adds false settles)
      (ap (λ s. s.faults) (settles.rests refl)) ∙ newest
  ends_well handed (end ∷ ends) newest settles = settles_behind (may_be_open (end ∷ ends)) (tick_of end) newest.0 newest.1 settles

-- the steps of a history, and the calls of the device as it came back
blames : (e : Device) (handed : ℕ) (s : State) (more : List StoryStep) (old ended : TailedDisk) (now : DiskState) (d : Device)
    → IsNewest handed (reverse e.calls) s.ends d → old.disk.modeled ≡ Some d → now.modeled ≡ Some e → IsCounted old.disk → IsCounted now
    → CountsSteps s more old ended → SettlesJournal (may_be_open (state_from s more).ends) ended.disk now
    → FailsAtFaults (failures d.calls) (reverse e.calls) more × RestsBehind handed (state_from s more).ends (reverse e.calls)
blames e handed s [] old ended now d newest is be first second h settles = (
  tt,
  ends_well old.disk now d e first second is be handed s.ends newest
      (subst (λ t. SettlesJournal (may_be_open s.ends) t.disk now) h settles),
)
blames e handed s (story_steps.Commit row tick ∷ more) old ended now d newest is be first second h settles =
    let mid = h.0 in
    let rest = adds_on mid.disk.modeled ended.disk.modeled now.modeled (steps_add (after s (story_steps.Commit row tick)) more mid ended
    h.2) (of_writes ended.disk.modeled now.modeled settles.writes) in
    let at = modeled_before (Adds may_write) mid.disk.modeled now.modeled e be rest in
    let added = (both_at WritesOn old.disk.modeled mid.disk.modeled d at.0 is at.1 h.1.4).adds in
    let same = same_failed may_write old.disk mid.disk d at.0 first h.1.3 is at.1 added h.1.2 in
    let ticks : tick ≡ length at.0.calls = h.1.0 ∙ subst (λ modeled. IfModeled modeled (λ d. mid.disk.ticks ≡ length d.calls)) at.1
    h.1.3.modeled in
    let failed = ap (λ n. failed_by n (reverse e.calls)) ticks ∙ failed_before at.0 (reverse e.calls) (reverse at.2.more)
    (first_calls may_write at.0 e at.2) in
    let on = blames e handed (after s (story_steps.Commit row tick)) more mid ended now at.0 (
      ticks,
      failed,
    ) at.1 be h.1.3 second h.2 settles in
    ((failed ∙ same, subst (λ n. FailsAtFaults n (reverse e.calls) more) same on.0), on.1)
blames e handed s (story_steps.Fault tag left before faults tick ∷ more) old ended now d newest is be first second h
    settles =
    let mid = h.0 in
    let rest = adds_on mid.disk.modeled ended.disk.modeled now.modeled (steps_add
    (after s (story_steps.Fault tag left before faults tick)) more mid ended h.2)
    (of_writes ended.disk.modeled now.modeled settles.writes) in
    let at = modeled_before (Adds may_write) mid.disk.modeled now.modeled e be rest in
    let added = (both_at WritesOn old.disk.modeled mid.disk.modeled d at.0 is at.1 h.1.6).adds in
    let rose : mid.disk.faults ≡ next_count old.disk.faults = sym h.1.1 ∙ h.1.2 ∙ ap next_count h.1.0 in
    let ticks : tick ≡ length at.0.calls = h.1.3 ∙ subst (λ modeled. IfModeled modeled (λ d. mid.disk.ticks ≡ length d.calls)) at.1
    h.1.5.modeled in
    let failed = ap (λ n. failed_by n (reverse e.calls)) ticks ∙ failed_before at.0 (reverse e.calls) (reverse at.2.more)
    (first_calls may_write at.0 e at.2) in
    let on = blames e handed (after s (story_steps.Fault tag left before faults tick)) more mid ended now at.0
    (ticks, failed) at.1 be h.1.5 second h.2 settles in
    let meets : MeetsFault (failures d.calls) before faults tick (reverse e.calls) = λ within.
    let some = some_failed may_write old.disk mid.disk d at.0 first h.1.5 is at.1 added (omega (arith, within, h.1.3)) rose in
    (h.1.0 ∙ some.0, h.1.1 ∙ some.1 ∙ sym failed, omega (arith, h.1.0, h.1.1, some.2)) in
    ((meets, subst (λ n. FailsAtFaults n (reverse e.calls) more) (sym failed) on.0), on.1)
blames e handed s (step ∷ more) old ended now d newest is be first second h settles =
    blames e handed (after s step) more old ended now d newest is be first second
    (subst (λ t. CountsSteps (after s step) more t ended) h.1 h.2) settles

-- the calls of the opening come first, and none of them failed
all_back : (kind : Event → Bool) (calls : List Event) → list_all kind calls ≡ true → list_all kind (reverse calls) ≡ true
all_back kind [] h = refl
all_back kind (event ∷ calls) h =
    let parts = halves (kind event) (list_all kind calls) h in
    ap (list_all kind) (reverse-append (event ∷ []) calls) ∙ list_all-append kind (reverse calls) (event ∷ [])
    ∙ ap₂ (λ a b. a && b) (all_back kind calls parts.1) (ap (λ a. a && true) parts.0)
  where
    halves : (a b : Bool) → a && b ≡ true → (a ≡ true) × (b ≡ true)
    halves true b h = (refl, h)
    halves false b h = absurd (cc)

all_read : (calls : List Event) → list_all may_read calls ≡ true → failures calls ≡ 0 → list_all is_reading_call calls ≡ true
all_read [] h none = refl
all_read (Measured file ∷ calls) h none = all_read calls h (omega (arith, none))
all_read (Fetched file place size ∷ calls) h none = all_read calls h (omega (arith, none))
all_read (Wrote file place size left ∷ calls) h none = absurd (cc)
all_read (Tore file place size left ∷ calls) h none = absurd (cc)
all_read (Synced file ∷ calls) h none = absurd (cc)
all_read (Failed ∷ calls) h none = absurd (omega (arith, none))

-- what reads a journal once are calls that read
forth_reads : (bytes : List ℕ) (from had : ℕ) (calls : List Event) (to has : ℕ) → ReadsForth bytes from had calls to has
    → list_all may_read calls ≡ true
forth_reads bytes from had [] to has h = refl
forth_reads bytes from had (Fetched file place size ∷ calls) to has h =
    forth_reads bytes from had calls (h.2.0 + 1) h.2.3.0 h.2.3.2
forth_reads bytes from had (event ∷ calls) to has h = absurd h

opening_reads : (bytes : List ℕ) (calls : List Event) (to : ℕ) → OpensBy bytes calls to → list_all may_read calls ≡ true
opening_reads bytes calls to (inl none) = ap (list_all may_read) none
opening_reads bytes calls to (inr read) =
    ap (list_all may_read) read.2 ∙ list_all-append may_read read.0 (Measured 0 ∷ [])
    ∙ ap (λ a. a && true) (forth_reads bytes 0 0 read.0 to read.1 read.3)

but_failed_reads : (calls : List Event) → list_all may_read (but_failed calls) ≡ true → list_all may_read calls ≡ true
but_failed_reads (Failed ∷ calls) h = h
but_failed_reads calls h = h

once_reads : (d e : Device) → ReadsOnce d e → Adds may_read d e
once_reads d e h = record {
  more = h.1.more;
  calls = h.1.calls;
  kinds = but_failed_reads h.1.more (opening_reads (bytes_now 0 d) (but_failed h.1.more) h.0 h.1.once);
}

writes_alone : (calls : List Event) → list_all may_write calls ≡ true → reads_first calls ≡ true
writes_alone [] h = refl
writes_alone (event ∷ calls) h = by (is_reading_call event) (reads_first calls) (list_all may_write calls) h
  where
    by : (b x y : Bool) → not b && y ≡ true → (if b then x else y) ≡ true
    by true x y h = absurd (cc)
    by false x y h = h

reads_and_writes : (reads writes : List Event) → list_all is_reading_call reads ≡ true → list_all may_write writes ≡ true
    → reads_first (reads ++ writes) ≡ true
reads_and_writes [] writes h k = writes_alone writes k
reads_and_writes (event ∷ reads) writes h k = by (is_reading_call event) (list_all is_reading_call reads) h
    (λ more. reads_and_writes reads writes more k)
  where
    by : (a b : Bool) → a && b ≡ true → (b ≡ true → reads_first (reads ++ writes) ≡ true)
        → (if a then reads_first (reads ++ writes) else list_all may_write (reads ++ writes)) ≡ true
    by true b h on = on h
    by false b h on = absurd (cc)

-- the first step is the opening
first_opens : (first : StoryStep) (rows : List Plain) (counts : Counts) (tells : Bool)
    → Some first ≡ Some (story_steps.Opened rows counts tells) → first ≡ story_steps.Opened rows counts tells
first_opens first rows counts tells is = ap (λ o. elim o [ None ↦ first | Some x ↦ x ]) is

-- *Whose fault*, of a session whose base was opened
pub blamed : (before : DiskState) (opened : TailedDisk) (now : DiskState) (story : List StoryStep) (rows : List Plain) (counts : Counts) (tells : Bool)
    → IsCounted before → IsCounted opened.disk → IsCounted now
    → opened.disk.faults ≡ before.faults → Both ReadsOnce before.modeled opened.disk.modeled
    → first_step story ≡ Some (story_steps.Opened rows counts tells) → CountsFrom opened now story
    → IfModeled now.modeled (IsBlamed before.ticks story)
blamed before opened now story rows counts tells was first second sound once begins from = by now.modeled refl
  where
    is_first : from.first ≡ story_steps.Opened rows counts tells
    is_first = first_opens from.first rows counts tells (ap first_step (sym from.story_is) ∙ begins)

    story_is : story ≡ story_steps.Opened rows counts tells ∷ from.steps
    story_is = from.story_is ∙ ap (λ x. x ∷ from.steps) is_first

    settles : SettlesJournal (may_be_open (state_from (after start (story_steps.Opened rows counts tells)) from.steps).ends)
        from.ended.disk now
    settles = subst (λ s. SettlesJournal (may_be_open (state_of s).ends) from.ended.disk now) story_is from.settled

    reads : Both (Adds may_read) before.modeled opened.disk.modeled
    reads = both_map ReadsOnce (Adds may_read) before.modeled opened.disk.modeled once_reads once

    all : Both (Adds may_write) opened.disk.modeled now.modeled
    all = adds_on opened.disk.modeled from.ended.disk.modeled now.modeled (steps_add (after start from.first) from.steps opened from.ended
        from.counts) (of_writes from.ended.disk.modeled now.modeled from.settled.writes)

    on : (e : Device) → now.modeled ≡ Some e → IsBlamed before.ticks story e
    on e be =
        let at = modeled_before (Adds may_write) opened.disk.modeled now.modeled e be all in
        let d = at.0 in
        let written = at.2 in
        let old = modeled_before (Adds may_read) before.modeled opened.disk.modeled d at.1 reads in
        let b = old.0 in
        let read = old.2 in
        let same = same_failed may_read before opened.disk b d was first old.1 at.1 read sound in
        let none : failures read.more ≡ 0 = omega (arith, same, ap failures read.calls, failures_more read.more b.calls) in
        let ticks : before.ticks ≡ length b.calls = subst (λ modeled. IfModeled modeled (λ d. before.ticks ≡ length d.calls))
        old.1 was.modeled in
        let split : reverse e.calls ≡ reverse b.calls ++ (reverse read.more ++ reverse written.more) =
        first_calls may_write d e written ∙ ap (λ calls. calls ++ reverse written.more) (first_calls may_read b d read)
        ∙ append_assoc (reverse b.calls) (reverse read.more) (reverse written.more) in
        let failed : failed_by before.ticks (reverse e.calls) ≡ failures d.calls =
        ap (λ n. failed_by n (reverse e.calls)) ticks ∙ failed_before b (reverse e.calls)
        (reverse read.more ++ reverse written.more) split ∙ sym same in
        let counts_from = subst (λ x. CountsSteps (after start x) from.steps opened from.ended) is_first from.counts in
        let ends = blames e before.ticks (after start (story_steps.Opened rows counts tells)) from.steps opened from.ended now d
        (sym failed) at.1 be first second counts_from settles in
        record {
          opening =
              ap reads_first (ap (λ calls. drop before.ticks calls) split
              ∙ drop_at (reverse b.calls) (reverse read.more ++ reverse written.more) before.ticks (length-reverse b.calls
              ∙ sym ticks))
              ∙ reads_and_writes (reverse read.more) (reverse written.more)
              (all_back is_reading_call read.more (all_read read.more read.kinds none))
              (all_back may_write written.more written.kinds);
          ends = subst (λ s. FailsAtFaults (failed_by before.ticks (reverse e.calls)) (reverse e.calls) s) (sym story_is)
              (subst (λ n. FailsAtFaults n (reverse e.calls) from.steps) (sym failed) ends.0);
          behind = subst (λ s. RestsBehind before.ticks (state_of s).ends (reverse e.calls)) (sym story_is) ends.1;
        }

    by : (modeled : Option Device) → now.modeled ≡ modeled → IfModeled modeled (IsBlamed before.ticks story)
    by None be = tt
    by (Some e) be = on e be
