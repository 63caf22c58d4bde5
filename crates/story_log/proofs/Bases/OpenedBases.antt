-- What is known of a base that was opened, and what stops find where none was.
use Rattle.std.proofs.Common.{◌≡◌, ℕ, ◌<◌, ◌⊎◌, inl, inr, true, Option, Some, None, is_some, List, [], ◌∷◌, ◌++◌, length}
use Rattle.std.proofs.Common.{reverse, refl, sym, ap, subst, ◌∙◌, arith}
use Rattle.std.proofs.lemmas.List.{append-nil}
use Rattle.cc_names.specs.declared.steps.StoryStep.TheVariants as story_steps
use Rattle.disk_model.specs.Devices.{Device, Failed, Leaves, LeavesNow, MayLeave, Idles, bytes_now, file_of}
use Rattle.disk_model.specs.Files.{File, IsImage, stable}
use Rattle.disk_model.specs.DiskStates.{DiskState, IfModeled, Both, IsCounted}
use Rattle.base_model.specs.Fits.{is_base}
use Rattle.base_model.specs.Rows.{Base}
use Rattle.legal_history.specs.Stories.States.{Opening}
use Rattle.cc_names.specs.Counts.{rises}
use Rattle.legal_history.specs.Stories.Steps.{state_of}
use Rattle.vob_journal.specs.Answered.{OneMore, OneFault}
use Rattle.vob_journal.specs.Frames.{frames}
use Rattle.vob_journal.specs.Moves.{Moves, Stands, Between}
use Rattle.vob_journal.specs.Reads.{SameFiles}
use Rattle.vob_journal.specs.Shown.{Shown}
use Rattle.vob_journal.specs.declared.left.Left.TheVariants as lefts
use Rattle.vob_journal.proofs.Journals.{stable_image}
use Rattle.vob_journal.proofs.Passing.{passes_none, passes_call}
use Rattle.vob_journal.proofs.Staying.{modeled_then}
use Rattle.vob_journal.proofs.Telling.{both_from, both_then, modeled_both, modeled_back, modeled_map}
use Rattle.story_log.specs.Stopping.Backed.{IsMirrored, IsBacked}
use Rattle.story_log.specs.Stopping.Journals.{JournalState, journal_state}
use Rattle.story_log.specs.Stopping.Tails.{IsFoundTail, tail_of}
use Rattle.story_log.specs.Logging.Logs.{Logged, opened_log}
use Rattle.story_log.specs.Bases.Opening.{AreSynced, IsBaseOn, IsOpened, StopsBy, FailsToOpen}
use Rattle.story_log.specs.Story.Formed.{AreFormed}
use Rattle.story_log.specs.Stored.Damaged.{IsDamaged}
use Rattle.story_log.specs.Stored.Kept.{IsHeld}
use Rattle.story_log.specs.Stored.Opened.{IsOpenedAs}
use Rattle.story_log.specs.Stored.Stops.{OfEachStop, found_on, found_with}
use Rattle.story_log.specs.Bases.Reading.{OnlyReads, IsReadThrough}
use Rattle.story_log.specs.Stored.Payloads.{payloads}
use Rattle.base_rows.specs.Order.{oldest_first}
use Rattle.story_log.specs.Story.Handed.{Handed}
use Rattle.story_log.specs.declared.opening.OpenCause.{OpenCause}
use Rattle.story_log.specs.declared.opening.OpenCause.TheVariants as causes
use Rattle.story_log.proofs.Stored.Bases.{base_is_held, opens_as}
use Rattle.story_log.proofs.Stored.Fitting.{nothing_taken}
use Rattle.story_log.proofs.Stored.Holding.{held_in_image}
use Rattle.story_log.proofs.Stopping.Backing.{within_calls}
use Rattle.story_log.proofs.Logging.Logged.{oldest_back}
use Rattle.story_log.proofs.Bases.ReadRows.{finds_list, moves_then, raised_rises}

-- what stops since find, where a journal was only read
leaves_list : (list : List (List ℕ)) (d e : Device) (k : ℕ) (image : List ℕ) → length d.calls < k → Moves list [] list [] d e
    → Leaves 0 e k image → frames image ≡ list
leaves_list list d e k image later moves left = by (moves.passes.each k image left)
  where
    by : Leaves 0 d k image ⊎ ((length d.calls < k) × Between list [] list [] image) → frames image ≡ list
    by (inl earlier) = let within = within_calls 0 d k image earlier in absurd (omega (arith, within, later))
    by (inr since) = elim since.1 [ inl stands ↦ finds_list list image stands | inr is ↦ is ∙ append-nil list ]

may_leave_list : (list : List (List ℕ)) (d e : Device) (k : ℕ) (image : List ℕ) → length d.calls < k → Moves list [] list [] d e
    → MayLeave 0 e k image → frames image ≡ list
may_leave_list list d e k image later moves (inl left) = leaves_list list d e k image later moves left
may_leave_list list d e k image later moves (inr now) = finds_list list image (moves.now image now.1)

-- what stops since leave of the file of objects, where it was on the disk as it read
leaves_objects : (list : List (List ℕ)) (d e : Device) (k : ℕ) (image : List ℕ) → length d.calls < k → Moves list [] list [] d e
    → Leaves 1 e k image → LeavesNow 1 d image
leaves_objects list d e k image later moves left = by (moves.passes.others k image left)
  where
    by : Leaves 1 d k image ⊎ ((length d.calls < k) × LeavesNow 1 d image) → LeavesNow 1 d image
    by (inl earlier) = let within = within_calls 1 d k image earlier in absurd (omega (arith, within, later))
    by (inr since) = since.1

may_leave_objects : (list : List (List ℕ)) (d e : Device) (k : ℕ) (image : List ℕ) → file_of 1 d ≡ stable (bytes_now 1 d)
    → length d.calls < k → Moves list [] list [] d e → MayLeave 1 e k image → image ≡ bytes_now 1 d
may_leave_objects list d e k image synced later moves may = stable_image (bytes_now 1 d) image
    (subst (λ (s : File). IsImage s image) synced (by may))
  where
    by : MayLeave 1 e k image → LeavesNow 1 d image
    by (inl left) = leaves_objects list d e k image later moves left
    by (inr now) = subst (λ (s : File). IsImage s image) moves.passes.objects now.1

-- a journal is only read, and its frames are those of the disk as it was handed in
abbrev pub Keeps : Device → Device → Type 0
Keeps d e = Moves (frames (bytes_now 0 d)) [] (frames (bytes_now 0 d)) [] d e

both_tells : (R : Device → Device → Type 0) (old new : Option Device) → Both R old new → is_some new ≡ is_some old
both_tells R None None both = refl
both_tells R None (Some e) both = absurd both
both_tells R (Some d) None both = absurd both
both_tells R (Some d) (Some e) both = refl

-- the call that fails to open
handed_image : (d : Device) → file_of 0 d ≡ stable (bytes_now 0 d) → (image : List ℕ) → LeavesNow 0 d image
    → frames image ≡ frames (bytes_now 0 d)
handed_image d is image left = ap frames (stable_image (bytes_now 0 d) image (subst (λ s. IsImage s image) is left))

idle_keeps : (d e : Device) → file_of 0 d ≡ stable (bytes_now 0 d) → Idles d e → Keeps d e
idle_keeps d e is (inl same) = subst (Keeps d) (sym same) (record {
  passes = passes_none d (Between (frames (bytes_now 0 d)) [] (frames (bytes_now 0 d)) []);
  now = λ image left. inl (handed_image d is image left);
})
idle_keeps d e is (inr missed) = subst (Keeps d) (sym missed) (record {
  passes = passes_call Failed d (Between (frames (bytes_now 0 d)) [] (frames (bytes_now 0 d)) [])
      (λ image left. inl (inl (handed_image d is image left))) (λ image left. left) refl;
  now = λ image left. inl (handed_image d is image left);
})

both_idle : (old new : Option Device) → IfModeled old (λ d. file_of 0 d ≡ stable (bytes_now 0 d)) → Both Idles old new
    → Both Keeps old new
both_idle old new is idles = both_from (λ d. file_of 0 d ≡ stable (bytes_now 0 d)) Idles Keeps old new idle_keeps is idles

-- A journal that was opened on a disk: it has the disk's frames, none of them read yet.
pub record IsNewOn {D : Type 0} (ghost_state : D → DiskState) (first : DiskState) (journal : Shown D) : Type 0 where
  pub list : IfModeled first.modeled (λ d. journal.list ≡ frames (bytes_now 0 d))
  pub left : journal.left ≡ lefts.Nothing
  pub keeps : Both (Moves journal.list [] journal.list []) first.modeled (ghost_state journal.disk).modeled
  pub files : Both SameFiles first.modeled (ghost_state journal.disk).modeled
  pub counts : OneMore first (ghost_state journal.disk)

pub new_on : {D : Type 0} (ghost_state : D → DiskState) (first : DiskState) (journal : Shown D)
    → IfModeled first.modeled (λ d. journal.list ≡ frames (bytes_now 0 d)) → journal.left ≡ lefts.Nothing → journal.leftover ≡ []
    → Both (Moves journal.list [] journal.list journal.leftover) first.modeled (ghost_state journal.disk).modeled
    → Both SameFiles first.modeled (ghost_state journal.disk).modeled → OneMore first (ghost_state journal.disk)
    → IsNewOn ghost_state first journal
new_on ghost_state first journal list left leftover moves files counts = record {
  list = list;
  left = left;
  keeps = subst (λ l. Both (Moves journal.list [] journal.list l) first.modeled (ghost_state journal.disk).modeled) leftover
      moves;
  files = files;
  counts = counts;
}

since_first : {D : Type 0} (ghost_state : D → DiskState) (first : DiskState) (opened read : Shown D)
    → IsNewOn ghost_state first opened → OnlyReads ghost_state opened read
    → Both (Moves opened.list [] opened.list []) first.modeled (ghost_state read.disk).modeled
since_first ghost_state first opened read new reads =
    let P : Device → Device → Type 0 = Moves opened.list [] opened.list [] in
    both_then P P P first.modeled (ghost_state opened.disk).modeled (ghost_state read.disk).modeled (moves_then opened.list)
    new.keeps reads.stops

pub keeps_first : {D : Type 0} (ghost_state : D → DiskState) (first : DiskState) (opened read : Shown D)
    → IsNewOn ghost_state first opened → OnlyReads ghost_state opened read
    → Both Keeps first.modeled (ghost_state read.disk).modeled
keeps_first ghost_state first opened read new reads =
    both_from (λ d. opened.list ≡ frames (bytes_now 0 d)) (Moves opened.list [] opened.list []) Keeps first.modeled
    (ghost_state read.disk).modeled
    (λ d e is moves. subst (λ l. Moves l [] l [] d e) is moves) new.list (since_first ghost_state first opened read new reads)

-- both files are as they were handed in
pub files_first : {D : Type 0} (ghost_state : D → DiskState) (first : DiskState) (opened read : Shown D)
    → IsNewOn ghost_state first opened → OnlyReads ghost_state opened read
    → Both SameFiles first.modeled (ghost_state read.disk).modeled
files_first ghost_state first opened read new reads = modeled_then first.modeled (ghost_state opened.disk).modeled
    (ghost_state read.disk).modeled new.files reads.files

-- why reading stopped, said of the disk as it was handed in
found_first : (list : List (List ℕ)) (d e : Device) → SameFiles d e → list ≡ frames (bytes_now 0 d)
    → found_with list e ≡ found_on d
found_first list d e same is = λ i. record { frames = is i; objects = ap (λ (file : File). file.bytes) same.objects i }

pub stops_first : {D : Type 0} (ghost_state : D → DiskState) (first : DiskState) (cause : OpenCause) (opened read : Shown D)
    → IsNewOn ghost_state first opened → StopsBy (ghost_state opened.disk).modeled (found_with opened.list) cause
    (ghost_state opened.disk).faults (ghost_state read.disk).faults → StopsBy first.modeled found_on cause first.faults
    (ghost_state read.disk).faults
stops_first ghost_state first (causes.Damaged n) opened read new h = (
  h.0 ∙ new.counts.1,
  modeled_both (λ d. (e : Device) → SameFiles d e → found_with opened.list e ≡ found_on d)
      (λ d. (e : Device) × SameFiles d e × IsDamaged (found_with opened.list e) n) (λ d. IsDamaged (found_on d) n) first.modeled
      (λ d is at. subst (λ found. IsDamaged found n) (is at.0 at.1) at.2)
      (modeled_map (λ d. opened.list ≡ frames (bytes_now 0 d)) (λ d. (e : Device) → SameFiles d e
      → found_with opened.list e ≡ found_on d) first.modeled (λ d is e same. found_first opened.list d e same is) new.list)
      (modeled_back SameFiles (λ d. (e : Device) × SameFiles d e × IsDamaged (found_with opened.list e) n)
      (λ e. IsDamaged (found_with opened.list e) n) first.modeled (ghost_state opened.disk).modeled
      (λ d e same damaged. (e, same, damaged)) new.files h.1),
)
stops_first ghost_state first causes.DiskFault opened read new h = subst (λ f. rises f (ghost_state read.disk).faults ≡ true)
    new.counts.1 h
stops_first ghost_state first causes.NoMemory opened read new h = h ∙ new.counts.1

-- no base was opened
pub journal_synced : (modeled : Option Device) → IfModeled modeled AreSynced
    → IfModeled modeled (λ d. file_of 0 d ≡ stable (bytes_now 0 d))
journal_synced modeled synced =
    modeled_map AreSynced (λ d. file_of 0 d ≡ stable (bytes_now 0 d)) modeled (λ d both. both.0) synced

unchanged_at : (d e : Device) (k : ℕ) → AreSynced d → length d.calls < k → Keeps d e
    → OfEachStop e k (λ found. found ≡ found_on d)
unchanged_at d e k synced later keeps = λ journal objects j o i. record {
  frames = may_leave_list (frames (bytes_now 0 d)) d e k journal later keeps j i;
  objects = may_leave_objects (frames (bytes_now 0 d)) d e k objects synced.1 later keeps o i;
}

unchanged_modeled : (ticks : ℕ) (old new : Option Device) → IfModeled old AreSynced → IfModeled old (λ d. ticks ≡ length d.calls)
    → Both Keeps old new
    → IfModeled old (λ d. IfModeled new (λ e. (k : ℕ) → ticks < k → OfEachStop e k (λ found. found ≡ found_on d)))
unchanged_modeled ticks None new synced same keep = tt
unchanged_modeled ticks (Some d) None synced same keep = tt
unchanged_modeled ticks (Some d) (Some e) synced same keep = λ k later. unchanged_at d e k synced (omega (arith, same, later))
    keep

pub fails_to_open : (first now : DiskState) (cause : OpenCause) → IsCounted first → IfModeled first.modeled AreSynced
    → Both Keeps first.modeled now.modeled
    → Both SameFiles first.modeled now.modeled
    → StopsBy first.modeled found_on cause first.faults now.faults → FailsToOpen first cause now
fails_to_open first now cause counted synced keeps files because = record {
  because = because;
  tells = both_tells Keeps first.modeled now.modeled keeps;
  unchanged = unchanged_modeled first.ticks first.modeled now.modeled synced counted.modeled keeps;
  files = files;
}

-- the length of the journal could not be asked
pub fails_at_once : (first now : DiskState) → IsCounted first → IsCounted now
    → IfModeled first.modeled AreSynced → Both Idles first.modeled now.modeled
    → Both SameFiles first.modeled now.modeled → OneFault first now → FailsToOpen first causes.DiskFault now
fails_at_once first now counted after synced idles files fault =
    fails_to_open first now causes.DiskFault counted synced
    (both_idle first.modeled now.modeled (journal_synced first.modeled synced) idles) files
    (raised_rises first now counted after fault.1)

-- the disk after a base that was opened
covered_opened : (opening : Opening) (base : Base) (journal : JournalState) (d e : Device)
    → opening.counts.ticks ≡ length d.calls → opening.base ≡ base → is_base base ≡ true → AreFormed base
    → file_of 1 d ≡ stable (bytes_now 1 d) → journal.list ≡ payloads base → journal.leftover ≡ []
    → Moves journal.list [] journal.list [] d e → IsMirrored opening [] journal [] [] e
covered_opened opening base journal d e ticks base_is good formed synced is none moves = record {
  stored = base;
  list_is = is;
  formed = formed;
  held = subst (λ (s : File). IsHeld s base opening.base) (sym moves.passes.objects) held;
  owned_are = sym (nothing_taken base good);
  leftover_is = none;
  nothing = λ _. none;
  stops = λ k image objects later j o.
      let since : length d.calls < k = omega (arith, ticks, later) in
      held_in_image (file_of 1 d) base opening.base (frames image) objects held formed
      (leaves_list journal.list d e k image since moves j ∙ is) (leaves_objects journal.list d e k objects since moves o);
  now = λ image left. subst (λ l. Stands journal.list l image) (sym none) (moves.now image left);
}
  where
    held : IsHeld (file_of 1 d) base opening.base
    held = subst (IsHeld (file_of 1 d) base) (sym base_is)
        (subst (λ (s : File). IsHeld s base base) (sym synced) (base_is_held (bytes_now 1 d) base good))

-- This base was opened.
module _ {D : Type 0} (ghost_state : D → DiskState) (first : DiskState) (handed : Handed) (base : Base) (opened read : Shown D)
    (counted : IsCounted first) (ticks : handed.counts.ticks ≡ first.ticks) (faults : handed.counts.faults ≡ first.faults)
    (tells : handed.tells ≡ is_some first.modeled) (synced : IfModeled first.modeled AreSynced)
    (new : IsNewOn ghost_state first opened) (reads : OnlyReads ghost_state opened read)
    (faultless : (ghost_state read.disk).faults ≡ (ghost_state opened.disk).faults)
    (through : IsReadThrough ghost_state base read) where
  list_so : IfModeled (ghost_state read.disk).modeled (λ _. opened.list ≡ payloads base)
  list_so = modeled_both (λ _. read.list ≡ payloads base ++ read.rest) (λ _. read.rest ≡ []) (λ _. opened.list ≡ payloads base)
      (ghost_state read.disk).modeled
      (λ d is none. sym reads.list ∙ is ∙ ap (λ l. payloads base ++ l) none
      ∙ append-nil (payloads base)) through.so_far.list_is through.nothing

  pub opened_backed : IsBacked (state_of (story_steps.Opened (oldest_first base) handed.counts handed.tells ∷ []))
      (ghost_state read.disk) (journal_state read)
  opened_backed = record {
    opening = opening;
    opened = refl;
    tells = tells ∙ sym (both_tells (Moves opened.list [] opened.list []) first.modeled (ghost_state read.disk).modeled
        (since_first ghost_state first opened read new reads));
    at_end = through.ended;
    calm = λ e. reads.left ∙ new.left;
    settled = inl refl;
    base = refl;
    ticks = omega (arith, ticks, new.counts.0, reads.ticks);
    faults = omega (arith, faults, new.counts.1, faultless);
    covered = by first.modeled (ghost_state read.disk).modeled counted.modeled synced list_so
        (since_first ghost_state first opened read new reads);
  }
    where
      opening : Opening
      opening = record { base = reverse (oldest_first base); counts = handed.counts; tells = handed.tells }

      by : (old now : Option Device) → IfModeled old (λ d. first.ticks ≡ length d.calls) → IfModeled old AreSynced
          → IfModeled now (λ _. opened.list ≡ payloads base) → Both (Moves opened.list [] opened.list []) old now
          → IfModeled now (IsMirrored opening [] (journal_state read) [] [])
      by old None same both is moves = tt
      by None (Some e) same both is moves = absurd moves
      by (Some d) (Some e) same both is moves =
          covered_opened opening base (journal_state read) d e (ticks ∙ same) (oldest_back base) through.so_far.good
          through.so_far.formed both.1 (reads.list ∙ is) through.so_far.leftover
          (subst (λ l. Moves l [] l [] d e) (sym reads.list) moves)

  base_on : IsBaseOn first base handed
  base_on = record {
    ticks = ticks;
    faults = faults;
    tells = tells;
    found = modeled_both (λ _. opened.list ≡ payloads base) (λ d. opened.list ≡ frames (bytes_now 0 d))
        (λ d. IsOpenedAs (found_on d) base) first.modeled
        (λ d is same. opens_as (found_on d) base (sym same ∙ is) through.so_far.good through.so_far.formed)
        (modeled_back (Moves opened.list [] opened.list []) (λ _. opened.list ≡ payloads base) (λ _. opened.list ≡ payloads base)
        first.modeled (ghost_state read.disk).modeled (λ d e moves is. is)
        (since_first ghost_state first opened read new reads) list_so) new.list;
    fits = through.so_far.good;
    formed = through.so_far.formed;
  }

  pub is_opened : (log : Logged) → log ≡ opened_log base handed (ghost_state read.disk) (tail_of read)
      → IsCounted (ghost_state read.disk) → IfModeled (ghost_state read.disk).modeled (IsFoundTail (tail_of read))
      → IsOpened first log
  is_opened log is fit found = record {
    base = base;
    handed = handed;
    on = base_on;
    is = is ∙ (λ i. opened_log base handed (ap (λ l. l.ghost_state) (sym is) i) (ap (λ l. l.tail) (sym is) i));
    tail = subst (λ (l : Logged). IfModeled l.ghost_state.modeled (IsFoundTail l.tail)) (sym is) found;
    faultless = ap (λ l. l.ghost_state.faults) is ∙ faultless ∙ new.counts.1;
    fit = subst IsCounted (sym (ap (λ l. l.ghost_state) is)) fit;
    files = subst (λ s. Both SameFiles first.modeled s.modeled) (sym (ap (λ l. l.ghost_state) is))
        (files_first ghost_state first opened read new reads);
  }
