-- How the rows of a journal are read, and what reading leaves.
use Rattle.std.proofs.Common.{◌≡◌, ℕ, ◌&&◌, Bool, true, false, None, drop, Option, Some, List, [], ◌∷◌, ◌++◌, sym, ap, ap₂, subst, ◌∙◌}
use Rattle.std.proofs.Common.{inl, inr, refl, arith}
use Rattle.std.proofs.lemmas.List.{append_assoc, append-nil}
use Rattle.std.proofs.lemmas.Bool.{and_parts}
use Rattle.cc_names.specs.Formed.{Plain}
use Rattle.disk_model.specs.Counting.{next_count}
use Rattle.disk_model.specs.Devices.{Device, LeavesNow, bytes_now}
use Rattle.disk_model.specs.Files.{File}
use Rattle.disk_model.specs.DiskStates.{DiskState, IfModeled, Both, IsCounted}
use Rattle.base_model.specs.Rows.{Base}
use Rattle.base_model.specs.Fits.{fits, is_base}
use Rattle.cc_names.specs.Counts.{rises}
use Rattle.row_form.specs.Spelled.{spelling_of}
use Rattle.std.specs.Prelude.{Ok}
use Rattle.cc_names.specs.declared.memory.Or.{Or}
use Rattle.disk_model.specs.declared.disk.DiskFault.{DiskFault}
use Rattle.vob_journal.specs.Answered.{Ends, TailAtEnd}
use Rattle.vob_journal.specs.Frames.{end_of_frames, frames, is_shut}
use Rattle.vob_journal.specs.Moves.{Moves, Stands}
use Rattle.vob_journal.specs.Reads.{SameFiles}
use Rattle.vob_journal.specs.Shown.{Shown}
use Rattle.vob_journal.proofs.Passing.{passes_then}
use Rattle.vob_journal.proofs.Journals.{same_moves}
use Rattle.vob_journal.proofs.Staying.{modeled_stay, modeled_then}
use Rattle.vob_journal.proofs.Telling.{both_then, modeled_back, modeled_next, modeled_both, modeled_from, modeled_map}
use Rattle.story_log.specs.Bases.Opening.{StopsBy}
use Rattle.story_log.specs.Bases.Reading.{EndsAt, FindsTail, OnlyReads, NextIs, IsMissed, IsNextRow, IsNoRow, IsReadSoFar}
use Rattle.story_log.specs.Stored.Damaged.{IsDamaged}
use Rattle.story_log.specs.Stored.Founds.{FoundFiles}
use Rattle.story_log.specs.Stored.Stops.{found_with}
use Rattle.story_log.specs.Stored.Payloads.{payloads}
use Rattle.story_log.specs.declared.opening.OpenCause.{OpenCause}
use Rattle.story_log.specs.declared.opening.OpenCause.TheVariants as causes
use Rattle.story_log.proofs.Logging.Rising.{rises_raised}
use Rattle.story_log.proofs.Stored.Damaged.{damaged_here}

-- reads one after the other
pub moves_then : (list : List (List ℕ)) (d e f : Device) → Moves list [] list [] d e → Moves list [] list [] e f
    → Moves list [] list [] d f
moves_then list d e f one two = record { passes = passes_then d e f _ one.passes two.passes; now = two.now }

-- a stop now finds the list where nothing is left over
pub finds_list : (list : List (List ℕ)) (image : List ℕ) → Stands list [] image → frames image ≡ list
finds_list list image (inl is) = is
finds_list list image (inr is) = is ∙ append-nil list

pub raised_rises : (one two : DiskState) → IsCounted one → IsCounted two → two.faults ≡ next_count one.faults
    → rises one.faults two.faults ≡ true
raised_rises one two first second is =
    rises_raised one.faults one.faults two.faults (omega arith) first.faults (omega (arith, is)) second.faults

-- a stop after reads finds the list
read_now : {D : Type 0} (ghost_state : D → DiskState) (old new : Shown D) → OnlyReads ghost_state old new
    → IfModeled (ghost_state new.disk).modeled (λ d. (image : List ℕ) → LeavesNow 0 d image → frames image ≡ new.list)
read_now ghost_state old new reads =
    modeled_next (Moves old.list [] old.list []) (λ d. (image : List ℕ) → LeavesNow 0 d image
    → frames image ≡ new.list) (ghost_state old.disk).modeled (ghost_state new.disk).modeled
    (λ d e moves image left. finds_list old.list image (moves.now image left) ∙ sym reads.list) reads.stops

-- where the end of a list was read
pub ends_at : (found : Option (List ℕ)) (old new : Bool) → Ends {E = Or DiskFault} (Ok found) old new → EndsAt found new
ends_at None old new h = h
ends_at (Some payload) old new h = h.1

-- the tail there, said of the disk after the read
found_at : (found : Option (List ℕ)) (ended settled : Bool) (place : ℕ) (d e : Device) → ended ≡ false
    → TailAtEnd found ended settled place d → SameFiles d e → FindsTail found (record { place = place; settled = settled }) e
found_at None ended settled place d e unended at same =
    let here : TailAtEnd None false settled place d = subst (λ b. TailAtEnd None b settled place d) unended at in
    let bytes : bytes_now 0 d ≡ bytes_now 0 e = ap (λ (file : File). file.bytes) (sym same.journal) in
    (here.0 ∙ ap end_of_frames bytes, here.1 ∙ ap (λ b. is_shut (drop place b)) bytes)
found_at (Some payload) ended settled place d e unended at same = tt

pub found_tail : (found : Option (List ℕ)) (ended settled : Bool) (place : ℕ) (old new : Option Device) → ended ≡ false
    → IfModeled old (TailAtEnd found ended settled place) → Both SameFiles old new
    → IfModeled new (FindsTail found (record { place = place; settled = settled }))
found_tail found ended settled place old new unended at same =
    modeled_from SameFiles (TailAtEnd found ended settled place)
    (FindsTail found (record { place = place; settled = settled })) old new
    (λ d e at same. found_at found ended settled place d e unended at same) at same

-- no tail is told where a row was read
pub finds_no_tail : (modeled : Option Device) → IfModeled modeled (λ d. Unit {0})
finds_no_tail None = tt
finds_no_tail (Some d) = tt

-- one more row of a base
one_more : (base : Base) (row : Plain) (payload : List ℕ) (list rest rest' : List (List ℕ)) → list ≡ payloads base ++ rest
    → rest ≡ payload ∷ rest' → payload ≡ spelling_of row → list ≡ payloads (row ∷ base) ++ rest'
one_more base row payload list rest rest' is next spells =
    is ∙ ap (λ l. payloads base ++ l) (next ∙ ap (λ p. p ∷ rest') spells)
    ∙ sym (append_assoc (payloads base) (spelling_of row ∷ []) rest')

-- a further row was read
pub read_more : {D : Type 0} (ghost_state : D → DiskState) (base : Base) (row : Plain) (payload : List ℕ) (old new : Shown D)
    → IsReadSoFar ghost_state base old → OnlyReads ghost_state old new → NextIs ghost_state (Some payload) old new
    → IsNextRow base payload row → IsReadSoFar ghost_state (row ∷ base) new
read_more ghost_state base row payload old new h reads next is = record {
  good = ap₂ ◌&&◌ is.fits h.good;
  formed = (is.formed, h.formed);
  leftover = next.leftover;
  now = read_now ghost_state old new reads;
  list_is = modeled_from (Moves old.list [] old.list []) (λ _. (old.list ≡ payloads base ++ old.rest)
      × (old.rest ≡ payload ∷ new.rest)) (λ _. new.list ≡ payloads (row ∷ base) ++ new.rest) (ghost_state old.disk).modeled
      (ghost_state new.disk).modeled
      (λ d e parts moves. reads.list ∙ one_more base row payload old.list old.rest new.rest parts.0 parts.1 is.spells)
      (modeled_both (λ _. old.list ≡ payloads base ++ old.rest) (λ _. old.rest ≡ payload ∷ new.rest)
      (λ _. (old.list ≡ payloads base ++ old.rest) × (old.rest ≡ payload ∷ new.rest)) (ghost_state old.disk).modeled
      (λ d split gives. (split, gives)) h.list_is next.gives)
      reads.stops;
}

-- the row of a base fits those before it
pub row_fits : (base : Base) (row : Plain) → is_base (row ∷ base) ≡ true → fits base row.deed ≡ true
row_fits base row good = (and_parts (fits base row.deed) (is_base base) good).0

-- where nothing was read yet
pub reads_none : {D : Type 0} (ghost_state : D → DiskState) (base : Base) (journal : Shown D)
    → IsReadSoFar ghost_state base journal → OnlyReads ghost_state journal journal
reads_none ghost_state base journal h = record {
  list = refl;
  left = refl;
  ticks = omega arith;
  stops = same_moves (ghost_state journal.disk).modeled journal.list []
      (modeled_map (λ d. (image : List ℕ) → LeavesNow 0 d image → frames image ≡ journal.list)
      (λ d. (image : List ℕ) → LeavesNow 0 d image → Stands journal.list [] image) (ghost_state journal.disk).modeled
      (λ d now image left. inl (now image left)) h.now);
  files = modeled_stay (ghost_state journal.disk).modeled;
}

-- reads one after the other
pub reads_then : {D : Type 0} (ghost_state : D → DiskState) (one two three : Shown D) → OnlyReads ghost_state one two
    → OnlyReads ghost_state two three → OnlyReads ghost_state one three
reads_then ghost_state one two three h g =
    let P : Device → Device → Type 0 = Moves one.list [] one.list [] in record {
      list = g.list ∙ h.list;
      left = g.left ∙ h.left;
      ticks = omega (arith, h.ticks, g.ticks);
      stops = both_then P P P (ghost_state one.disk).modeled (ghost_state two.disk).modeled (ghost_state three.disk).modeled
          (moves_then one.list) h.stops
          (subst (λ l. Both (Moves l [] l []) (ghost_state two.disk).modeled (ghost_state three.disk).modeled) h.list g.stops);
      files = modeled_then (ghost_state one.disk).modeled (ghost_state two.disk).modeled (ghost_state three.disk).modeled h.files
          g.files;
    }

-- why a payload that was read gave no row
pub stops_here : {D : Type 0} (ghost_state : D → DiskState) (base : Base) (payload : List ℕ) (cause : OpenCause)
    (old new : Shown D)
    → IsReadSoFar ghost_state base old → NextIs ghost_state (Some payload) old new → IsNoRow base payload cause
    → StopsBy (ghost_state old.disk).modeled (found_with old.list) cause (ghost_state old.disk).faults
    (ghost_state new.disk).faults
stops_here ghost_state base payload (causes.Damaged n) old new h next none = (
  next.faultless,
  modeled_both (λ _. old.list ≡ payloads base ++ old.rest) (λ _. old.rest ≡ payload ∷ new.rest)
      (λ d. IsDamaged (found_with old.list d) n) (ghost_state old.disk).modeled
      (λ d is gives. damaged_here (found_with old.list d) base payload new.rest n h.good h.formed (is
      ∙ ap (λ l. payloads base ++ l) gives) none.0 none.1) h.list_is next.gives,
)
stops_here ghost_state base payload causes.DiskFault old new h next none = absurd none
stops_here ghost_state base payload causes.NoMemory old new h next none = next.faultless

-- why no payload was read
pub stops_unread : (modeled : Option Device) (found : Device → FoundFiles) (cause : OpenCause) (old new : ℕ)
    → IsMissed cause old new → StopsBy modeled found cause old new
stops_unread modeled found (causes.Damaged n) old new missed = absurd missed
stops_unread modeled found causes.DiskFault old new missed = missed
stops_unread modeled found causes.NoMemory old new missed = missed

-- why reading stopped after reads, said of the journal before them
found_behind : (list list' : List (List ℕ)) (d e : Device) → SameFiles d e → list' ≡ list → found_with list' e ≡ found_with list d
found_behind list list' d e same is =
    λ i. record { frames = is i; objects = ap (λ (file : File). file.bytes) same.objects i }

pub stops_behind : {D : Type 0} (ghost_state : D → DiskState) (cause : OpenCause) (one two : Shown D) (faults : ℕ)
    → OnlyReads ghost_state one two → (ghost_state two.disk).faults ≡ (ghost_state one.disk).faults
    → StopsBy (ghost_state two.disk).modeled (found_with two.list) cause (ghost_state two.disk).faults faults
    → StopsBy (ghost_state one.disk).modeled (found_with one.list) cause (ghost_state one.disk).faults faults
stops_behind ghost_state (causes.Damaged n) one two faults reads sound h = (
  h.0 ∙ sound,
  modeled_back SameFiles (λ d. IsDamaged (found_with one.list d) n) (λ e. IsDamaged (found_with two.list e) n)
      (ghost_state one.disk).modeled (ghost_state two.disk).modeled
      (λ d e same damaged. subst (λ found. IsDamaged found n) (found_behind one.list two.list d e same reads.list) damaged)
      reads.files h.1,
)
stops_behind ghost_state causes.DiskFault one two faults reads sound h = subst (λ f. rises f faults ≡ true) sound h
stops_behind ghost_state causes.NoMemory one two faults reads sound h = h ∙ sound
