-- one more row was read
use Rattle.std.proofs.Common.{◌≡◌, ◌+◌, ◌<◌, ◌&&◌, ◌∷◌, [], Bool, true, false, Option, Some, None, Result, Ok, Err, length}
use Rattle.std.proofs.Common.{nat_lt, refl, ap, sym}
use Rattle.std.proofs.Common.{subst, ◌∙◌, arith}
use Rattle.std.proofs.lemmas.Bool.{ltb-true}
use Rattle.std.specs.Prelude.{is_err, OnOk}
use Rattle.cc_names.specs.Formed.{Plain}
use Rattle.cc_names.specs.declared.rows.Deed.{Deed}
use Rattle.disk_model.specs.DiskStates.{Both, DiskState, IfModeled}
use Rattle.vob_journal.specs.Pieces.{IsReadForth, IsReadUntil, ReadsNext}
use Rattle.vob_journal.specs.Shown.{Shown, frames_read}
use Rattle.vob_journal.proofs.Pieces.{modeled_forth_none, modeled_forth_then, modeled_forth_until, modeled_until}
use Rattle.base_model.specs.Rows.{Base, size}
use Rattle.base_model.specs.Fits.{deed_fits, fits, row_limit}
use Rattle.story_log.specs.Bases.Reading.{EndsAt, FindsTail, IsAfterBase, IsReadSoFar, ReadsOn}
use Rattle.story_log.specs.Stopping.Tails.{tail_of}
use Rattle.story_log.specs.declared.opening.OpenCause.{OpenCause}
use Rattle.story_log.proofs.Bases.ReadFrames.{frames_so_far, modeled_on, modeled_on_none, read_by}
use Rattle.story_log.proofs.Bases.ReadRows.{reads_none, reads_then, row_fits, stops_behind}
use Rattle.story_log.proofs.opening.read_rows.Goals as goal

-- what holds of an Ok holds where there is no Err
of_ok : {X E : Type 0} {A : Type 0} (r : Result X E) → is_err r ≡ false → OnOk r A → A
of_ok (Ok x) e a = a
of_ok (Err x) e a = absurd (cc)

-- a row that fits finds fewer rows than there may be
below_limit : (b : Base) (deed : Deed) → fits b deed ≡ true → size b < row_limit
below_limit b deed fit = by (nat_lt (size b) row_limit) refl fit
  where
    by : (is : Bool) → nat_lt (size b) row_limit ≡ is → (is && deed_fits b deed) ≡ true → size b < row_limit
    by true is fit = ltb-true _ _ is
    by false is fit = absurd (cc)

-- the frame of a row was read
row_forth : {A D : Type 0} (ghost_state : D → DiskState) (found : Option A) (row : A) (old new : Shown D) → found ≡ Some row
    → ReadsNext {E = OpenCause} (Ok found) ghost_state old new
    → Both (IsReadForth (frames_read old) old.reach (frames_read new) new.reach) (ghost_state old.disk).modeled
    (ghost_state new.disk).modeled
row_forth ghost_state found row old new is h = subst (λ f. ReadsNext {E = OpenCause} (Ok f) ghost_state old new) is h

end_forth : {A D : Type 0} (ghost_state : D → DiskState) (found : Option A) (old new : Shown D) → found ≡ None
    → ReadsNext {E = OpenCause} (Ok found) ghost_state old new
    → Both (IsReadUntil (frames_read old) old.reach (frames_read old + 1)) (ghost_state old.disk).modeled
    (ghost_state new.disk).modeled
end_forth ghost_state found old new is h = subst (λ f. ReadsNext {E = OpenCause} (Ok f) ghost_state old new) is h

pub frames-init : goal.frames-init
frames-init g c = record {
  reads = reads_none g.D.Disk.ghost_state [] c.args.journal.now c.requires.so_far;
  forth = modeled_forth_none _ _ _ _ (omega arith);
  unended = c.requires.unended;
  so_far = subst (λ (b : Base). IsReadSoFar g.D.Disk.ghost_state b c.args.journal.now) (sym c.in-Ok.ensures) c.requires.so_far;
  faultless = refl;
}

pub frames-smaller : goal.frames-smaller
frames-smaller g c =
    let ghost_state = g.D.Disk.ghost_state in
    let found : ReadsOn ghost_state c.all.result (Some c.in-Ok-Some.row) c.read_next_row.new.journal =
    subst (λ f. ReadsOn ghost_state c.all.result f c.read_next_row.new.journal) c.in-Ok-Some.field-0-is
    c.in-Ok-Some.ensures.ok in
    let count = ap length (of_ok c.add_row.result (sym c.is_err.ensures.value ∙ c.if-is_err.false) c.add_row.ensures) in
    let all = ap length c.all.ensures in
    let below = below_limit c.all.result c.in-Ok-Some.row.deed (row_fits c.all.result c.in-Ok-Some.row found.good) in
    omega (arith, count, all, below)

pub frames-preserved : goal.frames-preserved
frames-preserved g c =
    let ghost_state = g.D.Disk.ghost_state in
    let found : ReadsOn ghost_state c.all.result (Some c.in-Ok-Some.row) c.read_next_row.new.journal =
    subst (λ f. ReadsOn ghost_state c.all.result f c.read_next_row.new.journal) c.in-Ok-Some.field-0-is
    c.in-Ok-Some.ensures.ok in
    let grown : c.add_row.new.rows.base ≡ c.in-Ok-Some.row ∷ c.all.result =
    of_ok c.add_row.result (sym c.is_err.ensures.value ∙ c.if-is_err.false) c.add_row.ensures
    ∙ ap (λ (before : Base). c.in-Ok-Some.row ∷ before) (sym c.all.ensures) in
    record {
      reads = reads_then ghost_state c.args.journal.now c.frames.journal c.read_next_row.new.journal c.frames.invariant.reads
          c.in-Ok-Some.ensures.reads;
      forth = modeled_forth_then _ _ _ _ _ _ _ _ _ c.frames.invariant.forth
          (row_forth ghost_state _ c.in-Ok-Some.row c.frames.journal c.read_next_row.new.journal c.in-Ok-Some.field-0-is
          c.in-Ok-Some.ensures.forth);
      unended = subst (λ (f : Option Plain). EndsAt f c.read_next_row.new.journal.ended) c.in-Ok-Some.field-0-is
          c.in-Ok-Some.ensures.ends;
      so_far = subst (λ (b : Base). IsReadSoFar ghost_state b c.read_next_row.new.journal) (sym grown) found;
      faultless = c.in-Ok-Some.ensures.faultless ∙ c.frames.invariant.faultless;
    }

pub returns-then-is_err-clause-reads : goal.returns-then-is_err-clause-reads
returns-then-is_err-clause-reads g c = reads_then g.D.Disk.ghost_state c.args.journal.now c.frames.journal
    c.read_next_row.new.journal c.frames.invariant.reads c.in-Ok-Some.ensures.reads

pub add_row-requires : goal.add_row-requires
add_row-requires g c =
    let ghost_state = g.D.Disk.ghost_state in
    let found : ReadsOn ghost_state c.all.result (Some c.in-Ok-Some.row) c.read_next_row.new.journal =
    subst (λ f. ReadsOn ghost_state c.all.result f c.read_next_row.new.journal) c.in-Ok-Some.field-0-is
    c.in-Ok-Some.ensures.ok in
    subst (λ b. fits b c.in-Ok-Some.row.deed ≡ _) c.all.ensures (row_fits c.all.result c.in-Ok-Some.row found.good)

pub returns-in-Ok-None-clause-reads : goal.returns-in-Ok-None-clause-reads
returns-in-Ok-None-clause-reads g c = reads_then g.D.Disk.ghost_state c.args.journal.now c.frames.journal
    c.read_next_row.new.journal c.frames.invariant.reads c.in-Ok-None.ensures.reads

pub returns-in-Err-clause-reads : goal.returns-in-Err-clause-reads
returns-in-Err-clause-reads g c = reads_then g.D.Disk.ghost_state c.args.journal.now c.frames.journal c.read_next_row.new.journal
    c.frames.invariant.reads c.in-Err.ensures.reads

pub returns-in-Err-clause-err : goal.returns-in-Err-clause-err
returns-in-Err-clause-err g c =
    stops_behind g.D.Disk.ghost_state c.in-Err.cause c.args.journal.now c.frames.journal _ c.frames.invariant.reads
    c.frames.invariant.faultless c.in-Err.ensures.err

pub returns-in_default-clause-until : goal.returns-in_default-clause-until
returns-in_default-clause-until g c = modeled_on_none _ _ _

pub returns-then-is_err-clause-until : goal.returns-then-is_err-clause-until
returns-then-is_err-clause-until g c =
    let ghost_state = g.D.Disk.ghost_state in
    modeled_on _ _ _ _ _ (modeled_until _ _ _ _ _ _ (modeled_forth_then _ _ _ _ _ _ _ _ _ c.frames.invariant.forth
    (row_forth ghost_state _ c.in-Ok-Some.row c.frames.journal c.read_next_row.new.journal c.in-Ok-Some.field-0-is
    c.in-Ok-Some.ensures.forth)))

pub returns-in-Ok-None-clause-forth : goal.returns-in-Ok-None-clause-forth
returns-in-Ok-None-clause-forth g c =
    modeled_on _ _ _ _ _ (modeled_forth_until _ _ _ _ _ _ _ _ c.frames.invariant.forth
    (end_forth g.D.Disk.ghost_state _ c.frames.journal c.read_next_row.new.journal c.in-Ok-None.field-0-is
    c.in-Ok-None.ensures.forth))

pub returns-in-Err-clause-until : goal.returns-in-Err-clause-until
returns-in-Err-clause-until g c =
    read_by c.in-Err.cause c.frames.rows.base _ _ (frames_read c.frames.journal) c.frames.journal.reach _ _ _
    c.frames.invariant.forth c.in-Err.ensures.forth
    (frames_so_far g.D.Disk.ghost_state c.frames.rows.base c.frames.journal c.frames.invariant.so_far)
    (subst (λ (b : Base). IsAfterBase b c.in-Err.cause) c.all.ensures c.in-Err.ensures.next)

pub returns-in-Ok-None-clause-tail : goal.returns-in-Ok-None-clause-tail
returns-in-Ok-None-clause-tail g c =
    let journal = c.read_next_row.new.journal in
    subst (λ (f : Option Plain). IfModeled (g.D.Disk.ghost_state journal.disk).modeled (FindsTail f (tail_of journal)))
    c.in-Ok-None.field-0-is c.in-Ok-None.ensures.tail
