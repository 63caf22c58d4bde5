-- one more row of a journal
use Rattle.std.proofs.Common.{ℕ, List, Option, Some, Ok, sym, subst}
use Rattle.disk_model.specs.DiskStates.{IfModeled}
use Rattle.vob_journal.specs.Pieces.{ReadsNext}
use Rattle.story_log.specs.Bases.Reading.{EndsAt, FindsTail, NextIs}
use Rattle.story_log.specs.Stopping.Tails.{tail_of}
use Rattle.story_log.specs.declared.opening.OpenCause.{OpenCause}
use Rattle.story_log.proofs.Bases.ReadFrames.{after_missed, after_no_row, read_for_none}
use Rattle.story_log.proofs.Bases.ReadRows.{finds_no_tail, read_more, stops_here}
use Rattle.story_log.proofs.opening.read_next_row.Goals as goal

pub returns-in-Ok-clause-ok : goal.returns-in-Ok-clause-ok
returns-in-Ok-clause-ok g c =
    let old = c.args.journal.now in
    let new = c.next_payload.new.journal in
    let next : NextIs g.D.Disk.ghost_state (Some c.in-Ok-Some.payload) old new =
    subst (λ f. NextIs g.D.Disk.ghost_state f old new) c.in-Ok-Some.field-0-is c.in-Ok-Some.ensures.ok in
    read_more g.D.Disk.ghost_state c.args.rows.now c.in-Ok.row c.as_bytes.result.now old new c.requires.so_far c.in-Ok-Some.ensures.reads
    (subst (λ p. NextIs g.D.Disk.ghost_state (Some p) old new) (sym c.as_bytes.ensures) next) c.in-Ok.ensures.ok

pub returns-clause-err : goal.returns-clause-err
returns-clause-err g c =
    let old = c.args.journal.now in
    let new = c.next_payload.new.journal in
    let next : NextIs g.D.Disk.ghost_state (Some c.in-Ok-Some.payload) old new =
    subst (λ f. NextIs g.D.Disk.ghost_state f old new) c.in-Ok-Some.field-0-is c.in-Ok-Some.ensures.ok in
    stops_here g.D.Disk.ghost_state c.args.rows.now c.as_bytes.result.now c.in-Err-next_row.cause old new c.requires.so_far
    (subst (λ p. NextIs g.D.Disk.ghost_state (Some p) old new) (sym c.as_bytes.ensures) next) c.in-Err-next_row.ensures.err

pub returns-in-Ok-clause-forth : goal.returns-in-Ok-clause-forth
returns-in-Ok-clause-forth g c =
    subst (λ (f : Option (List ℕ)). ReadsNext {E = OpenCause} (Ok f) g.D.Disk.ghost_state c.args.journal.now
    c.next_payload.new.journal) c.in-Ok-Some.field-0-is c.in-Ok-Some.ensures.forth

pub returns-clause-forth : goal.returns-clause-forth
returns-clause-forth g c =
    let old = c.args.journal.now in
    let new = c.next_payload.new.journal in
    let next : NextIs g.D.Disk.ghost_state (Some c.in-Ok-Some.payload) old new =
    subst (λ f. NextIs g.D.Disk.ghost_state f old new) c.in-Ok-Some.field-0-is c.in-Ok-Some.ensures.ok in
    read_for_none g.D.Disk.ghost_state c.args.rows.now c.in-Ok-Some.payload old new c.requires.so_far c.in-Ok-Some.ensures.reads next
    (subst (λ (f : Option (List ℕ)). ReadsNext {E = OpenCause} (Ok f) g.D.Disk.ghost_state old new) c.in-Ok-Some.field-0-is
    c.in-Ok-Some.ensures.forth)

pub returns-clause-next : goal.returns-clause-next
returns-clause-next g c =
    after_no_row c.args.rows.now c.as_bytes.result.now c.in-Err-next_row.cause c.in-Err-next_row.ensures.err

pub returns-in-Err-clause-next : goal.returns-in-Err-clause-next
returns-in-Err-clause-next g c = after_missed c.args.rows.now c.in-Err.cause _ _ c.in-Err.ensures.err

pub returns-in-Ok-None-clause-forth : goal.returns-in-Ok-None-clause-forth
returns-in-Ok-None-clause-forth g c =
    subst (λ (f : Option (List ℕ)). ReadsNext {E = OpenCause} (Ok f) g.D.Disk.ghost_state c.args.journal.now
    c.next_payload.new.journal) c.in-Ok-None.field-0-is c.in-Ok-None.ensures.forth

pub returns-in-Ok-clause-ends : goal.returns-in-Ok-clause-ends
returns-in-Ok-clause-ends g c =
    subst (λ (f : Option (List ℕ)). EndsAt f c.next_payload.new.journal.ended) c.in-Ok-Some.field-0-is c.in-Ok-Some.ensures.ok.ends

pub returns-in-Ok-clause-tail : goal.returns-in-Ok-clause-tail
returns-in-Ok-clause-tail g c = finds_no_tail (g.D.Disk.ghost_state c.next_payload.new.journal.disk).modeled

pub returns-in-Ok-None-clause-ends : goal.returns-in-Ok-None-clause-ends
returns-in-Ok-None-clause-ends g c =
    subst (λ (f : Option (List ℕ)). EndsAt f c.next_payload.new.journal.ended) c.in-Ok-None.field-0-is c.in-Ok-None.ensures.ok.ends

pub returns-in-Ok-None-clause-tail : goal.returns-in-Ok-None-clause-tail
returns-in-Ok-None-clause-tail g c =
    let journal = c.next_payload.new.journal in
    subst (λ (f : Option (List ℕ)). IfModeled (g.D.Disk.ghost_state journal.disk).modeled (FindsTail f (tail_of journal)))
    c.in-Ok-None.field-0-is (c.in-Ok-None.ensures.ok.tail c.requires.unended)
