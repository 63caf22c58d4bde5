-- What reading a journal on adds, and how many rows were read.
use Rattle.std.proofs.Common.{◌≡◌, ◌+◌, ◌==◌, ◌&&◌, true, ℕ, Option, None, Some, List, [], ◌∷◌, length, refl, sym, ap, subst, ◌∙◌}
use Rattle.std.proofs.Common.{inl, inr, arith}
use Rattle.std.proofs.lemmas.List.Folds.{list_all-append}
use Rattle.std.specs.List.{list_all}
use Rattle.std.specs.Prelude.{Result, Ok, Err, IfOk, IfSome, MatchResult}
use Rattle.disk_model.specs.Counting.{next_count}
use Rattle.disk_model.specs.Devices.{Device, Event, Failed, Fetched, Idles, Measured, Measures, bytes_now}
use Rattle.disk_model.specs.DiskStates.{Both, DiskState, IfModeled}
use Rattle.vob_journal.specs.Added.{Adds}
use Rattle.vob_journal.specs.Answered.{GivesNext}
use Rattle.vob_journal.specs.Frames.{frames}
use Rattle.vob_journal.specs.Pieces.{IsReadForth, IsReadUntil, LooksBehind, LooksBy, OpensBy, ReadsForth, ReadsNext, but_failed}
use Rattle.vob_journal.specs.Reads.{SameFiles}
use Rattle.vob_journal.specs.Shown.{Shown}
use Rattle.vob_journal.proofs.Adding.{adds_none, adds_one, adds_then}
use Rattle.vob_journal.proofs.Telling.{both_map, both_then}
use Rattle.ccbase.specs.Looks.{may_look}

pub adds_stay : (modeled : Option Device) → Both (Adds may_look) modeled modeled
adds_stay None = tt
adds_stay (Some d) = adds_none may_look d

pub adds_along : (old mid new : Option Device) → Both (Adds may_look) old mid → Both (Adds may_look) mid new
    → Both (Adds may_look) old new
adds_along old mid new = both_then (Adds may_look) (Adds may_look) (Adds may_look) old mid new (adds_then may_look)

-- before the first row none was read
pub none_read : (modeled : Option Device) (all : ℕ) → IfModeled modeled (λ _. 0 + all ≡ all)
none_read None all = tt
none_read (Some d) all = omega arith

-- then one row more
pub one_read : (old mid : Option Device) (rows all : ℕ) (before after : List (List ℕ)) (found : Option (List ℕ))
    (payload : List ℕ) → found ≡ Some payload → Both SameFiles old mid → IfModeled old (λ _. rows + length before ≡ all)
    → IfModeled mid (λ _. GivesNext found before after) → IfModeled old (λ _. rows + 1 + length after ≡ all)
one_read None mid rows all before after found payload is same read gives = tt
one_read (Some d) None rows all before after found payload is same read gives = absurd same
one_read (Some d) (Some e) rows all before after found payload is same read gives =
    let next : before ≡ payload ∷ after = subst (λ found. GivesNext found before after) is gives in
    omega (arith, read, ap length next)

-- and at the end all
pub all_read : (old mid : Option Device) (rows all : ℕ) (before after : List (List ℕ)) (found : Option (List ℕ))
    → found ≡ None → Both SameFiles old mid → IfModeled old (λ _. rows + length before ≡ all)
    → IfModeled mid (λ _. GivesNext found before after) → IfModeled old (λ _. rows ≡ all)
all_read None mid rows all before after found is same read gives = tt
all_read (Some d) None rows all before after found is same read gives = absurd same
all_read (Some d) (Some e) rows all before after found is same read gives =
    let ended : (before ≡ []) × (after ≡ []) = subst (λ found. GivesNext found before after) is gives in
    omega (arith, read, ap length ended.0)

-- what a length that was asked adds, and a call that failed
measured_looks : (d e : Device) → Measures 0 d e → Adds may_look d e
measured_looks d e made = subst (Adds may_look d) (sym made) (adds_one may_look (Measured 0) d refl)

idle_looks : (d e : Device) → Idles d e → Adds may_look d e
idle_looks d e (inl same) = subst (Adds may_look d) (sym same) (adds_none may_look d)
idle_looks d e (inr missed) = subst (Adds may_look d) (sym missed) (adds_one may_look Failed d refl)

pub adds_measured : (old new : Option Device) → Both (Measures 0) old new → Both (Adds may_look) old new
adds_measured old new = both_map (Measures 0) (Adds may_look) old new measured_looks

pub adds_idle : (old new : Option Device) → Both Idles old new → Both (Adds may_look) old new
adds_idle old new = both_map Idles (Adds may_look) old new idle_looks

-- the calls that read a journal on, and those that read it once and a piece more
forth_looks : (bytes : List ℕ) (from had : ℕ) (calls : List Event) (to has : ℕ) → ReadsForth bytes from had calls to has
    → list_all may_look calls ≡ true
forth_looks bytes from had [] to has h = refl
forth_looks bytes from had (Fetched file place size ∷ calls) to has h =
    ap (λ file. (file == 0) && list_all may_look calls) h.0 ∙ forth_looks bytes from had calls (h.2.0 + 1) h.2.3.0 h.2.3.2
forth_looks bytes from had (event ∷ calls) to has h = absurd h

but_failed_looks : (calls : List Event) → list_all may_look (but_failed calls) ≡ true → list_all may_look calls ≡ true
but_failed_looks (Failed ∷ calls) h = h
but_failed_looks calls h = h

opening_looks : (bytes : List ℕ) (calls : List Event) (to : ℕ) → OpensBy bytes calls to → list_all may_look calls ≡ true
opening_looks bytes calls to (inl none) = ap (list_all may_look) none
opening_looks bytes calls to (inr read) =
    ap (list_all may_look) read.2 ∙ list_all-append may_look read.0 (Measured 0 ∷ [])
    ∙ ap (λ a. a && true) (forth_looks bytes 0 0 read.0 to read.1 read.3)

behind_looks : (bytes : List ℕ) (calls : List Event) → LooksBy bytes calls → list_all may_look calls ≡ true
behind_looks bytes calls (inl read) = opening_looks bytes calls read.0 read.1
behind_looks bytes calls (inr read) = ap (list_all may_look) read.3 ∙ opening_looks bytes read.1 read.0 read.2

read_forth : (from had to has : ℕ) (d e : Device) → IsReadForth from had to has d e → Adds may_look d e
read_forth from had to has d e h = record {
  more = h.more;
  calls = h.calls;
  kinds = forth_looks (bytes_now 0 d) from had h.more to has h.forth;
}

read_until : (from had to : ℕ) (d e : Device) → IsReadUntil from had to d e → Adds may_look d e
read_until from had to d e h = record {
  more = h.more;
  calls = h.calls;
  kinds = but_failed_looks h.more (forth_looks (bytes_now 0 d) from had (but_failed h.more) to h.has h.forth);
}

looks_behind : (d e : Device) → LooksBehind d e → Adds may_look d e
looks_behind d e h = record {
  more = h.more;
  calls = h.calls;
  kinds = but_failed_looks h.more (behind_looks (bytes_now 0 d) (but_failed h.more) h.looks);
}

pub adds_behind : (old new : Option Device) → Both LooksBehind old new → Both (Adds may_look) old new
adds_behind old new = both_map LooksBehind (Adds may_look) old new looks_behind

pub adds_until : (from had to : ℕ) (old new : Option Device) → Both (IsReadUntil from had to) old new
    → Both (Adds may_look) old new
adds_until from had to old new = both_map (IsReadUntil from had to) (Adds may_look) old new (read_until from had to)

pub adds_next : {A D E : Type 0} (r : Result (Option A) E) (ghost_state : D → DiskState) (old new : Shown D)
    → ReadsNext r ghost_state old new → Both (Adds may_look) (ghost_state old.disk).modeled (ghost_state new.disk).modeled
adds_next (Ok (Some frame)) ghost_state old new h = both_map _ (Adds may_look) _ _ (read_forth _ _ _ _) h
adds_next (Ok None) ghost_state old new h = adds_until _ _ _ _ _ h
adds_next (Err fault) ghost_state old new h = adds_until _ _ _ _ _ h

-- the rows that were read are those of the journal
pub rows_counted : {E : Type 0} (r : Result (Option ℕ) E) (old mid : Option Device) (list rest : List (List ℕ))
    → Both SameFiles old mid → IfModeled old (λ d. list ≡ frames (bytes_now 0 d)) → rest ≡ list
    → IfOk r (λ rows. IfSome rows (λ count. IfModeled mid (λ _. count ≡ length rest)))
    → IfOk r (λ rows. IfSome rows (λ count. IfModeled old (λ d. count ≡ length (frames (bytes_now 0 d)))))
rows_counted (Err fault) old mid list rest same is all read = tt
rows_counted (Ok None) old mid list rest same is all read = tt
rows_counted (Ok (Some count)) None mid list rest same is all read = tt
rows_counted (Ok (Some count)) (Some d) None list rest same is all read = absurd same
rows_counted (Ok (Some count)) (Some d) (Some e) list rest same is all read = read ∙ ap length (all ∙ is)

-- where no call failed before
pub faults_along : {T E : Type 0} (r : Result T E) (old mid new : ℕ) → mid ≡ old
    → MatchResult r (λ _. new ≡ mid) (λ _. new ≡ next_count mid) → MatchResult r (λ _. new ≡ old) (λ _. new ≡ next_count old)
faults_along r old mid new same = subst (λ m. MatchResult r (λ _. new ≡ m) (λ _. new ≡ next_count m)) same
