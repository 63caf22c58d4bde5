-- How a journal is read piece by piece.
use Rattle.std.proofs.Common.{◌≡◌, ◌<◌, ◌≤◌, ◌+◌, ◌-◌, ℕ, zero, suc, min, max, Option, Some, None, List, [], ◌∷◌, ◌++◌, refl, sym}
use Rattle.std.proofs.Common.{◌∙◌, ap, subst, inl, inr, append_assoc, arith, length, drop, length-drop, Result, Ok, Err}
use Rattle.std.proofs.lemmas.List.{drop-drop}
use Rattle.std.specs.Prelude.{◌⊎◌, Bool, IfOk, OnErr}
use Rattle.disk_model.specs.Devices.{Device, Event, Fetched, Failed, Measured, Wrote, Tore, Synced, Fetches, Idles, Measures}
use Rattle.disk_model.specs.Devices.{bytes_now}
use Rattle.disk_model.specs.DiskStates.{IfModeled, Both}
use Rattle.vob_journal.specs.Frames.{head, place_after, size_before}
use Rattle.vob_journal.specs.Pieces.{IsPiece, IsReadForth, IsReadUntil, IsSought, OpensBy, ReadsAt, ReadsForth}
use Rattle.vob_journal.specs.Pieces.{ReadsFrame, ReadsOnce, ReadsOnceTo, ReadsPiece, ReadsUntil}
use Rattle.vob_journal.specs.Pieces.{but_failed, first_five, needed, needed_by, piece}
use Rattle.vob_journal.specs.Windows.{reach_of}
use Rattle.vob_journal.specs.declared.window.Window.{Window}
use Rattle.vob_journal.specs.declared.reading.Found.{Found}
use Rattle.vob_journal.specs.declared.reading.Found.TheVariants.{Payload, End}
use Rattle.vob_journal.proofs.Telling.{both_map, both_then}

-- the place after one frame more
next_on : (found : Option (List ℕ)) (n m : ℕ) (bytes payload : List ℕ) (rest : (k : ℕ) → head (drop (place_after n (drop k bytes))
    (drop k bytes)) ≡ Some payload → place_after (suc n) (drop k bytes) ≡ place_after n (drop k bytes) + m)
    → head bytes ≡ found
    → head (drop (size_before found (λ k. place_after n (drop k bytes))) bytes) ≡ Some payload
    → size_before found (λ k. place_after (suc n) (drop k bytes)) ≡ size_before found (λ k. place_after n (drop k bytes)) + m
next_on None n m bytes payload rest is e = absurd (cc (is, e))
next_on (Some first) n m bytes payload rest is e =
    let k = 5 + length first in
    let more = rest k (ap head (drop-drop (place_after n (drop k bytes)) k bytes) ∙ e) in
    omega (arith, more)

pub place_next : (n : ℕ) (bytes payload : List ℕ) → head (drop (place_after n bytes) bytes) ≡ Some payload
    → place_after (suc n) bytes ≡ place_after n bytes + (5 + length payload)
place_next zero bytes payload e = ap (λ found. size_before found (λ k. 0)) e ∙ omega arith
place_next (suc n) bytes payload e =
    next_on (head bytes) n (5 + length payload) bytes payload (λ k is. place_next n (drop k bytes) payload is) refl e

-- what is sought is needed, and a piece has it
least_needed : (found : Option (List ℕ)) (rest : List ℕ) → min 5 (length rest) ≤ needed_by found rest
least_needed None rest = omega arith
least_needed (Some payload) rest = omega arith

sought_needed : (count : ℕ) (rest : List ℕ) → IsSought count rest → count ≤ needed rest
sought_needed count rest (inl five) = omega (arith, five, least_needed (head rest) rest)
sought_needed count rest (inr whole) = omega (arith, whole)

sought_long : (had place count : ℕ) (rest : List ℕ) → IsSought count rest → had < place + count
    → (max (piece rest) count ≡ max (piece rest) (needed rest))
    ⊎ ((max (piece rest) count ≡ piece rest) × (had < place + first_five rest))
sought_long had place count rest (inl five) further = inr (omega (arith, five), omega (arith, five, further))
sought_long had place count rest (inr whole) further = inl (ap (λ n. max (piece rest) n) whole)

is_piece : (bytes : List ℕ) (had place count : ℕ) → IsSought count (drop place bytes) → had < place + count
    → IsPiece bytes had place (max (piece (drop place bytes)) count)
is_piece bytes had place count sought further = record {
  unread = omega (arith, further, sought_needed count (drop place bytes) sought);
  further = omega (arith, further);
  long = sought_long had place count (drop place bytes) sought further;
}

-- up to a later frame, and from an earlier one
widen : (bytes : List ℕ) (from had : ℕ) (more : List Event) (to later has : ℕ) → to ≤ later
    → ReadsForth bytes from had more to has → ReadsForth bytes from had more later has
widen bytes from had [] to later has le h = (omega (arith, le, h.0), h.1)
widen bytes from had (Fetched file place size ∷ earlier) to later has le h =
    (h.0, h.1, (h.2.0, omega (arith, le, h.2.1), h.2.2, h.2.3))
widen bytes from had (Measured file ∷ earlier) to later has le h = absurd h
widen bytes from had (Wrote file place size left ∷ earlier) to later has le h = absurd h
widen bytes from had (Tore file place size left ∷ earlier) to later has le h = absurd h
widen bytes from had (Synced file ∷ earlier) to later has le h = absurd h
widen bytes from had (Failed ∷ earlier) to later has le h = absurd h

lower : (bytes : List ℕ) (first from had : ℕ) (more : List Event) (to has : ℕ) → first ≤ from
    → ReadsForth bytes from had more to has → ReadsForth bytes first had more to has
lower bytes first from had [] to has le h = (omega (arith, le, h.0), h.1)
lower bytes first from had (Fetched file place size ∷ earlier) to has le h =
    (h.0, h.1, (h.2.0, h.2.1, h.2.2, (h.2.3.0, h.2.3.1, lower bytes first from had earlier (h.2.0 + 1) h.2.3.0 le h.2.3.2)))
lower bytes first from had (Measured file ∷ earlier) to has le h = absurd h
lower bytes first from had (Wrote file place size left ∷ earlier) to has le h = absurd h
lower bytes first from had (Tore file place size left ∷ earlier) to has le h = absurd h
lower bytes first from had (Synced file ∷ earlier) to has le h = absurd h
lower bytes first from had (Failed ∷ earlier) to has le h = absurd h

-- one after the other
joined : (bytes : List ℕ) (from had : ℕ) (first : List Event) (mid held : ℕ) (more : List Event) (to has : ℕ)
    → ReadsForth bytes from had first mid held → ReadsForth bytes mid held more to has
    → ReadsForth bytes from had (more ++ first) to has
joined bytes from had first mid held [] to has h g =
    subst (ReadsForth bytes from had first to) (sym g.1) (widen bytes from had first mid to held g.0 h)
joined bytes from had first mid held (Fetched file place size ∷ earlier) to has h g = (
  g.0,
  g.1,
  (
    g.2.0,
    g.2.1,
    g.2.2,
    (
      g.2.3.0,
      g.2.3.1,
      joined bytes from had first mid held earlier (g.2.0 + 1) g.2.3.0 h g.2.3.2,
    ),
  ),
)
joined bytes from had first mid held (Measured file ∷ earlier) to has h g = absurd g
joined bytes from had first mid held (Wrote file place size left ∷ earlier) to has h g = absurd g
joined bytes from had first mid held (Tore file place size left ∷ earlier) to has h g = absurd g
joined bytes from had first mid held (Synced file ∷ earlier) to has h g = absurd g
joined bytes from had first mid held (Failed ∷ earlier) to has h g = absurd g

-- calls that read on did not fail
pub none_failed : (bytes : List ℕ) (from had : ℕ) (more : List Event) (to has : ℕ) → ReadsForth bytes from had more to has
    → but_failed more ≡ more
none_failed bytes from had [] to has h = refl
none_failed bytes from had (Fetched file place size ∷ earlier) to has h = refl
none_failed bytes from had (Measured file ∷ earlier) to has h = absurd h
none_failed bytes from had (Wrote file place size left ∷ earlier) to has h = absurd h
none_failed bytes from had (Tore file place size left ∷ earlier) to has h = absurd h
none_failed bytes from had (Synced file ∷ earlier) to has h = absurd h
none_failed bytes from had (Failed ∷ earlier) to has h = absurd h

until_joined : (bytes : List ℕ) (from had : ℕ) (first : List Event) (mid held : ℕ) (more : List Event) (to has : ℕ)
    → ReadsForth bytes from had first mid held → ReadsForth bytes mid held (but_failed more) to has
    → ReadsForth bytes from had (but_failed (more ++ first)) to has
until_joined bytes from had first mid held [] to has h g =
    subst (λ calls. ReadsForth bytes from had calls to has) (sym (none_failed bytes from had first mid held h))
    (joined bytes from had first mid held [] to has h g)
until_joined bytes from had first mid held (Failed ∷ earlier) to has h g =
    joined bytes from had first mid held earlier to has h g
until_joined bytes from had first mid held (Fetched file place size ∷ earlier) to has h g =
    joined bytes from had first mid held (Fetched file place size ∷ earlier) to has h g
until_joined bytes from had first mid held (Measured file ∷ earlier) to has h g = absurd g
until_joined bytes from had first mid held (Wrote file place size left ∷ earlier) to has h g = absurd g
until_joined bytes from had first mid held (Tore file place size left ∷ earlier) to has h g = absurd g
until_joined bytes from had first mid held (Synced file ∷ earlier) to has h g = absurd g

forth_none : (from had to : ℕ) (d : Device) → from ≤ to → IsReadForth from had to had d d
forth_none from had to d le = record { more = []; calls = refl; same = refl; forth = (le, refl) }

pub forth_then : (from had mid held to has : ℕ) (d e f : Device) → IsReadForth from had mid held d e
    → IsReadForth mid held to has e f → IsReadForth from had to has d f
forth_then from had mid held to has d e f one two = record {
  more = two.more ++ one.more;
  calls = two.calls ∙ ap (λ calls. two.more ++ calls) one.calls ∙ sym (append_assoc two.more one.more d.calls);
  same = two.same ∙ one.same;
  forth = joined (bytes_now 0 d) from had one.more mid held two.more to has one.forth
      (subst (λ bytes. ReadsForth bytes mid held two.more to has) one.same two.forth);
}

pub forth_until : (from had mid held to : ℕ) (d e f : Device) → IsReadForth from had mid held d e → IsReadUntil mid held to e f
    → IsReadUntil from had to d f
forth_until from had mid held to d e f one two = record {
  more = two.more ++ one.more;
  calls = two.calls ∙ ap (λ calls. two.more ++ calls) one.calls ∙ sym (append_assoc two.more one.more d.calls);
  same = two.same ∙ one.same;
  has = two.has;
  forth = until_joined (bytes_now 0 d) from had one.more mid held two.more to two.has one.forth
      (subst (λ bytes. ReadsForth bytes mid held (but_failed two.more) to two.has) one.same two.forth);
}

pub until_of : (from had to has : ℕ) (d e : Device) → IsReadForth from had to has d e → IsReadUntil from had to d e
until_of from had to has d e one = record {
  more = one.more;
  calls = one.calls;
  same = one.same;
  has = has;
  forth = subst (λ calls. ReadsForth (bytes_now 0 d) from had calls to has)
      (sym (none_failed (bytes_now 0 d) from had one.more to has one.forth)) one.forth;
}

until_idle : (from had to : ℕ) (d e : Device) → from ≤ to → Idles d e → IsReadUntil from had to d e
until_idle from had to d e le (inl same) = subst (IsReadUntil from had to d) (sym same)
    (record { more = []; calls = refl; same = refl; has = had; forth = (le, refl) })
until_idle from had to d e le (inr missed) = subst (IsReadUntil from had to d) (sym missed)
    (record { more = Failed ∷ []; calls = refl; same = refl; has = had; forth = (le, refl) })

pub lower_forth : (first from had to has : ℕ) (d e : Device) → first ≤ from → IsReadForth from had to has d e
    → IsReadForth first had to has d e
lower_forth first from had to has d e le one = record {
  more = one.more;
  calls = one.calls;
  same = one.same;
  forth = lower (bytes_now 0 d) first from had one.more to has le one.forth;
}

pub lower_until : (first from had to : ℕ) (d e : Device) → first ≤ from → IsReadUntil from had to d e
    → IsReadUntil first had to d e
lower_until first from had to d e le one = record {
  more = one.more;
  calls = one.calls;
  same = one.same;
  has = one.has;
  forth = lower (bytes_now 0 d) first from had (but_failed one.more) to one.has le one.forth;
}

-- the same at a place where a frame ends
at_none : (place had : ℕ) (d : Device) → ReadsAt place had had d d
at_none place had d = λ number at. forth_none (number + 1) had (number + 1) d (omega arith)

at_one : (place had count : ℕ) (d e : Device) → IsSought count (drop place (bytes_now 0 d)) → had < place + count
    → Fetches 0 place (max (piece (drop place (bytes_now 0 d))) count) d e
    → ReadsAt place had (place + max (piece (drop place (bytes_now 0 d))) count) d e
at_one place had count d e sought further made = λ number at.
    let size = max (piece (drop place (bytes_now 0 d))) count in
    subst (IsReadForth (number + 1) had (number + 1) (place + size) d) (sym made) (record {
      more = Fetched 0 place size ∷ [];
      calls = refl;
      same = refl;
      forth = (
        refl,
        refl,
        (
          number,
          omega arith,
          at,
          (
            had,
            is_piece (bytes_now 0 d) had place count sought further,
            (omega arith, refl),
          ),
        ),
      );
    })

at_then : (place had held has : ℕ) (d e f : Device) → ReadsAt place had held d e → ReadsAt place held has e f
    → ReadsAt place had has d f
at_then place had held has d e f one two = λ number at.
    let first = one number at in
    forth_then (number + 1) had (number + 1) held (number + 1) has d e f first
    (two number (at ∙ ap (place_after number) (sym first.same)))

at_until : (place had held : ℕ) (d e f : Device) → ReadsAt place had held d e → ReadsUntil place held e f
    → ReadsUntil place had d f
at_until place had held d e f one two = λ number at.
    let first = one number at in
    forth_until (number + 1) had (number + 1) held (number + 1) d e f first
    (two number (at ∙ ap (place_after number) (sym first.same)))

-- the same of what is told before and after
pub modeled_at_none : (place had : ℕ) (modeled : Option Device) → Both (ReadsAt place had had) modeled modeled
modeled_at_none place had None = tt
modeled_at_none place had (Some d) = at_none place had d

pub modeled_until_at : (place had has : ℕ) (old new : Option Device) → Both (ReadsAt place had has) old new
    → Both (ReadsUntil place had) old new
modeled_until_at place had has old new forth = both_map (ReadsAt place had has) (ReadsUntil place had) old new
    (λ d e one number at. until_of (number + 1) had (number + 1) has d e (one number at)) forth

modeled_until_idle : (place had : ℕ) (old new : Option Device) → Both Idles old new → Both (ReadsUntil place had) old new
modeled_until_idle place had old new idles = both_map Idles (ReadsUntil place had) old new
    (λ d e idle number at. until_idle (number + 1) had (number + 1) d e (omega arith) idle) idles

modeled_at_then : (place had held has : ℕ) (one two three : Option Device) → Both (ReadsAt place had held) one two
    → Both (ReadsAt place held has) two three → Both (ReadsAt place had has) one three
modeled_at_then place had held has one two three h g =
    both_then (ReadsAt place had held) (ReadsAt place held has) (ReadsAt place had has) one two three
    (at_then place had held has) h g

modeled_at_until : (place had held : ℕ) (one two three : Option Device) → Both (ReadsAt place had held) one two
    → Both (ReadsUntil place held) two three → Both (ReadsUntil place had) one three
modeled_at_until place had held one two three h g =
    both_then (ReadsAt place had held) (ReadsUntil place held) (ReadsUntil place had) one two three
    (at_until place had held) h g

pub modeled_forth_none : (from had to : ℕ) (modeled : Option Device) → from ≤ to
    → Both (IsReadForth from had to had) modeled modeled
modeled_forth_none from had to None le = tt
modeled_forth_none from had to (Some d) le = forth_none from had to d le

pub modeled_until : (from had to has : ℕ) (old new : Option Device) → Both (IsReadForth from had to has) old new
    → Both (IsReadUntil from had to) old new
modeled_until from had to has old new forth = both_map (IsReadForth from had to has) (IsReadUntil from had to) old new
    (until_of from had to has) forth

pub modeled_forth_then : (from had mid held to has : ℕ) (one two three : Option Device)
    → Both (IsReadForth from had mid held) one two → Both (IsReadForth mid held to has) two three
    → Both (IsReadForth from had to has) one three
modeled_forth_then from had mid held to has one two three h g =
    both_then (IsReadForth from had mid held) (IsReadForth mid held to has) (IsReadForth from had to has) one two three
    (forth_then from had mid held to has) h g

pub modeled_forth_until : (from had mid held to : ℕ) (one two three : Option Device)
    → Both (IsReadForth from had mid held) one two
    → Both (IsReadUntil mid held to) two three → Both (IsReadUntil from had to) one three
modeled_forth_until from had mid held to one two three h g =
    both_then (IsReadForth from had mid held) (IsReadUntil mid held to) (IsReadUntil from had to) one two three
    (forth_until from had mid held to) h g

pub modeled_until_none : (from had to : ℕ) (modeled : Option Device) → from ≤ to → Both (IsReadUntil from had to) modeled modeled
modeled_until_none from had to None le = tt
modeled_until_none from had to (Some d) le = until_idle from had to d d le (inl refl)

-- a frame that was read after its head
frame_then : (tail had held : ℕ) (found : Found) (one two three : Option Device) → Both (ReadsAt tail had held) one two
    → Both (ReadsFrame tail held found) two three → Both (ReadsFrame tail had found) one three
frame_then tail had held (Payload payload window) one two three h g =
    modeled_at_then tail had held _ one two three h g
frame_then tail had held (End settled) one two three h g =
    both_then (ReadsAt tail had held) (λ d e. (has : ℕ) × ReadsAt tail held has d e)
    (λ d e. (has : ℕ) × ReadsAt tail had has d e) one two three
    (λ d e f first second. (second.0, at_then tail had held second.0 d e f first second.1)) h g

-- the end of the list, read so
pub modeled_end : (tail had has : ℕ) (settled : Bool) (old new : Option Device) → Both (ReadsAt tail had has) old new
    → Both (ReadsFrame tail had (End settled)) old new
modeled_end tail had has settled old new h =
    both_map (ReadsAt tail had has) (ReadsFrame tail had (End settled)) old new (λ d e at. (has, at)) h

-- a piece that was read where the window at hand does not reach
piece_size : (place count size : ℕ) (bytes : List ℕ) → size ≡ length bytes
    → max (min 65536 (size - place)) count ≡ max (piece (drop place bytes)) count
piece_size place count size bytes all = omega (arith, all, length-drop place bytes)

pub piece_forth : {E : Type 0} (r : Result Window E) (place had count size : ℕ) (old new : Option Device) → had < place + count
    → IfModeled old (λ d. size ≡ length (bytes_now 0 d)) → IfModeled old (λ d. IsSought count (drop place (bytes_now 0 d)))
    → IfOk r (λ window. window.start ≡ place)
    → IfOk r (λ window. length window.bytes.items ≡ max (min 65536 (size - place)) count)
    → IfOk r (λ window. Both (Fetches 0 place (length window.bytes.items)) old new)
    → IfOk r (λ found. Both (ReadsAt place had (reach_of (Some found))) old new)
piece_forth (Err e) place had count size old new further all sought from sized fetched = tt
piece_forth (Ok window) place had count size None None further all sought from sized fetched = tt
piece_forth (Ok window) place had count size None (Some e) further all sought from sized fetched = fetched
piece_forth (Ok window) place had count size (Some d) None further all sought from sized fetched = fetched
piece_forth (Ok window) place had count size (Some d) (Some e) further all sought from sized fetched =
    let is = sized ∙ piece_size place count size (bytes_now 0 d) all in
    subst (λ start. ReadsAt place had (start + length window.bytes.items) d e) (sym from)
    (subst (λ n. ReadsAt place had (place + n) d e) (sym is)
    (at_one place had count d e sought further (subst (λ n. Fetches 0 place n d e) is fetched)))

pub piece_until : {E : Type 0} (r : Result Window E) (place had : ℕ) (old new : Option Device) → OnErr r (Both Idles old new)
    → OnErr r (Both (ReadsUntil place had) old new)
piece_until (Ok window) place had old new idle = tt
piece_until (Err e) place had old new idle = modeled_until_idle place had old new idle

pub piece_read : (place count size held : ℕ) (old new : Option Device) → IfModeled old (λ d. size ≡ length (bytes_now 0 d))
    → held ≡ max (min 65536 (size - place)) count → Both (Fetches 0 place held) old new
    → Both (ReadsPiece place count) old new
piece_read place count size held None None all is made = tt
piece_read place count size held None (Some e) all is made = made
piece_read place count size held (Some d) None all is made = made
piece_read place count size held (Some d) (Some e) all is made =
    inr (inr (subst (λ n. Fetches 0 place n d e) (is ∙ piece_size place count size (bytes_now 0 d) all) made))

pub piece_missed : (place count : ℕ) (old new : Option Device) → Both Idles old new → Both (ReadsPiece place count) old new
piece_missed place count old new idles = both_map Idles (ReadsPiece place count) old new missed idles
  where
    missed : (d e : Device) → Idles d e → ReadsPiece place count d e
    missed d e (inl same) = inl same
    missed d e (inr failed) = inr (inl failed)

pub piece_none : (place count : ℕ) (modeled : Option Device) → Both (ReadsPiece place count) modeled modeled
piece_none place count None = tt
piece_none place count (Some d) = inl refl

-- what was read after a frame's head
pub frame_forth : {E : Type 0} (r : Result Found E) (tail had held : ℕ) (one two three : Option Device)
    → Both (ReadsAt tail had held) one two → IfOk r (λ found. Both (ReadsFrame tail held found) two three)
    → IfOk r (λ found. Both (ReadsFrame tail had found) one three)
frame_forth (Ok found) tail had held one two three h g = frame_then tail had held found one two three h g
frame_forth (Err e) tail had held one two three h g = tt

pub frame_until : {E : Type 0} (r : Result Found E) (tail had held : ℕ) (one two three : Option Device)
    → Both (ReadsAt tail had held) one two → OnErr r (Both (ReadsUntil tail held) two three)
    → OnErr r (Both (ReadsUntil tail had) one three)
frame_until (Ok found) tail had held one two three h g = tt
frame_until (Err e) tail had held one two three h g = modeled_at_until tail had held one two three h g

-- a journal that was read on after its length was asked was read once
opens_by : (bytes : List ℕ) (more : List Event) (to has : ℕ) → ReadsForth bytes 0 0 (but_failed more) to has
    → OpensBy bytes (but_failed (more ++ Measured 0 ∷ [])) to
opens_by bytes [] to has h = inr ([], has, refl, h)
opens_by bytes (Failed ∷ earlier) to has h = inr (earlier, has, refl, h)
opens_by bytes (Fetched file place size ∷ earlier) to has h = inr (Fetched file place size ∷ earlier, has, refl, h)
opens_by bytes (Measured file ∷ earlier) to has h = absurd h
opens_by bytes (Wrote file place size left ∷ earlier) to has h = absurd h
opens_by bytes (Tore file place size left ∷ earlier) to has h = absurd h
opens_by bytes (Synced file ∷ earlier) to has h = absurd h

pub once_then : (to : ℕ) (d e f : Device) → Measures 0 d e → IsReadUntil 0 0 to e f → ReadsOnceTo to d f
once_then to d e f made until = record {
  more = until.more ++ Measured 0 ∷ [];
  calls = until.calls ∙ ap (λ (e : Device). until.more ++ e.calls) made
      ∙ sym (append_assoc until.more (Measured 0 ∷ []) d.calls);
  once = opens_by (bytes_now 0 d) until.more to until.has
      (subst (λ bytes. ReadsForth bytes 0 0 (but_failed until.more) to until.has) (ap (bytes_now 0) made) until.forth);
}

once_idle : (to : ℕ) (d e : Device) → Idles d e → ReadsOnceTo to d e
once_idle to d e (inl same) = subst (ReadsOnceTo to d) (sym same) (record { more = []; calls = refl; once = inl refl })
once_idle to d e (inr missed) = subst (ReadsOnceTo to d) (sym missed)
    (record { more = Failed ∷ []; calls = refl; once = inl refl })

pub modeled_once_to : (to : ℕ) (one two three : Option Device) → Both (Measures 0) one two
    → Both (IsReadUntil 0 0 to) two three → Both (ReadsOnceTo to) one three
modeled_once_to to one two three made until =
    both_then (Measures 0) (IsReadUntil 0 0 to) (ReadsOnceTo to) one two three (once_then to) made until

pub modeled_once : (to : ℕ) (old new : Option Device) → Both (ReadsOnceTo to) old new → Both ReadsOnce old new
modeled_once to old new once = both_map (ReadsOnceTo to) ReadsOnce old new (λ d e one. (to, one)) once

pub modeled_once_idle : (old new : Option Device) → Both Idles old new → Both ReadsOnce old new
modeled_once_idle old new idles = both_map Idles ReadsOnce old new (λ d e idle. (0, once_idle 0 d e idle)) idles

pub modeled_once_none : (modeled : Option Device) → Both ReadsOnce modeled modeled
modeled_once_none None = tt
modeled_once_none (Some d) = (0, once_idle 0 d d (inl refl))
