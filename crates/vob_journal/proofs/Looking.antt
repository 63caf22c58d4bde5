-- The calls of a look at what follows the frames of a journal.
use Rattle.std.proofs.Common.{◌≡◌, ◌≤◌, ◌+◌, ◌-◌, ℕ, suc, min, max, Option, Some, None, List, [], ◌∷◌, ◌++◌, refl, sym, ◌∙◌}
use Rattle.std.proofs.Common.{Bool, ap, subst, inl, inr, append_assoc, arith, length, drop, length-drop}
use Rattle.disk_model.specs.Devices.{Device, Event, Failed, Fetched, Idles, Measured, Measures, bytes_now, with_call}
use Rattle.disk_model.specs.DiskStates.{IfModeled, Both}
use Rattle.vob_journal.specs.Foreign.{behind}
use Rattle.vob_journal.specs.Frames.{head, place_after}
use Rattle.vob_journal.specs.Pieces.{IsReadForth, LooksBehind, ReadsAt, ReadsForth, ReadsFrame, ReadsFromStart}
use Rattle.vob_journal.specs.Pieces.{ReadsFromStartUntil, ReadsOnceTo, ReadsPiece, ReadsTo, ReadsUntil, piece}
use Rattle.vob_journal.specs.declared.reading.Found.TheVariants.{Payload, End}
use Rattle.vob_journal.specs.declared.window.Window.{Window}
use Rattle.vob_journal.proofs.Pieces.{forth_then, forth_until, lower_forth, lower_until, once_then, place_next, until_of}
use Rattle.vob_journal.proofs.Telling.{both_from, both_map, both_then, both_three, modeled_from}

-- no frame was read yet
to_start : (d : Device) → ReadsTo 0 0 d d
to_start d = record {
  number = 0;
  at = refl;
  forth = record { more = []; calls = refl; same = refl; forth = (omega arith, refl) };
}

pub modeled_to_start : (modeled : Option Device) → Both (ReadsTo 0 0) modeled modeled
modeled_to_start None = tt
modeled_to_start (Some d) = to_start d

-- the next frame was read
to_forth : (tail had has : ℕ) (d e f : Device) (to : ReadsTo tail had d e) → ReadsAt tail had has e f
    → IsReadForth 0 0 (to.number + 1) has d f
to_forth tail had has d e f to at =
    forth_then 0 0 to.number had (to.number + 1) has d e f to.forth
    (lower_forth to.number (to.number + 1) had (to.number + 1) has e f (omega arith)
    (at to.number (to.at ∙ ap (place_after to.number) (sym to.forth.same))))

to_next : (tail had has : ℕ) (payload : List ℕ) (d e f : Device) → head (drop tail (bytes_now 0 d)) ≡ Some payload
    → ReadsTo tail had d e → ReadsAt tail had has e f → ReadsTo (tail + (5 + length payload)) has d f
to_next tail had has payload d e f found to at =
    let bytes = bytes_now 0 d in
    let next : place_after (suc to.number) bytes ≡ tail + (5 + length payload) =
    place_next to.number bytes payload (ap (λ n. head (drop n bytes)) (sym to.at) ∙ found)
    ∙ ap (λ n. n + (5 + length payload)) (sym to.at) in
    let number : suc to.number ≡ to.number + 1 = omega arith in
    record {
      number = to.number + 1;
      at = sym next ∙ ap (λ n. place_after n bytes) number;
      forth = to_forth tail had has d e f to at;
    }

pub modeled_to_next : (tail had : ℕ) (shown : Window) (payload : List ℕ) (first old new : Option Device)
    → IfModeled first (λ d. head (drop tail (bytes_now 0 d)) ≡ Some payload) → Both (ReadsTo tail had) first old
    → Both (ReadsFrame tail had (Payload payload shown)) old new
    → Both (ReadsTo (tail + (5 + length payload)) (shown.start + length shown.bytes.items)) first new
modeled_to_next tail had shown payload first old new found to at =
    both_then (λ d e. (head (drop tail (bytes_now 0 d)) ≡ Some payload) × ReadsTo tail had d e)
    (ReadsFrame tail had (Payload payload shown))
    (ReadsTo (tail + (5 + length payload)) (shown.start + length shown.bytes.items)) first old new
    (λ d e f h g. to_next tail had (shown.start + length shown.bytes.items) payload d e f h.0 h.1 g)
    (both_from (λ d. head (drop tail (bytes_now 0 d)) ≡ Some payload) (ReadsTo tail had)
    (λ d e. (head (drop tail (bytes_now 0 d)) ≡ Some payload) × ReadsTo tail had d e) first old (λ d e h t. (h, t)) found to) at

-- the end was read, or a call failed
pub modeled_to_end : (tail had : ℕ) (settled : Bool) (first old new : Option Device) → Both (ReadsTo tail had) first old
    → Both (ReadsFrame tail had (End settled)) old new → Both ReadsFromStart first new
modeled_to_end tail had settled first old new to at =
    both_then (ReadsTo tail had) (ReadsFrame tail had (End settled)) ReadsFromStart first old new
    (λ d e f t end. (t.number + 1, end.0, to_forth tail had end.0 d e f t end.1)) to at

to_fault : (tail had : ℕ) (d e f : Device) → ReadsTo tail had d e → ReadsUntil tail had e f → ReadsFromStartUntil d f
to_fault tail had d e f to at = (
  to.number + 1,
  forth_until 0 0 to.number had (to.number + 1) d e f to.forth
      (lower_until to.number (to.number + 1) had (to.number + 1) e f (omega arith)
      (at to.number (to.at ∙ ap (place_after to.number) (sym to.forth.same)))),
)

pub modeled_to_fault : (tail had : ℕ) (first old new : Option Device) → Both (ReadsTo tail had) first old
    → Both (ReadsUntil tail had) old new → Both ReadsFromStartUntil first new
modeled_to_fault tail had first old new to at =
    both_then (ReadsTo tail had) (ReadsUntil tail had) ReadsFromStartUntil first old new (to_fault tail had) to at

-- all calls since the length was asked
all_calls : (d e f : Device) (more : List Event) → Measures 0 d e → f.calls ≡ more ++ e.calls
    → f.calls ≡ (more ++ Measured 0 ∷ []) ++ d.calls
all_calls d e f more made calls =
    calls ∙ ap (λ (e : Device). more ++ e.calls) made ∙ sym (append_assoc more (Measured 0 ∷ []) d.calls)

-- the whole look: no piece more, or one
looks_none : (d e : Device) → Idles d e → LooksBehind d e
looks_none d e (inl same) = subst (LooksBehind d) (sym same) (record { more = []; calls = refl; looks = inl (0, inl refl) })
looks_none d e (inr missed) = subst (LooksBehind d) (sym missed)
    (record { more = Failed ∷ []; calls = refl; looks = inl (0, inl refl) })

looks_once : (to : ℕ) (d e : Device) → ReadsOnceTo to d e → LooksBehind d e
looks_once to d e once = record { more = once.more; calls = once.calls; looks = inl (to, once.once) }

looks_until : (d e f : Device) → Measures 0 d e → ReadsFromStartUntil e f → LooksBehind d f
looks_until d e f made until = looks_once until.0 d f (once_then until.0 d e f made until.1)

-- what is known of the place after the last whole frame
record IsAfterAll (tail : ℕ) (d : Device) : Type 0 where
  within : tail ≤ length (bytes_now 0 d)
  rest : behind (bytes_now 0 d) ≡ drop tail (bytes_now 0 d)

looks_on : (tail : ℕ) (d e f g : Device) → Measures 0 d e → IsAfterAll tail e × ReadsFromStart e f → ReadsPiece tail 0 f g
    → LooksBehind d g
looks_on tail d e f g made on (inl same) =
    subst (LooksBehind d) (sym same) (looks_until d e f made (on.1.0, until_of 0 0 on.1.0 on.1.1 e f on.1.2))
looks_on tail d e f g made on (inr (inl missed)) =
    let forth = on.1.2 in
    let bytes : bytes_now 0 e ≡ bytes_now 0 d = ap (bytes_now 0) made in
    record {
      more = Failed ∷ (forth.more ++ Measured 0 ∷ []);
      calls = ap (λ (g : Device). g.calls) missed ∙ ap (λ calls. Failed ∷ calls) (all_calls d e f forth.more made forth.calls);
      looks = inl (
        on.1.0,
        inr (
          forth.more,
          on.1.1,
          refl,
          subst (λ b. ReadsForth b 0 0 forth.more on.1.0 on.1.1) bytes
              forth.forth,
        ),
      );
    }
looks_on tail d e f g made on (inr (inr fetched)) =
    let forth = on.1.2 in
    let bytes : bytes_now 0 e ≡ bytes_now 0 d = ap (bytes_now 0) made in
    let is = on.0 in
    let place : tail ≡ length (bytes_now 0 d) - length (behind (bytes_now 0 d)) =
    omega (
      arith,
      ap length bytes,
      ap (λ b. length (behind b)) bytes,
      is.within,
      ap length is.rest,
      length-drop tail
          (bytes_now 0 e),
    ) in
    let rest : drop tail (bytes_now 0 f) ≡ behind (bytes_now 0 d) =
    ap (drop tail) forth.same ∙ sym is.rest ∙ ap behind bytes in
    let size : max (piece (drop tail (bytes_now 0 f))) 0 ≡ piece (behind (bytes_now 0 d)) = omega (arith, ap length rest) in
    record {
      more = Fetched 0 tail (max (piece (drop tail (bytes_now 0 f))) 0) ∷ (forth.more ++ Measured 0 ∷ []);
      calls = ap (λ (g : Device). g.calls) fetched
          ∙ ap (λ calls. Fetched 0 tail (max (piece (drop tail (bytes_now 0 f))) 0) ∷ calls)
          (all_calls d e f forth.more made forth.calls);
      looks = inr (
        on.1.0,
        forth.more ++ Measured 0 ∷ [],
        inr (
          forth.more,
          on.1.1,
          refl,
          subst (λ b. ReadsForth b 0 0 forth.more on.1.0 on.1.1) bytes forth.forth,
        ),
        ap (λ n. Fetched 0 n (max (piece (drop tail (bytes_now 0 f))) 0) ∷ (forth.more ++ Measured 0 ∷ [])) place
            ∙ ap (λ n. Fetched 0 (length (bytes_now 0 d) - length (behind (bytes_now 0 d))) n ∷ (forth.more ++ Measured 0 ∷ []))
            size,
      );
    }

pub modeled_looks_none : (old new : Option Device) → Both Idles old new → Both LooksBehind old new
modeled_looks_none old new idles = both_map Idles LooksBehind old new looks_none idles

pub modeled_looks_until : (one two three : Option Device) → Both (Measures 0) one two → Both ReadsFromStartUntil two three
    → Both LooksBehind one three
modeled_looks_until one two three made until =
    both_then (Measures 0) ReadsFromStartUntil LooksBehind one two three looks_until made until

after_all : (tail size : ℕ) (modeled : Option Device) → tail ≤ size → IfModeled modeled (λ d. size ≡ length (bytes_now 0 d))
    → IfModeled modeled (λ d. behind (bytes_now 0 d) ≡ drop tail (bytes_now 0 d)) → IfModeled modeled (IsAfterAll tail)
after_all tail size None within all rest = tt
after_all tail size (Some d) within all rest = record { within = omega (arith, within, all); rest = rest }

pub modeled_looks_on : (tail size : ℕ) (one two three four : Option Device) → tail ≤ size
    → IfModeled one (λ d. size ≡ length (bytes_now 0 d))
    → IfModeled two (λ d. behind (bytes_now 0 d) ≡ drop tail (bytes_now 0 d))
    → Both (Measures 0) one two → Both ReadsFromStart two three → Both (ReadsPiece tail 0) three four → Both LooksBehind one four
modeled_looks_on tail size one two three four within all rest made on piece_of =
    let still = modeled_from (Measures 0) (λ d. size ≡ length (bytes_now 0 d)) (λ d. size ≡ length (bytes_now 0 d)) one two
    (λ d e is m. is ∙ ap (λ (e : Device). length (bytes_now 0 e)) (sym m)) all made in
    both_three (Measures 0) (λ d e. IsAfterAll tail d × ReadsFromStart d e) (ReadsPiece tail 0) LooksBehind one two three four
    (looks_on tail) made
    (both_from (IsAfterAll tail) ReadsFromStart (λ d e. IsAfterAll tail d × ReadsFromStart d e) two three (λ d e is h. (is, h))
    (after_all tail size two within still rest) on) piece_of

-- the piece that is read for the first five bytes
five_piece : (tail count : ℕ) (d e : Device) → count ≤ min 5 (length (drop tail (bytes_now 0 d))) → ReadsPiece tail count d e
    → ReadsPiece tail 0 d e
five_piece tail count d e few (inl same) = inl same
five_piece tail count d e few (inr (inl missed)) = inr (inl missed)
five_piece tail count d e few (inr (inr fetched)) =
    let rest = drop tail (bytes_now 0 d) in
    let size : max (piece rest) count ≡ max (piece rest) 0 = omega (arith, few) in
    inr (inr (subst (λ n. e ≡ with_call (Fetched 0 tail n) d) size fetched))

pub modeled_five_piece : (tail size count : ℕ) (old new : Option Device) → count ≡ min (size - tail) 5
    → IfModeled old (λ d. size ≡ length (bytes_now 0 d)) → Both (ReadsPiece tail count) old new
    → Both (ReadsPiece tail 0) old new
modeled_five_piece tail size count old new few all read =
    both_from (λ d. size ≡ length (bytes_now 0 d)) (ReadsPiece tail count) (ReadsPiece tail 0) old new
    (λ d e is. five_piece tail count d e (omega (arith, few, is, length-drop tail (bytes_now 0 d)))) all read
