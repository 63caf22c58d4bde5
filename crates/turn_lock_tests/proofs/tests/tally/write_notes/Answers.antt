use Rattle.std.proofs.Common.{ℕ, ◌+◌, List, [], ◌∷◌, ◌++◌, map, refl, arith, rules}
use Rattle.std.proofs.lemmas.List.FromFn.{map-range_with_len_more}
use Rattle.std.specs.List.{range_with_len}
use mathlib.Core.List.{IsPrefix, Sublist, nil-sublist}
use mathlib.Core.List.Sublist as sublist
use Rattle.turn_lock_tests.specs.declared.tests.tally.Note.{Note}
use Rattle.turn_lock_tests.proofs.Standing.{stands_on}
use Rattle.turn_lock_tests.proofs.tests.tally.write_notes.Goals as goal

-- the notes so far stand in what was seen, so with one more they stand in what was found and that one
one_more : (f : ℕ → Note) (i : ℕ) (seen found : List Note) → Sublist (map f (range_with_len 0 i)) seen → IsPrefix seen found
    → Sublist (map f (range_with_len 0 (i + 1))) (found ++ f i ∷ [])
one_more f i seen found s p = rw (map-range_with_len_more f 0 i i (omega arith))
    (sublist.append (stands_on (map f (range_with_len 0 i)) seen found s p) (sublist.refl (f i ∷ [])))

pub loop-number-init : goal.loop-number-init
loop-number-init g c = (refl, refl, nil-sublist _)

pub loop-number-preserved : goal.loop-number-preserved
loop-number-preserved g c =
    let note : ℕ → Note = λ n. record { lane = c.args.lane; number = n } in (
      search rules,
      search rules,
      rw (c.give-pass.ensures.seen, c.push.ensures.items, ← c.is_ok-noted.ensures.value, c.if-not-noted.false)
          (one_more note c.loop-number.number c.loop-number.pass.seen c.take-held.result.1.notes.items c.loop-number.invariant.2
          c.take-held.ensures.seen),
    )
