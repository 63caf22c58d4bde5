-- Pieces of known bytes, one after another.
use Rattle.std.proofs.Common.{◌≡◌, ℕ, ◌+◌, ◌-◌, ◌<◌, ◌≤◌, min, Option, Some, None, Result, Ok, Err, OnErr, List, [], ◌++◌}
use Rattle.std.proofs.Common.{length, take, drop, refl, sym, ap, ◌∙◌, arith, append_assoc, IfSome, length-drop, length-append}
use Rattle.std.proofs.Common.{add-zero}
use Rattle.std.proofs.lemmas.Grind.{common_steps}
use Rattle.std.proofs.lemmas.List.{take_rest, take-append-drop, length-take-le, drop-drop, nil_from_length}
use Rattle.std.proofs.Math.Seq.{take-add, take-append_seam}
use Rattle.std.specs.Io.KnownBytes.{Appends, Consumes, ReadConsumes}
use Rattle.cc_outside.specs.Feeds.{AppendsPrefix}

-- bytes that grow by a prefix of a piece, and then by a prefix of the rest of it
pub Appends-then : (a b c : Option (List ℕ)) (n k : ℕ) (xs : List ℕ) → Appends a b (take n xs)
    → Appends b c (take k (take (length xs - n) (drop n xs))) → Appends a c (take (n + k) xs)
Appends-then None b c n k xs p q = tt
Appends-then (Some x) None c n k xs p q = absurd p
Appends-then (Some x) (Some y) None n k xs p q = absurd q
Appends-then (Some x) (Some y) (Some z) n k xs p q =
    let f : List ℕ → List ℕ = λ v. take k v in
    q ∙ ap (λ v. v ++ take k (take (length xs - n) (drop n xs))) p ∙ append_assoc x (take n xs)
    (take k (take (length xs - n) (drop n xs)))
    ∙ ap (λ v. x ++ v) (ap (λ v. take n xs ++ v) (ap f (take_rest xs n)) ∙ sym (take-add n k xs))

-- the same, where the second prefix is not known
pub AppendsPrefix-then : (a b c : Option (List ℕ)) (n : ℕ) (xs : List ℕ) → n ≤ length xs → Appends a b (take n xs)
    → AppendsPrefix b c (take (length xs - n) (drop n xs)) → AppendsPrefix a c xs
AppendsPrefix-then a b c n xs h p q =
    let within : q.0 ≤ length (take (length xs - n) (drop n xs)) = q.1 in
    let same : length (take (length xs - n) (drop n xs)) ≡ length (drop n xs) = ap length (take_rest xs n) in
    let len : length (drop n xs) + n ≡ length xs = omega (arith, length-drop {A = ℕ}) in
    (n + q.0, omega arith, Appends-then a b c n q.0 xs p q.2)

-- nothing appended
pub Appends-none : (a : Option (List ℕ)) → Appends a a []
Appends-none None = tt
Appends-none (Some x) = grind (arith, common_steps)

-- bytes that are taken, and then further bytes
pub Consumes-then : (a b c : Option (List ℕ)) (xs ys : List ℕ) → Consumes a b xs → Consumes b c ys → Consumes a c (xs ++ ys)
Consumes-then None b c xs ys p q = tt
Consumes-then (Some x) None c xs ys p q = absurd p
Consumes-then (Some x) (Some y) None xs ys p q = absurd q
Consumes-then (Some x) (Some y) (Some z) xs ys p q = p ∙ ap (λ v. xs ++ v) q ∙ sym (append_assoc xs ys z)

-- bytes that are taken, and then none
pub Consumes-end : (a b c : Option (List ℕ)) (xs ys : List ℕ) (n : ℕ) → Consumes a b xs → Consumes b c (take n ys) → n ≡ 0
    → Consumes a c xs
Consumes-end a b c xs ys n p q e =
    let none : take n ys ≡ [] = rw e in
    let all : xs ++ [] ≡ xs = grind (arith, common_steps) in
    rw all at (Consumes-then a b c xs [] p (rw none at q))

-- no bytes taken
pub Consumes-none : (a : Option (List ℕ)) → Consumes a a []
Consumes-none None = tt
Consumes-none (Some x) = refl

-- known bytes are at least as many as were taken of them
pub Consumes-length : (a b : Option (List ℕ)) (xs : List ℕ) (limit : ℕ) → Consumes a b xs → limit < length xs
    → IfSome a (λ bytes. limit < length bytes)
Consumes-length None b xs limit p h = tt
Consumes-length (Some x) None xs limit p h = absurd p
Consumes-length (Some x) (Some y) xs limit p h = let e : length x ≡ length xs + length y = ap length p ∙ length-append xs y in
    omega arith

-- a source of bytes gives the first of those after a place, and none only where there are none or no room
pub takes_prefix : (bytes into piece : List ℕ) (place count : ℕ) → count ≡ min (length (drop place bytes)) (length into)
    → piece ≡ take count (drop place bytes) → ReadConsumes {E = ℕ} (Some (drop place bytes)) (Some (drop (place + count) bytes))
    (Ok count) (piece ++ drop count into)
takes_prefix bytes into piece place count m e =
    let within : count ≤ length (drop place bytes) = omega arith in
    let len : length piece ≡ count = ap length e ∙ length-take-le count (drop place bytes) within in
    let f : ℕ → List ℕ = λ n. take n (piece ++ drop count into) in
    let prefix : take count (piece ++ drop count into) ≡ take count (drop place bytes) =
    sym (ap f len) ∙ take-append_seam piece (drop count into) ∙ e in (
      rw (prefix, ← drop-drop count place bytes) (sym (take-append-drop count (drop place bytes))),
      λ z room.
          let len_into : length (piece ++ drop count into) ≡ length piece + (length into - count) =
          length-append piece (drop count into) ∙ ap (λ v. length piece + v) (length-drop count into) in
          let none : length (drop place bytes) ≡ 0 = omega arith in
          let none_later : length (drop (place + count) bytes) ≡ 0 = rw z (let more : length (drop (place + 0) bytes)
          ≡ 0 = rw add-zero none in more) in
          nil_from_length (drop (place + count) bytes) none_later,
    )

-- a fact that holds anyway
pub on_err : {X E : Type 0} (r : Result X E) (P : Type 0) → P → OnErr r P
on_err (Ok x) P p = tt
on_err (Err e) P p = p
