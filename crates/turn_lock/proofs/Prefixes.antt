-- Beginnings of lists.
use Rattle.std.proofs.Common.{◌≡◌, ◌≤◌, ◌<◌, Bool, true, false, List, [], ◌∷◌, ◌++◌, length, nat_lt, if◌then◌else◌, refl, ap}
use Rattle.std.proofs.Common.{sym, ◌∙◌, inl, inr, arith, append_assoc, length-append}
use Rattle.std.proofs.lemmas.Bool.Decides.{nat_tests}
use mathlib.Core.List.{IsPrefix}
use Rattle.turn_lock.specs.PassState.{IsLongerOf}
use Rattle.turn_lock.specs.Stages.{longer, shorter}

module _ {D : Type 0} where
  pub begins_itself : (xs : List D) → IsPrefix xs xs
  begins_itself [] = ([], refl)
  begins_itself (x ∷ xs) = ((begins_itself xs).0, ap (λ (ys : List D). x ∷ ys) (begins_itself xs).1)

  pub begins_on : (xs ys zs : List D) → IsPrefix xs ys → IsPrefix ys zs → IsPrefix xs zs
  begins_on xs ys zs p q = (p.0 ++ q.0, sym (append_assoc xs p.0 q.0) ∙ (ap (λ (w : List D). w ++ q.0) p.1 ∙ q.1))

  -- of two beginnings of one list the shorter begins the longer
  shorter_begins : (xs ys zs : List D) → IsPrefix xs zs → IsPrefix ys zs → length xs ≤ length ys → IsPrefix xs ys
  shorter_begins [] ys zs p q le = (ys, refl)
  shorter_begins (x ∷ xs) [] zs p q le = absurd (omega arith)
  shorter_begins (x ∷ xs) (y ∷ ys) [] p q le = absurd (cc (p.1))
  shorter_begins (x ∷ xs) (y ∷ ys) (z ∷ zs) p q le =
      let heads : x ≡ y = cc (p.1, q.1) in
      let rest = shorter_begins xs ys zs (p.0, cc (p.1)) (q.0, cc (q.1)) (omega arith) in
      (rest.0, cc (heads, rest.1))

  -- a beginning that the whole list begins is the whole list
  whole_begins : (xs zs : List D) → IsPrefix xs zs → length zs ≤ length xs → xs ≡ zs
  whole_begins [] [] p le = refl
  whole_begins [] (z ∷ zs) p le = absurd (omega arith)
  whole_begins (x ∷ xs) [] p le = absurd (cc (p.1))
  whole_begins (x ∷ xs) (z ∷ zs) p le = let rest = whole_begins xs zs (p.0, cc (p.1)) (omega arith) in cc (p.1, rest)

  longer_by : (b : Bool) (xs ys zs : List D) → nat_lt (length xs) (length ys) ≡ b → IsPrefix xs zs → IsPrefix ys zs
      → IsPrefix (if b then ys else xs) zs × IsPrefix (if b then xs else ys) zs
      × IsPrefix (if b then xs else ys) (if b then ys else xs)
  longer_by true xs ys zs e p q = let le : length xs < length ys = grind (arith, nat_tests) in
      (q, p, shorter_begins xs ys zs p q (omega arith))
  longer_by false xs ys zs e p q = let le : length ys ≤ length xs = grind (arith, nat_tests) in
      (p, q, shorter_begins ys xs zs q p le)

  -- of two beginnings of one list
  pub longer_begins : (xs ys zs : List D) → IsPrefix xs zs → IsPrefix ys zs → IsPrefix (longer xs ys) zs
      × IsPrefix (shorter xs ys) zs × IsPrefix (shorter xs ys) (longer xs ys)
  longer_begins xs ys zs p q = longer_by (nat_lt (length xs) (length ys)) xs ys zs refl p q

  whole_by : (b : Bool) (xs ys : List D) → nat_lt (length xs) (length ys) ≡ b → IsPrefix ys xs → ((if b then ys else xs) ≡ xs)
  whole_by true xs ys e p = let le : length xs < length ys = grind (arith, nat_tests) in let n : length ys ≤ length xs =
      omega (arith, length-append ys p.0, ap length p.1) in absurd (omega arith)
  whole_by false xs ys e p = refl

  whole_by' : (b : Bool) (xs ys : List D) → nat_lt (length xs) (length ys) ≡ b → IsPrefix xs ys → ((if b then ys else xs) ≡ ys)
  whole_by' true xs ys e p = refl
  whole_by' false xs ys e p = let le : length ys ≤ length xs = grind (arith, nat_tests) in whole_begins xs ys p le

  -- where one of the two is the whole list, it is the longer
  pub longer_whole_left : (xs ys : List D) → IsPrefix ys xs → longer xs ys ≡ xs
  longer_whole_left xs ys p = whole_by (nat_lt (length xs) (length ys)) xs ys refl p

  pub longer_whole_right : (xs ys : List D) → IsPrefix xs ys → longer xs ys ≡ ys
  longer_whole_right xs ys p = whole_by' (nat_lt (length xs) (length ys)) xs ys refl p

  is_longer_by : (b : Bool) (xs ys : List D) → IsPrefix (if b then xs else ys) (if b then ys else xs)
      → IsLongerOf xs ys (if b then ys else xs)
  is_longer_by true xs ys p = inr (refl, p)
  is_longer_by false xs ys p = inl (refl, p)

  pub is_longer : (xs ys : List D) → IsPrefix (shorter xs ys) (longer xs ys) → IsLongerOf xs ys (longer xs ys)
  is_longer xs ys p = is_longer_by (nat_lt (length xs) (length ys)) xs ys p
