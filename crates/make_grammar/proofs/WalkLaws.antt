-- What a walk leaves: each unit that it is done with stands once in its order, after its prerequisites.
use Rattle.std.proofs.Common.{◌≡◌, ◌≢◌, ◌⊎◌, inl, inr, refl, sym, ap, ◌∙◌, subst, ℕ, zero, suc, ◌<◌, Bool, true, false, ◌||◌}
use Rattle.std.proofs.Common.{Option, Some, None, Result, Ok, Err, List, [], ◌∷◌, ◌++◌, length, replicate, slice_get, slice_set}
use Rattle.std.proofs.Common.{length-set, arith}
use Rattle.std.proofs.lemmas.List.{length-replicate, get_or-replicate}
use Rattle.std.proofs.lemmas.Option.{slice_get_within, slice_get-get_or, get_or_from_slice_get}
use Rattle.std.proofs.lemmas.Slice.Eq.{bytes_eq-Decides}
use Rattle.std.specs.Str.{bytes_eq}
use Rattle.std.proofs.lemmas.Bool.{cases_eq}
use Rattle.cc_names.proofs.Common.{slice_get_last}
use Rattle.make_grammar.proofs.Places.{get_prefix, get_push, set_same, set_other, from_other}
use Rattle.make_grammar.proofs.NumberLaws.{numbered}
use Rattle.make_grammar.specs.Macros.{is_among}
use Rattle.make_grammar.specs.Rules.{Serving}
use Rattle.make_grammar.specs.Walks.{Walk, number_of, prerequisites_at, with_open_unit, with_done_unit, walk_then, each_of}
use Rattle.make_grammar.specs.Walks.{take_path, walk_of}
use Rattle.make_grammar.specs.declared.walks.Mark.{Mark}
use Rattle.make_grammar.specs.declared.walks.Mark.TheVariants.{New, Open, Done}

-- the order of a walk: what is done stands in it once, after its prerequisites
pub record IsSettled (units : List Serving) (w : Walk) : Type 0 where
  pub size : length w.marks ≡ length units
  pub placed : (n : ℕ) → slice_get w.marks n ≡ Some Done → (k : ℕ) × (slice_get w.order k ≡ Some n)
  pub done : (k n : ℕ) → slice_get w.order k ≡ Some n → slice_get w.marks n ≡ Some Done
  pub once : (j k n : ℕ) → slice_get w.order j ≡ Some n → slice_get w.order k ≡ Some n → j ≡ k
  pub behind : (k n q : ℕ) (path : List ℕ) → slice_get w.order k ≡ Some n
      → is_among (prerequisites_at (slice_get units n)) path ≡ true → number_of units path ≡ Some q → (j : ℕ)
      × ((j < k) × (slice_get w.order j ≡ Some q))

-- a later walk: what was open is open still, and what was done is done
pub record IsLater (old new : Walk) : Type 0 where
  pub open_still : (n : ℕ) → slice_get old.marks n ≡ Some Open → slice_get new.marks n ≡ Some Open
  pub done_still : (n : ℕ) → slice_get old.marks n ≡ Some Done → slice_get new.marks n ≡ Some Done

-- what a walk leaves that took paths
pub record HasTaken (units : List Serving) (paths : List (List ℕ)) (old new : Walk) : Type 0 where
  pub settled : IsSettled units new
  pub later : IsLater old new
  pub taken : (path : List ℕ) (q : ℕ) → is_among paths path ≡ true → number_of units path ≡ Some q
      → slice_get new.marks q ≡ Some Done

no_step : (w : Walk) → IsLater w w
no_step w = record { open_still = λ n h. h; done_still = λ n h. h }

two_steps : (a b c : Walk) → IsLater a b → IsLater b c → IsLater a c
two_steps a b c first second = record {
  open_still = λ n h. second.open_still n (first.open_still n h);
  done_still = λ n h. second.done_still n (first.done_still n h);
}

-- ---- a unit is opened

later_opened : (units : List Serving) (w : Walk) (n : ℕ) → slice_get w.marks n ≡ Some New → IsLater w (with_open_unit n w)
later_opened units w n new = record {
  open_still = λ k h. set_other w.marks n k Open Open (λ same. let clash = ap (slice_get w.marks) same in cc) h;
  done_still = λ k h. set_other w.marks n k Open Done (λ same. let clash = ap (slice_get w.marks) same in cc) h;
}

settled_opened : (units : List Serving) (w : Walk) (n : ℕ) → slice_get w.marks n ≡ Some New → IsSettled units w
    → IsSettled units (with_open_unit n w)
settled_opened units w n new settled = record {
  size = length-set w.marks n Open ∙ settled.size;
  placed = λ k h. settled.placed k (earlier k h (cases_eq k n));
  done = λ k m h. (later_opened units w n new).done_still m (settled.done k m h);
  once = settled.once;
  behind = settled.behind;
}
  where
    earlier : (k : ℕ) → slice_get (slice_set w.marks n Open) k ≡ Some Done → (k ≡ n) ⊎ (k ≢ n) → slice_get w.marks k ≡ Some Done
    earlier k h (inl same) = let here = set_same w.marks n New Open new in let there =
        ap (slice_get (slice_set w.marks n Open)) same in absurd (cc)
    earlier k h (inr other) = from_other w.marks n k Open Done other h

-- ---- a unit is closed

settled_closed : (units : List Serving) (w : Walk) (n : ℕ) → slice_get w.marks n ≡ Some Open → IsSettled units w →
    ((path : List ℕ) (q : ℕ) → is_among (prerequisites_at (slice_get units n)) path ≡ true → number_of units path ≡ Some q
    → slice_get w.marks q ≡ Some Done) →
    IsSettled units (with_done_unit n w)
settled_closed units w n is_open settled ready = record {
  size = length-set w.marks n Done ∙ settled.size;
  placed = λ k h. placed k h (cases_eq k n);
  done = λ k m h. done k m (get_push w.order n m k h);
  once = λ j k m at_j at_k. once j k m (get_push w.order n m j at_j) (get_push w.order n m k at_k);
  behind = λ k m q path at among is. behind k m q path (get_push w.order n m k at) among is;
}
  where
    placed : (k : ℕ) → slice_get (slice_set w.marks n Done) k ≡ Some Done → (k ≡ n) ⊎ (k ≢ n) → (j : ℕ)
        × (slice_get (w.order ++ n ∷ []) j ≡ Some k)
    placed k h (inl same) = (length w.order, slice_get_last w.order n ∙ ap Some (sym same))
    placed k h (inr other) =
        let there = settled.placed k (from_other w.marks n k Done Done other h) in
        (there.0, get_prefix w.order (n ∷ []) there.0 k there.1)

    still : (m : ℕ) → slice_get w.marks m ≡ Some Done → (m ≡ n) ⊎ (m ≢ n) → slice_get (slice_set w.marks n Done) m ≡ Some Done
    still m h (inl same) = subst (λ (i : ℕ). slice_get (slice_set w.marks n Done) i ≡ Some Done) (sym same)
        (set_same w.marks n Open Done is_open)
    still m h (inr other) = set_other w.marks n m Done Done other h

    done : (k m : ℕ) → (slice_get w.order k ≡ Some m) ⊎ ((k ≡ length w.order) × (n ≡ m))
        → slice_get (slice_set w.marks n Done) m ≡ Some Done
    done k m (inl before) = still m (settled.done k m before) (cases_eq m n)
    done k m (inr last) = subst (λ (i : ℕ). slice_get (slice_set w.marks n Done) i ≡ Some Done) last.1
        (set_same w.marks n Open Done is_open)

    fresh : (k : ℕ) → slice_get w.order k ≡ Some n → ⊥
    fresh k h = let clash = settled.done k n h in cc

    once : (j k m : ℕ) → (slice_get w.order j ≡ Some m) ⊎ ((j ≡ length w.order) × (n ≡ m)) → (slice_get w.order k ≡ Some m)
        ⊎ ((k ≡ length w.order) × (n ≡ m)) → j ≡ k
    once j k m (inl at_j) (inl at_k) = settled.once j k m at_j at_k
    once j k m (inl at_j) (inr last) = absurd (fresh j (at_j ∙ ap Some (sym last.1)))
    once j k m (inr last) (inl at_k) = absurd (fresh k (at_k ∙ ap Some (sym last.1)))
    once j k m (inr one) (inr two) = one.0 ∙ sym two.0

    behind : (k m q : ℕ) (path : List ℕ) → (slice_get w.order k ≡ Some m) ⊎ ((k ≡ length w.order) × (n ≡ m))
        → is_among (prerequisites_at (slice_get units m)) path ≡ true → number_of units path ≡ Some q →
        (j : ℕ) × ((j < k) × (slice_get (w.order ++ n ∷ []) j ≡ Some q))
    behind k m q path (inl before) among is =
        let there = settled.behind k m q path before among is in
        (there.0, (there.1.0, get_prefix w.order (n ∷ []) there.0 q there.1.1))
    behind k m q path (inr last) among is =
        let among_n = subst (λ (i : ℕ). is_among (prerequisites_at (slice_get units i)) path ≡ true) (sym last.1) among in
        let there = settled.placed q (ready path q among_n is) in
        let lt : there.0 < length w.order = slice_get_within w.order there.0 q there.1 in
        (there.0, (subst (λ (i : ℕ). there.0 < i) (sym last.0) lt, get_prefix w.order (n ∷ []) there.0 q there.1))

later_closed : (w0 w : Walk) (n : ℕ) → slice_get w0.marks n ≡ Some New → slice_get w.marks n ≡ Some Open → IsLater w0 w
    → IsLater w0 (with_done_unit n w)
later_closed w0 w n new is_open later = record {
  open_still = λ k h. set_other w.marks n k Done Open (λ same. let clash = ap (slice_get w0.marks) same in
      cc) (later.open_still k h);
  done_still = λ k h. set_other w.marks n k Done Done (λ same. let clash = ap (slice_get w0.marks) same in
      cc) (later.done_still k h);
}

-- ---- a path is taken, and paths are

abbrev Takes : List Serving → (List ℕ → Walk → Result Walk (List ℕ)) → Type 0
Takes units take_one =
    (path : List ℕ) (w v : Walk) → IsSettled units w → take_one path w ≡ Ok v →
    (IsSettled units v) × ((IsLater w v) × ((q : ℕ) → number_of units path ≡ Some q → slice_get v.marks q ≡ Some Done))

each_taken : (units : List Serving) (take_one : List ℕ → Walk → Result Walk (List ℕ)) → Takes units take_one
    → (paths : List (List ℕ)) (w v : Walk) → IsSettled units w → each_of take_one paths w ≡ Ok v → HasTaken units paths w v
each_taken units take_one takes [] w v settled h =
    let same : w ≡ v = cc in
    subst (HasTaken units [] w) same (record { settled = settled; later = no_step w; taken = λ path q among is. absurd (cc) })
each_taken units take_one takes (path ∷ paths) w v settled h = by (take_one path w) refl h
    (λ u. each_taken units take_one takes paths u v)
  where
    one : (u : Walk) (t : Bool) (other : List ℕ) → bytes_eq other path ≡ t → (q : ℕ) → (t || is_among paths other) ≡ true
        → number_of units other ≡ Some q →
        ((p : ℕ) → number_of units path ≡ Some p → slice_get u.marks p ≡ Some Done) → HasTaken units paths u v
        → slice_get v.marks q ≡ Some Done
    one u true other same q among number first rest =
        rest.later.done_still q (first q (subst (λ (p : List ℕ). number_of units p ≡ Some q)
        ((bytes_eq-Decides other path).0 same) number))
    one u false other differs q among number first rest = rest.taken other q among number

    by : (r : Result Walk (List ℕ)) → take_one path w ≡ r → walk_then r (each_of take_one paths) ≡ Ok v
        → ((u : Walk) → IsSettled units u → each_of take_one paths u ≡ Ok v → HasTaken units paths u v)
        → HasTaken units (path ∷ paths) w v
    by (Err met) is e more = absurd (cc)
    by (Ok u) is e more =
        let first = takes path w u settled is in
        let rest = more u first.0 e in
        record {
          settled = rest.settled;
          later = two_steps w u v first.1.0 rest.later;
          taken = λ other q among number. one u (bytes_eq other path) other refl q among number first.1.1 rest;
        }

-- what is left where a new unit was walked
closed_taken : (units : List Serving) (w u : Walk) (n : ℕ) → IsSettled units w → slice_get w.marks n ≡ Some New
    → HasTaken units (prerequisites_at (slice_get units n)) (with_open_unit n w) u →
    (IsSettled units (with_done_unit n u)) × (IsLater w (with_done_unit n u))
closed_taken units w u n settled new inner =
    let is_open = inner.later.open_still n (set_same w.marks n New Open new) in (
      settled_closed units u n is_open inner.settled inner.taken,
      later_closed w u n new is_open
          (two_steps w (with_open_unit n w) u (later_opened units w n new) inner.later),
    )

taken_path : (depth : ℕ) (units : List Serving) → Takes units (take_path depth units)
taken_path zero units path w v settled h = absurd (cc)
taken_path (suc depth) units path w v settled h = by_number (number_of units path) refl h
    (each_taken units (take_path depth units) (taken_path depth units))
  where
    By : Type 0
    By = (IsSettled units v) × ((IsLater w v) × ((q : ℕ) → number_of units path ≡ Some q → slice_get v.marks q ≡ Some Done))

    Inner : Type 0
    Inner = (paths : List (List ℕ)) (a b : Walk) → IsSettled units a → each_of (take_path depth units) paths a ≡ Ok b
        → HasTaken units paths a b

    passed : (o : Option ℕ) → number_of units path ≡ o → w ≡ v → ((q : ℕ) → o ≡ Some q → slice_get w.marks q ≡ Some Done) → By
    passed o is same finished =
        let here : (IsSettled units w) × ((IsLater w w) × ((q : ℕ) → number_of units path ≡ Some q
        → slice_get w.marks q ≡ Some Done)) =
        (settled, (no_step w, λ q number. finished q (sym is ∙ number))) in
        subst (λ (x : Walk). (IsSettled units x) × ((IsLater w x) × ((q : ℕ) → number_of units path ≡ Some q
        → slice_get x.marks q ≡ Some Done))) same here

    entered : (n : ℕ) → number_of units path ≡ Some n → slice_get w.marks n ≡ Some New → (r : Result Walk (List ℕ)) →
        ((u : Walk) → r ≡ Ok u → HasTaken units (prerequisites_at (slice_get units n)) (with_open_unit n w) u) →
        walk_then r (λ later. Ok (with_done_unit n later)) ≡ Ok v → By
    entered n is new (Err met) inner e = absurd (cc)
    entered n is new (Ok u) inner e =
        let same : with_done_unit n u ≡ v = cc in
        let all = closed_taken units w u n settled new (inner u refl) in
        let is_open = (inner u refl).later.open_still n (set_same w.marks n New Open new) in
        let here : (IsSettled units (with_done_unit n u)) × ((IsLater w (with_done_unit n u))
        × ((q : ℕ) → number_of units path ≡ Some q → slice_get (with_done_unit n u).marks q ≡ Some Done)) = (
          all.0,
          (
            all.1,
            λ q number. let at : n ≡ q = cc in subst (λ (i : ℕ). slice_get (with_done_unit n u).marks i ≡ Some Done)
                at (set_same u.marks n Open Done is_open),
          ),
        ) in
        subst (λ (x : Walk). (IsSettled units x) × ((IsLater w x) × ((q : ℕ) → number_of units path ≡ Some q
        → slice_get x.marks q ≡ Some Done))) same here

    within : (n : ℕ) → number_of units path ≡ Some n → n < length w.marks
    within n is =
        let at = numbered (λ (unit : Serving). unit.targets) 0 path units n is in
        let lt : at.place < length units = slice_get_within units at.place at.item at.at in
        omega (arith, at.is, settled.size)

    by_mark : (n : ℕ) → number_of units path ≡ Some n → (m : Option Mark) → slice_get w.marks n ≡ m
        → elim m as (λ x. Result Walk (List ℕ)) [
          | None ↦ Ok w
          | Some New ↦ walk_then (each_of (take_path depth units) (prerequisites_at (slice_get units n)) (with_open_unit n w))
              (λ later. Ok (with_done_unit n later))
          | Some Open ↦ Err path
          | Some Done ↦ Ok w
        ] ≡ Ok v → Inner → By
    by_mark n is None mark e inner = absurd (let some = slice_get-get_or w.marks n New (within n is) in cc)
    by_mark n is (Some New) mark e inner =
        entered n is mark (each_of (take_path depth units) (prerequisites_at (slice_get units n)) (with_open_unit n w))
        (λ u made. inner (prerequisites_at (slice_get units n)) (with_open_unit n w) u (settled_opened units w n mark settled)
        made) e
    by_mark n is (Some Open) mark e inner = absurd (cc)
    by_mark n is (Some Done) mark e inner = passed (Some n) is (cc) (λ q same. let at : n ≡ q = cc in
        subst (λ (i : ℕ). slice_get w.marks i ≡ Some Done) at mark)

    by_number : (o : Option ℕ) → number_of units path ≡ o → elim o as (λ x. Result Walk (List ℕ)) [
      | None ↦ Ok w
      | Some n ↦ elim (slice_get w.marks n) as (λ x. Result Walk (List ℕ)) [
        | None ↦ Ok w
        | Some New ↦ walk_then (each_of (take_path depth units) (prerequisites_at (slice_get units n)) (with_open_unit n w))
            (λ later. Ok (with_done_unit n later))
        | Some Open ↦ Err path
        | Some Done ↦ Ok w
      ]
    ] ≡ Ok v → Inner → By
    by_number None is e inner = passed None is (cc) (λ q none. absurd (cc))
    by_number (Some n) is e inner = by_mark n is (slice_get w.marks n) refl e inner

-- ---- the walk over goals

nothing_done : (units : List Serving) → IsSettled units (record { marks = replicate (length units) New; order = [] })
nothing_done units = record {
  size = length-replicate (length units) New;
  placed = λ n h. absurd (none n h);
  done = λ k n h. absurd (cc);
  once = λ j k n at_j at_k. absurd (cc);
  behind = λ k n q path at among is. absurd (cc);
}
  where
    none : (n : ℕ) → slice_get (replicate (length units) New) n ≡ Some Done → ⊥
    none n h =
        let lt : n < length (replicate (length units) New) = slice_get_within (replicate (length units) New) n Done h in
        let within : n < length units = omega (arith, lt, length-replicate (length units) New) in
        let is_new = get_or-replicate (length units) n New Done within in
        let is_done = get_or_from_slice_get (replicate (length units) New) n Done Done h in
        cc

-- The units of a walk stand once in its order, after their prerequisites, and those of the goals are done.
pub walk_settles : (units : List Serving) (goals : List (List ℕ)) (w : Walk) → walk_of units goals ≡ Ok w →
    HasTaken units goals (record { marks = replicate (length units) New; order = [] }) w
walk_settles units goals w h = each_taken units (take_path (suc (length units)) units) (taken_path (suc (length units)) units)
    goals _ w (nothing_done units) h
