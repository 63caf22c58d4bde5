-- What holds of each pass, after one of them has changed or a new one has come.
use Rattle.std.proofs.Common.{◌≡◌, ◌≢◌, ℕ, zero, suc, ◌+◌, ◌<◌, ◌≤◌, List, [], ◌∷◌, ◌++◌, set, refl, sym, ap, ◌∙◌, subst, ⊎_elim}
use Rattle.std.proofs.Common.{arith, Some, None}
use Rattle.std.proofs.lemmas.List.Sums.{sum_by_push}
use mathlib.Core.Option.{some, some-ne-none}
use lib.ListN.{get_elem?}
use Rattle.atomic_table.proofs.Lists.{at_set, at_snoc}
use Rattle.turn_lock.specs.declared.rule.Stage.{Stage}
use Rattle.turn_lock.specs.declared.rule.Stage.TheVariants.{Idle, Joined, Waits, Turn}
use Rattle.turn_lock.specs.declared.rule.View.{View}
use Rattle.turn_lock.specs.Stages.{ticket_of, tickets_at, tickets_of, weight_of, idle, spent}
use Rattle.turn_lock.specs.Rule.{Each, IsInLine, HasNoTurn, IsApart, IsCounted}
use Rattle.turn_lock.proofs.Totals.{sum_by-at_set, sum_by-le_at}

module _ {A : Type 0} where
  pub here_set : (xs : List A) (i : ℕ) (a b : A) → get_elem? xs i ≡ some a → get_elem? (set xs i b) i ≡ some b
  here_set [] i a b e = absurd (some-ne-none a (sym e))
  here_set (x ∷ xs) zero a b e = refl
  here_set (x ∷ xs) (suc i) a b e = here_set xs i a b e

module _ {D : Type 0} where
  pub each_set : (P : View D → Type 0) (views : List (View D)) (id : ℕ) (w : View D) → P w
      → ((seat : ℕ) (v : View D) → seat ≢ id → get_elem? views seat ≡ some v → P v) → Each P (set views id w)
  each_set P views id w mine others seat v at = ⊎_elim (λ (t : (seat ≡ id) × (w ≡ v)). subst P t.1 mine)
      (λ (t : (seat ≢ id) × (get_elem? views seat ≡ some v)). others seat v t.0 t.1) (at_set views id seat w v at)

  pub each_snoc : (P : View D → Type 0) (views : List (View D)) (w : View D) → P w → Each P views → Each P (views ++ w ∷ [])
  each_snoc P views w mine others seat v at = ⊎_elim (others seat v) (λ (t : w ≡ v). subst P t mine) (at_snoc views w v seat at)

  -- no other pass has the new ticket
  pub apart_set : (views : List (View D)) (id : ℕ) (w : View D) → IsApart views
      → ((seat : ℕ) (v : View D) (ticket : ℕ) → seat ≢ id → get_elem? views seat ≡ some v → ticket_of w.stage ≡ Some ticket
      → ticket_of v.stage ≡ Some ticket → ⊥) → IsApart (set views id w)
  apart_set views id w apart fresh seat other u v at_u at_v ticket of_u of_v =
      ⊎_elim
      (λ (s : (seat ≡ id) × (w ≡ u)). ⊎_elim
      (λ (t : (other ≡ id) × (w ≡ v)). s.0 ∙ sym t.0)
      (λ (t : (other ≢ id) × (get_elem? views other ≡ some v)). absurd
      (fresh other v ticket t.0 t.1 (ap (λ (x : View D). ticket_of x.stage) s.1 ∙ of_u) of_v))
      (at_set views id other w v at_v))
      (λ (s : (seat ≢ id) × (get_elem? views seat ≡ some u)). ⊎_elim
      (λ (t : (other ≡ id) × (w ≡ v)). absurd (fresh seat u ticket s.0 s.1 (ap (λ (x : View D). ticket_of x.stage) t.1
      ∙ of_v) of_u))
      (λ (t : (other ≢ id) × (get_elem? views other ≡ some v)). apart seat other u v s.1 t.1 ticket of_u of_v)
      (at_set views id other w v at_v))
      (at_set views id seat w u at_u)

  no_ticket : (stage : Stage D) → ticket_of stage ≡ None → (ticket : ℕ) → ticket_of stage ≡ Some ticket → ⊥
  no_ticket stage free ticket of = cc

  -- one pass changes
  pub counted_set : (served drawn whole served' drawn' whole' : ℕ) (views : List (View D)) (id : ℕ) (v w : View D)
      → get_elem? views id ≡ some v
      → served' + tickets_of w + drawn ≡ served + tickets_of v + drawn' → whole' + v.weight ≡ whole + w.weight
      → (w.weight ≡ 0 → w ≡ spent) → IsInLine served' drawn' w.stage
      → ((seat : ℕ) (u : View D) → seat ≢ id → get_elem? views seat ≡ some u → IsInLine served' drawn' u.stage)
      → ((seat : ℕ) (u : View D) (ticket : ℕ) → seat ≢ id → get_elem? views seat ≡ some u → ticket_of w.stage ≡ Some ticket
      → ticket_of u.stage ≡ Some ticket → ⊥)
      → IsCounted served drawn whole views → IsCounted served' drawn' whole' (set views id w)
  counted_set served drawn whole served' drawn' whole' views id v w at counts weighs weighty mine others fresh c = record {
    count = omega (arith, sum_by-at_set tickets_of views id v w at, c.count);
    sum = omega (arith, sum_by-at_set weight_of views id v w at, c.sum);
    weighty = each_set (λ u. u.weight ≡ 0 → u ≡ spent) views id w weighty (λ seat u _ at_u. c.weighty seat u at_u);
    in_line = each_set (λ u. IsInLine served' drawn' u.stage) views id w mine others;
    apart = apart_set views id w c.apart fresh;
  }

  -- one pass changes, and has no ticket before or after
  pub counted_free : (served drawn whole whole' : ℕ) (views : List (View D)) (id : ℕ) (v w : View D) → get_elem? views id ≡ some v
      → tickets_of v ≡ 0 → tickets_of w ≡ 0 → ticket_of w.stage ≡ None
      → IsInLine served drawn w.stage → whole' + v.weight ≡ whole + w.weight → (w.weight ≡ 0 → w ≡ spent)
      → IsCounted served drawn whole views → IsCounted served drawn whole' (set views id w)
  counted_free served drawn whole whole' views id v w at before after free in_line weighs weighty c =
      counted_set served drawn whole served drawn whole' views id v w at (omega arith) weighs weighty in_line
      (λ seat u _ at_u. c.in_line seat u at_u)
      (λ seat u ticket _ _ of _. no_ticket w.stage free ticket of) c

  -- a new pass comes, which has no ticket
  pub counted_snoc : (served drawn whole : ℕ) (views : List (View D)) (seen : List D) (weight : ℕ) → 0 < weight
      → IsCounted served drawn whole views
      → IsCounted served drawn (whole + weight) (views ++ idle seen weight ∷ [])
  counted_snoc served drawn whole views seen weight some_weight c = let w : View D = idle seen weight in record {
    count = omega (arith, sum_by_push tickets_of views w, c.count);
    sum = omega (arith, sum_by_push weight_of views w, c.sum);
    weighty = each_snoc (λ u. u.weight ≡ 0 → u ≡ spent) views w (λ none. absurd (omega arith)) c.weighty;
    in_line = each_snoc (λ u. IsInLine served drawn u.stage) views w tt c.in_line;
    apart = apart_snoc views w refl c.apart;
  }
    where
      apart_snoc : (views : List (View D)) (w : View D) → ticket_of w.stage ≡ None → IsApart views → IsApart (views ++ w ∷ [])
      apart_snoc views w free apart seat other u v at_u at_v ticket of_u of_v =
          ⊎_elim
          (λ (e : get_elem? views seat ≡ some u). ⊎_elim
          (λ (d : get_elem? views other ≡ some v). apart seat other u v e d ticket of_u of_v)
          (λ (d : w ≡ v). absurd (no_ticket w.stage free ticket (ap (λ (x : View D). ticket_of x.stage) d ∙ of_v)))
          (at_snoc views w v other at_v))
          (λ (e : w ≡ u). absurd (no_ticket w.stage free ticket (ap (λ (x : View D). ticket_of x.stage) e ∙ of_u)))
          (at_snoc views w u seat at_u)

  -- a pass holds no more tickets than it has weight
  light : (stage : Stage D) (seen : List D) (weight : ℕ) → (weight ≡ 0
      → record { stage = stage; seen = seen; weight = weight } ≡ spent) → tickets_at stage ≤ weight
  light Idle seen weight e = omega arith
  light (Joined shorter) seen weight e = omega arith
  light (Waits ticket) seen zero e = absurd (cc (ap (λ (v : View D). v.stage) (e refl)))
  light (Waits ticket) seen (suc weight) e = omega arith
  light (Turn ticket story) seen zero e = absurd (cc (ap (λ (v : View D). v.stage) (e refl)))
  light (Turn ticket story) seen (suc weight) e = omega arith

  -- fewer tickets are drawn and not served than a word has numbers
  pub few : (served drawn whole : ℕ) (views : List (View D)) → IsCounted served drawn whole views → drawn ≤ served + whole
  few served drawn whole views c = omega (
    arith,
    sum_by-le_at tickets_of weight_of views
        (λ seat v at. light v.stage v.seen v.weight (c.weighty seat v at)),
    c.count,
    c.sum,
  )

  -- one more ticket is drawn
  pub in_line_more : (served drawn : ℕ) (stage : Stage D) → IsInLine served drawn stage → IsInLine served (drawn + 1) stage
  in_line_more served drawn Idle d = tt
  in_line_more served drawn (Joined shorter) d = tt
  in_line_more served drawn (Waits ticket) d = (d.0, omega arith)
  in_line_more served drawn (Turn ticket story) d = (d.0, omega arith)

  -- the ticket served is another's
  pub in_line_later : (served drawn : ℕ) (stage : Stage D) → (ticket_of stage ≡ Some served → ⊥) → IsInLine served drawn stage
      → IsInLine (served + 1) drawn stage
  in_line_later served drawn Idle other d = tt
  in_line_later served drawn (Joined shorter) other d = tt
  in_line_later served drawn (Waits ticket) other d = let differ : ticket ≢ served = λ e. other (ap (λ (t : ℕ). Some t) e) in
      (omega arith, d.1)
  in_line_later served drawn (Turn ticket story) other d = absurd (other (ap (λ (t : ℕ). Some t) d.0))

  pub no_turn : (served drawn : ℕ) (stage : Stage D) → (ticket_of stage ≡ Some served → ⊥) → IsInLine served drawn stage
      → HasNoTurn stage
  no_turn served drawn Idle other d = tt
  no_turn served drawn (Joined shorter) other d = tt
  no_turn served drawn (Waits ticket) other d = tt
  no_turn served drawn (Turn ticket story) other d = other (ap (λ (t : ℕ). Some t) d.0)

  pub in_line_below : (served drawn ticket : ℕ) (stage : Stage D) → ticket_of stage ≡ Some ticket → IsInLine served drawn stage
      → ticket < drawn
  in_line_below served drawn ticket Idle of d = absurd (cc)
  in_line_below served drawn ticket (Joined shorter) of d = absurd (cc)
  in_line_below served drawn ticket (Waits own) of d = let e : own ≡ ticket = cc in omega arith
  in_line_below served drawn ticket (Turn own story) of d = let e : own ≡ ticket = cc in omega arith
