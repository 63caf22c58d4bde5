-- Each move keeps the rule of a lock.
use Rattle.std.proofs.Common.{◌≡◌, ◌≢◌, ℕ, ◌+◌, ◌-◌, ◌/◌, ◌%◌, ◌^◌, ◌<◌, ◌≤◌, ◌⊎◌, List, [], ◌∷◌, ◌++◌, length, get_or, set}
use Rattle.std.proofs.Common.{refl, sym, ap, ◌∙◌, subst, ⊎_elim, inl, inr, arith, Option, Some, None}
use Rattle.std.proofs.Math.Nat.{mod-add-mod}
use mathlib.Core.Logic.{dite}
use mathlib.Core.Option.{none, some, some-injective, some-ne-none}
use mathlib.Core.List.{IsPrefix}
use native.Mathlib.Decide.{ℕ_discrete}
use lib.ListN.{get_elem?}
use lib.Seq.{set-get_or}
use Rattle.atomic_table.specs.Table.{State, Me, step, Act, keeps, takes, gives, Valid, stepped, carried_after, rest, put_back}
use Rattle.atomic_table.specs.Table.{Allows, Splits, Joins, Final, Seen, opening}
use Rattle.atomic_table.proofs.Lists.{set_else, set_again, at_longer, one_turn}
use Rattle.turn_lock.specs.declared.rule.Stage.{Stage}
use Rattle.turn_lock.specs.declared.rule.Stage.TheVariants.{Idle, Joined, Waits, Turn}
use Rattle.turn_lock.specs.declared.rule.View.{View}
use Rattle.turn_lock.specs.Stages.{ticket_of, noted_of, tickets_at, tickets_of, weight_of, idle, spent, at_stage, greater_half}
use Rattle.turn_lock.specs.Stages.{lesser_half, longer, shorter, joined}
use Rattle.turn_lock.specs.Rule.{in_word, Each, IsInLine, HasNoTurn, IsCounted, Agrees, Knows, Homes, IsHome, IsOut, LockRule}
use Rattle.turn_lock.specs.Moves.{drew, looked, gave, settled}
use Rattle.turn_lock.proofs.Prefixes.{begins_itself, begins_on, longer_begins, longer_whole_left, longer_whole_right}
use Rattle.turn_lock.proofs.Totals.{at-le-sum_by, two-le-sum_by}
use Rattle.turn_lock.proofs.Views.{here_set, each_set, each_snoc, counted_set, counted_free, counted_snoc, few, in_line_more}
use Rattle.turn_lock.proofs.Views.{in_line_later, no_turn, in_line_below}

abbrev size : ℕ
size = 18446744073709551616

module _ {T D : Type 0} (story : T → List D) where
  -- two passes at one place of the list are one
  one_view : (views : List (View D)) (i j : ℕ) (u v : View D) → i ≡ j → get_elem? views i ≡ some u → get_elem? views j ≡ some v
      → u ≡ v
  one_view views i j u v same at_u at_v = some-injective u v (sym at_u ∙ (ap (get_elem? views) same ∙ at_v))

  -- one pass that has no turn changes, while the value is at home
  home_set : (homes : Homes T) (views : List (View D)) (id : ℕ) (v w : View D) → get_elem? views id ≡ some v → 0 < w.weight
      → HasNoTurn w.stage → w.seen ≡ v.seen
      → ((l : List D) → Knows l v → Knows l w) → IsHome story homes views → IsHome story homes (set views id w)
  home_set homes views id v w at weight still same knows h = record {
    value = h.value;
    home = h.home;
    nobody = each_set (λ u. HasNoTurn u.stage) views id w still (λ seat u _ at_u. h.nobody seat u at_u);
    known = each_set (Knows (story h.value)) views id w (knows (story h.value) (h.known id v at))
        (λ seat u _ at_u. h.known seat u at_u);
    newest = dite (ℕ_discrete h.newest.0 id)
        (λ here. (
          id,
          w,
          here_set views id v w at,
          weight,
          same ∙ (ap (λ (u : View D). u.seen)
              (one_view views id h.newest.0 v h.newest.1 (sym here) at h.newest.2) ∙ h.newest.4),
        ))
        (λ other. (h.newest.0, h.newest.1, set_else views id h.newest.0 w other ∙ h.newest.2, h.newest.3, h.newest.4));
  }

  -- one pass that has no turn changes, while the value is out
  out_set : (served : ℕ) (homes : Homes T) (views : List (View D)) (id : ℕ) (v w : View D) → get_elem? views id ≡ some v
      → HasNoTurn v.stage
      → ((l : List D) → Knows l v → Knows l w) → IsOut story served homes views → IsOut story served homes (set views id w)
  out_set served homes views id v w at still knows o = record {
    kept = o.kept;
    away = o.away;
    holder = (o.holder.0, o.holder.1, set_else views id o.holder.0 w (λ here. holds_turn here) ∙ o.holder.2, o.holder.3);
    known = each_set (Knows o.kept) views id w (knows o.kept (o.known id v at)) (λ seat u _ at_u. o.known seat u at_u);
  }
    where
      holds_turn : o.holder.0 ≡ id → ⊥
      holds_turn here = subst HasNoTurn (ap (λ (u : View D). u.stage) (one_view views id o.holder.0 v o.holder.1 (sym here) at
          o.holder.2) ∙ o.holder.3) still

  place_set : (served : ℕ) (homes : Homes T) (views : List (View D)) (id : ℕ) (v w : View D) → get_elem? views id ≡ some v
      → 0 < w.weight → HasNoTurn v.stage → HasNoTurn w.stage → w.seen ≡ v.seen
      → ((l : List D) → Knows l v → Knows l w) → IsHome story homes views ⊎ IsOut story served homes views
      → IsHome story homes (set views id w) ⊎ IsOut story served homes (set views id w)
  place_set served homes views id v w at weight before after same knows p =
      ⊎_elim (λ h. inl (home_set homes views id v w at weight after same knows h))
      (λ o. inr (out_set served homes views id v w at before knows o)) p

  one_value : (x y : T) → ◌≡◌ {A = List (ℕ × Option T)} ((0, Some x) ∷ []) ((0, Some y) ∷ []) → x ≡ y
  one_value x y e = let held : ◌≡◌ {A = ℕ × Option T} (0, Some x) (0, Some y) = cc in let same : Some x ≡ Some y =
      ap (λ (p : ℕ × Option T). p.1) held in cc

  -- a new pass comes, which has no turn
  place_snoc : (served : ℕ) (homes : Homes T) (views : List (View D)) (w : View D) → HasNoTurn w.stage
      → ((l : List D) → Each (Knows l) views → Knows l w)
      → IsHome story homes views ⊎ IsOut story served homes views → IsHome story homes (views ++ w ∷ [])
      ⊎ IsOut story served homes (views ++ w ∷ [])
  place_snoc served homes views w still knows p = ⊎_elim
      (λ h. inl record {
        value = h.value;
        home = h.home;
        nobody = each_snoc (λ u. HasNoTurn u.stage) views w still h.nobody;
        known = each_snoc (Knows (story h.value)) views w (knows (story h.value) h.known) h.known;
        newest = (h.newest.0, h.newest.1, at_longer views (w ∷ []) h.newest.0 h.newest.1 h.newest.2, h.newest.3, h.newest.4);
      })
      (λ o. inr record {
        kept = o.kept;
        away = o.away;
        holder = (o.holder.0, o.holder.1, at_longer views (w ∷ []) o.holder.0 o.holder.1 o.holder.2, o.holder.3);
        known = each_snoc (Knows o.kept) views w (knows o.kept o.known) o.known;
      })
      p

  -- of two passes joined, the one knows what both knew
  joined_knows : (l : List D) (v w : View D) → Knows l v → Knows l w → Knows l (joined v w)
  joined_knows l v w k m = let b = longer_begins v.seen w.seen l k.0 m.0 in (b.0, b.2)

  agreed : (stage : Stage D) (seen shorter : List D) → stage ≡ Joined shorter → Agrees stage seen → IsPrefix (noted_of stage) seen
  agreed Idle seen shorter e a = absurd (cc)
  agreed (Joined noted) seen shorter e a = a
  agreed (Waits ticket) seen shorter e a = absurd (cc)
  agreed (Turn ticket story) seen shorter e a = absurd (cc)

  each_join : (P : View D → Type 0) (views : List (View D)) (id : ℕ) (v : View D) (other : ℕ) (w : View D) → P (joined v w)
      → P spent → Each P views → Each P (set (set views id (joined v w)) other spent)
  each_join P views id v other w one two all =
      each_set P (set views id (joined v w)) other spent two (λ seat u _ at_u. each_set P views id (joined v w) one
      (λ seat' u' _ at_u'. all seat' u' at_u') seat u at_u)

  home_join : (homes : Homes T) (views : List (View D)) (id : ℕ) (v : View D) (other : ℕ) (w : View D)
      → get_elem? views id ≡ some v → get_elem? views other ≡ some w → other ≢ id → 0 < v.weight
      → IsHome story homes views → IsHome story homes (set (set views id (joined v w)) other spent)
  home_join homes views id v other w at at_w apart weight h = record {
    value = h.value;
    home = h.home;
    nobody = each_join (λ u. HasNoTurn u.stage) views id v other w tt tt h.nobody;
    known = each_join (Knows now) views id v other w (joined_knows now v w (h.known id v at) (h.known other w at_w)) (
      (now, refl),
      tt,
    ) h.known;
    newest = dite (ℕ_discrete n.0 id)
        (λ here. joined_pass (longer_whole_left v.seen w.seen (subst (IsPrefix w.seen) (sym (whole_at id v (sym here) at))
        (h.known other w at_w).0) ∙ whole_at id v (sym here) at))
        (λ elsewhere. dite (ℕ_discrete n.0 other)
        (λ there. joined_pass (longer_whole_right v.seen w.seen (subst (IsPrefix v.seen) (sym (whole_at other w (sym there) at_w))
        (h.known id v at).0) ∙ whole_at other w (sym there) at_w))
        (λ nowhere. (
          n.0,
          n.1,
          set_else (set views id (joined v w)) other n.0 spent nowhere
              ∙ (set_else views id n.0 (joined v w) elsewhere ∙ n.2),
          n.3,
          n.4,
        )));
  }
    where
      now : List D
      now = story h.value

      n : (seat : ℕ) × (u : View D) × (get_elem? views seat ≡ some u) × (0 < u.weight) × (u.seen ≡ now)
      n = h.newest

      whole_at : (seat : ℕ) (u : View D) → seat ≡ n.0 → get_elem? views seat ≡ some u → u.seen ≡ now
      whole_at seat u same at_u = ap (λ (x : View D). x.seen) (one_view views seat n.0 u n.1 same at_u n.2) ∙ n.4

      joined_pass : longer v.seen w.seen ≡ now
          → (seat : ℕ) × (u : View D) × (get_elem? (set (set views id (joined v w)) other spent) seat ≡ some u) × (0 < u.weight)
          × (u.seen ≡ now)
      joined_pass e = (
        id,
        joined v w,
        set_else (set views id (joined v w)) other id spent (λ same. apart (sym same))
            ∙ here_set views id v (joined v w) at,
        omega arith,
        e,
      )

  out_join : (served : ℕ) (homes : Homes T) (views : List (View D)) (id : ℕ) (v : View D) (other : ℕ) (w : View D)
      → get_elem? views id ≡ some v → get_elem? views other ≡ some w → v.stage ≡ Idle → w.stage ≡ Idle
      → IsOut story served homes views → IsOut story served homes (set (set views id (joined v w)) other spent)
  out_join served homes views id v other w at at_w resting resting' o = record {
    kept = o.kept;
    away = o.away;
    holder = (
      o.holder.0,
      o.holder.1,
      set_else (set views id (joined v w)) other o.holder.0 spent (holds other w at_w resting')
          ∙ (set_else views id o.holder.0 (joined v w) (holds id v at resting) ∙ o.holder.2),
      o.holder.3,
    );
    known = each_join (Knows o.kept) views id v other w (joined_knows o.kept v w (o.known id v at) (o.known other w at_w))
        ((o.kept, refl), tt) o.known;
  }
    where
      holds : (seat : ℕ) (u : View D) → get_elem? views seat ≡ some u → u.stage ≡ Idle → o.holder.0 ≢ seat
      holds seat u at_u rests same = cc (
        rests,
        ap (λ (x : View D). x.stage)
            (one_view views seat o.holder.0 u o.holder.1 (sym same) at_u o.holder.2),
        o.holder.3,
      )

  module _ (whole : ℕ) where
    abbrev Rule : State (Option T) (View D) → Type 0
    Rule = LockRule story whole

    abbrev Hand : Type 0
    Hand = Me (Option T) (View D)

    -- a load leaves the words as they were
    loaded : (s : State (Option T) (View D)) (word : ℕ) (homes : Homes T) (views : List (View D))
        → Rule record { words = s.words; homes = homes; views = views }
        → Rule record { words = set s.words word (get_or s.words word 0); homes = homes; views = views }
    loaded s word homes views r = subst (λ (ws : List ℕ). Rule record { words = ws; homes = homes; views = views })
        (sym (set-get_or s.words word 0)) r

    unmoved : (s : State (Option T) (View D)) (word id : ℕ) (v : View D) → get_elem? s.views id ≡ some v → Rule s
        → Rule record { words = set s.words word (get_or s.words word 0); homes = s.homes; views = set s.views id v }
    unmoved s word id v at r = loaded s word s.homes (set s.views id v)
        (subst (λ (vs : List (View D)). Rule record { words = s.words; homes = s.homes; views = vs })
        (sym (set_again s.views id v at)) r)

    pub opens : (value : T) → 0 < whole → whole < 2 ^ 64 → Rule (opening (0 ∷ 0 ∷ []) (Some value ∷ [])
        (idle (story value) whole))
    opens value weight small = let first : View D = idle (story value) whole in record {
      served = 0;
      drawn = 0;
      words = refl;
      small = small;
      counted = record {
        count = refl;
        sum = omega arith;
        weighty = alone (λ v. v.weight ≡ 0 → v ≡ spent) first (λ none. absurd (omega arith));
        in_line = alone (λ v. IsInLine 0 0 v.stage) first tt;
        apart = λ seat other v w at_v at_w ticket of_v of_w. absurd (alone (λ u. ticket_of u.stage ≡ Some ticket
            → ⊥) first (λ of. cc) seat v at_v of_v);
      };
      place = inl record {
        value = value;
        home = refl;
        nobody = alone (λ v. HasNoTurn v.stage) first tt;
        known = alone (Knows (story value)) first (begins_itself (story value), tt);
        newest = (0, first, refl, weight, refl);
      };
    }
      where
        alone : (P : View D → Type 0) (first : View D) → P first → Each P (first ∷ [])
        alone P first mine Rattle.std.proofs.Common.zero v at = subst P (some-injective first v at) mine
        alone P first mine (Rattle.std.proofs.Common.suc seat) v at = absurd (some-ne-none v (sym at))

    pub draws : (slots id : ℕ) (me : Hand) → me.0.stage ≡ Idle → 0 < me.0.weight
        → Allows Rule slots id me 0 (λ n. (n + 1) % 2 ^ 64) (drew (step slots 0 1 0 none) me)
    draws slots id me resting weight s r _ at _ =
        let w : View D = at_stage (Waits r.drawn) me.0 in
        let none_before : tickets_of me.0 ≡ 0 = ap tickets_at resting in
        let c = r.counted in (
          w,
          keeps,
          tt,
          record {
            served = r.served;
            drawn = r.drawn + 1;
            words = ap (λ (ws : List ℕ). set ws 0 ((get_or ws 0 0 + 1) % size)) r.words
                ∙ ap (λ (n : ℕ). n ∷ in_word r.served ∷ []) (mod-add-mod r.drawn size 1);
            small = r.small;
            counted = counted_set r.served r.drawn whole r.served (r.drawn + 1) whole s.views id me.0 w at (omega arith) refl
                (λ weightless. absurd (omega arith))
                (omega (arith, c.count), omega arith)
                (λ seat u _ at_u. in_line_more r.served r.drawn u.stage (c.in_line seat u at_u))
                (λ seat u ticket _ at_u of_w of_u. let same : r.drawn ≡ ticket = cc in
                let low : ticket < r.drawn = in_line_below r.served r.drawn ticket u.stage of_u (c.in_line seat u at_u) in
                omega arith)
                c;
            place = place_set r.served s.homes s.views id me.0 w at weight (subst HasNoTurn (sym resting) tt) tt refl
                (λ l k. (k.0, tt)) r.place;
          },
          (r.drawn, ap (λ (ws : List ℕ). get_or ws 0 0) r.words, refl),
        )

    -- the pass whose turn it is is the one with the ticket to be served
    turn_here : (served drawn ticket id : ℕ) (v : View D) (homes : Homes T) (views : List (View D))
        → IsCounted served drawn whole views → get_elem? views id ≡ some v → ticket_of v.stage ≡ Some ticket → ticket ≡ served
        → (o : IsOut story served homes views) → v.stage ≡ Turn served o.kept
    turn_here served drawn ticket id v homes views c at of in_line o =
        let theirs : ticket_of o.holder.1.stage ≡ Some served = ap ticket_of o.holder.3 in
        let mine : ticket_of v.stage ≡ Some served = of ∙ ap (λ (t : ℕ). Some t) in_line in
        let same : id ≡ o.holder.0 = c.apart id o.holder.0 v o.holder.1 at o.holder.2 served mine theirs in
        ap (λ (u : View D). u.stage) (one_view views id o.holder.0 v o.holder.1 same at o.holder.2) ∙ o.holder.3

    -- a ticket that is in_line, and that the word has, is the ticket to be served
    turn_comes : (served drawn ticket : ℕ) (views : List (View D)) → IsCounted served drawn whole views → whole < 2 ^ 64
        → (served ≤ ticket) × (ticket < drawn) → in_word served ≡ in_word ticket → ticket ≡ served
    turn_comes served drawn ticket views c small in_line same = sym (one_turn served ticket size in_line.0
        (omega (arith, few served drawn whole views c)) same)

    pub looks : (slots id ticket : ℕ) (me : Hand) → me.0.stage ≡ Waits ticket → me.1 ≡ []
        → Allows Rule slots id me 1 (λ n. n) (looked story (step slots 1 0 0 none) me)
    looks slots id ticket me waits empty s r _ at _ = dite (ℕ_discrete (get_or s.words 1 0) (in_word ticket)) its_turn not_yet
      where
        c : IsCounted r.served r.drawn whole s.views
        c = r.counted

        Looked : Type 0
        Looked = (w : View D) × (a : Act (Option T)) × Valid s.homes me.1 a × Rule (stepped s 1 (get_or s.words 1 0) id me.1 w a)
            × looked story (step slots 1 0 0 none) me (get_or s.words 1 0) (w, carried_after me.1 a)

        not_yet : get_or s.words 1 0 ≢ in_word ticket → Looked
        not_yet differs = (
          me.0,
          keeps,
          tt,
          unmoved s 1 id me.0 at r,
          λ own waits'. let same : ticket ≡ own = cc in ((λ found. absurd (differs (found ∙ ap in_word (sym same)))), λ _. refl),
        )

        in_line : (r.served ≤ ticket) × (ticket < r.drawn)
        in_line = subst (IsInLine r.served r.drawn) waits (c.in_line id me.0 at)

        its_turn : get_or s.words 1 0 ≡ in_word ticket → Looked
        its_turn found = ⊎_elim at_home (λ o. absurd (cc (
          waits,
          turn_here r.served r.drawn ticket id me.0 s.homes s.views c at
              (ap ticket_of waits) now o,
        ))) r.place
          where
            now : ticket ≡ r.served
            now = turn_comes r.served r.drawn ticket s.views c r.small in_line (sym (ap (λ (ws : List ℕ). get_or ws 1 0) r.words)
                ∙ found)

            at_home : IsHome story s.homes s.views → Looked
            at_home h = let w : View D = at_stage (Turn ticket (story h.value)) me.0 in
                let seen : IsPrefix me.0.seen (story h.value) = (h.known id me.0 at).0 in (
                  w,
                  takes 0 (Some h.value),
                  ap (λ (hs : Homes T). get_elem? hs 0) h.home,
                  loaded s 1 (set s.homes 0 none) (set s.views id w) record {
                    served = r.served;
                    drawn = r.drawn;
                    words = r.words;
                    small = r.small;
                    counted = counted_set r.served r.drawn whole r.served r.drawn whole s.views id me.0 w at
                        (omega (arith, ap tickets_at waits)) refl (λ weightless. absurd
                        (cc (waits, ap (λ (v : View D). v.stage) (c.weighty id me.0 at weightless)))) (now, in_line.1)
                        (λ seat u _ at_u. c.in_line seat u at_u)
                        (λ seat u other apart at_u of_w of_u. apart (c.apart seat id u me.0 at_u at other of_u (ap ticket_of waits
                        ∙ of_w)))
                        c;
                    place = inr record {
                      kept = story h.value;
                      away = ap (λ (hs : Homes T). set hs 0 none) h.home;
                      holder = (id, w, here_set s.views id me.0 w at, ap (λ (t : ℕ). Turn t (story h.value)) now);
                      known = each_set (Knows (story h.value)) s.views id w (seen, tt) (λ seat u _ at_u. h.known seat u at_u);
                    };
                  },
                  λ own waits'. (
                    (λ _. (
                      ticket,
                      h.value,
                      ap (λ (hand : List (ℕ × Option T)). (w, (0, Some h.value) ∷ hand)) empty,
                      seen,
                    )),
                    λ differs. let same : ticket ≡ own = cc in absurd (differs (found ∙ ap in_word same)),
                  ),
                )

    pub gives_back : (slots id : ℕ) (me : Hand) (value : T) (kept : List D) → (ticket : ℕ) × (me.0.stage ≡ Turn ticket kept)
        → 0 < me.0.weight → me.1 ≡ (0, Some value) ∷ [] → IsPrefix kept (story value)
        → Allows Rule slots id me 1 (λ n. (n + 1) % 2 ^ 64) (gave story (step slots 1 1 0 none) me)
    gives_back slots id me value kept turn weight hand longer_story s r _ at _ =
        ⊎_elim (λ h. absurd (subst HasNoTurn turn.1 (h.nobody id me.0 at))) out r.place
      where
        c : IsCounted r.served r.drawn whole s.views
        c = r.counted

        in_line : (turn.0 ≡ r.served) × (turn.0 < r.drawn)
        in_line = subst (IsInLine r.served r.drawn) turn.1 (c.in_line id me.0 at)

        mine : ticket_of me.0.stage ≡ Some r.served
        mine = ap ticket_of turn.1 ∙ ap (λ (t : ℕ). Some t) in_line.0

        others : (seat : ℕ) (u : View D) → seat ≢ id → get_elem? s.views seat ≡ some u → ticket_of u.stage ≡ Some r.served → ⊥
        others seat u apart at_u theirs = apart (c.apart seat id u me.0 at_u at r.served theirs mine)

        out : IsOut story r.served s.homes s.views
            → (w : View D) × (a : Act (Option T)) × Valid s.homes me.1 a
            × Rule (stepped s 1 ((get_or s.words 1 0 + 1) % 2 ^ 64) id me.1 w a)
            × gave story (step slots 1 1 0 none) me (get_or s.words 1 0) (w, carried_after me.1 a)
        out o =
            let w : View D = idle (story value) me.0.weight in
            let same : kept ≡ o.kept = cc (
              turn.1,
              turn_here r.served r.drawn turn.0 id me.0 s.homes s.views c at
                  (ap ticket_of turn.1) in_line.0 o,
            ) in
            let now : (seat : ℕ) (u : View D) → seat ≢ id → get_elem? s.views seat ≡ some u → Knows (story value) u =
            λ seat u _ at_u. let k = o.known seat u at_u in let on : IsPrefix o.kept (story value) =
            subst (λ (l : List D). IsPrefix l (story value)) same longer_story in
            (begins_on u.seen o.kept (story value) k.0 on, k.1) in (
              w,
              gives,
              tt,
              record {
                served = r.served + 1;
                drawn = r.drawn;
                words = ap (λ (ws : List ℕ). set ws 1 ((get_or ws 1 0 + 1) % size)) r.words
                    ∙ ap (λ (n : ℕ). in_word r.drawn ∷ n ∷ []) (mod-add-mod r.served size 1);
                small = r.small;
                counted = counted_set r.served r.drawn whole (r.served + 1) r.drawn whole s.views id me.0 w at
                    (omega (arith, ap tickets_at turn.1)) refl (λ weightless. absurd (omega arith)) tt
                    (λ seat u apart at_u. in_line_later r.served r.drawn u.stage (others seat u apart at_u)
                    (c.in_line seat u at_u))
                    (λ seat u ticket _ _ of_w _. absurd (cc of_w))
                    c;
                place = inl record {
                  value = value;
                  home = ap (λ (x : Homes T × List (ℕ × Option T)). put_back x.0 x.1) (λ i. (o.away i, hand i));
                  nobody = each_set (λ u. HasNoTurn u.stage) s.views id w tt
                      (λ seat u apart at_u. no_turn r.served r.drawn u.stage (others seat u apart at_u) (c.in_line seat u at_u));
                  known = each_set (Knows (story value)) s.views id w (begins_itself (story value), tt) now;
                  newest = (id, w, here_set s.views id me.0 w at, weight, refl);
                };
              },
              λ given hand'. let one : value ≡ given = one_value value given (sym hand ∙ hand') in
                  λ i. (idle (story (one i)) me.0.weight, rest (hand i)),
            )

    pub splits : (id : ℕ) (v : View D) → v.stage ≡ Idle → 2 ≤ v.weight → Splits Rule id v (greater_half v) (lesser_half v)
    splits id v resting two s r at =
        let w : View D = greater_half v in
        let less : ℕ = whole - v.weight / 2 in
        let within : v.weight ≤ whole = omega (arith, at-le-sum_by weight_of s.views id v at, r.counted.sum) in
        let still : HasNoTurn v.stage = subst HasNoTurn (sym resting) tt in
        let c : IsCounted r.served r.drawn less (set s.views id w) =
        counted_free r.served r.drawn whole less s.views id v w at (ap tickets_at resting) refl refl tt (omega arith)
        (λ weightless. absurd (omega arith)) r.counted in
        let all : less + v.weight / 2 ≡ whole = omega arith in record {
          served = r.served;
          drawn = r.drawn;
          words = r.words;
          small = r.small;
          counted = subst (λ (n : ℕ). IsCounted r.served r.drawn n (set s.views id w ++ lesser_half v ∷ [])) all
              (counted_snoc r.served r.drawn less (set s.views id w) v.seen (v.weight / 2) (omega arith) c);
          place = place_snoc r.served s.homes (set s.views id w) (lesser_half v) tt
              (λ l known. ((known id w (here_set s.views id v w at)).0, tt))
              (place_set r.served s.homes s.views id v w at (omega arith) still tt refl (λ l k. (k.0, tt)) r.place);
        }

    pub unites : (id : ℕ) (v : View D) (other : ℕ) (w : View D) → v.stage ≡ Idle → w.stage ≡ Idle → 0 < v.weight
        → Joins Rule id v other w (joined v w) spent
    unites id v other w resting resting' weight s r at apart at_w =
        let both : View D = joined v w in
        let c : IsCounted r.served r.drawn (whole + w.weight) (set s.views id both) =
        counted_free r.served r.drawn whole (whole + w.weight) s.views id v both at (ap tickets_at resting) refl refl tt
        (omega arith) (λ weightless. absurd (omega arith)) r.counted in
        let at_other : get_elem? s.views other ≡ some w = sym (set_else s.views id other both apart) ∙ at_w in record {
          served = r.served;
          drawn = r.drawn;
          words = r.words;
          small = r.small;
          counted = counted_free r.served r.drawn (whole + w.weight) whole (set s.views id both) other w spent at_w
              (ap tickets_at resting') refl refl tt (omega arith) (λ _. refl) c;
          place = ⊎_elim (λ h. inl (home_join s.homes s.views id v other w at at_other apart weight h))
              (λ o. inr (out_join r.served s.homes s.views id v other w at at_other resting resting' o)) r.place;
        }

    pub settles : (slots id : ℕ) (me : Hand) (noted : List D) → me.0.stage ≡ Joined noted → 0 < me.0.weight
        → Allows Rule slots id me 0 (λ n. n) (settled (step slots 0 0 0 none) me)
    settles slots id me noted joins weight s r _ at _ =
        let w : View D = idle me.0.seen me.0.weight in
        let still : HasNoTurn me.0.stage = subst HasNoTurn (sym joins) tt in (
          w,
          keeps,
          tt,
          loaded s 0 s.homes (set s.views id w) record {
            served = r.served;
            drawn = r.drawn;
            words = r.words;
            small = r.small;
            counted = counted_free r.served r.drawn whole whole s.views id me.0 w at (ap tickets_at joins) refl refl tt refl
                (λ weightless. absurd (omega arith)) r.counted;
            place = place_set r.served s.homes s.views id me.0 w at weight still tt refl (λ l k. (k.0, tt)) r.place;
          },
          (
            refl,
            agreed me.0.stage me.0.seen noted joins (⊎_elim (λ h. (h.known id me.0 at).1) (λ o. (o.known id me.0 at).1)
                r.place),
          ),
        )

    pub closes : (id : ℕ) (v : View D) (ws : List ℕ) (xs : List (Option T)) → v.stage ≡ Idle → v.weight ≡ whole → 0 < v.weight
        → Final (Seen Rule id v) ws xs
        → (value : T) × (get_elem? xs 0 ≡ some (Some value)) × (story value ≡ v.seen)
    closes id v ws xs resting all weight f = ⊎_elim home (λ o. absurd (out o)) r.place
      where
        s : State (Option T) (View D)
        s = f.0

        r : Rule s
        r = f.1.0

        at : get_elem? s.views id ≡ some v
        at = f.1.1

        alone : (seat : ℕ) (u : View D) → get_elem? s.views seat ≡ some u → 0 < u.weight → id ≡ seat
        alone seat u at_u theirs = dite (ℕ_discrete id seat) (λ same. same)
            (λ apart. absurd (omega (arith, two-le-sum_by weight_of s.views id seat v u apart at at_u, r.counted.sum)))

        out : IsOut story r.served s.homes s.views → ⊥
        out o = let u : View D = o.holder.1 in
            let weighs : u.weight ≢ 0 = λ none. cc (
              o.holder.3,
              ap (λ (x : View D). x.stage)
                  (r.counted.weighty o.holder.0 u o.holder.2 none),
            ) in
            let same : v ≡ u = one_view s.views id o.holder.0 v u (alone o.holder.0 u o.holder.2 (omega arith)) at o.holder.2 in
            cc (resting, ap (λ (x : View D). x.stage) same, o.holder.3)

        home : IsHome story s.homes s.views → (value : T) × (get_elem? xs 0 ≡ some (Some value)) × (story value ≡ v.seen)
        home h = let n = h.newest in (
          h.value,
          f.4 0 (Some h.value) (ap (λ (hs : Homes T). get_elem? hs 0) h.home),
          sym (ap (λ (u : View D). u.seen) (one_view s.views id n.0 v n.1 (alone n.0 n.1 n.2 n.3) at n.2) ∙ n.4),
        )
