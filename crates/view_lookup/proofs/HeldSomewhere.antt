-- An object is held by some view where the view that made it, or one that winked it in, holds it at one of its targets.
use Rattle.std.proofs.Common.{◌≡◌, ℕ, ◌<◌, Bool, true, false, ◌&&◌, ◌||◌, ◌==◌, cond, Option, Some, None, List, [], ◌∷◌, length}
use Rattle.std.proofs.Common.{refl, ap, sym, ◌∙◌, arith, bytes_eq}
use Rattle.std.specs.Prelude.{T, is_some}
use Rattle.std.specs.Cmp.{tied_itself}
use Rattle.std.specs.declared.cmp.Ordering.TheVariants.{Less, Greater}
use Rattle.std.specs.Ordering.{is_eq, is_lt, ordering_reverse}
use Rattle.std.specs.FinMap.Entries.{find, is_sorted, below_all}
use Rattle.std.proofs.lemmas.Bool.Decides.{nat_tests}
use Rattle.std.proofs.lemmas.Slice.Eq.{bytes_eq-Decides}
use Rattle.std.proofs.lemmas.Bool.{and_parts, or_left, or_right}
use Rattle.cc_names.specs.Formed.{Plain}
use Rattle.cc_names.specs.Last.{Keeps, Ends, Sets, only_if, value_after}
use Rattle.cc_names.specs.References.{ReferencesByPath, ViewPath, view_path_cmp, held_at, is_held}
use Rattle.cc_names.specs.Versions.{is_number}
use Rattle.cc_names.specs.declared.rows.Deed.{Deed}
use Rattle.cc_names.specs.declared.rows.Deed.TheVariants as deeds
use Rattle.cc_names.specs.declared.rows.ReadOf.{ReadOf}
use Rattle.cc_names.proofs.Common.{test_first, test_second, less_by_test, test_from}
use Rattle.base_model.specs.Changes.{objects_held, targets_of}
use Rattle.base_model.specs.Rows.{Base, size, deed_at, deed_of, row_at}
use Rattle.base_model.proofs.HeldObjects.{held_in_order, is_held_there, view_paths_total}
use Rattle.base_rows.specs.Effects.{held_by_maker, holds_one, winked_effect}
use Rattle.base_rows.specs.Lifetimes.{ended_or}
use Rattle.base_rows.specs.LookUps.{last_of}
use Rattle.base_rows.specs.Made.{is_target}
use Rattle.base_rows.proofs.Holdings.{held_by_last, held_effect}
use Rattle.base_rows.proofs.Newest.{no_later}

-- a view path at which an object is found, after all that come before those of the table
record Found (objects_held : ReferencesByPath) (id : ℕ) : Type 0 where
  at : ViewPath
  is : find view_path_cmp at objects_held ≡ Some id
  behind : (q : ViewPath) → T (below_all view_path_cmp q objects_held) → view_path_cmp q at ≡ Less

-- what a table in order holds is found at its view path
found_in : (objects_held : ReferencesByPath) (id : ℕ) → T (is_sorted view_path_cmp objects_held) → is_held objects_held id ≡ true
    → Found objects_held id
found_in [] id sorted h = absurd (cc)
found_in (entry ∷ objects_held) id sorted h = by (entry.1 == id) refl (found_in objects_held id
    (test_second (below_all view_path_cmp entry.0 objects_held) (is_sorted view_path_cmp objects_held) sorted)) h
  where
    by : (t : Bool) → (entry.1 == id) ≡ t → (is_held objects_held id ≡ true → Found objects_held id)
        → (t || is_held objects_held id) ≡ true → Found (entry ∷ objects_held) id
    by true here older is =
        let number : entry.1 ≡ id = grind (arith, nat_tests) in
        record {
          at = entry.0;
          is = ap (λ o. cond (is_eq o) (Some entry.1) (find view_path_cmp entry.0 objects_held))
              (tied_itself view_paths_total entry.0) ∙ ap Some number;
          behind = λ q below. less_by_test (view_path_cmp q entry.0) (test_first (is_lt (view_path_cmp q entry.0))
              (below_all view_path_cmp q objects_held) below);
        }
    by false other older is =
        let there = older is in
        let later : view_path_cmp there.at entry.0 ≡ Greater =
        view_paths_total.antisymm there.at entry.0 ∙ ap ordering_reverse
        (there.behind entry.0 (test_first (below_all view_path_cmp entry.0 objects_held) (is_sorted view_path_cmp objects_held)
        sorted)) in
        record {
          at = there.at;
          is = ap (λ o. cond (is_eq o) (Some entry.1) (find view_path_cmp there.at objects_held)) later ∙ there.is;
          behind = λ q below. there.behind q (test_second (is_lt (view_path_cmp q entry.0))
              (below_all view_path_cmp q objects_held)
              below);
        }

module _ (b : Base) (id : ℕ) where
  number_is : (m : ℕ) → m ≡ id → is_number id (Some m) ≡ true
  number_is m same = grind (arith, nat_tests)

  -- a view that holds the object at a target holds it at one of them
  pub holds_target : (v path w : List ℕ) (targets : List (List ℕ)) → held_at (objects_held b) v path ≡ Some id
      → bytes_eq w v ≡ true → is_target path targets ≡ true → holds_one b w id targets ≡ true
  holds_target v path w [] is same among = absurd (cc)
  holds_target v path w (target ∷ targets) is same among = by (bytes_eq target path) refl (holds_target v path w targets is same)
      among
    where
      by : (t : Bool) → bytes_eq target path ≡ t → (is_target path targets ≡ true → holds_one b w id targets ≡ true)
          → (t || is_target path targets) ≡ true
          → (is_number id (held_at (objects_held b) w target) || holds_one b w id targets) ≡ true
      by true here rest one =
          let view : w ≡ v = (bytes_eq-Decides w v).0 same in
          let at : target ≡ path = (bytes_eq-Decides target path).0 here in
          or_left (is_number id (held_at (objects_held b) w target)) (holds_one b w id targets)
          (ap (λ x. is_number id (held_at (objects_held b) x target)) view
          ∙ ap (λ x. is_number id (held_at (objects_held b) v x)) at ∙ ap (is_number id) is ∙ number_is id refl)
      by false other rest one = or_right (is_number id (held_at (objects_held b) w target)) (holds_one b w id targets) (rest one)

  -- an object that a view holds at one of some paths is held
  pub number_of : (found : Option ℕ) → is_number id found ≡ true → found ≡ Some id
  number_of None h = absurd (cc)
  number_of (Some m) h = let same : m ≡ id = grind (arith, nat_tests) in ap Some same

  one_held : (v : List ℕ) (targets : List (List ℕ)) → holds_one b v id targets ≡ true → is_held (objects_held b) id ≡ true
  one_held v [] h = absurd (cc)
  one_held v (target ∷ targets) h = by (is_number id (held_at (objects_held b) v target)) refl (one_held v targets) h
    where
      by : (t : Bool) → is_number id (held_at (objects_held b) v target) ≡ t
          → (holds_one b v id targets ≡ true → is_held (objects_held b) id ≡ true) → (t || holds_one b v id targets) ≡ true
          → is_held (objects_held b) id ≡ true
      by true here rest one = is_held_there b v target id (number_of (held_at (objects_held b) v target) here)
      by false other rest one = rest one

  maker_held : (deed : Option Deed) → held_by_maker b id deed ≡ true → is_held (objects_held b) id ≡ true
  maker_held (Some (deeds.Publish v targets script entries outputs)) h = one_held v targets h
  maker_held deed h = absurd (cc)

  set_or : (t : Bool) (n : ℕ) (older : Option ℕ) → is_some (value_after (only_if t (Sets n)) older) ≡ true
      → (t || is_some older) ≡ true
  set_or true n older h = refl
  set_or false n older h = h

  wink_held : (rows : Base) → is_some (last_of (winked_effect b id) rows) ≡ true → is_held (objects_held b) id ≡ true
  wink_held [] h = absurd (cc)
  wink_held (row ∷ older) h = by row.deed h (wink_held older)
    where
      here_or : (v : List ℕ) (other : ℕ) (t : Bool) → ((other == id) && holds_one b v id (targets_of older other)) ≡ t
          → (t || is_some (last_of (winked_effect b id) older)) ≡ true
          → (is_some (last_of (winked_effect b id) older) ≡ true → is_held (objects_held b) id ≡ true)
          → is_held (objects_held b) id ≡ true
      here_or v other true here is rest = one_held v (targets_of older other)
          (and_parts (other == id) (holds_one b v id (targets_of older other)) here).1
      here_or v other false not is rest = rest is

      by : (deed : Deed) → is_some (value_after (winked_effect b id older deed) (last_of (winked_effect b id) older)) ≡ true
          → (is_some (last_of (winked_effect b id) older) ≡ true → is_held (objects_held b) id ≡ true)
          → is_held (objects_held b) id ≡ true
      by (deeds.Wink v other) is rest =
          here_or v other ((other == id) && holds_one b v id (targets_of older other)) refl
          (set_or ((other == id) && holds_one b v id (targets_of older other)) other (last_of (winked_effect b id) older) is) rest
      by deed is rest = rest is

  -- the rows of the base from some row down
  record IsBelow (rows : Base) : Type 0 where
    same : (n : ℕ) (deed : Deed) → deed_at rows n ≡ Some deed → deed_at b n ≡ Some deed

  deed_older : (row : Plain) (older : Base) (n : ℕ) (deed : Deed) → deed_at older n ≡ Some deed
      → deed_at (row ∷ older) n ≡ Some deed
  deed_older row older n deed is = by (size older == n) refl
    where
      by : (t : Bool) → (size older == n) ≡ t → deed_of (elim t as (λ _. Option Plain) [
        | true ↦ Some row
        | false ↦
            row_at older n
      ]) ≡ Some deed
      by true here =
          let later : length older < n = grind (arith, nat_tests) in
          let none : deed_at older n ≡ None = ap deed_of (no_later older n later) in
          absurd (cc)
      by false other = is

  below_older : (row : Plain) (older : Base) → IsBelow (row ∷ older) → IsBelow older
  below_older row older below = record { same = λ n deed is. below.same n deed (deed_older row older n deed is) }

  newest_deed : (row : Plain) (older : Base) → IsBelow (row ∷ older) → deed_at b (size older) ≡ Some row.deed
  newest_deed row older below =
      let here : (size older == size older) ≡ true = grind (arith, nat_tests) in
      below.same (size older) row.deed (ap (λ is. deed_of (elim is as (λ _. Option Plain) [
        | true ↦ Some row
        | false ↦
            row_at older (size older)
      ])) here)

  -- whether the object is held by its maker, or by a view that winked it in by one of some rows
  abbrev IsTraced : Base → Type 0
  IsTraced rows = (held_by_maker b id (deed_at b id) || is_some (last_of (winked_effect b id) rows)) ≡ true

  ends : (t : Bool) (older : Option ℕ) → value_after (ended_or (only_if t Ends) Keeps) older ≡ Some id → older ≡ Some id
  ends true older h = absurd (cc)
  ends false older h = h

  drops : (t : Bool) (older : Option ℕ) → value_after (only_if t Ends) older ≡ Some id → older ≡ Some id
  drops true older h = absurd (cc)
  drops false older h = h

  still : (t maker : Bool) (n : ℕ) (older : Option ℕ) → (maker || is_some older) ≡ true
      → (maker || is_some (value_after (only_if t (Sets n)) older)) ≡ true
  still t true n older h = refl
  still true false n older h = refl
  still false false n older h = h

  traced : (v path : List ℕ) → held_at (objects_held b) v path ≡ Some id → (rows : Base) → IsBelow rows
      → last_of (held_effect v path) rows ≡ Some id → IsTraced rows
  traced v path there [] below h = absurd (cc)
  traced v path there (row ∷ older) below h = by row.deed (newest_deed row older below) h
      (traced v path there older (below_older row older below))
    where
      before : Option ℕ
      before = last_of (held_effect v path) older

      maker : Bool
      maker = held_by_maker b id (deed_at b id)

      winked : Option ℕ
      winked = last_of (winked_effect b id) older

      published : (w : List ℕ) (targets : List (List ℕ)) (script : List ℕ) (entries : List ReadOf) (outputs : List (List ℕ))
          (t : Bool) → deed_at b (size older) ≡ Some (deeds.Publish w targets script entries outputs)
          → (bytes_eq w v && is_target path targets) ≡ t → value_after (only_if t (Sets (size older))) before ≡ Some id
          → (before ≡ Some id → IsTraced older) → IsTraced older
      published w targets script entries outputs true at test is rest =
          let number : size older ≡ id = cc in
          let parts = and_parts (bytes_eq w v) (is_target path targets) test in
          or_left maker (is_some winked) (ap (held_by_maker b id) (ap (deed_at b) (sym number) ∙ at)
          ∙ holds_target v path w targets there parts.0 parts.1)
      published w targets script entries outputs false at test is rest = rest is

      winks : (w : List ℕ) (other : ℕ) (t : Bool) → (bytes_eq w v && is_target path (targets_of older other)) ≡ t
          → value_after (only_if t (Sets other)) before ≡ Some id → (before ≡ Some id → IsTraced older)
          → (maker || is_some (value_after (only_if ((other == id) && holds_one b w id (targets_of older other)) (Sets other))
          winked)) ≡ true
      winks w other true test is rest =
          let number : other ≡ id = cc in
          let one : (other == id) ≡ true = grind (arith, nat_tests) in
          let parts = and_parts (bytes_eq w v) (is_target path (targets_of older other)) test in
          let holds = holds_target v path w (targets_of older other) there parts.0 parts.1 in
          or_right maker (is_some (value_after (only_if ((other == id) && holds_one b w id (targets_of older other))
          (Sets other)) winked))
          (ap (λ here. is_some (value_after (only_if (here && holds_one b w id (targets_of older other)) (Sets other)) winked))
          one
          ∙ ap (λ here. is_some (value_after (only_if here (Sets other)) winked)) holds)
      winks w other false test is rest = still ((other == id) && holds_one b w id (targets_of older other)) maker other winked
          (rest is)

      by : (deed : Deed) → deed_at b (size older) ≡ Some deed → value_after (held_effect v path older deed) before ≡ Some id
          → (before ≡ Some id → IsTraced older)
          → (maker || is_some (value_after (winked_effect b id older deed) winked)) ≡ true
      by (deeds.Rmview w) at is rest = rest (ends (bytes_eq w v) before is)
      by (deeds.Publish w targets script entries outputs) at is rest =
          published w targets script entries outputs (bytes_eq w v && is_target path targets) at refl is rest
      by (deeds.Wink w other) at is rest = winks w other (bytes_eq w v && is_target path (targets_of older other)) refl is rest
      by (deeds.Drop w q) at is rest = rest (drops (bytes_eq w v && bytes_eq q path) before is)
      by deed at is rest = rest is

  one_way : is_held (objects_held b) id ≡ true → IsTraced b
  one_way is =
      let found = found_in (objects_held b) id (test_from (is_sorted view_path_cmp (objects_held b)) (held_in_order b)) is in
      traced found.at.0 found.at.1 found.is b (record { same = λ n deed here. here }) (sym (held_by_last b found.at.0 found.at.1)
      ∙ found.is)

  other_way : (maker winked : Bool) → held_by_maker b id (deed_at b id) ≡ maker
      → is_some (last_of (winked_effect b id) b) ≡ winked → (maker || winked) ≡ true → is_held (objects_held b) id ≡ true
  other_way true winked made w h = maker_held (deed_at b id) made
  other_way false winked made w h = wink_held b (w ∙ h)

  same_test : (one two : Bool) → (one ≡ true → two ≡ true) → (two ≡ true → one ≡ true) → one ≡ two
  same_test true two there back = sym (there refl)
  same_test false true there back = back refl
  same_test false false there back = refl

  -- An object is held where its maker or one that winked it in holds it.
  pub held_somewhere : (held_by_maker b id (deed_at b id) || is_some (last_of (winked_effect b id) b))
      ≡ is_held (objects_held b) id
  held_somewhere =
      same_test (held_by_maker b id (deed_at b id) || is_some (last_of (winked_effect b id) b)) (is_held (objects_held b) id)
      (other_way (held_by_maker b id (deed_at b id)) (is_some (last_of (winked_effect b id) b)) refl refl) one_way
