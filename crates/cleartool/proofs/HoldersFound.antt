-- The views that hold an object are that of the row that made it and those whose winks took it in, as far as they hold it at one
-- of its targets; and each is counted once.
use Rattle.std.proofs.Common.{◌≡◌, ℕ, suc, Bool, true, false, cond, not, ◌&&◌, ◌||◌, ◌==◌, Option, Some, List, [], ◌∷◌, length}
use Rattle.std.proofs.Common.{refl, ap, ap₂, sym, ◌∙◌, arith, bytes_eq}
use Rattle.std.specs.Prelude.{T, is_some, option_and_then}
use Rattle.std.specs.Cmp.{tied_itself}
use Rattle.std.specs.Cmp.Lexicographic.{slice_cmp}
use Rattle.std.specs.FinMap.Entries.{find, is_sorted, below_all}
use Rattle.std.specs.List.{AllByRecursion, list_any}
use Rattle.std.specs.List.Sorted.{IsStrictlySortedBy}
use Rattle.std.specs.Ordering.{eq_by_cmp, is_eq, is_lt, nat_cmp, ordering_reverse}
use Rattle.std.specs.declared.cmp.Ordering.TheVariants.{Less, Greater}
use Rattle.std.proofs.lemmas.Bool.Decides.{nat_tests}
use Rattle.std.proofs.lemmas.Map.Text.{is_eq-slice_cmp}
use Rattle.std.proofs.lemmas.Bool.{and_parts, or_left, or_right}
use Rattle.cc_names.specs.Formed.{Plain}
use Rattle.cc_names.specs.Last.{Keeps, Ends, Sets, only_if, value_after}
use Rattle.cc_names.specs.References.{ReferencesByPath, ViewPath, count, held_at, is_held_by, view_path_cmp}
use Rattle.cc_names.specs.Versions.{is_number}
use Rattle.cc_names.specs.declared.rows.Deed.{Deed}
use Rattle.cc_names.specs.declared.rows.Deed.TheVariants as deeds
use Rattle.cc_names.specs.declared.rows.ReadOf.{ReadOf}
use Rattle.cc_names.proofs.Common.{or_either, same_test, same_bytes, bytes_equal_themselves, bytes_swapped, test_first}
use Rattle.cc_names.proofs.Common.{test_second, less_by_test, test_from}
use Rattle.base_model.specs.Changes.{objects_held, targets_of}
use Rattle.base_model.specs.Closures.{is_path_among}
use Rattle.base_model.specs.Rows.{Base, size, deed_at, only_where}
use Rattle.base_model.specs.Counts.{AreOnce, holding_views}
use Rattle.base_model.proofs.CountedViews.{among_holding, counted_by_views, views_once}
use Rattle.base_model.proofs.HeldObjects.{held_in_order, view_paths_total}
use Rattle.base_rows.specs.Effects.{holds_one, winked_effect}
use Rattle.base_rows.specs.Lifetimes.{ended_or}
use Rattle.base_rows.specs.LookUps.{last_of, update_by_row}
use Rattle.base_rows.specs.Made.{is_target}
use Rattle.view_lookup.specs.GivenNames.{is_name}
use Rattle.cleartool.specs.Owned.{maker_by, winker, winker_at}
use Rattle.base_rows.specs.Walks.{updating_rows}
use Rattle.view_lookup.proofs.GivenRows.{AreDeeds, any_put, deed_newest, deeds_below}
use Rattle.view_lookup.proofs.HeldSomewhere.{holds_target, number_of}
use Rattle.base_rows.proofs.Holdings.{held_by_last, held_effect, same_view_path}

-- ---- lists without repetition

-- a list without one of its members
without : List ℕ → List (List ℕ) → List (List ℕ)
without x [] = []
without x (y ∷ ys) = cond (bytes_eq x y) ys (y ∷ without x ys)

one_fewer : (x : List ℕ) (ys : List (List ℕ)) → is_path_among x ys ≡ true → length ys ≡ suc (length (without x ys))
unfolding without
one_fewer x [] is = absurd (cc)
one_fewer x (y ∷ ys) is = by (bytes_eq x y) refl is (one_fewer x ys)
  where
    by : (t : Bool) → bytes_eq x y ≡ t → (t || is_path_among x ys) ≡ true
        → (is_path_among x ys ≡ true → length ys ≡ suc (length (without x ys)))
        → suc (length ys) ≡ suc (length (cond t ys (y ∷ without x ys)))
    by true e is rest = refl
    by false e is rest = ap suc (rest is)

-- what is among the rest
among_rest : (x q : List ℕ) (ys : List (List ℕ)) → AreOnce ys → is_path_among q (without x ys)
    ≡ (not (bytes_eq q x) && is_path_among q ys)
unfolding without
among_rest x q [] once = none (bytes_eq q x)
  where
    none : (t : Bool) → false ≡ (not t && false)
    none true = refl
    none false = refl
among_rest x q (y ∷ ys) once = by (bytes_eq x y) refl (bytes_eq q x) refl (bytes_eq q y) refl (among_rest x q ys once.1)
  where
    by : (t : Bool) → bytes_eq x y ≡ t → (s : Bool) → bytes_eq q x ≡ s → (r : Bool) → bytes_eq q y ≡ r
        → is_path_among q (without x ys) ≡ (not (bytes_eq q x) && is_path_among q ys) →
        is_path_among q (cond t ys (y ∷ without x ys)) ≡ (not s && (r || is_path_among q ys))
    by true e true f r g rest =
        let one : q ≡ y = same_bytes q x f ∙ same_bytes x y e in
        ap (λ z. is_path_among z ys) one ∙ once.0
    by true e false f true g rest = absurd (cc (f, ap (bytes_eq q) (same_bytes x y e) ∙ g))
    by true e false f false g rest = refl
    by false e true f true g rest = absurd (cc (e, ap (λ z. bytes_eq z y) (sym (same_bytes q x f)) ∙ g))
    by false e true f false g rest = ap (λ z. z || is_path_among q (without x ys)) g ∙ rest
        ∙ ap (λ z. not z && is_path_among q ys) f
    by false e false f r g rest = ap₂ (λ z w. z || w) g (rest ∙ ap (λ z. not z && is_path_among q ys) f)

once_rest : (x : List ℕ) (ys : List (List ℕ)) → AreOnce ys → AreOnce (without x ys)
unfolding without
once_rest x [] once = tt
once_rest x (y ∷ ys) once = by (bytes_eq x y) (once_rest x ys once.1)
  where
    never : (t : Bool) → (t && false) ≡ false
    never true = refl
    never false = refl

    by : (t : Bool) → AreOnce (without x ys) → AreOnce (cond t ys (y ∷ without x ys))
    by true rest = once.1
    by false rest = (among_rest x y ys once.1 ∙ ap (λ z. not (bytes_eq y x) && z) once.0 ∙ never (not (bytes_eq y x)), rest)

-- two lists with the same members, each once, are as long
pub same_length : (xs ys : List (List ℕ)) → AreOnce xs → AreOnce ys → ((q : List ℕ) → is_path_among q xs ≡ is_path_among q ys)
    → length xs ≡ length ys
same_length [] [] one two same = refl
same_length [] (y ∷ ys) one two same = absurd (cc (
  same y,
  or_left (bytes_eq y y) (is_path_among y ys)
      (bytes_equal_themselves y),
))
same_length (x ∷ xs) ys one two same =
    let there : is_path_among x ys ≡ true = sym (same x) ∙ or_left (bytes_eq x x) (is_path_among x xs) (bytes_equal_themselves x)
    in
    ap suc (same_length xs (without x ys) one.1 (once_rest x ys two) (λ q. rest q (bytes_eq q x) refl
    ∙ sym (among_rest x q ys two)))
    ∙ sym (one_fewer x ys there)
  where
    rest : (q : List ℕ) (t : Bool) → bytes_eq q x ≡ t → is_path_among q xs ≡ (not (bytes_eq q x) && is_path_among q ys)
    rest q true e = ap (λ z. is_path_among z xs) (same_bytes q x e) ∙ one.0 ∙ sym (ap (λ z. not z && is_path_among q ys) e)
    rest q false e = sym (ap (λ z. z || is_path_among q xs) e) ∙ same q ∙ sym (ap (λ z. not z && is_path_among q ys) e)

-- names in order stand once
pub ordered_once : (names : List (List ℕ)) → IsStrictlySortedBy (slice_cmp nat_cmp) names → AreOnce names
unfolding IsStrictlySortedBy
ordered_once [] h = tt
ordered_once (name ∷ names) h = (apart names h.0, ordered_once names h.1)
  where
    apart : (others : List (List ℕ)) → AllByRecursion (λ y. slice_cmp nat_cmp name y ≡ Less) others
        → is_path_among name others ≡ false
    apart [] below = refl
    apart (other ∷ others) below = ap₂ (λ z w. z || w) (sym (is_eq-slice_cmp name other)
        ∙ ap is_eq below.0) (apart others below.1)

-- ---- who holds an object

-- what is found at a view's path is held by the view
found_held : (objects_held : ReferencesByPath) (w path : List ℕ) (id : ℕ) → held_at objects_held w path ≡ Some id
    → is_held_by objects_held w id ≡ true
found_held [] w path id is = absurd (cc)
found_held (entry ∷ objects_held) w path id is = by (eq_by_cmp view_path_cmp (w, path) entry.0) refl is
    (found_held objects_held w path id)
  where
    by : (t : Bool) → eq_by_cmp view_path_cmp (w, path) entry.0 ≡ t → cond t (Some entry.1) (held_at objects_held w path)
        ≡ Some id → (held_at objects_held w path ≡ Some id → is_held_by objects_held w id ≡ true) →
        ((bytes_eq entry.0.0 w && (entry.1 == id)) || is_held_by objects_held w id) ≡ true
    by true here found rest =
        let view : bytes_eq entry.0.0 w ≡ true = (and_parts (bytes_eq entry.0.0 w) (bytes_eq entry.0.1 path)
        (sym (same_view_path w path entry.0.0 entry.0.1) ∙ here)).0 in
        let number : entry.1 ≡ id = cc in
        let same : (entry.1 == id) ≡ true = grind (arith, nat_tests) in
        or_left (bytes_eq entry.0.0 w && (entry.1 == id)) (is_held_by objects_held w id) (ap₂ (λ (x y : Bool). x && y) view same)
    by false other found rest = or_right (bytes_eq entry.0.0 w && (entry.1 == id)) (is_held_by objects_held w id) (rest found)

-- a path of a view at which it holds an object, after all view paths that come before those of the table
record FoundBy (objects_held : ReferencesByPath) (w : List ℕ) (id : ℕ) : Type 0 where
  at : ViewPath
  by : bytes_eq at.0 w ≡ true
  is : find view_path_cmp at objects_held ≡ Some id
  behind : (q : ViewPath) → T (below_all view_path_cmp q objects_held) → view_path_cmp q at ≡ Less

found_by : (objects_held : ReferencesByPath) (w : List ℕ) (id : ℕ) → T (is_sorted view_path_cmp objects_held)
    → is_held_by objects_held w id ≡ true → FoundBy objects_held w id
found_by [] w id sorted h = absurd (cc)
found_by (entry ∷ objects_held) w id sorted h = by (bytes_eq entry.0.0 w && (entry.1 == id)) refl
    (found_by objects_held w id (test_second (below_all view_path_cmp entry.0 objects_held) (is_sorted view_path_cmp objects_held)
    sorted)) h
  where
    by : (t : Bool) → (bytes_eq entry.0.0 w && (entry.1 == id)) ≡ t → (is_held_by objects_held w id ≡ true
        → FoundBy objects_held w id) → (t || is_held_by objects_held w id) ≡ true → FoundBy (entry ∷ objects_held) w id
    by true here older is =
        let parts = and_parts (bytes_eq entry.0.0 w) (entry.1 == id) here in
        let same = parts.1 in
        let number : entry.1 ≡ id = grind (arith, nat_tests, same) in
        record {
          at = entry.0;
          by = parts.0;
          is = ap (λ o. cond (is_eq o) (Some entry.1) (find view_path_cmp entry.0 objects_held))
              (tied_itself view_paths_total entry.0) ∙ ap Some number;
          behind = λ q below. less_by_test (view_path_cmp q entry.0) (test_first (is_lt (view_path_cmp q entry.0))
              (below_all view_path_cmp q objects_held) below);
        }
    by false other older is =
        let there = older is in
        let later : view_path_cmp there.at entry.0 ≡ Greater =
        view_paths_total.antisymm there.at entry.0 ∙ ap ordering_reverse
        (there.behind entry.0 (test_first (below_all view_path_cmp entry.0 objects_held) (is_sorted view_path_cmp objects_held)
        sorted)) in
        record {
          at = there.at;
          by = there.by;
          is = ap (λ o. cond (is_eq o) (Some entry.1) (find view_path_cmp there.at objects_held)) later ∙ there.is;
          behind = λ q below. there.behind q (test_second (is_lt (view_path_cmp q entry.0))
              (below_all view_path_cmp q objects_held)
              below);
        }

module _ (b : Base) (id : ℕ) (w : List ℕ) where
  -- whether one of some winks is the view's
  abbrev winks : Base → Bool
  winks rows = list_any (λ n. is_name w (winker_at b n)) (updating_rows (winked_effect b id) rows)

  abbrev made : Option Deed → Bool
  made deed = is_name w (maker_by b id deed)

  one_held : (targets : List (List ℕ)) → holds_one b w id targets ≡ true → is_held_by (objects_held b) w id ≡ true
  one_held [] h = absurd (cc)
  one_held (target ∷ targets) h =
      or_either (is_number id (held_at (objects_held b) w target)) (holds_one b w id targets)
      (is_held_by (objects_held b) w id ≡ true) h
      (λ here. found_held (objects_held b) w target id (number_of b id (held_at (objects_held b) w target) here))
      (one_held targets)

  held_one : (v : List ℕ) (targets : List (List ℕ)) → bytes_eq w v ≡ true → holds_one b v id targets ≡ true
      → is_held_by (objects_held b) w id ≡ true
  held_one v targets same h = one_held targets (ap (λ x. holds_one b x id targets) (same_bytes w v same) ∙ h)

  made_held : (deed : Option Deed) → made deed ≡ true → is_held_by (objects_held b) w id ≡ true
  made_held (Some (deeds.Publish v targets script entries outputs)) h = by (holds_one b v id targets) refl h
    where
      by : (t : Bool) → holds_one b v id targets ≡ t → is_name w (only_where t (Some v)) ≡ true
          → is_held_by (objects_held b) w id ≡ true
      by true holds is = held_one v targets is holds
      by false none is = absurd (cc)
  made_held deed h = absurd (cc)

  winks_held : (rows : Base) → AreDeeds b rows → winks rows ≡ true → is_held_by (objects_held b) w id ≡ true
  winks_held [] agree h = absurd (cc)
  winks_held (row ∷ older) agree h = by row.deed (deed_newest b row older agree)
      (winks_held older (deeds_below b row older agree))
      (sym (any_put (λ n. is_name w (winker_at b n)) (is_some (update_by_row (size older) (winked_effect b id older row.deed)))
      (size older) (updating_rows (winked_effect b id) older)) ∙ h)
    where
      here : (v : List ℕ) (other : ℕ) (t : Bool) → ((other == id) && holds_one b v id (targets_of older other)) ≡ t
          → deed_at b (size older) ≡ Some (deeds.Wink v other) →
          (is_some (update_by_row (size older) (only_if t (Sets other))) && is_name w (winker_at b (size older))) ≡ true
          → is_held_by (objects_held b) w id ≡ true
      here v other true test at is =
          held_one v (targets_of older other) (sym (ap (λ deed. is_name w (option_and_then winker deed)) at)
          ∙ is) (and_parts (other == id) (holds_one b v id (targets_of older other)) test).1
      here v other false test at is = absurd (cc)

      by : (deed : Deed) → deed_at b (size older) ≡ Some deed → (winks older ≡ true → is_held_by (objects_held b) w id ≡ true) →
          ((is_some (update_by_row (size older) (winked_effect b id older deed)) && is_name w (winker_at b (size older)))
          || winks older) ≡ true → is_held_by (objects_held b) w id ≡ true
      by (deeds.Wink v other) at rest is =
          or_either (is_some (update_by_row (size older) (winked_effect b id older (deeds.Wink v other)))
          && is_name w (winker_at b (size older))) (winks older) (is_held_by (objects_held b) w id ≡ true) is
          (here v other ((other == id) && holds_one b v id (targets_of older other)) refl at) rest
      by deed at rest is = rest is

  -- the other way round
  ends : (t : Bool) (older : Option ℕ) → value_after (ended_or (only_if t Ends) Keeps) older ≡ Some id → older ≡ Some id
  ends true older h = absurd (cc)
  ends false older h = h

  drops : (t : Bool) (older : Option ℕ) → value_after (only_if t Ends) older ≡ Some id → older ≡ Some id
  drops true older h = absurd (cc)
  drops false older h = h

  more_winks : (row : Plain) (older : Base) → winks older ≡ true → winks (row ∷ older) ≡ true
  more_winks row older h =
      any_put (λ n. is_name w (winker_at b n)) (is_some (update_by_row (size older) (winked_effect b id older row.deed)))
      (size older) (updating_rows (winked_effect b id) older)
      ∙ or_right (is_some (update_by_row (size older) (winked_effect b id older row.deed))
      && is_name w (winker_at b (size older))) (winks older) h

  -- whether the view made the object, or winked it in by one of some rows
  abbrev IsTraced : Base → Type 0
  IsTraced rows = (made (deed_at b id) || winks rows) ≡ true

  still : (row : Plain) (older : Base) → IsTraced older → IsTraced (row ∷ older)
  still row older h = by (made (deed_at b id)) refl h
    where
      by : (m : Bool) → made (deed_at b id) ≡ m → (m || winks older) ≡ true → (made (deed_at b id) || winks (row ∷ older)) ≡ true
      by true e h = or_left (made (deed_at b id)) (winks (row ∷ older)) e
      by false e h = or_right (made (deed_at b id)) (winks (row ∷ older)) (more_winks row older h)

  traced : (v path : List ℕ) → bytes_eq v w ≡ true → held_at (objects_held b) v path ≡ Some id → (rows : Base) → AreDeeds b rows
      → last_of (held_effect v path) rows ≡ Some id → IsTraced rows
  traced v path view there [] agree h = absurd (cc)
  traced v path view there (row ∷ older) agree h = by row.deed refl (deed_newest b row older agree) h
      (traced v path view there older (deeds_below b row older agree))
    where
      before : Option ℕ
      before = last_of (held_effect v path) older

      published : (x : List ℕ) (targets : List (List ℕ)) (script : List ℕ) (entries : List ReadOf) (outputs : List (List ℕ))
          (t : Bool) → deed_at b (size older) ≡ Some (deeds.Publish x targets script entries outputs)
          → (bytes_eq x v && is_target path targets) ≡ t → value_after (only_if t (Sets (size older)))
          (last_of (held_effect v path) older) ≡ Some id → (last_of (held_effect v path) older ≡ Some id → IsTraced older)
          → IsTraced (row ∷ older)
      published x targets script entries outputs true at test is rest =
          let number : size older ≡ id = cc in
          let parts = and_parts (bytes_eq x v) (is_target path targets) test in
          let mine : bytes_eq w x ≡ true = bytes_swapped x w true (ap (bytes_eq x) (sym (same_bytes v w view)) ∙ parts.0) in
          or_left (made (deed_at b id)) (winks (row ∷ older))
          (ap made (ap (deed_at b) (sym number) ∙ at) ∙ ap (λ t. is_name w (only_where t (Some x)))
          (holds_target b id v path x targets there parts.0 parts.1) ∙ mine)
      published x targets script entries outputs false at test is rest = still row older (rest is)

      winked : (x : List ℕ) (other : ℕ) (t : Bool) → row.deed ≡ deeds.Wink x other
          → deed_at b (size older) ≡ Some (deeds.Wink x other)
          → (bytes_eq x v && is_target path (targets_of older other)) ≡ t
          → value_after (only_if t (Sets other)) (last_of (held_effect v path) older) ≡ Some id
          → (last_of (held_effect v path) older ≡ Some id → IsTraced older) → IsTraced (row ∷ older)
      winked x other true deed at test is rest =
          let number : other ≡ id = cc in
          let one : (other == id) ≡ true = grind (arith, nat_tests) in
          let parts = and_parts (bytes_eq x v) (is_target path (targets_of older other)) test in
          let holds = holds_target b id v path x (targets_of older other) there parts.0 parts.1 in
          let mine : bytes_eq w x ≡ true = bytes_swapped x w true (ap (bytes_eq x) (sym (same_bytes v w view)) ∙ parts.0) in
          let does : is_some (update_by_row (size older) (winked_effect b id older row.deed)) ≡ true =
          ap (λ d. is_some (update_by_row (size older) (winked_effect b id older d))) deed
          ∙ ap₂ (λ (t u : Bool). is_some (update_by_row (size older) (only_if (t && u) (Sets other)))) one holds in
          let own : is_name w (winker_at b (size older)) ≡ true = ap (λ d. is_name w (option_and_then winker d)) at ∙ mine in
          or_right (made (deed_at b id)) (winks (row ∷ older))
          (any_put (λ n. is_name w (winker_at b n)) (is_some (update_by_row (size older) (winked_effect b id older row.deed)))
          (size older) (updating_rows (winked_effect b id) older)
          ∙ or_left (is_some (update_by_row (size older) (winked_effect b id older row.deed))
          && is_name w (winker_at b (size older))) (winks older) (ap₂ (λ (t u : Bool). t && u) does own))
      winked x other false deed at test is rest = still row older (rest is)

      by : (deed : Deed) → row.deed ≡ deed → deed_at b (size older) ≡ Some row.deed
          → value_after (held_effect v path older deed) (last_of (held_effect v path) older) ≡ Some id
          → (last_of (held_effect v path) older ≡ Some id → IsTraced older) → IsTraced (row ∷ older)
      by (deeds.Rmview x) deed at is rest = still row older (rest (ends (bytes_eq x v) (last_of (held_effect v path) older) is))
      by (deeds.Publish x targets script entries outputs) deed at is rest =
          published x targets script entries outputs (bytes_eq x v && is_target path targets) (at ∙ ap Some deed) refl is rest
      by (deeds.Wink x other) deed at is rest = winked x other (bytes_eq x v && is_target path (targets_of older other)) deed (at
          ∙ ap Some deed) refl is rest
      by (deeds.Drop x q) deed at is rest = still row older (rest (drops (bytes_eq x v && bytes_eq q path)
          (last_of (held_effect v path) older) is))
      by deed same at is rest = still row older (rest is)

  pub holder_found : (made (deed_at b id) || winks b) ≡ is_held_by (objects_held b) w id
  holder_found =
      same_test (made (deed_at b id) || winks b) (is_held_by (objects_held b) w id)
      (λ h. or_either (made (deed_at b id)) (winks b) (is_held_by (objects_held b) w id ≡ true) h (made_held (deed_at b id))
      (winks_held b (λ n low. refl)))
      (λ is.
      let found = found_by (objects_held b) w id (test_from (is_sorted view_path_cmp (objects_held b)) (held_in_order b)) is in
      traced found.at.0 found.at.1 found.by found.is b (λ n low. refl) (sym (held_by_last b found.at.0 found.at.1) ∙ found.is))

-- Views in order that are those which hold the object are as many as hold it.
pub holders_counted : (b : Base) (id : ℕ) (views : List (List ℕ)) → IsStrictlySortedBy (slice_cmp nat_cmp) views
    → ((w : List ℕ) → is_path_among w views ≡ is_held_by (objects_held b) w id) → length views ≡ count (objects_held b) id
holders_counted b id views ordered same =
    same_length views (holding_views (objects_held b) id) (ordered_once views ordered) (views_once (objects_held b) id)
    (λ w. same w ∙ sym (among_holding (objects_held b) w id))
    ∙ sym (counted_by_views (objects_held b) id)
