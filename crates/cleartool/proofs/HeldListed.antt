-- The objects that a view holds, told path by path.
use Rattle.std.proofs.Common.{◌≡◌, ℕ, Bool, true, false, cond, ◌&&◌, ◌||◌, List, [], ◌∷◌, ◌++◌, Option, Some, None, length, map}
use Rattle.std.proofs.Common.{◌<◌, ◌≤◌, refl, ap, ap₂, sym, subst, ◌∙◌, arith, bytes_eq}
use Rattle.std.specs.Prelude.{T, is_some, nat_le}
use Rattle.std.specs.Cmp.Lexicographic.{slice_cmp}
use Rattle.std.specs.FinMap.Entries.{below_all, find, is_sorted}
use Rattle.std.specs.List.{concat}
use Rattle.std.specs.List.Sorted.{IsStrictlySortedBy}
use Rattle.std.specs.Option.{option_map_or}
use Rattle.std.specs.Ordering.{is_lt, nat_cmp, ordering_then}
use Rattle.std.specs.declared.cmp.Ordering.TheVariants.{Equal}
use Rattle.std.specs.Cmp.{tied_itself}
use Rattle.std.proofs.lemmas.Bool.Decides.{nat_tests}
use Rattle.std.proofs.lemmas.Cmp.{nat_list_cmp_total, nat_list_eq_equiv}
use Rattle.std.proofs.lemmas.Map.Text.{is_eq-slice_cmp}
use Rattle.std.proofs.lemmas.Bool.{and_parts, or_left, or_right}
use Rattle.cc_names.specs.Last.{Keeps, Ends, Sets, only_if, value_after}
use Rattle.cc_names.specs.References.{ReferencesByPath, held_at, view_path_cmp}
use Rattle.cc_names.specs.Versions.{put_if}
use Rattle.cc_names.specs.declared.rows.Deed.{Deed}
use Rattle.cc_names.specs.declared.rows.Deed.TheVariants as deeds
use Rattle.base_model.specs.Changes.{objects_held, targets_of, targets_of_deed}
use Rattle.base_model.specs.Closures.{is_path_among}
use Rattle.cc_names.specs.declared.rows.ReadOf.{ReadOf}
use Rattle.cc_names.proofs.Common.{test_first, test_second, test_both, test_from, same_bytes}
use Rattle.base_model.specs.Rows.{Base, size, deed_of}
use Rattle.legal_history.specs.Queries.DirectoryTexts.{held_line, held_lines, lsdo_text}
use Rattle.base_model.proofs.HeldObjects.{held_in_order}
use Rattle.base_rows.specs.Made.{is_target}
use Rattle.base_rows.specs.LookUps.{last_of}
use Rattle.base_rows.specs.Giving.{gives_view}
use Rattle.cleartool.specs.Owned.{paths_given, was_given}
use Rattle.base_rows.specs.Lifetimes.{ended_or}
use Rattle.view_lookup.proofs.GivenRows.{AreDeeds, deeds_below}
use Rattle.base_rows.proofs.Holdings.{held_by_last, held_effect, same_view_path}
use Rattle.base_rows.proofs.Newest.{no_later}
use Rattle.cleartool.specs.HeldObjects.{held_line_at}
use Rattle.view_lookup.proofs.ByKeys.{by_keys, reported, text_of_key}

-- ---- the objects of a view alone

-- the objects that a view holds, by their paths
abbrev own : List ℕ → ReferencesByPath → List (List ℕ × ℕ)
own v [] = []
own v (entry ∷ objects_held) = put_if (bytes_eq entry.0.0 v) (entry.0.1, entry.1) (own v objects_held)

abbrev own_line : ReferencesByPath → List ℕ → List ℕ → ℕ → List ℕ
own_line all v path id = held_line all v true path id

lines_own : (all : ReferencesByPath) (v : List ℕ) (objects_held : ReferencesByPath)
    → held_lines all v objects_held ≡ concat (map (reported (own_line all v)) (own v objects_held))
lines_own all v [] = refl
lines_own all v (entry ∷ objects_held) = by (bytes_eq entry.0.0 v) (lines_own all v objects_held)
  where
    by : (t : Bool) → held_lines all v objects_held ≡ concat (map (reported (own_line all v)) (own v objects_held)) →
        held_line all v t entry.0.1 entry.1 ++ held_lines all v objects_held
        ≡ concat (map (reported (own_line all v)) (put_if t (entry.0.1, entry.1) (own v objects_held)))
    by true rest = ap (λ (bytes : List ℕ). held_line all v true entry.0.1 entry.1 ++ bytes) rest
    by false rest = rest

own_at : (v path : List ℕ) (objects_held : ReferencesByPath) → find (slice_cmp nat_cmp) path (own v objects_held)
    ≡ held_at objects_held v path
own_at v path [] = refl
own_at v path (entry ∷ objects_held) =
    by (bytes_eq entry.0.0 v) (own_at v path objects_held)
    ∙ sym (ap (λ t. cond t (Some entry.1) (held_at objects_held v path)) (same_view_path v path entry.0.0 entry.0.1))
  where
    by : (t : Bool) → find (slice_cmp nat_cmp) path (own v objects_held) ≡ held_at objects_held v path →
        find (slice_cmp nat_cmp) path (put_if t (entry.0.1, entry.1) (own v objects_held))
        ≡ cond (t && bytes_eq entry.0.1 path) (Some entry.1) (held_at objects_held v path)
    by true rest = ap₂ (λ (t : Bool) (found : Option ℕ). cond t (Some entry.1) found) (is_eq-slice_cmp path entry.0.1
        ∙ nat_list_eq_equiv.symm path entry.0.1) rest
    by false rest = rest

-- what lies after a view path of the view lies after its path
own_below : (v path : List ℕ) (objects_held : ReferencesByPath) → T (below_all view_path_cmp (v, path) objects_held)
    → T (below_all (slice_cmp nat_cmp) path (own v objects_held))
own_below v path [] h = tt
own_below v path (entry ∷ objects_held) h = by (bytes_eq entry.0.0 v) refl (own_below v path objects_held (test_second _ _ h))
  where
    by : (t : Bool) → bytes_eq entry.0.0 v ≡ t → T (below_all (slice_cmp nat_cmp) path (own v objects_held))
        → T (below_all (slice_cmp nat_cmp) path (put_if t (entry.0.1, entry.1) (own v objects_held)))
    by true same rest =
        let ties : slice_cmp nat_cmp v entry.0.0 ≡ Equal = ap (slice_cmp nat_cmp v) (same_bytes entry.0.0 v same)
        ∙ tied_itself nat_list_cmp_total v in
        test_both (is_lt (slice_cmp nat_cmp path entry.0.1)) (below_all (slice_cmp nat_cmp) path (own v objects_held))
        (subst (λ o. T (is_lt (ordering_then o (slice_cmp nat_cmp path entry.0.1)))) ties (test_first _ _ h)) rest
    by false other rest = rest

own_sorted : (v : List ℕ) (objects_held : ReferencesByPath) → T (is_sorted view_path_cmp objects_held)
    → T (is_sorted (slice_cmp nat_cmp) (own v objects_held))
own_sorted v [] h = tt
own_sorted v (entry ∷ objects_held) h = by (bytes_eq entry.0.0 v) refl (own_sorted v objects_held (test_second _ _ h))
  where
    by : (t : Bool) → bytes_eq entry.0.0 v ≡ t → T (is_sorted (slice_cmp nat_cmp) (own v objects_held))
        → T (is_sorted (slice_cmp nat_cmp) (put_if t (entry.0.1, entry.1) (own v objects_held)))
    by true same rest =
        test_both (below_all (slice_cmp nat_cmp) entry.0.1 (own v objects_held))
        (is_sorted (slice_cmp nat_cmp) (own v objects_held))
        (own_below v entry.0.1 objects_held (subst (λ w. T (below_all view_path_cmp (w, entry.0.1) objects_held))
        (same_bytes entry.0.0 v same) (test_first _ _ h))) rest
    by false other rest = rest

-- ---- each of them was given to the view by a row

among_targets : (path : List ℕ) (targets : List (List ℕ)) → is_target path targets ≡ is_path_among path targets
among_targets path [] = refl
among_targets path (target ∷ targets) = ap₂ (λ (one more : Bool). one || more) (nat_list_eq_equiv.symm target path)
    (among_targets path targets)

ends : (t : Bool) (id : ℕ) (older : Option ℕ) → value_after (ended_or (only_if t Ends) Keeps) older ≡ Some id → older ≡ Some id
ends true id older h = absurd (cc)
ends false id older h = h

drops : (t : Bool) (id : ℕ) (older : Option ℕ) → value_after (only_if t Ends) older ≡ Some id → older ≡ Some id
drops true id older h = absurd (cc)
drops false id older h = h

-- the targets of an object of some rows of a base are those in the base
targets_stay : (b rows : Base) (id : ℕ) (path : List ℕ) → AreDeeds b rows → is_target path (targets_of rows id) ≡ true
    → is_path_among path (targets_of b id) ≡ true
targets_stay b rows id path agree is = by (nat_le id (length rows)) refl
  where
    by : (t : Bool) → nat_le id (length rows) ≡ t → is_path_among path (targets_of b id) ≡ true
    by true low =
        let within : id ≤ length rows = grind (arith, nat_tests, low) in
        ap (λ deed. is_path_among path (targets_of_deed deed)) (agree id within) ∙ sym (among_targets path (targets_of rows id))
        ∙ is
    by false high =
        let later : length rows < id = grind (arith, nat_tests, high) in
        let none : is_target path (targets_of rows id) ≡ false = ap (λ row. is_target path (targets_of_deed (deed_of row)))
        (no_later rows id later) in
        absurd (cc (none, is))

given_at : (b : Base) (v path : List ℕ) (id : ℕ) (rows : Base) → AreDeeds b rows → last_of (held_effect v path) rows ≡ Some id
    → was_given b v path rows ≡ true
given_at b v path id [] agree h = absurd (cc)
given_at b v path id (row ∷ older) agree h = by row.deed refl h (given_at b v path id older (deeds_below b row older agree))
  where
    stays : was_given b v path older ≡ true → was_given b v path (row ∷ older) ≡ true
    stays rest = or_right (gives_view v row.deed && is_path_among path (paths_given b row.deed)) (was_given b v path older) rest

    here : (deed : Deed) → row.deed ≡ deed → gives_view v deed ≡ true → is_path_among path (paths_given b deed) ≡ true
        → was_given b v path (row ∷ older) ≡ true
    here deed same gives among =
        or_left (gives_view v row.deed && is_path_among path (paths_given b row.deed)) (was_given b v path older)
        (ap (λ d. gives_view v d && is_path_among path (paths_given b d)) same ∙ ap₂ (λ (one two : Bool). one && two) gives among)

    published : (x : List ℕ) (targets : List (List ℕ)) (script : List ℕ) (entries : List ReadOf) (outputs : List (List ℕ))
        (t : Bool) → row.deed ≡ deeds.Publish x targets script entries outputs
        → (bytes_eq x v && is_target path targets) ≡ t → value_after (only_if t (Sets (size older)))
        (last_of (held_effect v path) older) ≡ Some id
        → (last_of (held_effect v path) older ≡ Some id → was_given b v path older ≡ true)
        → was_given b v path (row ∷ older) ≡ true
    published x targets script entries outputs true same test is rest =
        let parts = and_parts (bytes_eq x v) (is_target path targets) test in
        here (deeds.Publish x targets script entries outputs) same parts.0 (sym (among_targets path targets) ∙ parts.1)
    published x targets script entries outputs false same test is rest = stays (rest is)

    winked : (x : List ℕ) (other : ℕ) (t : Bool) → row.deed ≡ deeds.Wink x other
        → (bytes_eq x v && is_target path (targets_of older other)) ≡ t
        → value_after (only_if t (Sets other)) (last_of (held_effect v path) older) ≡ Some id
        → (last_of (held_effect v path) older ≡ Some id → was_given b v path older ≡ true)
        → was_given b v path (row ∷ older) ≡ true
    winked x other true same test is rest =
        let parts = and_parts (bytes_eq x v) (is_target path (targets_of older other)) test in
        here (deeds.Wink x other) same parts.0 (targets_stay b older other path (deeds_below b row older agree) parts.1)
    winked x other false same test is rest = stays (rest is)

    by : (deed : Deed) → row.deed ≡ deed → value_after (held_effect v path older deed) (last_of (held_effect v path) older)
        ≡ Some id
        → (last_of (held_effect v path) older ≡ Some id → was_given b v path older ≡ true)
        → was_given b v path (row ∷ older) ≡ true
    by (deeds.Rmview x) same is rest = stays (rest (ends (bytes_eq x v) id (last_of (held_effect v path) older) is))
    by (deeds.Publish x targets script entries outputs) same is rest =
        published x targets script entries outputs (bytes_eq x v && is_target path targets) same refl is rest
    by (deeds.Wink x other) same is rest = winked x other (bytes_eq x v && is_target path (targets_of older other)) same refl is
        rest
    by (deeds.Drop x q) same is rest = stays (rest (drops (bytes_eq x v && bytes_eq q path) id
        (last_of (held_effect v path) older) is))
    by deed same is rest = stays (rest is)

-- a view was given each object that it holds
pub held_given : (b : Base) (v path : List ℕ) → is_some (held_at (objects_held b) v path) ≡ true → was_given b v path b ≡ true
held_given b v path is = by (held_at (objects_held b) v path) refl is
  where
    by : (found : Option ℕ) → held_at (objects_held b) v path ≡ found → is_some found ≡ true → was_given b v path b ≡ true
    by None e is = absurd (cc)
    by (Some id) e is = given_at b v path id b (λ n low. refl) (sym (held_by_last b v path) ∙ e)

-- ---- the text

same_map : {A B : Type 0} (f g : A → B) (xs : List A) → ((x : A) → f x ≡ g x) → map f xs ≡ map g xs
same_map f g [] same = refl
same_map f g (x ∷ xs) same = ap₂ (λ y ys. y ∷ ys) (same x) (same_map f g xs same)

-- The objects that the view holds are given by the paths at which it was given something.
pub lsdo_by_paths : (b : Base) (v : List ℕ) (paths : List (List ℕ)) → IsStrictlySortedBy (slice_cmp nat_cmp) paths
    → ((path : List ℕ) → is_path_among path paths ≡ was_given b v path b) →
    concat (map (held_line_at b v) paths) ≡ lsdo_text b v
lsdo_by_paths b v paths ordered given =
    let line : List ℕ → ℕ → List ℕ = own_line (objects_held b) v in
    let table = own v (objects_held b) in
    ap concat (same_map (held_line_at b v) (text_of_key line table) paths
    (λ path. ap (λ found. option_map_or (line path) found []) (sym (own_at v path (objects_held b)))))
    ∙ by_keys line paths table ordered (own_sorted v (objects_held b) (test_from _ (held_in_order b)))
    (λ path is. given path ∙ held_given b v path (sym (ap is_some (own_at v path (objects_held b))) ∙ is))
    ∙ sym (lines_own (objects_held b) v (objects_held b))
