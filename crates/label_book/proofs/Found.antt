-- What a look-up finds: a label by its name, and a label on an element by the label's place.
use Rattle.std.proofs.Common.{◌≡◌, ◌≢◌, ℕ, ◌<◌, Bool, true, false, ◌&&◌, ◌||◌, eqb, List, [], ◌∷◌, length, get_or, position}
use Rattle.std.proofs.Common.{Option, Some, None, is_some, IfSome, IfNone, refl, inl, inr, zero, suc, sym, ap, ◌∙◌, arith}
use Rattle.std.specs.Bool.{Decides}
use Rattle.std.specs.Str.{bytes_eq}
use Rattle.std.specs.List.{IsDistinct, AllPairs, list_any}
use Rattle.std.specs.Map.{keys_of, lookup}
use Rattle.std.proofs.lemmas.Bool.{cases_lt, cases_eq, cases_Bool, and_parts}
use Rattle.std.proofs.lemmas.Bool.Decides.{Decides-eqb}
use Rattle.std.proofs.lemmas.List.{get_or-map, length-map}
use Rattle.std.proofs.lemmas.List.Quantifiers.{position-Some}
use Rattle.std.proofs.lemmas.Map.Made.{AllPairs-from_IsDistinct, is_some-lookup}
use Rattle.std.proofs.lemmas.Slice.Eq.{bytes_eq-Decides}
use Rattle.label_book.specs.Holding.{MovesByPlace, is_pair, is_same_label, held_among, all_held, AreNamed, IsPlaceOfLabel}
use Rattle.label_book.specs.Holding.{IsPlaceOf, HasNoPlace}
use Rattle.label_book.specs.declared.held.LabelOn.{LabelOn}
use Rattle.label_book.proofs.Newest.{is_itself}
use Rattle.label_book.proofs.Pairs.{pair_is}

-- what differs from all others stands at one place
alone_at : {X : Type 0} (xs : List X) (p k : ℕ) (d : X) → AllPairs (λ x y. x ≢ y) xs → p < length xs → k < length xs
    → get_or xs p d ≡ get_or xs k d → k ≢ p → ⊥
alone_at xs p k d differ p_within k_within same apart = elim (cases_lt p k) [
  | inl before ↦ differ p k d before k_within same
  | inr behind ↦ differ k p d (omega arith) p_within (sym same)
]

-- where no item passes a test, each fails it
pub each_fails : {X : Type 0} (test : X → Bool) (xs : List X) → list_any test xs ≡ false → (k : ℕ) (d : X) → k < length xs
    → test (get_or xs k d) ≡ false
each_fails test [] none k d within = absurd (omega arith)
each_fails test (x ∷ xs) none zero d within = (neither (test x) (list_any test xs) none).0
  where
    neither : (a b : Bool) → (a || b) ≡ false → (a ≡ false) × (b ≡ false)
    neither true b none = cc
    neither false b none = (refl, none)
each_fails test (x ∷ xs) none (suc k) d within = each_fails test xs (rest (test x) (list_any test xs) none) k d (omega arith)
  where
    rest : (a b : Bool) → (a || b) ≡ false → b ≡ false
    rest true b none = cc
    rest false b none = none

-- where each key fails a test, nothing is found
no_lookup : (test : LabelOn → Bool) (entries : List MovesByPlace) → ((k : ℕ) (d : MovesByPlace) → k < length entries
    → test (get_or entries k d).0 ≡ false) → lookup test entries ≡ None
no_lookup test [] fails = refl
no_lookup test (entry ∷ entries) fails = rw (fails 0 entry (omega arith))
    (no_lookup test entries (λ k d within. fails (suc k) d (omega arith)))

-- a label by its name
pub label_found : (l : List ℕ) (names : List (List ℕ)) (n : ℕ) → position (bytes_eq l) names ≡ Some n → IsPlaceOfLabel l names n
label_found l names n found =
    let (within, is, before) = position-Some (bytes_eq l) names n [] found in
    record { within = within; is = sym ((bytes_eq-Decides l (get_or names n [])).0 is) }

-- a label without a place stands on no element
pub label_absent : (l : List ℕ) (e : ℕ) (names : List (List ℕ)) (entries : List MovesByPlace) → AreNamed names entries
    → list_any (bytes_eq l) names ≡ false → HasNoPlace l e (all_held names entries)
label_absent l e names entries named none = record {
  none = λ k d within.
      let f : MovesByPlace = (record { label = 0; element = 0 }, d.moves) in
      let in_range : k < length entries = omega (arith, length-map entries (held_among names)) in
      let entry = get_or entries k f in
      let fails : bytes_eq l (get_or names entry.0.label []) ≡ false =
      each_fails (bytes_eq l) names none entry.0.label [] (named k f in_range) in
      rw (get_or-map (held_among names) entries k f d in_range) (ap (λ t. t && eqb e entry.0.element) fails);
}

-- the same label on the same element is the same key
decides : (one two : LabelOn) → Decides (is_same_label one two) (one ≡ two)
decides one two = (
  λ is.
      let (labels, elements) = and_parts (eqb one.label two.label) (eqb one.element two.element) is in
      ap (λ m. record { label = m; element = one.element }) ((Decides-eqb one.label two.label).0 labels)
      ∙ ap (λ m. record { label = two.label; element = m }) ((Decides-eqb one.element two.element).0 elements),
  λ is. rw is (rw ((Decides-eqb two.label two.label).1 refl) ((Decides-eqb two.element two.element).1 refl)),
)

module _ (names : List (List ℕ)) (apart : IsDistinct bytes_eq names) (entries : List MovesByPlace)
    (named : AreNamed names entries) (l : List ℕ) (e n : ℕ) (place : IsPlaceOfLabel l names n) where
  -- an entry is about the label on the element where its key is that
  key_of_pair : (entry : MovesByPlace) → entry.0.label < length names → is_pair l e (held_among names entry) ≡ true
      → is_same_label (record { label = n; element = e }) entry.0 ≡ true
  key_of_pair entry within is =
      let (label, element) = pair_is l e (held_among names entry) is in
      let there : get_or names n [] ≡ get_or names entry.0.label [] = place.is ∙ label in
      let differ = AllPairs-from_IsDistinct bytes_eq-Decides names apart in
      let number : n ≡ entry.0.label = elim (cases_eq entry.0.label n) [
        | inl is ↦ sym is
        | inr other ↦ absurd (alone_at names n entry.0.label [] differ place.within within there other)
      ] in
      (decides (record { label = n; element = e }) entry.0).1
      (ap (λ m. record { label = m; element = e }) number ∙ ap (λ m. record { label = entry.0.label; element = m }) element)

  pair_of_key : (entry : MovesByPlace) → is_same_label (record { label = n; element = e }) entry.0 ≡ true
      → is_pair l e (held_among names entry) ≡ true
  pair_of_key entry is =
      let key = (decides (record { label = n; element = e }) entry.0).0 is in
      let label : l ≡ get_or names entry.0.label [] = sym place.is ∙ ap (λ (k : LabelOn). get_or names k.label []) key in
      ap (λ k. bytes_eq l k && eqb e entry.0.element) (sym label) ∙ ap (λ m. bytes_eq l l && eqb e m)
      (sym (ap (λ (k : LabelOn). k.element) key)) ∙ is_itself l e

  found_at : (p : ℕ) → position (is_same_label (record { label = n; element = e })) (keys_of entries) ≡ Some p
      → IsDistinct is_same_label (keys_of entries) → IsPlaceOf l e (all_held names entries) p
  found_at p found distinct =
      let key : LabelOn = record { label = n; element = e } in
      let (within, is, before) = position-Some (is_same_label key) (keys_of entries) p key found in
      let in_range : p < length entries = omega (arith, length-map entries (λ (entry : MovesByPlace). entry.0)) in
      let key_at : (k : ℕ) (f : MovesByPlace) → k < length entries → get_or (keys_of entries) k key ≡ (get_or entries k f).0 =
      λ k f lt. get_or-map (λ (entry : MovesByPlace). entry.0) entries k f key lt in
      record {
        within = omega (arith, length-map entries (held_among names));
        is = λ d.
            let f : MovesByPlace = (key, d.moves) in
            rw (get_or-map (held_among names) entries p f d in_range) (pair_of_key (get_or entries p f)
            (rw (key_at p f in_range) at is));
        alone = λ k d lt apart.
            let f : MovesByPlace = (key, d.moves) in
            let k_in_range : k < length entries = omega (arith, length-map entries (held_among names)) in
            let entry = get_or entries k f in
            rw (get_or-map (held_among names) entries k f d k_in_range)
            (elim (cases_Bool (is_pair l e (held_among names entry))) [
              | inl pair ↦
                  let one : key ≡ get_or (keys_of entries) p key = (decides key (get_or (keys_of entries) p key)).0 is in
                  let two : key ≡ entry.0 = (decides key entry.0).0 (key_of_pair entry (named k f k_in_range) pair) in
                  absurd (alone_at (keys_of entries) p k key (AllPairs-from_IsDistinct decides (keys_of entries) distinct) within
                  (omega (arith, length-map entries (λ (entry : MovesByPlace). entry.0))) (sym one ∙ two
                  ∙ sym (key_at k f k_in_range)) apart)
              | inr fails ↦ fails
            ]);
      }

  -- the answer of a look-up
  pub found : (r : Option ℕ) → r ≡ position (is_same_label (record { label = n; element = e })) (keys_of entries)
      → IsDistinct is_same_label (keys_of entries) → IfSome r (IsPlaceOf l e (all_held names entries))
  found None is distinct = tt
  found (Some p) is distinct = found_at p (sym is) distinct

  pub absent : (r : Option ℕ) → is_some r ≡ is_some (lookup (is_same_label (record { label = n; element = e })) entries)
      → IfNone r (HasNoPlace l e (all_held names entries))
  absent (Some p) is = tt
  absent None is = record {
    none = λ k d within.
        let key : LabelOn = record { label = n; element = e } in
        let f : MovesByPlace = (key, d.moves) in
        let in_range : k < length entries = omega (arith, length-map entries (held_among names)) in
        let entry = get_or entries k f in
        let lacks : list_any (is_same_label key) (keys_of entries) ≡ false = sym (is_some-lookup (is_same_label key) entries)
        ∙ sym is in
        let fails : is_same_label key entry.0 ≡ false =
        ap (is_same_label key) (sym (get_or-map (λ (entry : MovesByPlace). entry.0) entries k f key in_range))
        ∙ each_fails (is_same_label key) (keys_of entries) lacks k key
        (omega (arith, length-map entries (λ (entry : MovesByPlace). entry.0))) in
        rw (get_or-map (held_among names) entries k f d in_range) (elim (cases_Bool (is_pair l e (held_among names entry))) [
          | inl pair ↦ cc (key_of_pair entry (named k f in_range) pair)
          | inr is_not ↦ is_not
        ]);
  }

  -- a pair that stands nowhere has no key
  pub no_key : HasNoPlace l e (all_held names entries) → lookup (is_same_label (record { label = n; element = e })) entries ≡ None
  no_key nowhere = no_lookup (is_same_label (record { label = n; element = e })) entries (λ k d within.
      let entry = get_or entries k d in
      let in_range : k < length (all_held names entries) = omega (arith, length-map entries (held_among names)) in
      let fails : is_pair l e (held_among names entry) ≡ false =
      ap (is_pair l e) (sym (get_or-map (held_among names) entries k d (held_among names d) within))
      ∙ nowhere.none k (held_among names d) in_range in
      elim (cases_Bool (is_same_label (record { label = n; element = e }) entry.0)) [
        | inl is ↦ cc (pair_of_key entry is)
        | inr is_not ↦ is_not
      ])
