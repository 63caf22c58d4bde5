-- What is known of the entries of a table in order, key by key: keys in order tell the same, where each key of the table is among
-- them.
use Rattle.std.proofs.Common.{◌≡◌, ℕ, Bool, true, false, cond, ◌&&◌, ◌||◌, List, [], ◌∷◌, ◌++◌, Some, None, map, refl, ap, ap₂}
use Rattle.std.proofs.Common.{sym, subst, ◌∙◌, bytes_eq}
use Rattle.std.specs.Prelude.{T, is_some}
use Rattle.std.specs.Cmp.Lexicographic.{slice_cmp}
use Rattle.std.specs.FinMap.Entries.{below_all, find, is_sorted}
use Rattle.std.specs.List.{AllByRecursion, concat}
use Rattle.std.specs.List.Sorted.{IsStrictlySortedBy}
use Rattle.std.specs.Option.{option_map_or}
use Rattle.std.specs.Ordering.{is_eq, is_lt, nat_cmp, ordering_reverse}
use Rattle.std.specs.declared.cmp.Ordering.{Ordering}
use Rattle.std.specs.declared.cmp.Ordering.TheVariants.{Less, Equal, Greater}
use Rattle.std.proofs.lemmas.Cmp.{nat_list_cmp_total}
use Rattle.std.proofs.lemmas.Map.Text.{is_eq-slice_cmp}
use Rattle.std.proofs.lemmas.Slice.Eq.{bytes_eq-Decides}
use Rattle.cc_names.proofs.Common.{test_first, test_second, less_by_test, texts_tied}
use Rattle.base_model.specs.Closures.{is_path_among}

apart : (one two : List ℕ) → slice_cmp nat_cmp one two ≡ Less → bytes_eq one two ≡ false
apart one two below = sym (is_eq-slice_cmp one two) ∙ ap is_eq below

turned : (one two : List ℕ) → slice_cmp nat_cmp one two ≡ Greater → slice_cmp nat_cmp two one ≡ Less
turned one two above = by (slice_cmp nat_cmp two one) (nat_list_cmp_total.antisymm one two)
  where
    by : (o : Ordering) → slice_cmp nat_cmp one two ≡ ordering_reverse o → o ≡ Less
    by Less e = refl
    by Equal e = absurd (cc (e, above))
    by Greater e = absurd (cc (e, above))

-- a key below all keys is none of them
abbrev AllAbove : List ℕ → List (List ℕ) → Type 0
AllAbove key keys = AllByRecursion (λ other. slice_cmp nat_cmp key other ≡ Less) keys

not_above : (key : List ℕ) (keys : List (List ℕ)) → AllAbove key keys → is_path_among key keys ≡ false
not_above key [] h = refl
not_above key (other ∷ keys) h = ap₂ (λ (one more : Bool). one || more) (apart key other h.0) (not_above key keys h.1)

more_above : (one two : List ℕ) (keys : List (List ℕ)) → slice_cmp nat_cmp one two ≡ Less → AllAbove two keys → AllAbove one keys
more_above one two [] low h = tt
more_above one two (key ∷ keys) low h = (nat_list_cmp_total.trans one two key low h.0, more_above one two keys low h.1)

module _ {X : Type 0} (f : List ℕ → X → List ℕ) where
  abbrev pub reported : List ℕ × X → List ℕ
  reported entry = f entry.0 entry.1

  -- what is known of a key
  abbrev pub text_of_key : List (List ℕ × X) → List ℕ → List ℕ
  text_of_key table key = option_map_or (f key) (find (slice_cmp nat_cmp) key table) []

  -- a key below all of a table has no entry
  none_below : (key : List ℕ) (table : List (List ℕ × X)) → T (below_all (slice_cmp nat_cmp) key table)
      → find (slice_cmp nat_cmp) key table ≡ None
  none_below key [] h = refl
  none_below key (entry ∷ table) h =
      ap (λ o. cond (is_eq o) (Some entry.1) (find (slice_cmp nat_cmp) key table))
      (less_by_test (slice_cmp nat_cmp key entry.0) (test_first _ _ h)) ∙ none_below key table (test_second _ _ h)

  below_more : (one two : List ℕ) (table : List (List ℕ × X)) → slice_cmp nat_cmp one two ≡ Less
      → T (below_all (slice_cmp nat_cmp) two table) → T (below_all (slice_cmp nat_cmp) one table)
  below_more one two [] low h = tt
  below_more one two (entry ∷ table) low h =
      both (is_lt (slice_cmp nat_cmp one entry.0)) (below_all (slice_cmp nat_cmp) one table)
      (subst (λ o. T (is_lt o)) (sym (nat_list_cmp_total.trans one two entry.0 low (less_by_test _ (test_first _ _ h)))) tt)
      (below_more one two table low (test_second _ _ h))
    where
      both : (a b : Bool) → T a → T b → T (a && b)
      both true b p q = q
      both false b p q = p

  -- keys above an entry's are told without it
  without_entry : (entry : List ℕ × X) (table : List (List ℕ × X)) (keys : List (List ℕ)) → AllAbove entry.0 keys
      → map (text_of_key (entry ∷ table)) keys ≡ map (text_of_key table) keys
  without_entry entry table [] h = refl
  without_entry entry table (key ∷ keys) h =
      ap₂ (λ (one : List ℕ) (more : List (List ℕ)). one ∷ more)
      (ap (λ is. option_map_or (f key) (cond is (Some entry.1) (find (slice_cmp nat_cmp) key table)) [])
      (is_eq-slice_cmp key entry.0 ∙ flipped))
      (without_entry entry table keys h.1)
    where
      flipped : bytes_eq key entry.0 ≡ false
      flipped = by (bytes_eq key entry.0) refl
        where
          by : (t : Bool) → bytes_eq key entry.0 ≡ t → t ≡ false
          by true e = absurd (cc (
            apart entry.0 key h.0,
            (bytes_eq-Decides entry.0 key).1
                (sym ((bytes_eq-Decides key entry.0).0 e)),
          ))
          by false e = refl

  found_first : (entry : List ℕ × X) (table : List (List ℕ × X)) → find (slice_cmp nat_cmp) entry.0 (entry ∷ table) ≡ Some entry.1
  found_first entry table = ap (λ is. cond is (Some entry.1) (find (slice_cmp nat_cmp) entry.0 table))
      (is_eq-slice_cmp entry.0 entry.0 ∙ (bytes_eq-Decides entry.0 entry.0).1 refl)

  -- each key of a table is among these
  abbrev pub HasKeys : List (List ℕ × X) → List (List ℕ) → Type 0
  HasKeys table keys = (key : List ℕ) → is_some (find (slice_cmp nat_cmp) key table) ≡ true → is_path_among key keys ≡ true

  pub by_keys : (keys : List (List ℕ)) (table : List (List ℕ × X)) → IsStrictlySortedBy (slice_cmp nat_cmp) keys
      → T (is_sorted (slice_cmp nat_cmp) table) → HasKeys table keys →
      concat (map (text_of_key table) keys) ≡ concat (map reported table)
  unfolding IsStrictlySortedBy
  by_keys [] [] ordered sorted has = refl
  by_keys [] (entry ∷ table) ordered sorted has = absurd (cc (has entry.0 (ap is_some (found_first entry table))))
  by_keys (key ∷ keys) [] ordered sorted has = by_keys keys [] ordered.1 tt (λ k is. absurd (cc))
  by_keys (key ∷ keys) (entry ∷ table) ordered sorted has =
      by (slice_cmp nat_cmp key entry.0) refl (λ more. by_keys keys (entry ∷ table) ordered.1 sorted more)
      (λ more. by_keys keys table ordered.1 (test_second _ _ sorted) more)
    where
      by : (o : Ordering) → slice_cmp nat_cmp key entry.0 ≡ o →
          (HasKeys (entry ∷ table) keys → concat (map (text_of_key (entry ∷ table)) keys) ≡ concat (map reported (entry ∷ table)))
          →
          (HasKeys table keys → concat (map (text_of_key table) keys) ≡ concat (map reported table)) →
          concat (map (text_of_key (entry ∷ table)) (key ∷ keys)) ≡ concat (map reported (entry ∷ table))
      by Less e with_all with_rest =
          let none : find (slice_cmp nat_cmp) key (entry ∷ table) ≡ None =
          ap (λ o. cond (is_eq o) (Some entry.1) (find (slice_cmp nat_cmp) key table)) e
          ∙ none_below key table (below_more key entry.0 table e (test_first _ _ sorted)) in
          ap (λ o. option_map_or (f key) o [] ++ concat (map (text_of_key (entry ∷ table)) keys)) none
          ∙ with_all (λ k is. rest k (bytes_eq k key) refl is)
        where
          rest : (k : List ℕ) (t : Bool) → bytes_eq k key ≡ t → is_some (find (slice_cmp nat_cmp) k (entry ∷ table)) ≡ true
              → is_path_among k keys ≡ true
          rest k true same is =
              let gone : find (slice_cmp nat_cmp) k (entry ∷ table) ≡ None =
              ap (λ n. find (slice_cmp nat_cmp) n (entry ∷ table)) ((bytes_eq-Decides k key).0 same)
              ∙ ap (λ o. cond (is_eq o) (Some entry.1) (find (slice_cmp nat_cmp) key table)) e
              ∙ none_below key table (below_more key entry.0 table e (test_first _ _ sorted)) in
              absurd (cc (gone, is))
          rest k false other is = sym (ap (λ t. t || is_path_among k keys) other) ∙ has k is
      by Equal e with_all with_rest =
          let same = texts_tied key entry.0 e in
          let above : AllAbove entry.0 keys = subst (λ k. AllAbove k keys) same ordered.0 in
          ap₂ (λ (one more : List ℕ). one ++ more)
          (ap (λ o. option_map_or (f key) (cond (is_eq o) (Some entry.1) (find (slice_cmp nat_cmp) key table)) []) e
          ∙ ap (λ k. f k entry.1) same)
          (ap concat (without_entry entry table keys above) ∙ with_rest (λ k is. rest k (bytes_eq k entry.0) refl is))
        where
          rest : (k : List ℕ) (t : Bool) → bytes_eq k entry.0 ≡ t → is_some (find (slice_cmp nat_cmp) k table) ≡ true
              → is_path_among k keys ≡ true
          rest k true same is =
              let gone : find (slice_cmp nat_cmp) k table ≡ None = ap (λ n. find (slice_cmp nat_cmp) n table)
              ((bytes_eq-Decides k entry.0).0 same) ∙ none_below entry.0 table (test_first _ _ sorted) in
              absurd (cc (gone, is))
          rest k false other is =
              let there : is_some (find (slice_cmp nat_cmp) k (entry ∷ table)) ≡ true =
              ap (λ t. is_some (cond t (Some entry.1) (find (slice_cmp nat_cmp) k table))) (is_eq-slice_cmp k entry.0 ∙ other)
              ∙ is in
              let unlike : bytes_eq k key ≡ false = ap (bytes_eq k) (texts_tied key entry.0 e) ∙ other in
              sym (ap (λ t. t || is_path_among k keys) unlike) ∙ has k there
      by Greater e with_all with_rest =
          let low = turned key entry.0 e in
          let missing : is_path_among entry.0 (key ∷ keys) ≡ false = ap₂ (λ (one more : Bool). one || more)
          (apart entry.0 key low) (not_above entry.0 keys (more_above entry.0 key keys low ordered.0)) in
          absurd (cc (missing, has entry.0 (ap is_some (found_first entry table))))
