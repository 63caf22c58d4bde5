-- Units named among the dependants of others.
use Rattle.std.proofs.Common.{◌≡◌, refl, sym, ap, ◌∙◌, ℕ, zero, suc, ◌+◌, ◌-◌, ◌<◌, ◌==◌, Bool, true, false, cond, ◌||◌}
use Rattle.std.proofs.Common.{Option, Some, None, List, [], ◌∷◌, ◌++◌, length, get_or, take, arith, zero-add, add-one}
use Rattle.std.proofs.lemmas.Bool.{ne_eqb}
use Rattle.std.proofs.lemmas.List.{append-nil, get_or_at, length_push}
use Rattle.std.proofs.lemmas.List.Elements.{filter-append}
use Rattle.std.proofs.lemmas.List.Folds.{list_any_more}
use Rattle.std.proofs.lemmas.Option.{slice_get-get_or}
use Rattle.std.specs.List.{filter, range_with_len, slice_get}
use Rattle.cc_names.specs.Versions.{is_number}
use Rattle.cc_names.specs.declared.units.Unit.{Unit}
use Rattle.make_graph.specs.Dependants.{is_last, with_last, named_if, NamesDependant}
use Rattle.make_graph.specs.Waits.{is_in, makes_one, makers_of, prerequisites_at}
use Rattle.make_graph.proofs.NeedLemmas.{itself}
use Rattle.make_graph.proofs.MakerLemmas.{is_maker}

-- ---- a number put after others

behind_is_last : (n : ℕ) (numbers : List ℕ) → is_last n (numbers ++ n ∷ []) ≡ true
behind_is_last n numbers =
    let at : length (numbers ++ n ∷ []) - 1 ≡ length numbers = omega (arith, length_push numbers n) in
    let within : length numbers < length (numbers ++ n ∷ []) = omega (arith, length_push numbers n) in
    ap (λ i. is_number n (slice_get (numbers ++ n ∷ []) i)) at
    ∙ (ap (is_number n) (slice_get-get_or (numbers ++ n ∷ []) (length numbers) 0 within)
    ∙ (ap (λ k. n == k) (get_or_at numbers n [] 0 (length numbers) refl)
    ∙ itself n n refl))

where_last : (n : ℕ) (numbers : List ℕ) → is_last n numbers ≡ true → with_last n numbers ≡ numbers
where_last n numbers h = ap (λ t. elim t as (λ b. List ℕ) [ true ↦ numbers | false ↦ numbers ++ n ∷ [] ]) h

where_not_last : (n : ℕ) (numbers : List ℕ) → is_last n numbers ≡ false → with_last n numbers ≡ numbers ++ n ∷ []
where_not_last n numbers h = ap (λ t. elim t as (λ b. List ℕ) [ true ↦ numbers | false ↦ numbers ++ n ∷ [] ]) h

last_twice : (n : ℕ) (numbers : List ℕ) → with_last n (with_last n numbers) ≡ with_last n numbers
last_twice n numbers = by (is_last n numbers) refl
  where
    by : (b : Bool) → is_last n numbers ≡ b → with_last n (with_last n numbers) ≡ with_last n numbers
    by true h = ap (with_last n) (where_last n numbers h)
    by false h =
        ap (with_last n) (where_not_last n numbers h)
        ∙ (where_last n (numbers ++ n ∷ []) (behind_is_last n numbers) ∙ sym (where_not_last n numbers h))

named_twice : (a b : Bool) (n : ℕ) (numbers : List ℕ) → named_if b n (named_if a n numbers) ≡ named_if (a || b) n numbers
named_twice true true n numbers = last_twice n numbers
named_twice true false n numbers = refl
named_twice false b n numbers = refl

-- ---- a number put after some of the lists

pub names_none : (n : ℕ) (lists : List (List ℕ)) → NamesDependant (is_in []) n lists lists
names_none n lists = record { size = refl; lists = λ m h. refl }

pub names_more : (makers : List ℕ) (i n : ℕ) (old mid new : List (List ℕ)) → i < length makers →
    NamesDependant (is_in (take i makers)) n old mid → NamesDependant (λ m. m == get_or makers i 0) n mid new
    → NamesDependant (is_in (take (i + 1) makers)) n old new
names_more makers i n old mid new within first second = record {
  size = second.size ∙ first.size;
  lists = λ m h.
      second.lists m (omega (arith, first.size, h))
      ∙ (ap (named_if (m == get_or makers i 0) n) (first.lists m h)
      ∙ (named_twice (is_in (take i makers) m) (m == get_or makers i 0) n (get_or old m [])
      ∙ ap (λ t. named_if t n (get_or old m [])) (sym (list_any_more (λ k. m == k) makers i 0 within))));
}

-- ---- the units before a number that wait for another

-- those of the dependants of a unit that are before a number
abbrev pub dependants_before : List Unit → ℕ → ℕ → List ℕ
dependants_before units k m = filter (λ n. makes_one units (prerequisites_at units n) m) (range_with_len 0 k)

range_more : (a k : ℕ) → range_with_len a (suc k) ≡ range_with_len a k ++ (a + k) ∷ []
range_more a zero = ap (λ n. n ∷ []) (omega arith)
range_more a (suc k) =
    ap (λ (l : List ℕ). a ∷ l) (range_more (a + 1) k ∙ ap (λ n. range_with_len (a + 1) k ++ n ∷ []) (omega arith))

filter_more : (p : ℕ → Bool) (k : ℕ) → filter p (range_with_len 0 (k + 1)) ≡ filter p (range_with_len 0 k)
    ++ cond (p k) (k ∷ []) []
filter_more p k =
    ap (λ n. filter p (range_with_len 0 n)) (add-one k)
    ∙ (ap (filter p) (range_more 0 k)
    ∙ (filter-append p (range_with_len 0 k) ((0 + k) ∷ [])
    ∙ ap (λ n. filter p (range_with_len 0 k) ++ cond (p n) (n ∷ []) []) (zero-add k)))

all_below : (p : ℕ → Bool) (a k j x : ℕ) → slice_get (filter p (range_with_len a k)) j ≡ Some x → x < a + k
all_below p a zero j x h = absurd (cc)
all_below p a (suc k) j x h = by (λ i is. all_below p (a + 1) k i x is) (p a) j h
  where
    later : List ℕ
    later = filter p (range_with_len (a + 1) k)

    by : ((i : ℕ) → slice_get later i ≡ Some x → x < (a + 1) + k) → (b : Bool) (i : ℕ)
        → slice_get (cond b (a ∷ later) later) i ≡ Some x → x < a + suc k
    by rest true zero is = let same : a ≡ x = cc in omega arith
    by rest true (suc i) is = omega (arith, rest i is)
    by rest false i is = omega (arith, rest i is)

not_last : (p : ℕ → Bool) (k : ℕ) → is_last k (filter p (range_with_len 0 k)) ≡ false
not_last p k = by (slice_get numbers (length numbers - 1)) refl
  where
    numbers : List ℕ
    numbers = filter p (range_with_len 0 k)

    by : (o : Option ℕ) → slice_get (filter p (range_with_len 0 k)) (length (filter p (range_with_len 0 k)) - 1) ≡ o
        → is_number k o ≡ false
    by None h = refl
    by (Some x) h = ne_eqb k x (λ same. omega (arith, same, all_below p 0 k _ x h))

named_behind : (p : ℕ → Bool) (k : ℕ) (b : Bool) →
    named_if b k (filter p (range_with_len 0 k)) ≡ filter p (range_with_len 0 k) ++ cond b (k ∷ []) []
named_behind p k true = where_not_last k (filter p (range_with_len 0 k)) (not_last p k)
named_behind p k false = sym (append-nil (filter p (range_with_len 0 k)))

pub dependants_more : (units : List Unit) (k : ℕ) (made : List ℕ) (old new : List (List ℕ))
    → made ≡ makers_of units (prerequisites_at units k) →
    ((m : ℕ) → m < length old → get_or old m [] ≡ dependants_before units k m) → NamesDependant (is_in made) k old new →
    (m : ℕ) → m < length old → get_or new m [] ≡ dependants_before units (k + 1) m
dependants_more units k made old new is before names m within =
    let test : ℕ → Bool = λ n. makes_one units (prerequisites_at units n) m in
    names.lists m within
    ∙ (ap (named_if (is_in made m) k) (before m within)
    ∙ (ap (λ t. named_if t k (dependants_before units k m)) (ap (λ (l : List ℕ). is_in l m) is
    ∙ is_maker units (prerequisites_at units k) m)
    ∙ (named_behind test k (test k)
    ∙ sym (filter_more test k))))
