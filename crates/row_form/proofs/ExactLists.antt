-- The readers of lists are exact, those of lists with a rule too.
use Rattle.std.proofs.Common.{◌≡◌, ◌≢◌, ◌==◌, ℕ, zero, suc, true, false, not, ◌&&◌, Ok, List, [], ◌∷◌, ◌++◌, length}
use Rattle.std.proofs.Common.{map, refl, sym, ◌∙◌, ap, subst}
use Rattle.std.specs.List.{flat_map, list_any, AllByRecursion, IsDistinct}
use Rattle.std.specs.List.Sorted.{IsStrictlySortedBy}
use Rattle.std.specs.Str.{bytes_eq}
use Rattle.std.specs.Cmp.{IsTotalOrder, nat_cmp_total}
use Rattle.std.specs.Cmp.Lexicographic.{slice_cmp, nat_list_eq_equiv, nat_list_cmp_total}
use Rattle.std.specs.Ordering.{nat_cmp, is_lt}
use Rattle.std.specs.declared.cmp.Ordering.{Ordering}
use Rattle.std.specs.declared.cmp.Ordering.TheVariants.{Less, Equal, Greater}
use Rattle.std.proofs.lemmas.Bool.{eqb-true, eq-eqb, and_parts, and_from, or_parts, or_from}
use Rattle.std.proofs.lemmas.List.{append_assoc}
use Rattle.cc_names.specs.Formed.{IsWord, IsLong, IsText, IsListOf, IsBelowRoot, AreTargets, AreEntries, IsEntry, IsPlaced}
use Rattle.cc_names.specs.Formed.{path_of_entry, element_of}
use Rattle.cc_names.specs.declared.rows.Placed.{Placed}
use Rattle.cc_names.proofs.Common.{not_true}
use Rattle.row_form.specs.Fields.{word, long, text, list_bytes, entry, place_of}
use Rattle.row_form.specs.Readers.{Reader, then_read, read_word, read_long, read_text, read_members, read_list}
use Rattle.row_form.specs.FieldReaders.{read_path, read_entry, read_placed, is_some_list, ascends_from, ascends, entry_cmp}
use Rattle.row_form.specs.FieldReaders.{placed_cmp, are_distinct, are_targets, read_targets, read_entries, read_objects}
use Rattle.row_form.specs.FieldReaders.{read_places}
use Rattle.row_form.specs.DeedReaders.{read_outputs}
use Rattle.row_form.specs.Spelled.{form_of}
use Rattle.row_form.proofs.Exact.{AreBytes, IsExact, rest_bytes, same_read, part, exact_tested}
use Rattle.row_form.proofs.ExactFields.{exact_word, exact_long, exact_text, exact_path, exact_entry, exact_placed}
use Rattle.row_form.proofs.Steps.{then_ok}

module _ {A : Type 0} (read : Reader A) (s : A → List ℕ) (G : A → Type 0) (exact : IsExact read s G) where
  members_back : (xs : List A) (rest : List ℕ) → AllByRecursion G xs → read_members read (length xs) (flat_map s xs ++ rest)
      ≡ Ok (xs, rest)
  members_back [] rest h = refl
  members_back (a ∷ others) rest h =
      ap (read_members read (suc (length others))) (append_assoc (s a) (flat_map s others) rest)
      ∙ then_ok (read (s a ++ (flat_map s others ++ rest))) (λ m mid. then_read (read_members read (length others) mid)
      (λ ms end. Ok (m ∷ ms, end))) a (flat_map s others ++ rest)
      (exact.back a (flat_map s others ++ rest) h.0)
      ∙ then_ok (read_members read (length others) (flat_map s others ++ rest)) (λ ms end. Ok (a ∷ ms, end)) others rest
      (members_back others rest h.1)

  members_read_back : (count : ℕ) (bytes : List ℕ) (xs : List A) (rest : List ℕ) → AreBytes bytes
      → read_members read count bytes ≡ Ok (xs, rest)
      → (length xs ≡ count) × AllByRecursion G xs × (bytes ≡ flat_map s xs ++ rest)
  members_read_back zero bytes xs rest hb e =
      let same = same_read ([], bytes) (xs, rest) e in
      let P : List A × List ℕ → Type 0 = λ z. (length z.0 ≡ 0) × AllByRecursion G z.0 × (bytes ≡ flat_map s z.0 ++ z.1) in
      subst P same (refl, tt, refl)
  members_read_back (suc count) bytes xs rest hb e =
      let x = part (read bytes) (λ m mid. then_read (read_members read count mid) (λ ms end. Ok (m ∷ ms, end))) (xs, rest) e in
      let f = exact.read_back bytes x.0 x.1 hb x.2 in
      let y = part (read_members read count x.1) (λ ms end. Ok (x.0 ∷ ms, end)) (xs, rest) x.3 in
      let k = members_read_back count x.1 y.0 y.1 (rest_bytes (s x.0) x.1 (subst AreBytes f.1 hb)) y.2 in
      let same = same_read (x.0 ∷ y.0, y.1) (xs, rest) y.3 in
      let P : List A × List ℕ → Type 0 = λ z. (length z.0 ≡ suc count) × AllByRecursion G z.0 × (bytes ≡ flat_map s z.0 ++ z.1) in
      subst P same (ap suc k.0, (f.0, k.1), f.1 ∙ ap (λ m. s x.0 ++ m) k.2 ∙ sym (append_assoc (s x.0) (flat_map s y.0) y.1))

  list_back : (xs : List A) (rest : List ℕ) → IsListOf G xs → read_list read (list_bytes s xs ++ rest) ≡ Ok (xs, rest)
  list_back xs rest h =
      then_ok (read_word (list_bytes s xs ++ rest)) (read_members read) (length xs) (flat_map s xs ++ rest)
      (ap read_word (append_assoc (word (length xs)) (flat_map s xs) rest)
      ∙ exact_word.back (length xs) (flat_map s xs ++ rest) h.0)
      ∙ members_back xs rest h.1

  list_read_back : (bytes : List ℕ) (xs : List A) (rest : List ℕ) → AreBytes bytes → read_list read bytes ≡ Ok (xs, rest)
      → IsListOf G xs × (bytes ≡ list_bytes s xs ++ rest)
  list_read_back bytes xs rest hb e =
      let x = part (read_word bytes) (read_members read) (xs, rest) e in
      let w = exact_word.read_back bytes x.0 x.1 hb x.2 in
      let m = members_read_back x.0 x.1 xs rest (rest_bytes (word x.0) x.1 (subst AreBytes w.1 hb)) x.3 in (
        (subst IsWord (sym m.0) w.0, m.1),
        w.1 ∙ ap (λ z. word x.0 ++ z) m.2 ∙ sym (append_assoc (word x.0) (flat_map s xs) rest)
            ∙ ap (λ n. (word n ++ flat_map s xs) ++ rest) (sym m.0),
      )

  pub exact_list : IsExact (read_list read) (list_bytes s) (IsListOf G)
  exact_list = record { back = list_back; read_back = list_read_back }

some_if : {A : Type 0} (xs : List A) → is_some_list xs ≡ true → xs ≢ []
some_if [] e = absurd (cc)
some_if (a ∷ xs) e = λ h. let same : is_some_list (a ∷ xs) ≡ false = ap is_some_list h in cc

some_only : {A : Type 0} (xs : List A) → xs ≢ [] → is_some_list xs ≡ true
some_only [] h = absurd (h refl)
some_only (a ∷ xs) h = refl

-- lists that ascend
less_if : (o : Ordering) → is_lt o ≡ true → o ≡ Less
less_if Less e = refl
less_if Equal e = absurd (cc)
less_if Greater e = absurd (cc)

module _ {A K : Type 0} (cmp : K → K → Ordering) (total : IsTotalOrder cmp) (key : A → K) where
  above_all : (a b : K) (ks : List K) → cmp a b ≡ Less → AllByRecursion (λ k. cmp b k ≡ Less) ks
      → AllByRecursion (λ k. cmp a k ≡ Less) ks
  above_all a b [] less h = tt
  above_all a b (k ∷ ks) less h = (total.trans a b k less h.0, above_all a b ks less h.1)

  from_here : (a : A) (xs : List A) → ascends_from (λ x y. cmp (key x) (key y)) a xs ≡ true
      → IsStrictlySortedBy cmp (key a ∷ map key xs)
  unfolding IsStrictlySortedBy
  from_here a [] e = (tt, tt)
  from_here a (b ∷ bs) e =
      let h = and_parts (is_lt (cmp (key a) (key b))) (ascends_from (λ x y. cmp (key x) (key y)) b bs) e in
      let less = less_if (cmp (key a) (key b)) h.0 in
      let rest = from_here b bs h.1 in
      ((less, above_all (key a) (key b) (map key bs) less rest.0), rest)

  pub sorted_if : (xs : List A) → ascends (λ x y. cmp (key x) (key y)) xs ≡ true → IsStrictlySortedBy cmp (map key xs)
  unfolding IsStrictlySortedBy
  sorted_if [] e = tt
  sorted_if (a ∷ xs) e = from_here a xs e

  to_here : (a : A) (xs : List A) → IsStrictlySortedBy cmp (key a ∷ map key xs)
      → ascends_from (λ x y. cmp (key x) (key y)) a xs ≡ true
  unfolding IsStrictlySortedBy
  to_here a [] h = refl
  to_here a (b ∷ bs) h = and_from (is_lt (cmp (key a) (key b))) (ascends_from (λ x y. cmp (key x) (key y)) b bs) (ap is_lt h.0.0)
      (to_here b bs h.1)

  pub sorted_only : (xs : List A) → IsStrictlySortedBy cmp (map key xs) → ascends (λ x y. cmp (key x) (key y)) xs ≡ true
  unfolding IsStrictlySortedBy
  sorted_only [] h = refl
  sorted_only (a ∷ xs) h = to_here a xs h

map_same : {A : Type 0} (xs : List A) → map (λ a. a) xs ≡ xs
map_same [] = refl
map_same (a ∷ xs) = ap (λ os. a ∷ os) (map_same xs)

not_again : (t : List ℕ) (ts : List (List ℕ)) → list_any (λ u. bytes_eq u t) ts ≡ false
    → AllByRecursion (λ u. bytes_eq t u ≡ false) ts
not_again t [] e = tt
not_again t (u ∷ us) e = let h = or_parts (bytes_eq u t) (list_any (λ v. bytes_eq v t) us) e in
    (nat_list_eq_equiv.symm t u ∙ h.0, not_again t us h.1)

none_again : (t : List ℕ) (ts : List (List ℕ)) → AllByRecursion (λ u. bytes_eq t u ≡ false) ts
    → list_any (λ u. bytes_eq u t) ts ≡ false
none_again t [] h = refl
none_again t (u ∷ us) h = or_from (bytes_eq u t) (list_any (λ v. bytes_eq v t) us) (nat_list_eq_equiv.symm u t
    ∙ h.0) (none_again t us h.1)

distinct_if : (ts : List (List ℕ)) → are_distinct ts ≡ true → IsDistinct bytes_eq ts
unfolding IsDistinct
distinct_if [] e = tt
distinct_if (t ∷ ts) e = let h = and_parts (not (list_any (λ u. bytes_eq u t) ts)) (are_distinct ts) e in
    (not_again t ts (not_true (list_any (λ u. bytes_eq u t) ts) h.0), distinct_if ts h.1)

distinct_only : (ts : List (List ℕ)) → IsDistinct bytes_eq ts → are_distinct ts ≡ true
unfolding IsDistinct
distinct_only [] h = refl
distinct_only (t ∷ ts) h = rw (none_again t ts h.0, distinct_only ts h.1) refl

abbrev pub AreTargetsOf : ℕ → List (List ℕ) → Type 0
AreTargetsOf form targets = AreTargets targets × (form_of targets ≡ form)

pub exact_targets : (form : ℕ) → IsExact (read_targets form) (list_bytes text) (AreTargetsOf form)
exact_targets form =
    exact_tested (are_targets form) (AreTargetsOf form) (exact_list read_path text IsBelowRoot exact_path)
    (λ ts h. (
      h.0.0,
      and_from (is_some_list ts && (form_of ts == form)) (are_distinct ts)
          (and_from (is_some_list ts) (form_of ts == form) (some_only ts h.0.1) (eq-eqb (form_of ts) form h.1))
          (distinct_only ts h.0.2),
    ))
    (λ ts g e.
    let h = and_parts (is_some_list ts && (form_of ts == form)) (are_distinct ts) e in
    let k = and_parts (is_some_list ts) (form_of ts == form) h.0 in
    ((g, some_if ts k.0, distinct_if ts h.1), eqb-true (form_of ts) form k.1))

pub exact_entries : IsExact read_entries (list_bytes entry) AreEntries
exact_entries =
    exact_tested (ascends entry_cmp) AreEntries (exact_list read_entry entry IsEntry exact_entry)
    (λ es h. (h.0, sorted_only (slice_cmp nat_cmp) nat_list_cmp_total path_of_entry es h.1))
    (λ es g e. (g, sorted_if (slice_cmp nat_cmp) nat_list_cmp_total path_of_entry es e))

abbrev pub AreObjects : List ℕ → Type 0
AreObjects objects = IsListOf IsLong objects × (objects ≢ []) × IsStrictlySortedBy nat_cmp objects

pub exact_objects : IsExact read_objects (list_bytes long) AreObjects
exact_objects =
    exact_tested (λ os. is_some_list os && ascends nat_cmp os) AreObjects (exact_list read_long long IsLong exact_long)
    (λ os h. (
      h.0,
      and_from (is_some_list os) (ascends nat_cmp os) (some_only os h.1)
          (sorted_only nat_cmp nat_cmp_total (λ n. n) os (subst (IsStrictlySortedBy nat_cmp) (sym (map_same os)) h.2)),
    ))
    (λ os g e.
    let h = and_parts (is_some_list os) (ascends nat_cmp os) e in
    (g, some_if os h.0, subst (IsStrictlySortedBy nat_cmp) (map_same os) (sorted_if nat_cmp nat_cmp_total (λ n. n) os h.1)))

abbrev pub ArePlaces : List Placed → Type 0
ArePlaces placed = IsListOf IsPlaced placed × (placed ≢ []) × IsStrictlySortedBy nat_cmp (map element_of placed)

pub exact_places : IsExact read_places (list_bytes place_of) ArePlaces
exact_places =
    exact_tested (λ ps. is_some_list ps && ascends placed_cmp ps) ArePlaces
    (exact_list read_placed place_of IsPlaced exact_placed)
    (λ ps h. (
      h.0,
      and_from (is_some_list ps) (ascends placed_cmp ps) (some_only ps h.1)
          (sorted_only nat_cmp nat_cmp_total element_of ps h.2),
    ))
    (λ ps g e.
    let h = and_parts (is_some_list ps) (ascends placed_cmp ps) e in
    (g, some_if ps h.0, sorted_if nat_cmp nat_cmp_total element_of ps h.1))

-- outputs
abbrev pub AreOutputsOf : ℕ → List (List ℕ) → Type 0
AreOutputsOf count outputs = (length outputs ≡ count) × IsListOf IsText outputs

pub exact_outputs : (count : ℕ) → IsExact (read_outputs count) (list_bytes text) (AreOutputsOf count)
exact_outputs count =
    exact_tested (λ os. length os == count) (AreOutputsOf count) (exact_list read_text text IsText exact_text)
    (λ os h. (h.1, eq-eqb (length os) count h.0)) (λ os g e. (eqb-true (length os) count e, g))
