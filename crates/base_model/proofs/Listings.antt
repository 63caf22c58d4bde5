-- A listing has of each element the greatest version among the inputs, in order of elements.
use Rattle.std.proofs.Common.{◌≡◌, refl, ap, sym, subst, ◌∙◌, ℕ, zero, suc, ◌<◌, ◌≤◌, ◌⊎◌, inl, inr, Bool, true, false, cond}
use Rattle.std.proofs.Common.{◌==◌, Option, Some, None, List, [], ◌∷◌, length, Contains, get_or, arith, max}
use Rattle.std.proofs.lemmas.Bool.Decides.{nat_tests}
use Rattle.std.proofs.lemmas.Cmp.{nat_cmp_total}
use Rattle.std.specs.FinMap.Entries.{find, is_sorted, is_sorted-put}
use Rattle.std.specs.Ordering.{nat_cmp}
use Rattle.std.specs.Prelude.{T}
use Rattle.cc_names.specs.declared.changes.VersionId.{VersionId}
use Rattle.cc_names.specs.Versions.{version_id}
use Rattle.cc_names.proofs.Common.{same_number}
use Rattle.base_model.specs.Rows.{Base}
use Rattle.base_model.specs.Changes.{tree}
use Rattle.base_model.specs.Closures.{Input, Inputs, greater_of, is_of_element, is_version_of, with_version_at, version_listed}
use Rattle.base_model.specs.Closures.{listing_of}
use Rattle.base_model.proofs.Tables.{find_after_put}
use Rattle.base_model.specs.Listed.{RestsOn, IsListed}

-- an element of a list with one more at its head
pub one_of : {A : Type 0} (x z : A) (xs : List A) → Contains (x ∷ xs) z → (x ≡ z) ⊎ Contains xs z
one_of x z xs h = by h.0 h.1 h.2
  where
    by : (k : ℕ) → k < length (x ∷ xs) → get_or (x ∷ xs) k z ≡ z → (x ≡ z) ⊎ Contains xs z
    by zero low is = inl is
    by (suc k) low is = inr (k, omega arith, is)

pub at_head : {A : Type 0} (x z : A) (xs : List A) → x ≡ z → Contains (x ∷ xs) z
at_head x z xs same = (0, omega arith, same)

pub behind : {A : Type 0} (x z : A) (xs : List A) → Contains xs z → Contains (x ∷ xs) z
behind x z xs h = (suc h.0, let low = h.1 in omega arith, h.2)

pub none_of : {A : Type 0} (z : A) → Contains [] z → ⊥
none_of z h = let low = h.1 in omega arith

-- one more input
rests_behind : (b : Base) (input : Input × ℕ) (inputs : Inputs) (e version : ℕ) → RestsOn b inputs e version
    → RestsOn b (input ∷ inputs) e version
rests_behind b input inputs e version h = record {
  input = h.input;
  among = behind input h.input inputs h.among;
  row = h.row;
  there = h.there;
  is = h.is;
}

-- the first input is the version, or the others rest on it
rests_on_one : (b : Base) (input : Input × ℕ) (inputs : Inputs) (e version : ℕ) → RestsOn b (input ∷ inputs) e version
    → (input.1 ≡ version) ⊎ RestsOn b inputs e version
rests_on_one b input inputs e version h = by (one_of input h.input inputs h.among)
  where
    by : (input ≡ h.input) ⊎ Contains inputs h.input → (input.1 ≡ version) ⊎ RestsOn b inputs e version
    by (inl same) = inl (ap (λ s. s.1) same ∙ h.row)
    by (inr among) = inr (record { input = h.input; among = among; row = h.row; there = h.there; is = h.is })

-- what a listing says of an element
abbrev pub SaysOf : Base → Inputs → ℕ → Option ℕ → Type 0
SaysOf b inputs e None = (other : ℕ) → RestsOn b inputs e other → ⊥
SaysOf b inputs e (Some version) = IsListed b inputs e version

-- where the first input is no version of the element, nothing changes
passed_over : (b : Base) (input : Input × ℕ) (inputs : Inputs) (e : ℕ) (o : Option ℕ)
    → (0 < input.1 → is_version_of b e input.1 ≡ true → ⊥) → SaysOf b inputs e o → SaysOf b (input ∷ inputs) e o
passed_over b input inputs e o apart h = by o h
  where
    rest : (other : ℕ) → RestsOn b (input ∷ inputs) e other → RestsOn b inputs e other
    rest other rests = of (rests_on_one b input inputs e other rests)
      where
        of : (input.1 ≡ other) ⊎ RestsOn b inputs e other → RestsOn b inputs e other
        of (inl same) = absurd (apart (subst (λ n. 0 < n) (sym same) rests.there) (ap (is_version_of b e) same ∙ rests.is))
        of (inr later) = later

    by : (o : Option ℕ) → SaysOf b inputs e o → SaysOf b (input ∷ inputs) e o
    by None h = λ other rests. h other (rest other rests)
    by (Some version) h = record {
      rests = rests_behind b input inputs e version h.rests;
      greatest = λ other rests. h.greatest other (rest other rests);
    }

-- where it is, the greater one is listed
counted : (b : Base) (input : Input × ℕ) (inputs : Inputs) (e : ℕ) (o : Option ℕ) → 0 < input.1 → is_version_of b e input.1 ≡ true
    → SaysOf b inputs e o →
    IsListed b (input ∷ inputs) e (greater_of input.1 o)
counted b input inputs e None there is h = record {
  rests = record { input = input; among = at_head input input inputs refl; row = refl; there = there; is = is };
  greatest = λ other rests. of other (rests_on_one b input inputs e other rests);
}
  where
    of : (other : ℕ) → (input.1 ≡ other) ⊎ RestsOn b inputs e other → other ≤ input.1
    of other (inl same) = omega arith
    of other (inr rests) = absurd (h other rests)
counted b input inputs e (Some version) there is h = record {
  rests = elim (max_is input.1 version) [
    | inl m ↦ subst (RestsOn b (input ∷ inputs) e) (sym m) own
    | inr m ↦
        subst (RestsOn b (input ∷ inputs) e) (sym m) (rests_behind b input inputs e version h.rests)
  ];
  greatest = λ other rests. of other (rests_on_one b input inputs e other rests);
}
  where
    own : RestsOn b (input ∷ inputs) e input.1
    own = record { input = input; among = at_head input input inputs refl; row = refl; there = there; is = is }

    max_is : (m n : ℕ) → (max m n ≡ m) ⊎ (max m n ≡ n)
    max_is m n = grind arith

    of : (other : ℕ) → (input.1 ≡ other) ⊎ RestsOn b inputs e other → other ≤ max input.1 version
    of other (inl same) = omega arith
    of other (inr rests) = let low = h.greatest other rests in omega arith

-- an input that lists no version is none
lists_none : (b : Base) (row e : ℕ) → version_listed b row ≡ None → 0 < row → is_version_of b e row ≡ true → ⊥
lists_none b zero e none there is = omega arith
lists_none b (suc row) e none there is = let no : is_of_element e None ≡ true = ap (is_of_element e) (sym none) ∙ is in cc

listed_version_id : (b : Base) (row : ℕ) (at : VersionId) → version_listed b row ≡ Some at → (0 < row)
    × (version_id (tree b) row ≡ Some at)
listed_version_id b zero at is = absurd (cc)
listed_version_id b (suc row) at is = (omega arith, is)

pub listing_says : (b : Base) (inputs : Inputs) (e : ℕ) → SaysOf b inputs e (find nat_cmp e (listing_of b inputs))
listing_says b [] e = λ other rests. none_of rests.input rests.among
listing_says b (input ∷ inputs) e = by (version_listed b input.1) refl (listing_says b inputs e)
  where
    by_element : (at : VersionId) (t : Bool) → (e == at.element) ≡ t → version_listed b input.1 ≡ Some at
        → SaysOf b inputs e (find nat_cmp e (listing_of b inputs)) →
        SaysOf b (input ∷ inputs) e (cond t (Some (greater_of input.1 (find nat_cmp at.element (listing_of b inputs))))
        (find nat_cmp e (listing_of b inputs)))
    by_element at true here is rest =
        let same : e ≡ at.element = same_number e at.element here in
        let there = listed_version_id b input.1 at is in
        subst (λ n. IsListed b (input ∷ inputs) e (greater_of input.1 (find nat_cmp n (listing_of b inputs)))) same
        (counted b input inputs e (find nat_cmp e (listing_of b inputs)) there.0 (ap (is_of_element e) there.1
        ∙ grind (arith, nat_tests)) rest)
    by_element at false here is rest =
        passed_over b input inputs e (find nat_cmp e (listing_of b inputs))
        (λ above version. let there = listed_version_id b input.1 at is in
        let own : (at.element == e) ≡ true = ap (is_of_element e) (sym there.1) ∙ version in let same =
        same_number at.element e own in grind (arith, nat_tests)) rest

    by : (o : Option VersionId) → version_listed b input.1 ≡ o → SaysOf b inputs e (find nat_cmp e (listing_of b inputs))
        → SaysOf b (input ∷ inputs) e (find nat_cmp e (with_version_at input.1 o (listing_of b inputs)))
    by None is rest = passed_over b input inputs e (find nat_cmp e (listing_of b inputs)) (lists_none b input.1 e is) rest
    by (Some at) is rest =
        subst (SaysOf b (input ∷ inputs) e) (sym (find_after_put e at.element
        (greater_of input.1 (find nat_cmp at.element (listing_of b inputs))) (listing_of b inputs)))
        (by_element at (e == at.element) refl is rest)

-- listings are in order of elements
pub in_order : (b : Base) (inputs : Inputs) → T (is_sorted nat_cmp (listing_of b inputs))
in_order b [] = tt
in_order b (input ∷ inputs) = by (version_listed b input.1) (in_order b inputs)
  where
    by : (o : Option VersionId) → T (is_sorted nat_cmp (listing_of b inputs))
        → T (is_sorted nat_cmp (with_version_at input.1 o (listing_of b inputs)))
    by None h = h
    by (Some at) h = is_sorted-put nat_cmp nat_cmp_total at.element _ (listing_of b inputs) h
