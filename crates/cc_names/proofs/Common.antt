-- Lemmas that several crates use and std lacks: on tests, orders, options, texts and lists.
use Rattle.std.proofs.Common.{◌≡◌, ℕ, zero, suc, ◌+◌, ◌-◌, Bool, true, false, cond, not, ◌&&◌, ◌||◌, ◌==◌}
use Rattle.std.proofs.Common.{Option, Some, None, List, [], ◌∷◌, ◌++◌, length, take, drop, refl, sym, ap, subst, ◌∙◌, arith}
use Rattle.std.specs.Prelude.{T, find}
use Rattle.std.specs.Cmp.Lexicographic.{slice_cmp}
use Rattle.std.specs.List.{AllByRecursion, slice_get}
use Rattle.std.specs.Ordering.{is_eq, is_lt, nat_cmp, ordering_then}
use Rattle.std.specs.Str.{bytes_eq}
use Rattle.std.specs.declared.cmp.Ordering.{Ordering}
use Rattle.std.specs.declared.cmp.Ordering.TheVariants.{Less, Equal, Greater}
use Rattle.std.proofs.lemmas.Bool.Decides.{nat_tests}
use Rattle.std.proofs.lemmas.Grind.{common_steps}
use Rattle.std.proofs.lemmas.List.{append_assoc}
use Rattle.std.proofs.lemmas.Map.Text.{is_eq-slice_cmp}
use Rattle.std.proofs.lemmas.Slice.Eq.{bytes_eq-Decides}
use Rattle.cc_names.specs.Versions.{is_number}

-- ---- tests

-- two tests that follow from each other are one
pub same_test : (one two : Bool) → (one ≡ true → two ≡ true) → (two ≡ true → one ≡ true) → one ≡ two
same_test true two there back = sym (there refl)
same_test false true there back = back refl
same_test false false there back = refl

pub and_first : (one two : Bool) → (one && two) ≡ true → one ≡ true
and_first true two is = refl
and_first false two is = absurd (cc)

pub and_second : (one two : Bool) → (one && two) ≡ true → two ≡ true
and_second true two is = is
and_second false two is = absurd (cc)

pub or_first_false : (one two : Bool) → (one || two) ≡ false → one ≡ false
or_first_false true two is = absurd (cc)
or_first_false false two is = refl

pub or_second_false : (one two : Bool) → (one || two) ≡ false → two ≡ false
or_second_false true two is = absurd (cc)
or_second_false false two is = is

pub and_false : (test : Bool) → (test && false) ≡ false
and_false true = refl
and_false false = refl

pub or_true : (test : Bool) → (test || true) ≡ true
or_true true = refl
or_true false = refl

pub or_false : (test : Bool) → (test || false) ≡ test
or_false true = refl
or_false false = refl

pub not_true : (test : Bool) → not test ≡ true → test ≡ false
not_true true is = absurd (cc)
not_true false is = refl

pub test_from : (test : Bool) → test ≡ true → T test
test_from true is = tt
test_from false is = absurd (cc)

pub test_first : (one two : Bool) → T (one && two) → T one
test_first true two holds = tt
test_first false two holds = absurd holds

pub test_second : (one two : Bool) → T (one && two) → T two
test_second true two holds = holds
test_second false two holds = absurd holds

pub test_both : (one two : Bool) → T one → T two → T (one && two)
test_both true two first second = second
test_both false two first second = absurd first

pub or_either : (one two : Bool) (P : Type 0) → (one || two) ≡ true → (one ≡ true → P) → (two ≡ true → P) → P
or_either true two P is first second = first refl
or_either false two P is first second = second is

pub and_swapped : (one two : Bool) → (one && two) ≡ (two && one)
and_swapped true true = refl
and_swapped true false = refl
and_swapped false true = refl
and_swapped false false = refl

pub or_moved : (one two three : Bool) → (one || (two || three)) ≡ ((two || one) || three)
or_moved true true three = refl
or_moved true false three = refl
or_moved false true three = refl
or_moved false false three = refl

-- ---- numbers and orders

pub same_number : (one two : ℕ) → (one == two) ≡ true → one ≡ two
same_number one two is = grind (arith, nat_tests)

pub eq_swapped : (one two : ℕ) → (one == two) ≡ (two == one)
eq_swapped one two = grind (arith, nat_tests)

pub same_before : (one two : ℕ) → one + 1 ≡ two + 1 → one ≡ two
same_before one two is = omega (arith, is)

pub less_by_test : (order : Ordering) → T (is_lt order) → order ≡ Less
less_by_test Less holds = refl
less_by_test Equal holds = absurd holds
less_by_test Greater holds = absurd holds

pub is_eq_then : (one two : Ordering) → is_eq (ordering_then one two) ≡ (is_eq one && is_eq two)
is_eq_then Less two = refl
is_eq_then Equal two = refl
is_eq_then Greater two = refl

pub number_found : (number : ℕ) (found : Option ℕ) → is_number number found ≡ true → found ≡ Some number
number_found number None is = absurd (cc)
number_found number (Some other) is = grind (arith, nat_tests)

-- ---- options

pub same_inside : {A : Type 0} {one two : A} → Some one ≡ Some two → one ≡ two
same_inside is = cc

-- ---- texts

pub same_bytes : (one two : List ℕ) → bytes_eq one two ≡ true → one ≡ two
same_bytes one two is = (bytes_eq-Decides one two).0 is

pub bytes_equal_themselves : (bytes : List ℕ) → bytes_eq bytes bytes ≡ true
bytes_equal_themselves bytes = (bytes_eq-Decides bytes bytes).1 refl

pub bytes_eq_swapped : (one two : List ℕ) → bytes_eq one two ≡ bytes_eq two one
bytes_eq_swapped one two = same_test (bytes_eq one two) (bytes_eq two one)
    (λ is. (bytes_eq-Decides two one).1 (sym (same_bytes one two is)))
    (λ is. (bytes_eq-Decides one two).1 (sym (same_bytes two one is)))

pub bytes_swapped : (one two : List ℕ) (test : Bool) → bytes_eq one two ≡ test → bytes_eq two one ≡ test
bytes_swapped one two test is = bytes_eq_swapped two one ∙ is

pub texts_tied : (one two : List ℕ) → slice_cmp nat_cmp one two ≡ Equal → one ≡ two
texts_tied one two tied = same_bytes one two (sym (is_eq-slice_cmp one two) ∙ ap is_eq tied)

-- ---- lists

pub all_of_both : {A : Type 0} (P : A → Type 0) (xs ys : List A) → AllByRecursion P xs → AllByRecursion P ys
    → AllByRecursion P (xs ++ ys)
all_of_both P [] ys holds more = more
all_of_both P (x ∷ xs) ys holds more = (holds.0, all_of_both P xs ys holds.1 more)

pub all_at : {A : Type 0} (P : A → Type 0) (xs : List A) (n : ℕ) (x : A) → AllByRecursion P xs → slice_get xs n ≡ Some x → P x
all_at P [] n x holds is = absurd (cc)
all_at P (y ∷ ys) zero x holds is = let same : y ≡ x = cc in subst P same holds.0
all_at P (y ∷ ys) (suc n) x holds is = all_at P ys n x holds.1 is

pub slice_get_last : {X : Type 0} (xs : List X) (x : X) → slice_get (xs ++ x ∷ []) (length xs) ≡ Some x
slice_get_last [] x = refl
slice_get_last (y ∷ ys) x = slice_get_last ys x

pub drop_past : {A : Type 0} (xs : List A) (n : ℕ) → slice_get xs n ≡ None → drop n xs ≡ []
drop_past [] zero is = refl
drop_past [] (suc n) is = refl
drop_past (y ∷ ys) zero is = absurd (cc)
drop_past (y ∷ ys) (suc n) is = drop_past ys n is

pub rest_is_whole : (n : ℕ) (xs : List ℕ) → take (length xs - n) (drop n xs) ≡ drop n xs
rest_is_whole n xs = grind (arith, common_steps)

pub appended_twice : (old first second middle whole : List ℕ) → middle ≡ old ++ first → whole ≡ middle ++ second
    → whole ≡ old ++ (first ++ second)
appended_twice old first second middle whole one two = two ∙ ap (λ m. m ++ second) one ∙ append_assoc old first second

-- the item that is found passes the test
pub found_passes : {A : Type 0} (test : A → Bool) (xs : List A) (x : A) → find test xs ≡ Some x → test x ≡ true
found_passes test [] x is = absurd (cc)
found_passes test (y ∷ ys) x is = by (test y) refl is (found_passes test ys x)
  where
    by : (t : Bool) → test y ≡ t → cond t (Some y) (find test ys) ≡ Some x → (find test ys ≡ Some x → test x ≡ true)
        → test x ≡ true
    by true passes is more = let same : y ≡ x = cc in ap test (sym same) ∙ passes
    by false fails is more = more is
