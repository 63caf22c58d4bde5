-- Bytes that are two suffixes put together.
use Rattle.std.proofs.Common.{◌≡◌, refl, sym, ap, ◌∙◌, ℕ, zero, suc, ◌<◌, Bool, true, false, ◌||◌, ◌&&◌, not, Some, Result, Ok, Err, IfOk}
use Rattle.std.proofs.Common.{List, [], ◌∷◌, ◌++◌, length, get_or, take, drop, slice_get, if◌then◌else◌, arith}
use Rattle.std.specs.Prelude.{◌==◌, nat_lt}
use Rattle.std.proofs.Math.Seq.{take-append_seam, drop-append_seam}
use Rattle.std.proofs.lemmas.Bool.{and_from, and_parts, or_left, or_right}
use Rattle.std.proofs.lemmas.List.{take-append-drop}
use Rattle.std.proofs.lemmas.Slice.Eq.{bytes_eq-Decides}
use Rattle.std.specs.List.{list_any, list_all}
use Rattle.std.specs.Str.{bytes_eq}
use Rattle.make_grammar.specs.Contents.{is_pair_of}
use Rattle.make_grammar.specs.Lines.{is_byte}
use Rattle.make_grammar.specs.Macros.{is_among}
use Rattle.make_grammar.specs.Statements.{is_suffix, is_suffix_byte}
use Rattle.make_grammar.specs.WordPaths.{with_path_once}
use Rattle.make_text.specs.SuffixRules.{before_period, first_length}
use Rattle.make_text.proofs.ExpansionLemmas.{same_bytes}
use Rattle.make_text.proofs.ReaderLemmas.{same_ways}

-- suffixes with one more are suffixes
all_behind : (suffixes : List (List ℕ)) (suffix : List ℕ) → list_all is_suffix suffixes ≡ true → is_suffix suffix ≡ true →
    list_all is_suffix (suffixes ++ suffix ∷ []) ≡ true
all_behind [] suffix all is = and_from (is_suffix suffix) true is refl
all_behind (x ∷ suffixes) suffix all is =
    let parts = and_parts (is_suffix x) (list_all is_suffix suffixes) all in
    and_from (is_suffix x) (list_all is_suffix (suffixes ++ suffix ∷ [])) parts.0 (all_behind suffixes suffix parts.1 is)

pub all_with : (suffixes : List (List ℕ)) (suffix : List ℕ) → list_all is_suffix suffixes ≡ true → is_suffix suffix ≡ true →
    list_all is_suffix (with_path_once suffixes suffix) ≡ true
all_with suffixes suffix all is = by (is_among suffixes suffix)
  where
    by : (there : Bool) → list_all is_suffix (if there then suffixes else suffixes ++ suffix ∷ []) ≡ true
    by true = all
    by false = all_behind suffixes suffix all is

-- the first of two suffixes has its only `.` at its front
before_is : (bytes to : List ℕ) → list_all is_suffix_byte bytes ≡ true → is_byte 46 (slice_get to 0) ≡ true →
    before_period (bytes ++ to) ≡ length bytes
before_is [] [] all at = absurd (cc)
before_is [] (b ∷ to) all at = ap (λ (c : Bool). if c then 0 else suc (before_period to)) at
before_is (b ∷ bytes) to all at =
    let parts = and_parts (is_suffix_byte b) (list_all is_suffix_byte bytes) all in
    ap (λ (c : Bool). if c then 0 else suc (before_period (bytes ++ to))) (other b parts.0)
    ∙ ap suc (before_is bytes to parts.1 at)
  where
    none : (c d : Bool) → (c && not d) ≡ true → d ≡ false
    none c false h = refl
    none true true h = absurd (cc)
    none false true h = absurd (cc)

    other : (b : ℕ) → is_suffix_byte b ≡ true → (b == 46) ≡ false
    other b h = none _ (b == 46) h

suffix_parts : (b : ℕ) (rest : List ℕ) → is_suffix (b ∷ rest) ≡ true →
    (is_byte 46 (Some b) ≡ true) × (list_all is_suffix_byte rest ≡ true)
suffix_parts b rest h =
    let parts = and_parts (is_byte 46 (Some b) && nat_lt 1 (length (b ∷ rest))) (list_all is_suffix_byte rest) h in
    ((and_parts (is_byte 46 (Some b)) (nat_lt 1 (length (b ∷ rest))) parts.0).0, parts.1)

pub first_is : (from to : List ℕ) → is_suffix from ≡ true → is_suffix to ≡ true → first_length (from ++ to) ≡ length from
first_is [] to one two = absurd (cc)
first_is (b ∷ from) [] one two = absurd (cc)
first_is (b ∷ from) (c ∷ to) one two = ap suc (before_is from (c ∷ to) (suffix_parts b from one).1 (suffix_parts c to two).0)

-- the suffix at a place
pub suffix_at : (suffixes : List (List ℕ)) (i : ℕ) → list_all is_suffix suffixes ≡ true → i < length suffixes →
    is_suffix (get_or suffixes i []) ≡ true
suffix_at [] i all within = absurd (omega (arith, within))
suffix_at (suffix ∷ suffixes) zero all within = (and_parts (is_suffix suffix) (list_all is_suffix suffixes) all).0
suffix_at (suffix ∷ suffixes) (suc i) all within =
    suffix_at suffixes i (and_parts (is_suffix suffix) (list_all is_suffix suffixes) all).1 (omega (arith, within))

-- one of the suffixes that the test holds of
record Found (suffixes : List (List ℕ)) (test : List ℕ → Bool) : Type 0 where
  pub suffix : List ℕ
  pub among : is_among suffixes suffix ≡ true
  pub is : is_suffix suffix ≡ true
  pub holds : test suffix ≡ true

found_first : (x : List ℕ) (suffixes : List (List ℕ)) (test : List ℕ → Bool) (b : Bool) → test x ≡ b → is_suffix x ≡ true →
    (b || list_any test suffixes) ≡ true →
    (list_any test suffixes ≡ true → Found suffixes test) → Found (x ∷ suffixes) test
found_first x suffixes test true holds is h later =
    let among = or_left (bytes_eq x x) (is_among suffixes x) ((bytes_eq-Decides x x).1 refl) in
    record { suffix = x; among = among; is = is; holds = holds }
found_first x suffixes test false holds is h later =
    let f = later h in
    let among = or_right (bytes_eq f.suffix x) (is_among suffixes f.suffix) f.among in
    record { suffix = f.suffix; among = among; is = f.is; holds = f.holds }

found : (suffixes : List (List ℕ)) (test : List ℕ → Bool) → list_all is_suffix suffixes ≡ true →
    list_any test suffixes ≡ true → Found suffixes test
found [] test all any = absurd (cc)
found (x ∷ suffixes) test all any =
    let parts = and_parts (is_suffix x) (list_all is_suffix suffixes) all in
    found_first x suffixes test (test x) refl parts.0 any (λ h. found suffixes test parts.1 h)

-- the test holds of one of the suffixes
any_first : (x y : List ℕ) (suffixes : List (List ℕ)) (test : List ℕ → Bool) (b : Bool) → bytes_eq x y ≡ b → test x ≡ true →
    (b || is_among suffixes x) ≡ true →
    (is_among suffixes x ≡ true → list_any test suffixes ≡ true) → (test y || list_any test suffixes) ≡ true
any_first x y suffixes test true same holds h later =
    or_left (test y) (list_any test suffixes) (sym (ap test (same_bytes x y same)) ∙ holds)
any_first x y suffixes test false same holds h later = or_right (test y) (list_any test suffixes) (later h)

any_of : (suffixes : List (List ℕ)) (test : List ℕ → Bool) (x : List ℕ) → is_among suffixes x ≡ true → test x ≡ true →
    list_any test suffixes ≡ true
any_of [] test x among holds = absurd (cc)
any_of (y ∷ suffixes) test x among holds =
    any_first x y suffixes test (bytes_eq x y) refl holds among (λ h. any_of suffixes test x h holds)

-- bytes that are cut into two suffixes are these put together
to_pair : (suffixes : List (List ℕ)) (bytes : List ℕ) (n : ℕ) →
    (is_among suffixes (take n bytes) && is_among suffixes (drop n bytes)) ≡ true → is_pair_of suffixes bytes ≡ true
to_pair suffixes bytes n h =
    let parts = and_parts (is_among suffixes (take n bytes)) (is_among suffixes (drop n bytes)) h in
    let same = (bytes_eq-Decides bytes (take n bytes ++ drop n bytes)).1 (sym (take-append-drop n bytes)) in
    any_of suffixes (λ from. list_any (λ to. bytes_eq bytes (from ++ to)) suffixes) (take n bytes) parts.0
    (any_of suffixes (λ to. bytes_eq bytes (take n bytes ++ to)) (drop n bytes) parts.1 same)

-- suffixes put together are cut before the second one
from_pair : (suffixes : List (List ℕ)) (bytes : List ℕ) → list_all is_suffix suffixes ≡ true → is_pair_of suffixes bytes ≡ true →
    (is_among suffixes (take (first_length bytes) bytes) && is_among suffixes (drop (first_length bytes) bytes)) ≡ true
from_pair suffixes bytes all h =
    let f = found suffixes (λ from. list_any (λ to. bytes_eq bytes (from ++ to)) suffixes) all h in
    let t = found suffixes (λ to. bytes_eq bytes (f.suffix ++ to)) all f.holds in
    let same : bytes ≡ f.suffix ++ t.suffix = same_bytes bytes (f.suffix ++ t.suffix) t.holds in
    let size : first_length bytes ≡ length f.suffix = ap first_length same ∙ first_is f.suffix t.suffix f.is t.is in
    let first : take (first_length bytes) bytes ≡ f.suffix =
    ap (λ k. take k bytes) size ∙ (ap (take (length f.suffix)) same ∙ take-append_seam f.suffix t.suffix) in
    let rest : drop (first_length bytes) bytes ≡ t.suffix =
    ap (λ k. drop k bytes) size ∙ (ap (drop (length f.suffix)) same ∙ drop-append_seam f.suffix t.suffix) in
    and_from (is_among suffixes (take (first_length bytes) bytes)) (is_among suffixes (drop (first_length bytes) bytes))
    (ap (is_among suffixes) first ∙ f.among) (ap (is_among suffixes) rest ∙ t.among)

-- bytes are two suffixes put together where they are so cut before the first `.` after their first byte
pub pair_cut : (suffixes : List (List ℕ)) (bytes : List ℕ) → list_all is_suffix suffixes ≡ true →
    (is_among suffixes (take (first_length bytes) bytes) && is_among suffixes (drop (first_length bytes) bytes))
    ≡ is_pair_of suffixes bytes
pair_cut suffixes bytes all =
    same_ways (is_among suffixes (take (first_length bytes) bytes) && is_among suffixes (drop (first_length bytes) bytes))
    (is_pair_of suffixes bytes)
    (to_pair suffixes bytes (first_length bytes)) (from_pair suffixes bytes all)

-- whether both parts are suffixes, where that was found
pub pair_if : {E : Type 0} (suffixes : List (List ℕ)) (bytes from to : List ℕ) (result : Result Bool E) →
    list_all is_suffix suffixes ≡ true →
    from ≡ take (first_length bytes) bytes → to ≡ drop (first_length bytes) bytes →
    IfOk result (λ both. both ≡ (is_among suffixes from && is_among suffixes to)) →
    IfOk result (λ is_pair. is_pair ≡ is_pair_of suffixes bytes)
pair_if suffixes bytes from to (Err fault) all one two h = tt
pair_if suffixes bytes from to (Ok both) all one two h =
    h ∙ ap (λ (f : List ℕ). is_among suffixes f && is_among suffixes to) one
    ∙ ap (λ (t : List ℕ). is_among suffixes (take (first_length bytes) bytes) && is_among suffixes t) two
    ∙ pair_cut suffixes bytes all
