-- Paths that are put together, each once.
use Rattle.std.proofs.Common.{◌≡◌, refl, sym, ap, ◌∙◌, ℕ, zero, suc, ◌≤◌, ◌==◌, Bool, true, false, List, [], ◌∷◌, ◌++◌, length}
use Rattle.std.proofs.Common.{get_or, drop, map, ◌<◌, fold, if◌then◌else◌, arith, length-append}
use Rattle.std.proofs.lemmas.Bool.{or_left, or_right}
use Rattle.std.proofs.Math.Dec.{eqb-suc-zero}
use Rattle.std.proofs.Math.Seq.{drop-cons}
use Rattle.std.proofs.lemmas.List.Sums.{fold-append}
use Rattle.std.proofs.lemmas.Slice.Eq.{bytes_eq-Decides}
use Rattle.std.specs.Str.{bytes_eq}
use Rattle.make_grammar.specs.Macros.{is_among}
use Rattle.make_grammar.specs.WordPaths.{with_path_once, once_joined}
use Rattle.make_text.proofs.ReaderLemmas.{among_all}

-- paths that are there change nothing
pub with_included : (paths more : List (List ℕ)) → ((path : List ℕ) → is_among more path ≡ true → is_among paths path ≡ true)
    → fold with_path_once paths more ≡ paths
with_included paths [] h = refl
with_included paths (path ∷ more) h =
    let itself : bytes_eq path path ≡ true = (bytes_eq-Decides path path).1 refl in
    let there : is_among paths path ≡ true = h path (or_left (bytes_eq path path) (is_among more path) itself) in
    let kept : with_path_once paths path ≡ paths = ap (λ (t : Bool). if t then paths else paths ++ path ∷ []) there in
    ap (λ (l : List (List ℕ)). fold with_path_once l more) kept
    ∙ with_included paths more (λ other among. h other (or_right (bytes_eq other path) (is_among more other) among))

-- paths that were put are there
pub with_again : (paths more : List (List ℕ)) → fold with_path_once (fold with_path_once paths more) more
    ≡ fold with_path_once paths more
with_again paths more =
    with_included (fold with_path_once paths more) more
    (λ path among. among_all paths more path ∙ or_right (is_among paths path) (is_among more path) among)

-- what changes nothing goes on to change nothing
pub still_included : (paths others more : List (List ℕ)) → fold with_path_once paths more ≡ paths
    → fold with_path_once (fold with_path_once paths others) more ≡ fold with_path_once paths others
still_included paths others more h =
    with_included (fold with_path_once paths others) more
    (λ path among.
    let there : is_among paths path ≡ true = ap (λ (l : List (List ℕ)). is_among l path) (sym h)
    ∙ (among_all paths more path ∙ or_right (is_among paths path) (is_among more path) among) in
    among_all paths others path ∙ or_left (is_among paths path) (is_among others path) there)

-- paths put one after the other, and put together first
pub with_joined : (paths others more : List (List ℕ)) → fold with_path_once paths (fold with_path_once others more)
    ≡ fold with_path_once (fold with_path_once paths others) more
with_joined paths others [] = refl
with_joined paths others (path ∷ more) =
    with_joined paths (with_path_once others path) more
    ∙ ap (λ (l : List (List ℕ)). fold with_path_once l more) (by (is_among others path) refl)
  where
    by : (t : Bool) → is_among others path ≡ t → fold with_path_once paths (with_path_once others path)
        ≡ with_path_once (fold with_path_once paths others) path
    by true is =
        let kept : with_path_once others path ≡ others = ap (λ (t : Bool). if t then others else others ++ path ∷ []) is in
        let there : is_among (fold with_path_once paths others) path ≡ true = among_all paths others path
        ∙ or_right (is_among paths path) (is_among others path) is in
        ap (fold with_path_once paths) kept
        ∙ sym (ap (λ (t : Bool). if t then fold with_path_once paths others else fold with_path_once paths others ++ path ∷ [])
        there)
    by false is =
        let more_one : with_path_once others path ≡ others ++ path ∷ [] =
        ap (λ (t : Bool). if t then others else others ++ path ∷ []) is in
        ap (fold with_path_once paths) more_one ∙ fold-append with_path_once paths others (path ∷ [])

-- paths grow no fewer
longer_one : (paths : List (List ℕ)) (path : List ℕ) → length paths ≤ length (with_path_once paths path)
longer_one paths path = by (is_among paths path)
  where
    by : (t : Bool) → length paths ≤ length (if t then paths else paths ++ path ∷ [])
    by true = omega arith
    by false = omega (arith, length-append paths (path ∷ []))

pub longer : (paths more : List (List ℕ)) → length paths ≤ length (fold with_path_once paths more)
longer paths [] = omega arith
longer paths (path ∷ more) = omega (arith, longer_one paths path, longer (with_path_once paths path) more)

pub all_longer : (paths : List (List ℕ)) (parts : List (List (List ℕ)))
    → length paths ≤ length (fold (fold with_path_once) paths parts)
all_longer paths [] = omega arith
all_longer paths (part ∷ parts) = omega (arith, longer paths part, all_longer (fold with_path_once paths part) parts)

pub not_none : (n : ℕ) → 1 ≤ n → false ≡ (n == 0)
not_none zero h = absurd (omega (arith, h))
not_none (suc n) h = sym (eqb-suc-zero n)

-- what begins with paths is not empty
pub joined_some : (part : List (List ℕ)) (parts : List (List (List ℕ))) → false ≡ (length part == 0)
    → false ≡ (length (once_joined (part ∷ parts)) == 0)
joined_some [] parts h = absurd (cc)
joined_some (path ∷ part) parts h =
    let one : List (List ℕ) = path ∷ [] in
    not_none (length (once_joined ((path ∷ part) ∷ parts))) (omega (
      arith,
      longer one part,
      all_longer (fold with_path_once one part) parts,
    ))

-- lists of paths, of which one that is not empty is at a place after empty ones
pub some_later : {A : Type 0} (paths : A → List (List ℕ)) (i : ℕ) (part : A) (items : List A) → i < length items
    → part ≡ get_or items i part → false ≡ (length (paths part) == 0) →
    once_joined (map paths (drop i items)) ≡ once_joined (map paths items) → false ≡ (length (once_joined (map paths items)) == 0)
some_later {A} paths i part items within is some same =
    let cut : drop i items ≡ part ∷ drop (suc i) items = drop-cons items i part within
    ∙ ap (λ (x : A). x ∷ drop (suc i) items) (sym is) in
    joined_some (paths part) (map paths (drop (suc i) items)) some
    ∙ (ap (λ (l : List A). length (once_joined (map paths l)) == 0) (sym cut) ∙ ap (λ (l : List (List ℕ)). length l == 0) same)
