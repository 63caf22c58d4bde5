-- The parent, the last name and the join of paths.
use Rattle.std.proofs.Common.{◌≡◌, ℕ, ◌+◌, ◌<◌, Bool, true, false, Option, Some, None, List, [], ◌∷◌, ◌++◌, length, take, drop}
use Rattle.std.proofs.Common.{get_or, refl, ap, ap₂, sym, ◌∙◌, subst, arith, length-append, add-one, drop-cons}
use Rattle.std.proofs.Math.Seq.{take-append_seam}
use Rattle.std.proofs.lemmas.List.{take-append-drop}
use Rattle.std.specs.Prelude.{if◌then◌else◌}
use Rattle.std.specs.List.{All, AllByRecursion, slice_split, join_with_byte, last_or}
use Rattle.std.proofs.lemmas.List.Splits.{slice_split_none, length-slice_split, join_with_byte-slice_split}
use Rattle.cc_names.specs.Names.{IsName}
use Rattle.cc_names.specs.Paths.{is_slash, root, is_root, IsPath, names_of, path_of_names, without_last}
use Rattle.cc_names.specs.PathBytes.{PartsAre}
use Rattle.cc_names.proofs.Splits.{slice_split-last}
use Rattle.cc_names.proofs.NamesOfPaths.{slice_split-join, path-names, path-short, path-of_names, not_root-of_names, is_root-root}

pub names_of-below : (path : List ℕ) → is_root path ≡ false → names_of path ≡ slice_split is_slash path
names_of-below path below = ap (λ b. if b then [] else slice_split is_slash path) below

pub path_of_names-some : (names : List (List ℕ)) → 0 < length names → path_of_names names ≡ join_with_byte 47 names
path_of_names-some [] h = absurd (omega arith)
path_of_names-some (name ∷ names) h = refl

path_of_names-split : (path : List ℕ) → path_of_names (slice_split is_slash path) ≡ path
path_of_names-split path = path_of_names-some (slice_split is_slash path) (omega (arith, length-slice_split is_slash path))
    ∙ join_with_byte-slice_split 47 path

-- a path is its names, joined
pub path_of_names-names_of : (path : List ℕ) → path_of_names (names_of path) ≡ path
path_of_names-names_of path = by_test (is_root path) refl
  where
    by_test : (test : Bool) → is_root path ≡ test → path_of_names (names_of path) ≡ path
    by_test true e = ap (λ b. path_of_names (if b then [] else slice_split is_slash path)) e ∙ sym (is_root-root path e)
    by_test false e = ap path_of_names (names_of-below path e) ∙ path_of_names-split path

-- names are those of the path that they are joined to
pub names_of-path_of_names : (names : List (List ℕ)) → AllByRecursion IsName names → names_of (path_of_names names) ≡ names
names_of-path_of_names [] h = refl
names_of-path_of_names (name ∷ names) h =
    let cut = slice_split-join name names h in
    let path = join_with_byte 47 (name ∷ names) in
    names_of-below path (not_root-of_names path (subst (AllByRecursion IsName) (sym cut) h)) ∙ cut

-- a path's names are names
pub names_of-names : (path : List ℕ) → IsPath path → AllByRecursion IsName (names_of path)
names_of-names path h = by_test (is_root path) refl
  where
    by_test : (test : Bool) → is_root path ≡ test → AllByRecursion IsName (names_of path)
    by_test true e = subst (λ b. AllByRecursion IsName (if b then [] else slice_split is_slash path)) (sym e) tt
    by_test false e = subst (AllByRecursion IsName) (sym (names_of-below path e)) (path-names path h e)

pub without_last-append : (names : List (List ℕ)) (name : List ℕ) → without_last (names ++ (name ∷ []))
    ≡ Some (path_of_names names)
without_last-append [] name = refl
without_last-append (first ∷ names) name =
    let all = (first ∷ names) ++ (name ∷ []) in
    let count : length (names ++ (name ∷ [])) ≡ length (first ∷ names) = omega (arith, length-append names (name ∷ [])) in
    ap (λ n. Some (path_of_names (take n all))) count ∙ ap (λ ns. Some (path_of_names ns))
    (take-append_seam (first ∷ names) (name ∷ []))

pub last_or-append : (early : Option (List ℕ)) (names : List (List ℕ)) (name : List ℕ)
    → last_or early (names ++ (name ∷ [])) ≡ Some name
last_or-append early [] name = refl
last_or-append early (first ∷ names) name = last_or-append (Some first) names name

pub All-prefix : (names : List (List ℕ)) (name : List ℕ) → AllByRecursion IsName (names ++ (name ∷ []))
    → AllByRecursion IsName names
All-prefix [] name h = tt
All-prefix (first ∷ names) name h = (h.0, All-prefix names name h.1)

pub All-last : (names : List (List ℕ)) (name : List ℕ) → AllByRecursion IsName (names ++ (name ∷ [])) → IsName name
All-last [] name h = h.0
All-last (first ∷ names) name h = All-last names name h.1

pub All-append : (names : List (List ℕ)) (name : List ℕ) → AllByRecursion IsName names → IsName name
    → AllByRecursion IsName (names ++ (name ∷ []))
All-append [] name h last = (last, tt)
All-append (first ∷ names) name h last = (h.0, All-append names name h.1 last)

-- with no slash the path is its one name, in the root
pub parts-of_one : (path : List ℕ) → IsPath path → is_root path ≡ false → All (λ b. is_slash b ≡ false) path
    → PartsAre path root path
parts-of_one path h below none =
    let cut = names_of-below path below ∙ slice_split_none is_slash path none in
    record {
      parent = ap without_last cut;
      last = ap (last_or None) cut;
      is_path = record { no_fault = refl };
      is_name = (subst (AllByRecursion IsName) cut (names_of-names path h)).0;
    }

-- the last name stands after the last slash, and the path of its directory before it
pub parts-of_two : (directory name : List ℕ) → IsPath (directory ++ 47 ∷ name) → is_root (directory ++ 47 ∷ name) ≡ false
    → All (λ b. is_slash b ≡ false) name → PartsAre (directory ++ 47 ∷ name) directory name
parts-of_two directory name h below none =
    let path = directory ++ 47 ∷ name in
    let split = slice_split-last is_slash directory 47 name refl none in
    let cut = names_of-below path below ∙ split in
    let names = subst (AllByRecursion IsName) split (path-names path h below) in
    let short = path-short path h in
    record {
      parent = ap without_last cut ∙ without_last-append _ name ∙ ap Some (path_of_names-split directory);
      last = ap (last_or None) cut ∙ last_or-append None (slice_split is_slash directory) name;
      is_path = path-of_names directory (All-prefix _ name names) (omega (arith, length-append directory (47 ∷ name)));
      is_name = All-last _ name names;
    }

-- the path before a slash is not the root
pub not_root-before_slash : (directory name : List ℕ) → IsPath (directory ++ 47 ∷ name) → is_root (directory ++ 47 ∷ name) ≡ false
    → All (λ b. is_slash b ≡ false) name → is_root directory ≡ false
not_root-before_slash directory name h below none =
    let path = directory ++ 47 ∷ name in
    let names = subst (AllByRecursion IsName) (slice_split-last is_slash directory 47 name refl none) (path-names path h below) in
    not_root-of_names directory (All-prefix (slice_split is_slash directory) name names)

-- the same, where the slash is found by its place
pub cut_at : (path : List ℕ) (slash : ℕ) → slash < length path → get_or path slash 0 ≡ 47
    → path ≡ take slash path ++ 47 ∷ drop (slash + 1) path
cut_at path slash inside here = sym (take-append-drop slash path) ∙ ap (λ l. take slash path ++ l) (drop-cons path slash 0 inside
    ∙ ap₂ ◌∷◌ here (ap (λ n. drop n path) (sym (add-one slash))))

pub parts-at : (path : List ℕ) (slash : ℕ) → IsPath path → is_root path ≡ false → slash < length path → get_or path slash 0 ≡ 47
    → All (λ b. is_slash b ≡ false) (drop (slash + 1) path) → PartsAre path (take slash path) (drop (slash + 1) path)
    × (is_root (take slash path) ≡ false)
parts-at path slash h below inside here none =
    let cut = cut_at path slash inside here in
    let is_path = subst IsPath cut h in
    let not_root = subst (λ p. is_root p ≡ false) cut below in (
      subst (λ p. PartsAre p (take slash path) (drop (slash + 1) path)) (sym cut) (parts-of_two _ _ is_path not_root none),
      not_root-before_slash _ _ is_path not_root none,
    )
