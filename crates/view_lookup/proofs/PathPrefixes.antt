-- The prefixes of a path: up to the end of each name, its bytes are the path of its first names.
use Rattle.std.proofs.Common.{◌≡◌, ℕ, zero, suc, ◌+◌, ◌<◌, ◌≤◌, Bool, true, false, Some, None, List, [], ◌∷◌, ◌++◌, length, take}
use Rattle.std.proofs.Common.{drop, get_or, refl, ap, sym, ◌∙◌, subst, arith, add-one}
use borrow.Author.Tests.{eqb-true, ltb-true}
use Rattle.std.specs.Prelude.{nat_lt}
use Rattle.std.specs.List.{All, AllByRecursion, position, position_or_len, slice_split}
use Rattle.std.proofs.lemmas.List.{get_or-take, get_or-drop, length-drop, length-take}
use Rattle.std.proofs.lemmas.List.Splits.{slice_split_none}
use Rattle.std.proofs.lemmas.List.Sums.{fails_before_first, passes_at_first}
use Rattle.cc_names.specs.Names.{IsName}
use Rattle.cc_names.specs.Paths.{is_slash, is_root, names_of, IsPath}
use Rattle.cc_names.specs.declared.names.NameFault.TheVariants.{BadByte}
use Rattle.cc_names.proofs.NamesOfPaths.{is_root-root}
use Rattle.cc_names.proofs.PathParts.{cut_at, names_of-below, names_of-names}
use Rattle.cc_names.proofs.Splits.{Some-given, slice_split-last}

-- a name begins at the start of a path, and after a slash
abbrev pub BeginsName : List ℕ → ℕ → Type 0
BeginsName path zero = Unit {0}
BeginsName path (suc slash) = (slash < length path) × (get_or path slash 0 ≡ 47)

-- the names before a place at which one begins
abbrev pub names_before : List ℕ → ℕ → List (List ℕ)
names_before path zero = []
names_before path (suc slash) = slice_split is_slash (take slash path)

-- no slash stands among these bytes
abbrev pub IsUncut : List ℕ → Type 0
IsUncut bytes = All (λ b. is_slash b ≡ false) bytes

-- a slash parts what is taken up to a place after it
take_behind : (path : List ℕ) (slash len : ℕ) → slash < length path → get_or path slash 0 ≡ 47
    → take (suc slash + len) path ≡ take slash path ++ 47 ∷ take len (drop (suc slash) path)
take_behind [] slash len inside here = absurd (omega arith)
take_behind (b ∷ bytes) zero len inside here =
    let one : suc zero + len ≡ suc len = omega arith in
    ap (λ n. take n (b ∷ bytes)) one ∙ ap (λ first. first ∷ take len bytes) here
take_behind (b ∷ bytes) (suc slash) len inside here =
    let more : suc (suc slash) + len ≡ suc (suc slash + len) = omega arith in
    ap (λ n. take n (b ∷ bytes)) more ∙ ap (λ rest. b ∷ rest) (take_behind bytes slash len (omega arith) here)

-- up to the end of a name the path has the names before it, and the name
pub split_prefix : (path : List ℕ) (start len : ℕ) → BeginsName path start → IsUncut (take len (drop start path))
    → slice_split is_slash (take (start + len) path) ≡ names_before path start ++ (take len (drop start path) ∷ [])
split_prefix path zero len begins uncut =
    let none : zero + len ≡ len = omega arith in
    ap (λ n. slice_split is_slash (take n path)) none ∙ slice_split_none is_slash (take len path) uncut
split_prefix path (suc slash) len begins uncut =
    ap (slice_split is_slash) (take_behind path slash len begins.0 begins.1)
    ∙ slice_split-last is_slash (take slash path) 47 (take len (drop (suc slash) path)) refl uncut

-- the same of the last name
pub split_whole : (path : List ℕ) (start : ℕ) → BeginsName path start → IsUncut (drop start path)
    → slice_split is_slash path ≡ names_before path start ++ (drop start path ∷ [])
split_whole path zero begins uncut = slice_split_none is_slash path uncut
split_whole path (suc slash) begins uncut =
    let behind : drop (slash + 1) path ≡ drop (suc slash) path = ap (λ n. drop n path) (add-one slash) in
    ap (slice_split is_slash) (cut_at path slash begins.0 begins.1 ∙ ap (λ rest. take slash path ++ 47 ∷ rest) behind)
    ∙ slice_split-last is_slash (take slash path) 47 (drop (suc slash) path) refl uncut

uncut_before : (bytes : List ℕ) (place : ℕ) → place ≤ position_or_len is_slash bytes → IsUncut (take place bytes)
uncut_before bytes place upto k d within =
    let low : k < place = omega (arith, length-take place bytes) in
    ap is_slash (get_or-take place bytes k d low) ∙ fails_before_first is_slash bytes k d (omega arith)

-- the first slash of these bytes stands at this place
pub record FirstSlash (bytes : List ℕ) (place : ℕ) : Type 0 where
  pub within : place < length bytes
  pub uncut : IsUncut (take place bytes)
  pub here : get_or bytes place 0 ≡ 47

pub first_slash : (bytes : List ℕ) (place : ℕ) → position is_slash bytes ≡ Some place → FirstSlash bytes place
first_slash bytes place found =
    let at = Some-given (nat_lt (position_or_len is_slash bytes) (length bytes)) (position_or_len is_slash bytes) place found in
    let inside = ltb-true (position_or_len is_slash bytes) (length bytes) at.0 in
    subst (FirstSlash bytes) at.1
    (record {
      within = inside;
      uncut = uncut_before bytes (position_or_len is_slash bytes) (omega arith);
      here = eqb-true _ 47 (passes_at_first is_slash bytes 0 inside);
    })

-- the next name begins after the slash
pub begins_behind : (path : List ℕ) (start len : ℕ) → FirstSlash (drop start path) len → start ≤ length path
    → BeginsName path (start + len + 1)
begins_behind path start len slash inside =
    subst (BeginsName path) (sym (add-one (start + len)))
    (omega (arith, slash.within, length-drop start path), sym (get_or-drop start path len 0) ∙ slash.here)

-- the bytes before a slash of a path are not the root
not_root : (path : List ℕ) (slash : ℕ) → IsPath path → is_root path ≡ false → slash < length path → get_or path slash 0 ≡ 47
    → is_root (take slash path) ≡ false
not_root path slash is_path below inside here = by (is_root (take slash path)) refl
  where
    by : (rooted : Bool) → is_root (take slash path) ≡ rooted → rooted ≡ false
    by false is = refl
    by true is =
        let cut = cut_at path slash inside here ∙ ap (λ prefix. prefix ++ 47 ∷ drop (slash + 1) path)
        (is_root-root (take slash path) is) in
        let named = subst (λ p. AllByRecursion IsName (slice_split is_slash p)) cut
        (subst (AllByRecursion IsName) (names_of-below path below) (names_of-names path is_path)) in
        let wrong : Some (BadByte 0) ≡ None = named.0.no_fault in cc

-- so their names are those that they are cut into
pub names_of_prefix : (path : List ℕ) (start len : ℕ) → IsPath path → is_root path ≡ false → start ≤ length path
    → FirstSlash (drop start path) len → names_of (take (start + len) path) ≡ slice_split is_slash (take (start + len) path)
names_of_prefix path start len is_path below inside slash =
    names_of-below (take (start + len) path)
    (not_root path (start + len) is_path below (omega (arith, slash.within, length-drop start path))
    (sym (get_or-drop start path len 0) ∙ slash.here))
