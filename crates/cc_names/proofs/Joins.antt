-- What a path and a name are joined to.
use Rattle.std.proofs.Common.{◌≡◌, ℕ, ◌+◌, ◌<◌, ◌≤◌, Bool, true, false, Some, None, Ok, Err, List, [], ◌∷◌, ◌++◌, length, refl}
use Rattle.std.proofs.Common.{ap, sym, ◌∙◌, subst, arith, length-append, append_assoc}
use borrow.Author.Tests.{ltb-false}
use Rattle.std.specs.Prelude.{nat_lt, if◌then◌else◌}
use Rattle.std.specs.List.{AllByRecursion, slice_split, join_with_byte, last_or}
use Rattle.std.proofs.lemmas.List.Splits.{length-slice_split, join_with_byte-slice_split}
use Rattle.cc_names.specs.declared.names.NameFault.TheVariants.{TooLong}
use Rattle.cc_names.specs.Names.{IsName}
use Rattle.cc_names.specs.Paths.{is_slash, root, is_root, IsPath, names_of, path_of_names, without_last, parent_of, last_of}
use Rattle.cc_names.specs.Paths.{unless_long, join_of}
use Rattle.cc_names.specs.PathLaws.{JoinHasParts, PartsJoin}
use Rattle.cc_names.proofs.NamesOfPaths.{name-short, slice_split-join, path-short, path-of_names, lt-false, lt-true}
use Rattle.cc_names.proofs.PathParts.{names_of-below, path_of_names-some, path_of_names-names_of, names_of-path_of_names}
use Rattle.cc_names.proofs.PathParts.{names_of-names, without_last-append, last_or-append, All-prefix, All-append}

join_with_byte-append : (c : ℕ) (names : List (List ℕ)) (name : List ℕ) → 0 < length names
    → join_with_byte c (names ++ (name ∷ [])) ≡ join_with_byte c names ++ (c ∷ name)
join_with_byte-append c [] name h = absurd (omega arith)
join_with_byte-append c (first ∷ []) name h = refl
join_with_byte-append c (first ∷ next ∷ names) name h =
    ap (λ l. first ++ (c ∷ l)) (join_with_byte-append c (next ∷ names) name (omega arith))
    ∙ sym (append_assoc first (c ∷ join_with_byte c (next ∷ names)) (c ∷ name))

pub unless_long-short : (path : List ℕ) → length path ≤ 1024 → unless_long path ≡ Ok path
unless_long-short path h = ap (λ b. if b then Err (TooLong (length path)) else Ok path)
    (lt-false 1024 (length path) (nat_lt 1024 (length path)) refl h)

unless_long-Ok : (long : Bool) (path given : List ℕ) (n : ℕ) → (if long then Err (TooLong n) else Ok path) ≡ Ok given
    → (long ≡ false) × (path ≡ given)
unless_long-Ok true path given n h = cc
unless_long-Ok false path given n h = (refl, cc)

-- below the root, the bytes of the directory, a slash, and those of the name
path_of_names-below : (directory name : List ℕ) → is_root directory ≡ false
    → path_of_names (names_of directory ++ (name ∷ [])) ≡ directory ++ (47 ∷ name)
path_of_names-below directory name below =
    let names = slice_split is_slash directory in
    let more : 0 < length names = omega (arith, length-slice_split is_slash directory) in
    ap (λ ns. path_of_names (ns ++ (name ∷ []))) (names_of-below directory below)
    ∙ path_of_names-some (names ++ (name ∷ [])) (omega (arith, length-append names (name ∷ [])))
    ∙ join_with_byte-append 47 names name more
    ∙ ap (λ l. l ++ (47 ∷ name)) (join_with_byte-slice_split 47 directory)

-- a path of these names, where it is short enough
holds-path_of_names : (names : List (List ℕ)) (path : List ℕ) → AllByRecursion IsName names → 0 < length names
    → path_of_names names ≡ path → length path ≤ 1024 → IsPath path
holds-path_of_names [] path h more is short = absurd (omega arith)
holds-path_of_names (name ∷ names) path h more is short =
    let split = subst (λ p. AllByRecursion IsName (slice_split is_slash p)) is
    (subst (AllByRecursion IsName) (sym (slice_split-join name names h)) h) in
    path-of_names path split short

-- in the root, the name alone
pub join-at_root : (name : List ℕ) → IsName name → (join_of root name ≡ Ok name) × IsPath name
join-at_root name h =
    let short : length name ≤ 1024 = omega (arith, name-short name h) in
    (unless_long-short name short, holds-path_of_names (name ∷ []) name (h, tt) (omega arith) refl short)

-- below the root, the bytes of both with a slash between them, unless they are too long
pub join-below : (directory name : List ℕ) → is_root directory ≡ false
    → join_of directory name ≡ unless_long (directory ++ 47 ∷ name)
join-below directory name below = ap unless_long (path_of_names-below directory name below)

pub holds-join : (directory name path : List ℕ) → IsPath directory → is_root directory ≡ false → IsName name
    → unless_long (directory ++ 47 ∷ name) ≡ Ok path → IsPath path
holds-join directory name path h below named is =
    let bytes = directory ++ 47 ∷ name in
    let given = unless_long-Ok (nat_lt 1024 (length bytes)) bytes path (length bytes) is in
    let short = ltb-false 1024 (length bytes) given.0 in
    let names = names_of directory ++ (name ∷ []) in
    let all = All-append (names_of directory) name (names_of-names directory h) named in
    holds-path_of_names names path all (omega (arith, length-append (names_of directory) (name ∷ [])))
    (path_of_names-below directory name below ∙ given.1) (subst (λ p. length p ≤ 1024) given.1 short)

-- and where they are too long, their length
pub join-long : (directory name : List ℕ) → is_root directory ≡ false → 1024 < length directory + 1 + length name
    → join_of directory name ≡ Err (TooLong (length directory + 1 + length name))
join-long directory name below long =
    let path = directory ++ 47 ∷ name in
    let whole : length path ≡ length directory + 1 + length name = omega (arith, length-append directory (47 ∷ name)) in
    let test = lt-true 1024 (length path) (nat_lt 1024 (length path)) refl (omega arith) in
    join-below directory name below ∙ ap (λ b. if b then Err (TooLong (length path)) else Ok path) test
    ∙ ap (λ n. Err (TooLong n)) whole

pub join-parts : JoinHasParts
join-parts directory name path h named is =
    let names = names_of directory ++ (name ∷ []) in
    let all = All-append (names_of directory) name (names_of-names directory h) named in
    let whole = (unless_long-Ok (nat_lt 1024 (length (path_of_names names))) (path_of_names names) path
    (length (path_of_names names)) is).1 in
    let cut = ap names_of (sym whole) ∙ names_of-path_of_names names all in (
      ap without_last cut ∙ without_last-append (names_of directory) name ∙ ap Some (path_of_names-names_of directory),
      ap (last_or None) cut ∙ last_or-append None (names_of directory) name,
    )

-- a list that is not empty has a last member
pub record EndsIn (names prefix : List (List ℕ)) (name : List ℕ) : Type 0 where
  pub is : names ≡ prefix ++ (name ∷ [])

ends_in : (first : List ℕ) (names : List (List ℕ)) → (prefix : List (List ℕ)) × (name : List ℕ)
    × EndsIn (first ∷ names) prefix name
ends_in first [] = ([], first, record { is = refl })
ends_in first (next ∷ names) =
    let end = ends_in next names in (first ∷ end.0, end.1, record { is = ap (λ l. first ∷ l) end.2.is })

parts-join-of : (path : List ℕ) (names : List (List ℕ)) → IsPath path → names_of path ≡ names → 0 < length names
    → (directory : List ℕ) × (name : List ℕ) × (parent_of path ≡ Some directory) × (last_of path ≡ Some name)
    × (join_of directory name ≡ Ok path)
parts-join-of path [] h is more = absurd (omega arith)
parts-join-of path (first ∷ names) h is more =
    let end = ends_in first names in
    let prefix = end.0 in
    let name = end.1 in
    let cut = is ∙ end.2.is in
    let all = subst (AllByRecursion IsName) cut (names_of-names path h) in
    let rest = names_of-path_of_names prefix (All-prefix prefix name all) in
    let whole = ap (λ ns. path_of_names (ns ++ (name ∷ []))) rest ∙ ap path_of_names (sym cut) ∙ path_of_names-names_of path in (
      path_of_names prefix,
      name,
      ap without_last cut ∙ without_last-append prefix name,
      ap (last_or None) cut ∙ last_or-append None prefix name,
      ap unless_long whole ∙ unless_long-short path (path-short path h),
    )

pub parts-join : PartsJoin
parts-join path h below =
    parts-join-of path (slice_split is_slash path) h (names_of-below path below) (omega (arith, length-slice_split is_slash path))
