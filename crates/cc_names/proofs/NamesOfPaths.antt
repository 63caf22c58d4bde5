-- A path and its names give each other back.
use Rattle.std.proofs.Common.{◌≡◌, ℕ, ◌+◌, ◌<◌, ◌≤◌, Bool, true, false, Option, Some, None, List, [], ◌∷◌, length, refl, ap, ap₂}
use Rattle.std.proofs.Common.{◌∙◌, subst, arith}
use borrow.Author.Tests.{eqb-true, ltb-true, ltb-false}
use Rattle.std.specs.Prelude.{not, nat_lt, if◌then◌else◌}
use Rattle.std.specs.List.{All, AllByRecursion, position, slice_split, join_with_byte}
use Rattle.std.proofs.lemmas.List.Splits.{slice_split_none, slice_split_at}
use Rattle.cc_names.specs.declared.names.NameFault.{NameFault}
use Rattle.cc_names.specs.declared.names.NameFault.TheVariants.{Empty, BadByte, TooLong}
use Rattle.cc_names.specs.Names.{is_name_byte, begins_no_name, fault_of_bytes, fault_at, name_fault, IsName}
use Rattle.cc_names.specs.Paths.{is_slash, root, is_root, fault_or, first_fault, IsPath}
use Rattle.cc_names.proofs.Splits.{each-fails}

-- what it takes that a name has no fault
no_fault-parts : (wrong : Bool) (bad : Option ℕ) (place len : ℕ) → (if wrong then Some (BadByte place) else fault_of_bytes bad
    place len) ≡ None → (wrong ≡ false) × (bad ≡ None) × (nat_lt 255 len ≡ false)
no_fault-parts true bad place len h = cc
no_fault-parts false (Some i) place len h = cc
no_fault-parts false None place len h = (refl, refl, is_short (nat_lt 255 len) len h)
  where
    is_short : (long : Bool) (n : ℕ) → (if long then Some (TooLong n) else None) ≡ None → long ≡ false
    is_short true n h = cc
    is_short false n h = refl

no_fault-anywhere : (wrong : Bool) (bad : Option ℕ) (len place other : ℕ)
    → (if wrong then Some (BadByte place) else fault_of_bytes bad place len) ≡ None
    → (if wrong then Some (BadByte other) else fault_of_bytes bad other len) ≡ None
no_fault-anywhere true bad len place other h = cc
no_fault-anywhere false (Some i) len place other h = cc
no_fault-anywhere false None len place other h = h

name-of_no_fault : (place : ℕ) (name : List ℕ) → fault_at place name ≡ None → name_fault name ≡ None
name-of_no_fault place [] h = cc
name-of_no_fault place (b ∷ bs) h =
    no_fault-anywhere (begins_no_name (b ∷ bs)) (position (λ x. not (is_name_byte x)) (b ∷ bs)) (length (b ∷ bs)) place 0 h

no_fault-of_name : (place : ℕ) (name : List ℕ) → name_fault name ≡ None → fault_at place name ≡ None
no_fault-of_name place [] h = cc
no_fault-of_name place (b ∷ bs) h =
    no_fault-anywhere (begins_no_name (b ∷ bs)) (position (λ x. not (is_name_byte x)) (b ∷ bs)) (length (b ∷ bs)) 0 place h

name_byte-no_slash : (b : ℕ) (slash : Bool) → is_slash b ≡ slash → not (is_name_byte b) ≡ false → slash ≡ false
name_byte-no_slash b false e h = refl
name_byte-no_slash b true e h =
    let wrong : true ≡ false = subst (λ x. not (is_name_byte x) ≡ false) (eqb-true b 47 e) h in cc

-- no byte of a name is a slash
pub name-no_slash : (name : List ℕ) → IsName name → All (λ b. is_slash b ≡ false) name
name-no_slash [] h k d m = absurd (omega arith)
name-no_slash (b ∷ bs) h k d m =
    let parts = no_fault-parts (begins_no_name (b ∷ bs)) (position (λ x. not (is_name_byte x)) (b ∷ bs)) 0 (length (b ∷ bs))
    h.no_fault in
    name_byte-no_slash _ _ refl (each-fails (λ x. not (is_name_byte x)) (b ∷ bs) parts.1 k d m)

-- names joined are cut into the same names
pub slice_split-join : (name : List ℕ) (names : List (List ℕ)) → AllByRecursion IsName (name ∷ names)
    → slice_split is_slash (join_with_byte 47 (name ∷ names)) ≡ name ∷ names
slice_split-join name [] h = slice_split_none is_slash name (name-no_slash name h.0)
slice_split-join name (next ∷ names) h =
    slice_split_at is_slash name 47 _ (name-no_slash name h.0) refl ∙ ap (λ l. name ∷ l) (slice_split-join next names h.1)

fault_or-parts : (fault later : Option NameFault) → fault_or fault later ≡ None → (fault ≡ None) × (later ≡ None)
fault_or-parts (Some fault) later h = cc
fault_or-parts None later h = (refl, h)

-- where no fault is found, all are names
pub first_fault-names : (place : ℕ) (names : List (List ℕ)) → first_fault place names ≡ None → AllByRecursion IsName names
first_fault-names place [] h = tt
first_fault-names place (name ∷ names) h =
    let parts = fault_or-parts (fault_at place name) (first_fault (place + length name + 1) names) h in
    (record { no_fault = name-of_no_fault place name parts.0 }, first_fault-names (place + length name + 1) names parts.1)

-- names have no first fault
pub first_fault-none : (place : ℕ) (names : List (List ℕ)) → AllByRecursion IsName names → first_fault place names ≡ None
first_fault-none place [] h = refl
first_fault-none place (name ∷ names) h =
    ap₂ fault_or (no_fault-of_name place name h.0.no_fault) (first_fault-none (place + length name + 1) names h.1)

path_fault-parts : (long rooted : Bool) (len : ℕ) (fault : Option NameFault)
    → (if long then Some (TooLong len) else (if rooted then None else fault)) ≡ None → rooted ≡ false → (long ≡ false)
    × (fault ≡ None)
path_fault-parts true rooted len fault h e = cc
path_fault-parts false true len fault h e = cc
path_fault-parts false false len fault h e = (refl, h)

path_fault-short : (long rooted : Bool) (len : ℕ) (fault : Option NameFault)
    → (if long then Some (TooLong len) else (if rooted then None else fault)) ≡ None → long ≡ false
path_fault-short true rooted len fault h = cc
path_fault-short false rooted len fault h = refl

path_fault-none : (long rooted : Bool) (len : ℕ) (fault : Option NameFault) → long ≡ false → fault ≡ None
    → (if long then Some (TooLong len) else (if rooted then None else fault)) ≡ None
path_fault-none true rooted len fault short none = cc
path_fault-none false true len fault short none = refl
path_fault-none false false len fault short none = none

-- a path below the root is cut into names
pub path-names : (path : List ℕ) → IsPath path → is_root path ≡ false → AllByRecursion IsName (slice_split is_slash path)
path-names [] h below = let wrong : Some Empty ≡ None = h.no_fault in cc
path-names (b ∷ bs) h below = first_fault-names 0 _ (path_fault-parts (nat_lt 1024 (length (b ∷ bs))) (is_root (b ∷ bs)) _ _
    h.no_fault below).1

-- a path has at most 1,024 bytes
pub path-short : (path : List ℕ) → IsPath path → length path ≤ 1024
path-short [] h = omega arith
path-short (b ∷ bs) h = ltb-false 1024 (length (b ∷ bs)) (path_fault-short (nat_lt 1024 (length (b ∷ bs))) (is_root (b ∷ bs)) _ _
    h.no_fault)

pub lt-true : (a b : ℕ) (test : Bool) → nat_lt a b ≡ test → a < b → test ≡ true
lt-true a b true e h = refl
lt-true a b false e h = absurd (omega (arith, ltb-false a b e))

-- a name has at most 255 bytes
pub name-short : (name : List ℕ) → IsName name → length name ≤ 255
name-short [] h = omega arith
name-short (b ∷ bs) h =
    ltb-false 255 (length (b ∷ bs)) (no_fault-parts (begins_no_name (b ∷ bs)) (position (λ x. not (is_name_byte x)) (b ∷ bs)) 0
    (length (b ∷ bs)) h.no_fault).2

pub lt-false : (a b : ℕ) (test : Bool) → nat_lt a b ≡ test → b ≤ a → test ≡ false
lt-false a b false e h = refl
lt-false a b true e h = absurd (omega (arith, ltb-true a b e))

-- bytes that are cut into names, and no more than a path may have, are a path
pub path-of_names : (path : List ℕ) → AllByRecursion IsName (slice_split is_slash path) → length path ≤ 1024 → IsPath path
path-of_names [] h short = let wrong : Some Empty ≡ None = h.0.no_fault in cc
path-of_names (b ∷ bs) h short =
    record {
      no_fault = path_fault-none (nat_lt 1024 (length (b ∷ bs))) (is_root (b ∷ bs)) _ _
          (lt-false 1024 (length (b ∷ bs)) _ refl short) (first_fault-none 0 _ h);
    }

-- the root is one path alone
pub is_root-root : (path : List ℕ) → is_root path ≡ true → path ≡ root
is_root-root [] h = cc
is_root-root (b ∷ []) h = ap (λ x. x ∷ []) (eqb-true b 46 h)
is_root-root (b ∷ c ∷ bs) h = cc

-- bytes that are cut into names are not the root
pub not_root-of_names : (path : List ℕ) → AllByRecursion IsName (slice_split is_slash path) → is_root path ≡ false
not_root-of_names path h = by_test (is_root path) refl
  where
    by_test : (test : Bool) → is_root path ≡ test → test ≡ false
    by_test false e = refl
    by_test true e =
        let wrong : Some (BadByte 0) ≡ None = (subst (λ p. AllByRecursion IsName (slice_split is_slash p)) (is_root-root path e)
        h).0.no_fault in cc
