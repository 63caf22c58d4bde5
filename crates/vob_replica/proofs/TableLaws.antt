-- Epoch tables stay in byte order of sites, and a site's number is the higher one.
use Rattle.std.proofs.Common.{◌≡◌, ℕ, zero, suc, ◌<◌, true, false, cond, List, [], ◌∷◌, length, get_or, set, max, refl, sym, ap}
use Rattle.std.proofs.Common.{◌∙◌, subst, arith}
use Rattle.std.specs.Prelude.{insert, Result, Ok, Err, OnOk, OnErr}
use Rattle.std.specs.Ordering.{nat_cmp, match_ordering, ordering_reverse, is_lt, is_eq}
use Rattle.std.specs.declared.cmp.Ordering.{Ordering}
use Rattle.std.specs.declared.cmp.Ordering.TheVariants.{Less, Equal, Greater}
use Rattle.std.specs.Cmp.Lexicographic.{slice_cmp}
use Rattle.std.specs.Str.{bytes_eq}
use Rattle.std.proofs.lemmas.Cmp.{nat_list_cmp_total}
use Rattle.std.proofs.lemmas.Map.Text.{is_eq-slice_cmp}
use Rattle.std.proofs.lemmas.Slice.Eq.{bytes_eq-Decides}
use Rattle.vob_replica.specs.declared.events.Identity.{Identity}
use Rattle.vob_replica.specs.Tables.{with_operation, entry_place_in, is_entry_at, higher_entry, IsBeforeSites, Ascends}

abbrev pub order : List ℕ → List ℕ → Ordering
order x y = slice_cmp nat_cmp x y

-- the order, turned round
pub turned : (x y : List ℕ) (o : Ordering) → order x y ≡ o → order y x ≡ ordering_reverse o
turned x y o is = nat_list_cmp_total.antisymm y x ∙ ap ordering_reverse is

-- where one stands after the other, they differ
pub behind-differs : (x y : List ℕ) → order x y ≡ Greater → bytes_eq x y ≡ false
behind-differs x y is = sym (is_eq-slice_cmp x y) ∙ ap is_eq is

pub equal-same : (x y : List ℕ) → order x y ≡ Equal → x ≡ y
equal-same x y is = (bytes_eq-Decides x y).0 (sym (is_eq-slice_cmp x y) ∙ ap is_eq is)

-- what stands before a site stands before what that stands before
pub IsBeforeSites-along : (x y : List ℕ) (table : List Identity) → order x y ≡ Less → IsBeforeSites y table
    → IsBeforeSites x table
IsBeforeSites-along x y [] lt before = tt
IsBeforeSites-along x y (entry ∷ others) lt before = (
  nat_list_cmp_total.trans x y entry.site lt before.0,
  IsBeforeSites-along x y others lt before.1,
)

-- an operation among entries, by how its site stands to the first one's
abbrev pub raised_by_order : Ordering → Identity → List Identity → Identity → List Identity
raised_by_order o entry others i =
    match_ordering o (i ∷ entry ∷ others) (record { site = entry.site; number = max entry.number i.number } ∷ others)
    (entry ∷ with_operation others i)

IsBeforeSites-by_order : (o : Ordering) (x : List ℕ) (entry : Identity) (others : List Identity) (i : Identity)
    → IsBeforeSites x (entry ∷ others) → order x i.site ≡ Less → IsBeforeSites x (with_operation others i)
    → IsBeforeSites x (raised_by_order o entry others i)
IsBeforeSites-by_order Less x entry others i before lt later = (lt, before)
IsBeforeSites-by_order Equal x entry others i before lt later = before
IsBeforeSites-by_order Greater x entry others i before lt later = (before.0, later)

-- one more entry after a site
IsBeforeSites-with_operation : (x : List ℕ) (table : List Identity) (i : Identity) → IsBeforeSites x table → order x i.site ≡ Less
    → IsBeforeSites x (with_operation table i)
IsBeforeSites-with_operation x [] i before lt = (lt, tt)
IsBeforeSites-with_operation x (entry ∷ others) i before lt =
    IsBeforeSites-by_order (order i.site entry.site) x entry others i before lt
    (IsBeforeSites-with_operation x others i before.1 lt)

Ascends-by_order : (o : Ordering) (entry : Identity) (others : List Identity) (i : Identity)
    → order i.site entry.site ≡ o → Ascends (entry ∷ others) → Ascends (with_operation others i)
    → Ascends (raised_by_order o entry others i)
Ascends-by_order Less entry others i is ascends later = ((is, IsBeforeSites-along i.site entry.site others is ascends.0), ascends)
Ascends-by_order Equal entry others i is ascends later = ascends
Ascends-by_order Greater entry others i is ascends later = (
  IsBeforeSites-with_operation entry.site others i ascends.0
      (turned i.site entry.site Greater is),
  later,
)

-- a table stays in order
pub Ascends-with_operation : (table : List Identity) (i : Identity) → Ascends table → Ascends (with_operation table i)
Ascends-with_operation [] i ascends = (tt, tt)
Ascends-with_operation (entry ∷ others) i ascends =
    Ascends-by_order (order i.site entry.site) entry others i refl ascends (Ascends-with_operation others i ascends.1)

-- the place of a site, by how the first one stands to it
abbrev place_by : Ordering → List ℕ → List Identity → ℕ
place_by o site others = cond (is_lt o) (suc (entry_place_in site others)) 0

-- an entry at a place has another site
abbrev DiffersAt : List Identity → ℕ → Identity → Type 0
DiffersAt table place i = (d : Identity) → place < length table → bytes_eq (get_or table place d).site i.site ≡ false

absent-by_order : (o : Ordering) (entry : Identity) (others : List Identity) (i : Identity)
    → order entry.site i.site ≡ o → DiffersAt (entry ∷ others) (place_by o i.site others) i
    → (DiffersAt others (entry_place_in i.site others) i → with_operation others i
    ≡ insert others (entry_place_in i.site others) i)
    → with_operation (entry ∷ others) i ≡ insert (entry ∷ others) (place_by o i.site others) i
absent-by_order Less entry others i is differs later =
    ap (λ o. raised_by_order o entry others i) (turned entry.site i.site Less is)
    ∙ ap (λ l. entry ∷ l) (later (λ d within. differs d (omega arith)))
absent-by_order Equal entry others i is differs later =
    let same : bytes_eq entry.site i.site ≡ true = sym (is_eq-slice_cmp entry.site i.site) ∙ ap is_eq is in
    let other : bytes_eq entry.site i.site ≡ false = differs entry (omega arith) in
    absurd (cc (same, other))
absent-by_order Greater entry others i is differs later = ap (λ o. raised_by_order o entry others i)
    (turned entry.site i.site Greater is)

-- where no entry has the site, the operation is put in its place
pub with_operation-absent : (table : List Identity) (i : Identity) → DiffersAt table (entry_place_in i.site table) i
    → with_operation table i ≡ insert table (entry_place_in i.site table) i
with_operation-absent [] i differs = refl
with_operation-absent (entry ∷ others) i differs = absent-by_order (order entry.site i.site) entry others i refl differs
    (with_operation-absent others i)

-- the entry at a place with a number that is at least this one's
abbrev higher_at : List Identity → ℕ → Identity → Identity → Identity
higher_at table place i d = higher_entry (get_or table place d) i.number

present-by_order : (o : Ordering) (entry : Identity) (others : List Identity) (i d : Identity)
    → order entry.site i.site ≡ o → place_by o i.site others < length (entry ∷ others)
    → bytes_eq (get_or (entry ∷ others) (place_by o i.site others) d).site i.site ≡ true
    → (entry_place_in i.site others < length others → bytes_eq (get_or others (entry_place_in i.site others) d).site i.site ≡ true
    → with_operation others i ≡ set others (entry_place_in i.site others) (higher_at others (entry_place_in i.site others) i d))
    → with_operation (entry ∷ others) i ≡ set (entry ∷ others) (place_by o i.site others)
    (higher_at (entry ∷ others) (place_by o i.site others) i d)
present-by_order Less entry others i d is within same later =
    ap (λ o. raised_by_order o entry others i) (turned entry.site i.site Less is)
    ∙ ap (λ l. entry ∷ l) (later (omega arith) same)
present-by_order Equal entry others i d is within same later = ap (λ o. raised_by_order o entry others i)
    (turned entry.site i.site Equal is)
present-by_order Greater entry others i d is within same later =
    let other : bytes_eq entry.site i.site ≡ false = behind-differs entry.site i.site is in
    absurd (cc (same, other))

-- where an entry has the site, its number is the higher one
pub with_operation-present : (table : List Identity) (i d : Identity) → entry_place_in i.site table < length table
    → bytes_eq (get_or table (entry_place_in i.site table) d).site i.site ≡ true
    → with_operation table i ≡ set table (entry_place_in i.site table) (higher_at table (entry_place_in i.site table) i d)
with_operation-present [] i d within same = absurd (omega arith)
with_operation-present (entry ∷ others) i d within same = present-by_order (order entry.site i.site) entry others i d refl within
    same (with_operation-present others i d)

-- an entry of the site is at the place
is_entry_at-true : (table : List Identity) (place : ℕ) (site : List ℕ) (d : Identity) → is_entry_at table place site ≡ true
    → (place < length table) × (bytes_eq (get_or table place d).site site ≡ true)
is_entry_at-true [] place site d is = cc
is_entry_at-true (entry ∷ others) zero site d is = (omega arith, is)
is_entry_at-true (entry ∷ others) (suc place) site d is = let later = is_entry_at-true others place site d is in
    (omega (arith, later.0), later.1)

is_entry_at-false : (table : List Identity) (place : ℕ) (i : Identity) → is_entry_at table place i.site ≡ false
    → DiffersAt table place i
is_entry_at-false [] place i is d within = absurd (omega arith)
is_entry_at-false (entry ∷ others) zero i is d within = is
is_entry_at-false (entry ∷ others) (suc place) i is d within = is_entry_at-false others place i is d (omega arith)

-- an operation is added where its site has an entry
pub put-present : (table new : List Identity) (place : ℕ) (i : Identity)
    → ((d : Identity) → new ≡ set table place (higher_entry (get_or table place d) i.number))
    → place ≡ entry_place_in i.site table → is_entry_at table place i.site ≡ true → new ≡ with_operation table i
put-present table new place i is at there =
    let new_is : new ≡ set table (entry_place_in i.site table) (higher_at table (entry_place_in i.site table) i i) =
    subst (λ (p : ℕ). new ≡ set table p (higher_at table p i i)) at (is i) in
    let found = is_entry_at-true table (entry_place_in i.site table) i.site i
    (subst (λ (p : ℕ). is_entry_at table p i.site ≡ true) at there) in
    new_is ∙ sym (with_operation-present table i i found.0 found.1)

-- and where it has none
pub put-absent : (table new : List Identity) (place : ℕ) (i : Identity) → new ≡ insert table place i
    → place ≡ entry_place_in i.site table → is_entry_at table place i.site ≡ false → new ≡ with_operation table i
put-absent table new place i is at none =
    let differs : DiffersAt table (entry_place_in i.site table) i = is_entry_at-false table (entry_place_in i.site table) i
    (subst (λ (p : ℕ). is_entry_at table p i.site ≡ false) at none) in
    is ∙ ap (λ (p : ℕ). insert table p i) at ∙ sym (with_operation-absent table i differs)

pub put-absent_ok : {T E : Type 0} (r : Result T E) (table new : List Identity) (place : ℕ) (i : Identity)
    → OnOk r (new ≡ insert table place i)
    → place ≡ entry_place_in i.site table → is_entry_at table place i.site ≡ false → OnOk r (new ≡ with_operation table i)
put-absent_ok (Ok x) table new place i is at none = put-absent table new place i is at none
put-absent_ok (Err e) table new place i is at none = tt

-- a table stays in order whether there was memory or not
pub Ascends-after : {T E : Type 0} (r : Result T E) (old new : List Identity) (i : Identity) → Ascends old
    → OnOk r (new ≡ with_operation old i) → OnErr r (new ≡ old) → Ascends new
Ascends-after (Ok x) old new i ascends ok err = subst Ascends (sym ok) (Ascends-with_operation old i ascends)
Ascends-after (Err e) old new i ascends ok err = subst Ascends (sym err) ascends
