-- Which operations a table holds, as it grows.
use Rattle.std.proofs.Common.{◌≡◌, ℕ, ◌+◌, ◌<◌, ◌≤◌, max, Bool, true, false, cond, eqb, Option, Some, None, List, [], ◌∷◌, refl}
use Rattle.std.proofs.Common.{sym, ap, ◌∙◌, subst, arith}
use Rattle.std.specs.Prelude.{◌&&◌, nat_le, nat_lt, find}
use Rattle.std.specs.Option.{option_map_or}
use Rattle.std.specs.Str.{bytes_eq}
use Rattle.std.specs.declared.cmp.Ordering.{Ordering}
use Rattle.std.specs.declared.cmp.Ordering.TheVariants.{Less, Equal, Greater}
use Rattle.std.proofs.lemmas.Bool.Decides.{nat_tests}
use Rattle.std.proofs.lemmas.Slice.Eq.{bytes_eq-Decides}
use Rattle.vob_replica.specs.declared.events.Identity.{Identity}
use Rattle.vob_replica.specs.Tables.{first_gap, holds, number_in, raised_by, with_operation, Ascends, IsWithin}
use Rattle.vob_replica.specs.Trees.{is_same_identity}
use Rattle.vob_replica.proofs.TableLaws.{order, raised_by_order, Ascends-with_operation, equal-same, behind-differs}
use Rattle.vob_replica.proofs.LogLaws.{at_most, number_in-most}
use Rattle.vob_replica.proofs.ImportLaws.{number_in-with_operation}

pub holds-from : (table : List Identity) (i : Identity) → 0 < i.number → i.number ≤ number_in table i.site → holds table i ≡ true
holds-from table i some within = by (number_in table i.site) within
  where
    by : (has : ℕ) → i.number ≤ has → nat_lt 0 i.number && nat_le i.number has ≡ true
    by has le = grind (arith, nat_tests)

holds-parts : (number has : ℕ) → nat_lt 0 number && nat_le number has ≡ true → (0 < number) × (number ≤ has)
holds-parts number has is = (grind (arith, nat_tests), grind (arith, nat_tests))

pub holds-to : (table : List Identity) (i : Identity) → holds table i ≡ true → (0 < i.number)
    × (i.number ≤ number_in table i.site)
holds-to table i is = holds-parts i.number (number_in table i.site) is

lacks-parts : (number has : ℕ) → has < number → nat_lt 0 number && nat_le number has ≡ false
lacks-parts number has above = grind (arith, nat_tests)

pub lacks-from : (table : List Identity) (i : Identity) → number_in table i.site < i.number → holds table i ≡ false
lacks-from table i above = lacks-parts i.number (number_in table i.site) above

pub holds-within : (table other : List Identity) (i : Identity) → IsWithin table other → holds table i ≡ true
    → holds other i ≡ true
holds-within table other i within is =
    let parts = holds-to table i is in
    let le = within i.site in
    holds-from other i parts.0 (omega (arith, parts.1, le))

whole-by : (b : Bool) (need : Identity) (needs table other : List Identity) → nat_le need.number (number_in table need.site) ≡ b
    → number_in table need.site ≤ number_in other need.site
    → cond b (first_gap needs table) (Some (record { site = need.site; number = number_in table need.site + 1 })) ≡ None
    → (first_gap needs table ≡ None → first_gap needs other ≡ None) → first_gap (need ∷ needs) other ≡ None
whole-by true need needs table other is le whole later =
    let more : nat_le need.number (number_in other need.site) ≡ true =
    at need.number (number_in table need.site) (number_in other need.site) is le in
    ap (λ (b : Bool). cond b (first_gap needs other) (Some (record { site = need.site; number = number_in other need.site + 1 })))
    more ∙ later whole
  where
    at : (n has more : ℕ) → nat_le n has ≡ true → has ≤ more → nat_le n more ≡ true
    at n has more is le = grind (arith, nat_tests)
whole-by false need needs table other is le whole later = cc whole

-- what a table has is in a greater one too
pub whole-within : (needs table other : List Identity) → IsWithin table other → first_gap needs table ≡ None
    → first_gap needs other ≡ None
whole-within [] table other within whole = refl
whole-within (need ∷ needs) table other within whole =
    whole-by (nat_le need.number (number_in table need.site)) need needs table other refl (within need.site) whole
    (whole-within needs table other within)

-- the number of an entry that was found
abbrev number_found : Option Identity → ℕ
number_found found = option_map_or (λ (entry : Identity). entry.number) found 0

abbrev found_in : List Identity → List ℕ → Option Identity
found_in table site = find (λ (entry : Identity). bytes_eq entry.site site) table

own-by_order : (o : Ordering) (entry : Identity) (others : List Identity) (i : Identity) → order i.site entry.site ≡ o
    → i.number ≤ number_in (with_operation others i) i.site → i.number ≤ number_in (raised_by_order o entry others i) i.site
own-by_order Less entry others i is later =
    let own : bytes_eq i.site i.site ≡ true = (bytes_eq-Decides i.site i.site).1 refl in
    subst (λ (b : Bool). i.number ≤ number_found (cond b (Some i) (found_in (entry ∷ others) i.site))) (sym own) (omega arith)
own-by_order Equal entry others i is later =
    let own : bytes_eq entry.site i.site ≡ true = (bytes_eq-Decides entry.site i.site).1 (sym (equal-same i.site entry.site is))
    in
    subst (λ (b : Bool). i.number ≤ number_found (cond b (Some (record { site = entry.site; number = max entry.number i.number }))
    (found_in others i.site))) (sym own) (omega arith)
own-by_order Greater entry others i is later =
    let differs : bytes_eq entry.site i.site ≡ false = by (bytes_eq entry.site i.site) refl in
    subst (λ (b : Bool). i.number ≤ number_found (cond b (Some entry) (found_in (with_operation others i) i.site))) (sym differs)
    later
  where
    by : (b : Bool) → bytes_eq entry.site i.site ≡ b → b ≡ false
    by true same =
        let back : bytes_eq i.site entry.site ≡ true = (bytes_eq-Decides i.site entry.site).1
        (sym ((bytes_eq-Decides entry.site i.site).0 same)) in
        let gone = behind-differs i.site entry.site is in
        cc (back, gone)
    by false differs = refl

-- a table that an operation was taken into has its number
pub own-number : (table : List Identity) (i : Identity) → i.number ≤ number_in (with_operation table i) i.site
own-number [] i =
    let own : bytes_eq i.site i.site ≡ true = (bytes_eq-Decides i.site i.site).1 refl in
    subst (λ (b : Bool). i.number ≤ number_found (cond b (Some i) None)) (sym own) (omega arith)
own-number (entry ∷ others) i = own-by_order (order i.site entry.site) entry others i refl (own-number others i)

-- one operation more lowers no number
pub more-within : (table : List Identity) (i : Identity) → Ascends table → IsWithin table (with_operation table i)
more-within table i ascends site = number_in-with_operation table i site ascends

-- nor do several
pub raised-within : (table others : List Identity) → Ascends table → IsWithin table (raised_by table others)
raised-within table [] ascends site = omega arith
raised-within table (i ∷ others) ascends site = omega (
  arith,
  more-within table i ascends site,
  raised-within (with_operation table i) others (Ascends-with_operation table i ascends) site,
)

other-site : (b : Bool) (table : List Identity) (i : Identity) (site : List ℕ) → bytes_eq i.site site ≡ b → b ≡ false
    → number_in (with_operation table i) site ≤ at_most b (number_in table site) i.number
    → number_in (with_operation table i) site ≤ number_in table site
other-site true table i site is differs most = cc differs
other-site false table i site is differs most = most

-- it raises that of its own site alone
pub other-number : (table : List Identity) (i : Identity) (site : List ℕ) → Ascends table → bytes_eq i.site site ≡ false
    → number_in (with_operation table i) site ≡ number_in table site
other-number table i site ascends differs =
    let most = other-site (bytes_eq i.site site) table i site refl differs (number_in-most table i site) in
    let least = more-within table i ascends site in
    omega (arith, most, least)

at-own : (b : Bool) (table : List Identity) (i : Identity) → b ≡ true → number_in (with_operation table i) i.site
    ≤ at_most b (number_in table i.site) i.number
    → i.number ≡ number_in table i.site + 1 → number_in (with_operation table i) i.site ≤ i.number
at-own true table i own most next = omega (arith, most, next)
at-own false table i own most next = cc own

-- the next operation of its site raises that to its own
pub next-number : (table : List Identity) (i : Identity) → i.number ≡ number_in table i.site + 1
    → number_in (with_operation table i) i.site ≡ i.number
next-number table i next =
    let own : bytes_eq i.site i.site ≡ true = (bytes_eq-Decides i.site i.site).1 refl in
    let most = at-own (bytes_eq i.site i.site) table i own (number_in-most table i i.site) next in
    let least = own-number table i in
    omega (arith, most, least)

same-site : (i j : Identity) (has more : ℕ) → i.number ≡ has + 1 → more ≡ i.number → eqb j.number i.number ≡ false
    → nat_lt 0 j.number && nat_le j.number more ≡ (nat_lt 0 j.number && nat_le j.number has)
same-site i j has more next is differs = grind (arith, nat_tests)

other-by : (b : Bool) (table : List Identity) (i j : Identity) → Ascends table → i.number ≡ number_in table i.site + 1
    → bytes_eq j.site i.site ≡ b → b && eqb j.number i.number ≡ false
    → holds (with_operation table i) j ≡ holds table j
other-by true table i j ascends next site differs =
    let name : j.site ≡ i.site = (bytes_eq-Decides j.site i.site).0 site in
    let more : number_in (with_operation table i) j.site ≡ i.number = ap (number_in (with_operation table i)) name
    ∙ next-number table i next in
    let has : i.number ≡ number_in table j.site + 1 = subst (λ (s : List ℕ). i.number ≡ number_in table s + 1) (sym name) next in
    same-site i j (number_in table j.site) (number_in (with_operation table i) j.site) has more differs
other-by false table i j ascends next site differs =
    let gone : bytes_eq i.site j.site ≡ false = by (bytes_eq i.site j.site) refl in
    ap (λ (has : ℕ). nat_lt 0 j.number && nat_le j.number has) (other-number table i j.site ascends gone)
  where
    by : (b : Bool) → bytes_eq i.site j.site ≡ b → b ≡ false
    by true same =
        let back : bytes_eq j.site i.site ≡ true = (bytes_eq-Decides j.site i.site).1
        (sym ((bytes_eq-Decides i.site j.site).0 same)) in
        cc (back, site)
    by false other = refl

-- the next operation of a site alone is held more
pub holds-other : (table : List Identity) (i j : Identity) → Ascends table → i.number ≡ number_in table i.site + 1
    → is_same_identity j i ≡ false → holds (with_operation table i) j ≡ holds table j
holds-other table i j ascends next differs = other-by (bytes_eq j.site i.site) table i j ascends next refl differs

pub holds-own : (table : List Identity) (i : Identity) → i.number ≡ number_in table i.site + 1
    → holds (with_operation table i) i ≡ true
holds-own table i next = holds-from (with_operation table i) i (omega (arith, next)) (own-number table i)

pub lacks-next : (table : List Identity) (i : Identity) → i.number ≡ number_in table i.site + 1 → holds table i ≡ false
lacks-next table i next = lacks-from table i (omega (arith, next))
