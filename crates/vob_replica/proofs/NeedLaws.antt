-- What operations need, as a table that they share.
use Rattle.std.proofs.Common.{◌≡◌, ℕ, ◌+◌, ◌<◌, ◌≤◌, max, Bool, true, false, cond, Option, Some, None, List, [], ◌∷◌, ◌++◌, refl}
use Rattle.std.proofs.Common.{sym, ap, ◌∙◌, subst, arith}
use Rattle.std.specs.Prelude.{nat_lt, find}
use Rattle.std.specs.Option.{option_map_or}
use Rattle.std.specs.Ordering.{is_eq}
use Rattle.std.specs.declared.cmp.Ordering.{Ordering}
use Rattle.std.specs.declared.cmp.Ordering.TheVariants.{Less, Equal, Greater}
use Rattle.std.specs.Str.{bytes_eq}
use Rattle.std.proofs.lemmas.Bool.Decides.{nat_tests}
use Rattle.std.proofs.lemmas.Map.Text.{is_eq-slice_cmp}
use Rattle.std.proofs.lemmas.Slice.Eq.{bytes_eq-Decides}
use Rattle.vob_replica.specs.declared.events.Identity.{Identity}
use Rattle.vob_replica.specs.declared.operations.Operation.{Operation}
use Rattle.vob_replica.specs.Needs.{needs_of, own_before, IsSharedBy}
use Rattle.vob_replica.specs.Tables.{number_in, with_operation, table_of, Ascends}
use Rattle.vob_replica.proofs.TableLaws.{order, turned, equal-same, raised_by_order, IsBeforeSites-along}
use Rattle.vob_replica.proofs.LogLaws.{at_most, number_in-most, table_of-push}
use Rattle.vob_replica.proofs.ImportLaws.{number_in-before}
use Rattle.vob_replica.proofs.HoldLaws.{own-number, more-within, next-number}

-- the higher number of the site of an operation
pub number-raised : (table : List Identity) (own : Identity) (site : List ℕ) → Ascends table → bytes_eq own.site site ≡ true
    → max (number_in table site) own.number ≡ number_in (with_operation table own) site
number-raised table own site ascends same =
    let name : own.site ≡ site = (bytes_eq-Decides own.site site).0 same in
    let most : number_in (with_operation table own) site ≤ max (number_in table site) own.number =
    subst (λ (b : Bool). number_in (with_operation table own) site ≤ at_most b (number_in table site) own.number) same
    (number_in-most table own site) in
    let more = more-within table own ascends site in
    let least : own.number ≤ number_in (with_operation table own) site =
    subst (λ (s : List ℕ). own.number ≤ number_in (with_operation table own) s) name (own-number table own) in
    omega arith

-- the number of an entry that was found
abbrev number_found : Option Identity → ℕ
number_found found = option_map_or (λ (entry : Identity). entry.number) found 0

abbrev number_first : Bool → Identity → List Identity → List ℕ → ℕ
number_first b entry others site = number_found (cond b (Some entry) (find (λ (e : Identity). bytes_eq e.site site) others))

-- an operation, by its site and number
abbrev made_at : List ℕ → ℕ → Identity
made_at site number = record { site = site; number = number }

again-by : (o : Ordering) (site : List ℕ) (number : ℕ) (entry : Identity) (others : List Identity) → order site entry.site ≡ o
    → Ascends (entry ∷ others) → 0 < number → number ≡ number_in (entry ∷ others) site
    → (number ≡ number_in others site → with_operation others (made_at site number) ≡ others)
    → raised_by_order o entry others (made_at site number) ≡ entry ∷ others
again-by Less site number entry others is ascends some has later =
    let none : number_in (entry ∷ others) site ≡ 0 =
    number_in-before site (entry ∷ others) (is, IsBeforeSites-along site entry.site others is ascends.0) in
    absurd (omega arith)
again-by Equal site number entry others is ascends some has later =
    let name : site ≡ entry.site = equal-same site entry.site is in
    let same : bytes_eq entry.site site ≡ true = (bytes_eq-Decides entry.site site).1 (sym name) in
    let own : number ≡ entry.number = has ∙ ap (λ (b : Bool). number_first b entry others site) same in
    let highest : max entry.number number ≡ entry.number = omega arith in
    ap (λ (n : ℕ). made_at entry.site n ∷ others) highest
again-by Greater site number entry others is ascends some has later =
    let differs : bytes_eq entry.site site ≡ false =
    sym (is_eq-slice_cmp entry.site site) ∙ ap is_eq (turned site entry.site Greater is) in
    ap (λ (l : List Identity). entry ∷ l) (later (has ∙ ap (λ (b : Bool). number_first b entry others site) differs))

-- the last operation of a site is among those of a table already
again : (table : List Identity) (site : List ℕ) (number : ℕ) → Ascends table → 0 < number → number ≡ number_in table site
    → with_operation table (made_at site number) ≡ table
again [] site number ascends some has = absurd (omega arith)
again (entry ∷ others) site number ascends some has =
    again-by (order site entry.site) site number entry others refl ascends some has (again others site number ascends.1 some)

-- a table is shared by the next operations of each site
pub shared-first : (table : List Identity) (site : List ℕ) → Ascends table
    → needs_of table (own_before site (number_in table site)) ≡ table
shared-first table site ascends = by (nat_lt 0 (number_in table site)) refl
  where
    by : (b : Bool) → nat_lt 0 (number_in table site) ≡ b
        → needs_of table (cond b (Some (made_at site (number_in table site))) None) ≡ table
    by true some = again table site (number_in table site) ascends (grind (arith, nat_tests)) refl
    by false none = refl

-- a site stands in its own place
self-equal : (site : List ℕ) → order site site ≡ Equal
self-equal site = by (order site site) (is_eq-slice_cmp site site ∙ (bytes_eq-Decides site site).1 refl)
  where
    by : (o : Ordering) → is_eq o ≡ true → o ≡ Equal
    by Less is = cc is
    by Equal is = refl
    by Greater is = cc is

twice-by : (o : Ordering) (site : List ℕ) (number more : ℕ) (entry : Identity) (others : List Identity)
    → order site entry.site ≡ o
    → number ≤ more
    → with_operation (with_operation others (made_at site number)) (made_at site more) ≡ with_operation others (made_at site more)
    → with_operation (raised_by_order o entry others (made_at site number)) (made_at site more)
    ≡ raised_by_order o entry others (made_at site more)
twice-by Less site number more entry others is le later =
    let highest : max number more ≡ more = omega arith in
    ap (λ (o : Ordering). raised_by_order o (made_at site number) (entry ∷ others) (made_at site more)) (self-equal site)
    ∙ ap (λ (n : ℕ). made_at site n ∷ entry ∷ others) highest
twice-by Equal site number more entry others is le later =
    let highest : max (max entry.number number) more ≡ max entry.number more = omega arith in
    ap (λ (o : Ordering). raised_by_order o (made_at entry.site (max entry.number number)) others (made_at site more)) is
    ∙ ap (λ (n : ℕ). made_at entry.site n ∷ others) highest
twice-by Greater site number more entry others is le later =
    ap (λ (o : Ordering). raised_by_order o entry (with_operation others (made_at site number)) (made_at site more)) is
    ∙ ap (λ (l : List Identity). entry ∷ l) later

-- of two operations of a site the later one counts
twice : (table : List Identity) (site : List ℕ) (number more : ℕ) → number ≤ more
    → with_operation (with_operation table (made_at site number)) (made_at site more) ≡ with_operation table (made_at site more)
twice [] site number more le =
    let highest : max number more ≡ more = omega arith in
    ap (λ (o : Ordering). raised_by_order o (made_at site number) [] (made_at site more)) (self-equal site)
    ∙ ap (λ (n : ℕ). made_at site n ∷ []) highest
twice (entry ∷ others) site number more le =
    twice-by (order site entry.site) site number more entry others refl le (twice others site number more le)

shared-next : (table : List Identity) (site : List ℕ) (number : ℕ)
    → with_operation (needs_of table (own_before site number)) (made_at site (number + 1))
    ≡ needs_of table (own_before site (number + 1))
shared-next table site number =
    by (nat_lt 0 number)
    ∙ ap (λ (b : Bool). needs_of table (cond b (Some (made_at site (number + 1))) None)) (sym some)
  where
    some : nat_lt 0 (number + 1) ≡ true
    some = grind (arith, nat_tests)

    by : (b : Bool)
        → with_operation (needs_of table (cond b (Some (made_at site number)) None)) (made_at site (number + 1))
        ≡ with_operation table (made_at site (number + 1))
    by true = twice table site number (number + 1) (omega arith)
    by false = refl

-- a table stays shared after an operation of the site's own
pub shared-push : (site : List ℕ) (known known' : List Operation) (operation : Operation) (table : List Identity)
    → IsSharedBy site known table → operation.identity ≡ made_at site (number_in (table_of known) site + 1)
    → known' ≡ known ++ operation ∷ [] → IsSharedBy site known' table
shared-push site known known' operation table shared is more =
    let number = number_in (table_of known) site in
    let all : table_of known' ≡ with_operation (table_of known) (made_at site (number + 1)) =
    ap table_of more ∙ table_of-push known operation ∙ ap (with_operation (table_of known)) is in
    let count : number_in (table_of known') site ≡ number + 1 =
    ap (λ (t : List Identity). number_in t site) all ∙ next-number (table_of known) (made_at site (number + 1)) refl in
    ap (λ (n : ℕ). needs_of table (own_before site n)) count
    ∙ sym (shared-next table site number)
    ∙ ap (λ (t : List Identity). with_operation t (made_at site (number + 1))) shared
    ∙ sym all
