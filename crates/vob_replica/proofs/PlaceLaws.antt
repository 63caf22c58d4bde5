-- The entry of a site stands at one place alone.
use Rattle.std.proofs.Common.{◌≡◌, ℕ, zero, suc, ◌<◌, ◌≤◌, Bool, true, false, cond, Option, Some, List, [], ◌∷◌, length}
use Rattle.std.proofs.Common.{get_or, refl, sym, ap, ◌∙◌, subst, arith}
use Rattle.std.specs.Prelude.{find}
use Rattle.std.specs.Option.{option_map_or}
use Rattle.std.specs.Ordering.{is_lt, is_eq}
use Rattle.std.specs.declared.cmp.Ordering.{Ordering}
use Rattle.std.specs.declared.cmp.Ordering.TheVariants.{Less, Equal, Greater}
use Rattle.std.specs.Str.{bytes_eq}
use Rattle.std.proofs.lemmas.Map.Text.{is_eq-slice_cmp}
use Rattle.std.proofs.lemmas.Slice.Eq.{bytes_eq-Decides}
use Rattle.vob_replica.specs.declared.events.Identity.{Identity}
use Rattle.std.specs.List.Sorted.{IsPartitionedBy, IsPartitionPoint}
use Rattle.std.proofs.lemmas.Cmp.{nat_list_cmp_total}
use Rattle.vob_replica.specs.Tables.{is_below, number_in, entry_place_in, is_entry_at, IsBeforeSites, Ascends}
use Rattle.vob_replica.proofs.TableLaws.{order, turned, IsBeforeSites-along}
use Rattle.vob_replica.proofs.ImportLaws.{number_in-before}

is_lt-Less : (o : Ordering) → is_lt o ≡ true → o ≡ Less
is_lt-Less Less is = refl
is_lt-Less Equal is = cc is
is_lt-Less Greater is = cc is

before-at : (x : List ℕ) (table : List Identity) (i : ℕ) (d : Identity) → IsBeforeSites x table → i < length table
    → order x (get_or table i d).site ≡ Less
before-at x [] i d before within = absurd (omega arith)
before-at x (entry ∷ others) zero d before within = before.0
before-at x (entry ∷ others) (suc i) d before within = before-at x others i d before.1 (omega arith)

-- those below a site are the first ones
pub sites-parted : (site : List ℕ) (table : List Identity) → Ascends table → IsPartitionedBy (is_below site) table
sites-parted site [] ascends i j d le within is = absurd (omega arith)
sites-parted site (entry ∷ others) ascends zero zero d le within is = is
sites-parted site (entry ∷ others) ascends zero (suc j) d le within is =
    let first = before-at entry.site others j d ascends.0 (omega arith) in
    let lt = is_lt-Less (order (get_or others j d).site site) is in
    ap is_lt (nat_list_cmp_total.trans entry.site (get_or others j d).site site first lt)
sites-parted site (entry ∷ others) ascends (suc i) zero d le within is = absurd (omega arith)
sites-parted site (entry ∷ others) ascends (suc i) (suc j) d le within is =
    sites-parted site others ascends.1 i j d (omega arith) (omega arith) is

-- where the search for a site ends
pub entry-place-is : (site : List ℕ) (table : List Identity) (i : ℕ) → i ≤ length table
    → IsPartitionPoint (λ (e : Identity). is_below site e ≡ true) (λ (e : Identity). is_below site e ≡ false) table i
    → i ≡ entry_place_in site table
entry-place-is site [] i within point = omega arith
entry-place-is site (entry ∷ others) zero within point =
    sym (ap (λ (b : Bool). cond b (suc (entry_place_in site others)) 0) (point.1 0 entry (omega arith) (omega arith)))
entry-place-is site (entry ∷ others) (suc i) within point =
    let rest = entry-place-is site others i (omega arith) (
      (λ k d low high. point.0 (suc k) d (omega arith) (omega arith)),
      (λ k d low high. point.1 (suc k) d (omega arith) (omega arith)),
    ) in
    ap suc rest ∙ sym (ap (λ (b : Bool). cond b (suc (entry_place_in site others)) 0)
    (point.0 0 entry (omega arith) (omega arith)))

-- what stands before all entries stands before the site of one
before-entry : (x site : List ℕ) (table : List Identity) (place : ℕ) → IsBeforeSites x table → is_entry_at table place site ≡ true
    → order x site ≡ Less
before-entry x site [] place before is = cc is
before-entry x site (entry ∷ others) zero before is =
    subst (λ (s : List ℕ). order x s ≡ Less) ((bytes_eq-Decides entry.site site).0 is) before.0
before-entry x site (entry ∷ others) (suc place) before is = before-entry x site others place before.1 is

-- an entry of a site is at its place
pub place-of : (site : List ℕ) (table : List Identity) (place : ℕ) → Ascends table → is_entry_at table place site ≡ true
    → place ≡ entry_place_in site table
place-of site [] place ascends is = cc is
place-of site (entry ∷ others) zero ascends is =
    let equal : is_eq (order entry.site site) ≡ true = is_eq-slice_cmp entry.site site ∙ is in
    by (order entry.site site) equal
  where
    by : (o : Ordering) → is_eq o ≡ true → zero ≡ cond (is_lt o) (suc (entry_place_in site others)) 0
    by Less equal = cc equal
    by Equal equal = refl
    by Greater equal = cc equal
place-of site (entry ∷ others) (suc place) ascends is =
    ap suc (place-of site others place ascends.1 is)
    ∙ sym (ap (λ (o : Ordering). cond (is_lt o) (suc (entry_place_in site others)) 0)
    (before-entry entry.site site others place ascends.0 is))

-- the number of an entry that was found
abbrev number_found : Option Identity → ℕ
number_found found = option_map_or (λ (entry : Identity). entry.number) found 0

abbrev number_first : Bool → Identity → List Identity → List ℕ → ℕ
number_first b entry others site = number_found (cond b (Some entry) (find (λ (e : Identity). bytes_eq e.site site) others))

-- the place, by how the first one stands to the site
abbrev place_by : Ordering → List ℕ → List Identity → ℕ
place_by o site others = cond (is_lt o) (suc (entry_place_in site others)) 0

there-by : (o : Ordering) (site : List ℕ) (entry : Identity) (others : List Identity) (d : Identity) → order entry.site site ≡ o
    → is_entry_at (entry ∷ others) (place_by o site others) site ≡ true
    → (is_entry_at others (entry_place_in site others) site ≡ true
    → number_in others site ≡ (get_or others (entry_place_in site others) d).number)
    → number_in (entry ∷ others) site ≡ (get_or (entry ∷ others) (place_by o site others) d).number
there-by Less site entry others d is there later =
    let differs : bytes_eq entry.site site ≡ false = sym (is_eq-slice_cmp entry.site site) ∙ ap is_eq is in
    ap (λ (b : Bool). number_first b entry others site) differs ∙ later there
there-by Equal site entry others d is there later = ap (λ (b : Bool). number_first b entry others site) there
there-by Greater site entry others d is there later = ap (λ (b : Bool). number_first b entry others site) there

-- the number of a site stands in its entry
pub number-there : (site : List ℕ) (table : List Identity) (d : Identity)
    → is_entry_at table (entry_place_in site table) site ≡ true
    → number_in table site ≡ (get_or table (entry_place_in site table) d).number
number-there site [] d there = cc there
number-there site (entry ∷ others) d there = there-by (order entry.site site) site entry others d refl there
    (number-there site others d)

missing-by : (o : Ordering) (site : List ℕ) (entry : Identity) (others : List Identity) → order entry.site site ≡ o
    → Ascends (entry ∷ others) → is_entry_at (entry ∷ others) (place_by o site others) site ≡ false
    → (is_entry_at others (entry_place_in site others) site ≡ false → number_in others site ≡ 0)
    → number_in (entry ∷ others) site ≡ 0
missing-by Less site entry others is ascends missing later =
    let differs : bytes_eq entry.site site ≡ false = sym (is_eq-slice_cmp entry.site site) ∙ ap is_eq is in
    ap (λ (b : Bool). number_first b entry others site) differs ∙ later missing
missing-by Equal site entry others is ascends missing later =
    let same : bytes_eq entry.site site ≡ true = sym (is_eq-slice_cmp entry.site site) ∙ ap is_eq is in
    cc (same, missing)
missing-by Greater site entry others is ascends missing later =
    let less : order site entry.site ≡ Less = turned entry.site site Greater is in
    number_in-before site (entry ∷ others) (less, IsBeforeSites-along site entry.site others less ascends.0)

-- and it has none where no entry is there
pub number-missing : (site : List ℕ) (table : List Identity) → Ascends table
    → is_entry_at table (entry_place_in site table) site ≡ false → number_in table site ≡ 0
number-missing site [] ascends missing = refl
number-missing site (entry ∷ others) ascends missing =
    missing-by (order entry.site site) site entry others refl ascends missing (number-missing site others ascends.1)
