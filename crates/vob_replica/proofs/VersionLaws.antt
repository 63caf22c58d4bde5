-- Versions stand by number, so one of the greatest number stands after all others.
use Rattle.std.proofs.Common.{◌≡◌, ℕ, zero, suc, ◌-◌, ◌≤◌, Bool, true, false, cond, Some, List, [], ◌∷◌}
use Rattle.std.proofs.Common.{length, get_or, refl, sym, ap, ◌∙◌, subst, arith}
use Rattle.std.specs.Prelude.{◌<◌, ◌==◌, ◌||◌, nat_le, nat_lt, slice_get}
use Rattle.std.specs.List.{list_any}
use Rattle.std.specs.List.Sorted.{IsNonDecreasingBy, IsPartitionedBy, IsPartitionPoint}
use Rattle.std.proofs.lemmas.Bool.Decides.{nat_tests}
use Rattle.vob_replica.specs.Trees.{VersionMade, with_version_put}
use Rattle.vob_replica.specs.Branches.{is_up_to, is_number_below, count_passing, version_place, has_number_at, IsBelowVersions, AreByNumber}

IsBelowVersions-along : (number more : ℕ) (versions : List VersionMade) → number ≤ more → IsBelowVersions more versions
    → IsBelowVersions number versions
IsBelowVersions-along number more [] le below = tt
IsBelowVersions-along number more (version ∷ versions) le below = (
  (let first = below.0 in omega arith),
  IsBelowVersions-along number more versions le below.1,
)

IsBelowVersions-put : (number : ℕ) (version : VersionMade) (versions : List VersionMade) → IsBelowVersions number versions
    → number ≤ version.number → IsBelowVersions number (with_version_put version versions)
IsBelowVersions-put number version [] below le = (le, tt)
IsBelowVersions-put number version (other ∷ others) below le =
    by (nat_lt version.number other.number) (IsBelowVersions-put number version others below.1 le)
  where
    by : (b : Bool) → IsBelowVersions number (with_version_put version others)
        → IsBelowVersions number (cond b (version ∷ other ∷ others) (other ∷ with_version_put version others))
    by true later = (le, below)
    by false later = (below.0, later)

below-by : (b : Bool) (one other : ℕ) → nat_lt one other ≡ b → cond b (one ≤ other) (other ≤ one)
below-by true one other is = grind (arith, nat_tests)
below-by false one other is = grind (arith, nat_tests)

-- one more put among them
pub AreByNumber-put : (version : VersionMade) (versions : List VersionMade) → AreByNumber versions
    → AreByNumber (with_version_put version versions)
AreByNumber-put version [] are = (tt, tt)
AreByNumber-put version (other ∷ others) are =
    by (nat_lt version.number other.number) (below-by (nat_lt version.number other.number) version.number other.number refl)
    (AreByNumber-put version others are.1)
  where
    by : (b : Bool) → cond b (version.number ≤ other.number) (other.number ≤ version.number)
        → AreByNumber (with_version_put version others)
        → AreByNumber (cond b (version ∷ other ∷ others) (other ∷ with_version_put version others))
    by true le later = ((le, IsBelowVersions-along version.number other.number others le are.0), are)
    by false le later = (IsBelowVersions-put other.number version others are.0 le, later)

-- each is at most the last
below-last : (number place : ℕ) (versions : List VersionMade) (last : VersionMade) → IsBelowVersions number versions
    → slice_get versions place ≡ Some last → number ≤ last.number
below-last number place [] last below is = cc is
below-last number zero (version ∷ versions) last below is = let same : version ≡ last = cc is in
    subst (λ (v : VersionMade). number ≤ v.number) same below.0
below-last number (suc place) (version ∷ versions) last below is = below-last number place versions last below.1 is

up-to : (one other : ℕ) → other ≤ one → nat_le other one ≡ true
up-to one other le = grind (arith, nat_tests)

behind-place : (number place : ℕ) (versions : List VersionMade) (last : VersionMade) → AreByNumber versions
    → suc place ≡ length versions → slice_get versions place ≡ Some last → last.number ≤ number
    → version_place number versions ≡ length versions
behind-place number place [] last are count is le = cc is
behind-place number zero (version ∷ []) last are count is le =
    let same : version ≡ last = cc is in
    ap (λ (b : Bool). cond b 1 0) (up-to number version.number (subst (λ (v : VersionMade). v.number ≤ number) (sym same) le))
behind-place number zero (version ∷ other ∷ versions) last are count is le = absurd (omega arith)
behind-place number (suc place) (version ∷ versions) last are count is le =
    let first : version.number ≤ number = let below = below-last version.number place versions last are.0 is in omega arith in
    ap (λ (b : Bool). cond b (suc (version_place number versions)) 0) (up-to number version.number first)
    ∙ ap suc (behind-place number place versions last are.1 (omega arith) is le)

-- a version of the greatest number
pub behind-all : (number : ℕ) (versions : List VersionMade) (last : VersionMade) → AreByNumber versions
    → Some last ≡ slice_get versions (length versions - 1) → last.number ≤ number
    → length versions ≡ version_place number versions
behind-all number [] last are is le = cc is
behind-all number (version ∷ versions) last are is le =
    sym (behind-place number (length (version ∷ versions) - 1) (version ∷ versions) last are (omega arith) (sym is) le)

below-at : (number : ℕ) (versions : List VersionMade) (i : ℕ) (d : VersionMade) → IsBelowVersions number versions
    → i < length versions → number ≤ (get_or versions i d).number
below-at number [] i d below within = absurd (omega arith)
below-at number (version ∷ versions) zero d below within = below.0
below-at number (version ∷ versions) (suc i) d below within = below-at number versions i d below.1 (omega arith)

non-decreasing : (versions : List VersionMade) → AreByNumber versions
    → IsNonDecreasingBy (λ (version : VersionMade). version.number) versions
non-decreasing [] are i j d le within = absurd (omega arith)
non-decreasing (version ∷ versions) are zero zero d le within = omega arith
non-decreasing (version ∷ versions) are zero (suc j) d le within = below-at version.number versions j d are.0 (omega arith)
non-decreasing (version ∷ versions) are (suc i) zero d le within = absurd (omega arith)
non-decreasing (version ∷ versions) are (suc i) (suc j) d le within = non-decreasing versions are.1 i j d (omega arith)
    (omega arith)

up-to-too : (one other number : ℕ) → one ≤ other → nat_le other number ≡ true → nat_le one number ≡ true
up-to-too one other number le is = grind (arith, nat_tests)

below-too : (one other number : ℕ) → one ≤ other → nat_lt other number ≡ true → nat_lt one number ≡ true
below-too one other number le is = grind (arith, nat_tests)

-- those of a number up to another are the first ones, and so are those of a lower number
pub parted-up-to : (number : ℕ) (versions : List VersionMade) → AreByNumber versions
    → IsPartitionedBy (is_up_to number) versions
parted-up-to number versions are i j d le within is =
    up-to-too (get_or versions i d).number (get_or versions j d).number number (non-decreasing versions are i j d le within) is

pub parted-below : (number : ℕ) (versions : List VersionMade) → AreByNumber versions
    → IsPartitionedBy (is_number_below number) versions
parted-below number versions are i j d le within is =
    below-too (get_or versions i d).number (get_or versions j d).number number (non-decreasing versions are i j d le within) is

-- where the search for the first one that fails a test ends
pub count-is : (test : VersionMade → Bool) (versions : List VersionMade) (i : ℕ) → i ≤ length versions
    → IsPartitionPoint (λ (v : VersionMade). test v ≡ true) (λ (v : VersionMade). test v ≡ false) versions i
    → i ≡ count_passing test versions
count-is test [] i within point = omega arith
count-is test (version ∷ versions) zero within point =
    sym (ap (λ (b : Bool). cond b (suc (count_passing test versions)) 0) (point.1 0 version (omega arith) (omega arith)))
count-is test (version ∷ versions) (suc i) within point =
    let rest = count-is test versions i (omega arith) (
      (λ k d low high. point.0 (suc k) d (omega arith) (omega arith)),
      (λ k d low high. point.1 (suc k) d (omega arith) (omega arith)),
    ) in
    ap suc rest ∙ sym (ap (λ (b : Bool). cond b (suc (count_passing test versions)) 0)
    (point.0 0 version (omega arith) (omega arith)))

-- whether a version has a number
abbrev has_number : ℕ → VersionMade → Bool
has_number number version = version.number == number

not-equal : (one other : ℕ) → one < other → other == one ≡ false
not-equal one other lt = grind (arith, nat_tests)

not-equal-below : (one other : ℕ) → nat_lt one other ≡ true → one == other ≡ false
not-equal-below one other lt = grind (arith, nat_tests)

any-above : (number more : ℕ) (versions : List VersionMade) → number < more → IsBelowVersions more versions
    → list_any (has_number number) versions ≡ false
any-above number more [] lt below = refl
any-above number more (version ∷ versions) lt below =
    ap (λ (b : Bool). b || list_any (has_number number) versions)
    (not-equal number version.number (let le = below.0 in omega arith))
    ∙ any-above number more versions lt below.1

number-by : (b c : Bool) (number place : ℕ) (version : VersionMade) (versions : List VersionMade)
    → is_number_below number version ≡ b → has_number number version ≡ c → IsBelowVersions version.number versions
    → has_number_at versions place number ≡ list_any (has_number number) versions
    → has_number_at (version ∷ versions) (cond b (suc place) 0) number
    ≡ has_number number version || list_any (has_number number) versions
number-by true c number place version versions lower is below later =
    later ∙ ap (λ (d : Bool). d || list_any (has_number number) versions) (sym (not-equal-below version.number number lower))
number-by false true number place version versions lower is below later =
    is ∙ ap (λ (d : Bool). d || list_any (has_number number) versions) (sym is)
number-by false false number place version versions lower is below later =
    let above : number < version.number = strictly version.number number lower is in
    is ∙ sym (any-above number version.number versions above below)
    ∙ ap (λ (d : Bool). d || list_any (has_number number) versions) (sym is)
  where
    strictly : (one other : ℕ) → nat_lt one other ≡ false → one == other ≡ false → other < one
    strictly one other lower is = grind (arith, nat_tests)

-- whether one of them has a number is seen where those of a lower number end
pub number-at : (number : ℕ) (versions : List VersionMade) → AreByNumber versions
    → has_number_at versions (count_passing (is_number_below number) versions) number ≡ list_any (has_number number) versions
number-at number [] are = refl
number-at number (version ∷ versions) are =
    number-by (is_number_below number version) (has_number number version) number
    (count_passing (is_number_below number) versions) version versions refl refl are.0 (number-at number versions are.1)
