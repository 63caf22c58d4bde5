-- What holds of each value of a table stays so as the table changes.
use Rattle.std.proofs.Common.{◌≡◌, Bool, true, false, cond, Some, List, [], ◌∷◌, subst}
use Rattle.std.specs.Bool.{⊤}
use Rattle.std.specs.declared.cmp.Ordering.{Ordering}
use Rattle.std.specs.declared.cmp.Ordering.TheVariants.{Less, Equal, Greater}
use Rattle.std.specs.Ordering.{eq_by_cmp}
use Rattle.std.specs.FinMap.Entries.{put, find, where_key, by_order}

-- each value of a table is so
abbrev pub AllValues : {K X : Type 0} → (X → Type 0) → List (K × X) → Type 0
AllValues P [] = ⊤
AllValues P (entry ∷ entries) = P entry.1 × AllValues P entries

pub all_as : {K X : Type 0} (P Q : X → Type 0) (entries : List (K × X)) → ((x : X) → P x → Q x) → AllValues P entries
    → AllValues Q entries
all_as P Q [] as_other h = tt
all_as P Q (entry ∷ entries) as_other h = (as_other entry.1 h.0, all_as P Q entries as_other h.1)

pub all_both : {K X : Type 0} (P Q R : X → Type 0) (entries : List (K × X)) → ((x : X) → P x → Q x → R x) → AllValues P entries
    → AllValues Q entries → AllValues R entries
all_both P Q R [] both h g = tt
all_both P Q R (entry ∷ entries) both h g = (both entry.1 h.0 g.0, all_both P Q R entries both h.1 g.1)

by_place : {K X : Type 0} (P : X → Type 0) (o : Ordering) (one two three : List (K × X)) → AllValues P one → AllValues P two
    → AllValues P three → AllValues P (by_order o one two three)
by_place P Less one two three f g h = f
by_place P Equal one two three f g h = g
by_place P Greater one two three f g h = h

pub all_put : {K X : Type 0} (P : X → Type 0) (R : K → K → Ordering) (k : K) (x : X) (entries : List (K × X)) → P x
    → AllValues P entries → AllValues P (put R k x entries)
all_put P R k x [] is h = (is, tt)
all_put P R k x (entry ∷ entries) is h =
    by_place P (R k entry.0) ((k, x) ∷ entry ∷ entries) ((entry.0, x) ∷ entries) (entry ∷ put R k x entries)
    (is, h) (is, h.1) (h.0, all_put P R k x entries is h.1)

filtered : {K X : Type 0} (P : X → Type 0) (test : Bool) (entry : K × X) (rest : List (K × X)) → P entry.1 → AllValues P rest
    → AllValues P (cond test (entry ∷ rest) rest)
filtered P true entry rest is h = (is, h)
filtered P false entry rest is h = h

pub all_where : {K X : Type 0} (P : X → Type 0) (R : K → K → Ordering) (keeps : K → Bool) (entries : List (K × X))
    → AllValues P entries → AllValues P (where_key R keeps entries)
all_where P R keeps [] h = tt
all_where P R keeps (entry ∷ entries) h = filtered P (keeps entry.0) entry (where_key R keeps entries) h.0
    (all_where P R keeps entries h.1)

pub all_found : {K X : Type 0} (P : X → Type 0) (R : K → K → Ordering) (q : K) (entries : List (K × X)) (x : X)
    → AllValues P entries → find R q entries ≡ Some x → P x
all_found P R q [] x h is = absurd (cc)
all_found P R q (entry ∷ entries) x h is = by (eq_by_cmp R q entry.0) is (all_found P R q entries x h.1)
  where
    by : (test : Bool) → cond test (Some entry.1) (find R q entries) ≡ Some x → (find R q entries ≡ Some x → P x) → P x
    by true is rest = let same : entry.1 ≡ x = cc in subst P same h.0
    by false is rest = rest is
