-- One operation more, and those that are new of a packet.
use Rattle.std.proofs.Common.{◌≡◌, ℕ, ◌+◌, ◌-◌, ◌≤◌, max, Bool, true, false, cond, Option, Some, None, Result, Ok, Err, List, []}
use Rattle.std.proofs.Common.{◌∷◌, ◌++◌, length, take, drop, map, refl, sym, ap, ◌∙◌, subst, length-drop, length-append}
use Rattle.std.proofs.Common.{append_assoc, arith}
use Rattle.std.proofs.lemmas.List.{take_all}
use Rattle.std.specs.Prelude.{OnOk, OnErr, find, nat_le}
use Rattle.std.specs.Option.{option_map_or}
use Rattle.std.specs.declared.cmp.Ordering.{Ordering}
use Rattle.std.specs.declared.cmp.Ordering.TheVariants.{Less, Equal, Greater}
use Rattle.std.specs.Str.{bytes_eq}
use Rattle.std.proofs.lemmas.Bool.Decides.{nat_tests}
use Rattle.std.proofs.lemmas.Slice.Eq.{bytes_eq-Decides}
use Rattle.vob_replica.specs.declared.events.Identity.{Identity}
use Rattle.vob_replica.specs.declared.operations.Operation.{Operation}
use Rattle.vob_replica.specs.Logs.{HasNextNumber, HaveNextNumbers, IsLog, IsWhole}
use Rattle.vob_replica.specs.Replicas.{operations_after_import, unless_gap}
use Rattle.vob_replica.specs.Tables.{first_gap, holds, number_in, with_operation, raised_by, identity_of, table_of}
use Rattle.vob_replica.proofs.TableLaws.{order, raised_by_order, equal-same}

raised_by-push : (table : List Identity) (known : List Operation) (operation : Operation)
    → raised_by table (map identity_of (known ++ operation ∷ [])) ≡ with_operation (raised_by table (map identity_of known))
    operation.identity
raised_by-push table [] operation = refl
raised_by-push table (first ∷ known) operation = raised_by-push (with_operation table first.identity) known operation

-- the table of one operation more
pub table_of-push : (known : List Operation) (operation : Operation) → table_of (known ++ operation ∷ [])
    ≡ with_operation (table_of known) operation.identity
table_of-push known operation = raised_by-push [] known operation

-- the number of an entry that was found
abbrev number_found : Option Identity → ℕ
number_found found = option_map_or (λ (entry : Identity). entry.number) found 0

abbrev found_in : List Identity → List ℕ → Option Identity
found_in table site = find (λ (entry : Identity). bytes_eq entry.site site) table

-- a number, or another that is higher, at the site of an operation
abbrev pub at_most : Bool → ℕ → ℕ → ℕ
at_most same number other = cond same (max number other) number

first-alone : (b : Bool) (i : Identity) (rest : Option Identity) → number_found (cond b (Some i) rest)
    ≤ at_most b (number_found rest) i.number
first-alone true i rest = omega arith
first-alone false i rest = omega arith

first-higher : (b : Bool) (entry i : Identity) (rest : Option Identity)
    → number_found (cond b (Some (record { site = entry.site; number = max entry.number i.number })) rest)
    ≤ at_most b (number_found (cond b (Some entry) rest)) i.number
first-higher true entry i rest = omega arith
first-higher false entry i rest = omega arith

first-kept : (b c : Bool) (entry i : Identity) (one other : Option Identity)
    → number_found one ≤ at_most c (number_found other) i.number
    → number_found (cond b (Some entry) one) ≤ at_most c (number_found (cond b (Some entry) other)) i.number
first-kept true true entry i one other later = omega arith
first-kept true false entry i one other later = omega arith
first-kept false c entry i one other later = later

most-by_order : (o : Ordering) (entry : Identity) (others : List Identity) (i : Identity) (site : List ℕ)
    → order i.site entry.site ≡ o
    → number_in (with_operation others i) site ≤ at_most (bytes_eq i.site site) (number_in others site) i.number
    → number_in (raised_by_order o entry others i) site ≤ at_most (bytes_eq i.site site) (number_in (entry ∷ others) site)
    i.number
most-by_order Less entry others i site is later = first-alone (bytes_eq i.site site) i (found_in (entry ∷ others) site)
most-by_order Equal entry others i site is later =
    let same : i.site ≡ entry.site = equal-same i.site entry.site is in
    subst (λ (s : List ℕ). number_in (raised_by_order Equal entry others i) site
    ≤ at_most (bytes_eq s site) (number_in (entry ∷ others) site) i.number) (sym same)
    (first-higher (bytes_eq entry.site site) entry i (found_in others site))
most-by_order Greater entry others i site is later =
    first-kept (bytes_eq entry.site site) (bytes_eq i.site site) entry i (found_in (with_operation others i) site)
    (found_in others site) later

-- an operation raises the number of its site alone, and that to its own at most
pub number_in-most : (table : List Identity) (i : Identity) (site : List ℕ)
    → number_in (with_operation table i) site ≤ at_most (bytes_eq i.site site) (number_in table site) i.number
number_in-most [] i site = first-alone (bytes_eq i.site site) i None
number_in-most (entry ∷ others) i site = most-by_order (order i.site entry.site) entry others i site refl
    (number_in-most others i site)

needs-first : (b c : Bool) (need : Identity) (rest : Option Identity) (needs table : List Identity) (site : List ℕ)
    → nat_le need.number (number_in table need.site) ≡ b → bytes_eq need.site site ≡ c
    → cond b (first_gap needs table) (Some (record { site = need.site; number = number_in table need.site + 1 })) ≡ None
    → (first_gap needs table ≡ None → number_found rest ≤ number_in table site)
    → number_found (cond c (Some need) rest) ≤ number_in table site
needs-first false c need rest needs table site within same whole later = cc whole
needs-first true true need rest needs table site within same whole later =
    let name : need.site ≡ site = (bytes_eq-Decides need.site site).0 same in
    subst (λ (s : List ℕ). need.number ≤ number_in table s) name (grind (arith, nat_tests))
needs-first true false need rest needs table site within same whole later = later whole

-- where no need is missing, the table has each of them
pub needs-within : (needs table : List Identity) (site : List ℕ) → first_gap needs table ≡ None
    → number_in needs site ≤ number_in table site
needs-within [] table site whole = omega arith
needs-within (need ∷ needs) table site whole =
    needs-first (nat_le need.number (number_in table need.site)) (bytes_eq need.site site) need (found_in needs site) needs table
    site refl refl whole
    (needs-within needs table site)

few-by : (b : Bool) (table : List Identity) (operation : Operation) (site : List ℕ) (count : ℕ)
    → bytes_eq operation.identity.site site ≡ b
    → number_in table site ≤ count → HasNextNumber operation → first_gap operation.needs table ≡ None
    → at_most b (number_in table site) operation.identity.number ≤ count + 1
few-by true table operation site count same few next whole =
    let name : operation.identity.site ≡ site = (bytes_eq-Decides operation.identity.site site).0 same in
    let within : number_in operation.needs operation.identity.site ≤ number_in table operation.identity.site =
    needs-within operation.needs table operation.identity.site whole in
    let own : number_in table operation.identity.site ≡ number_in table site = ap (number_in table) name in
    omega arith
few-by false table operation site count same few next whole = omega arith

-- one operation more needs nothing that is missing
IsWhole-push : (table : List Identity) (known : List Operation) (operation : Operation) → IsWhole table known
    → first_gap operation.needs (raised_by table (map identity_of known)) ≡ None → IsWhole table (known ++ operation ∷ [])
IsWhole-push table [] operation whole enough = (enough, tt)
IsWhole-push table (first ∷ known) operation whole enough = (
  whole.0,
  IsWhole-push (with_operation table first.identity) known operation whole.1 enough,
)

pub HaveNextNumbers-push : (known : List Operation) (operation : Operation) → HaveNextNumbers known → HasNextNumber operation
    → HaveNextNumbers (known ++ operation ∷ [])
HaveNextNumbers-push [] operation have next = (next, tt)
HaveNextNumbers-push (first ∷ known) operation have next = (have.0, HaveNextNumbers-push known operation have.1 next)

-- the table of a log with one operation more
pub IsLog-push : (table table' : List Identity) (known known' : List Operation) (operation : Operation)
    → IsLog table known → HasNextNumber operation → first_gap operation.needs table ≡ None
    → table' ≡ with_operation table operation.identity → known' ≡ known ++ operation ∷ [] → IsLog table' known'
IsLog-push table table' known known' operation is next whole raises more = record {
  same =
      raises ∙ ap (λ (t : List Identity). with_operation t operation.identity) is.same ∙ sym (table_of-push known operation)
      ∙ ap table_of (sym more);
  few = λ site.
      let most = number_in-most table operation.identity site in
      let few = few-by (bytes_eq operation.identity.site site) table operation site (length known) refl (is.few site) next whole
      in
      let count : length known' ≡ length known + 1 = ap length more ∙ simp length-append refl in
      let new : number_in table' site ≡ number_in (with_operation table operation.identity) site =
      ap (λ (t : List Identity). number_in t site) raises in
      omega arith;
  whole =
      subst (IsWhole []) (sym more) (IsWhole-push [] known operation is.whole
      (subst (λ (t : List Identity). first_gap operation.needs t ≡ None) is.same whole));
  next = subst HaveNextNumbers (sym more) (HaveNextNumbers-push known operation is.next next);
}

-- a log stays in step with its table whether there was memory or not
pub in_step-after : {T E : Type 0} (r : Result T E) (known known' before : List Operation) (table table' : List Identity)
    (operation : Operation)
    → IsLog table known → known ≡ before → first_gap operation.needs (table_of before) ≡ None
    → OnOk r (HasNextNumber operation) → OnOk r (known' ≡ known ++ operation ∷ [])
    → OnOk r (table' ≡ with_operation table operation.identity) → OnErr r (known' ≡ known) → OnErr r (table' ≡ table)
    → IsLog table' known'
in_step-after (Ok x) known known' before table table' operation is view whole next pushed raises kept same =
    let here : table ≡ table_of before = is.same ∙ ap table_of view in
    IsLog-push table table' known known' operation is next (subst (λ (t : List Identity). first_gap operation.needs t ≡ None)
    (sym here) whole) raises pushed
in_step-after (Err e) known known' before table table' operation is view whole next pushed raises kept same =
    subst (λ (t : List Identity). IsLog t known') (sym same) (subst (IsLog table) (sym kept) is)

-- some operations were looked at: these are the new ones, the table holds them, and what is left of the operations comes to the
-- same
pub record IsOn (known : List Operation) (table : List Identity) (news rest operations : List Operation) : Type 0 where
  pub held : IsLog table (known ++ news)
  pub same : operations_after_import (known ++ news) rest ≡ operations_after_import known operations

-- what is after a place, by its length
pub all_behind : (place : ℕ) (known : List Operation) → take (length known - place) (drop place known) ≡ drop place known
all_behind place known = take_all (length known - place) (drop place known) (omega (arith, length-drop place known))

-- the first that is left is new
pub IsOn-next : (known news news' rest operations : List Operation) (table table' : List Identity) (operation : Operation)
    → IsOn known table news (operation ∷ rest) operations → HasNextNumber operation → holds table operation.identity ≡ false
    → first_gap operation.needs table ≡ None
    → table' ≡ with_operation table operation.identity → news' ≡ news ++ operation ∷ [] → IsOn known table' news' rest operations
IsOn-next known news news' rest operations table table' operation on next new whole raises more =
    let all : known ++ news' ≡ (known ++ news) ++ operation ∷ [] = ap (λ (l : List Operation). known ++ l) more
    ∙ sym (append_assoc known news (operation ∷ [])) in
    let fresh : holds (table_of (known ++ news)) operation.identity ≡ false =
    ap (λ (t : List Identity). holds t operation.identity) (sym on.held.same) ∙ new in
    let enough : first_gap operation.needs (table_of (known ++ news)) ≡ None = ap (first_gap operation.needs) (sym on.held.same)
    ∙ whole in
    record {
      held = IsLog-push table table' (known ++ news) (known ++ news') operation on.held next whole raises all;
      same =
          ap (λ (l : List Operation). operations_after_import l rest) all
          ∙ sym (ap (λ (g : Option Identity). unless_gap g (operations_after_import ((known ++ news) ++ operation ∷ []) rest))
          enough)
          ∙ sym (ap (λ (b : Bool). cond b (operations_after_import (known ++ news) rest)
          (unless_gap (first_gap operation.needs (table_of (known ++ news)))
          (operations_after_import ((known ++ news) ++ operation ∷ []) rest))) fresh)
          ∙ on.same;
    }
