-- Operations that need nothing that is missing, and the places of a log after which there is news.
use Rattle.std.proofs.Common.{◌≡◌, ℕ, ◌≤◌, Bool, true, false, cond, Option, Some, None, Ok, Err, List, []}
use Rattle.std.proofs.Common.{◌∷◌, ◌++◌, take, drop, map, not, refl, sym, ap, ◌∙◌, subst, arith}
use Rattle.std.specs.Prelude.{is_none, IfOk, Result, Vec}
use Rattle.std.specs.declared.alloc.Global.{Global}
use Rattle.std.specs.Str.{bytes_eq}
use Rattle.std.proofs.lemmas.List.{take-append-drop}
use Rattle.std.proofs.lemmas.List.Elements.{filter-append}
use Rattle.std.proofs.lemmas.Slice.Eq.{bytes_eq-Decides}
use Rattle.vob_replica.specs.declared.events.Identity.{Identity}
use Rattle.vob_replica.specs.declared.operations.Operation.{Operation}
use Rattle.vob_replica.specs.Logs.{HasNextNumber, HaveNextNumbers, IsWhole}
use Rattle.vob_replica.specs.Replicas.{above, operations_after_import, unless_gap}
use Rattle.vob_replica.specs.Tables.{first_gap, holds, number_in, with_operation, raised_by, identity_of, table_of, Ascends}
use Rattle.vob_replica.specs.Tables.{IsWithin}
use Rattle.vob_replica.proofs.TableLaws.{Ascends-with_operation}
use Rattle.vob_replica.proofs.LogLaws.{at_most, number_in-most, IsOn, IsOn-next}
use Rattle.vob_replica.proofs.ImportLaws.{ascends_of}
use Rattle.vob_replica.proofs.HoldLaws.{holds-from, holds-to, holds-within, own-number, more-within, whole-within}

most-within : (b : Bool) (number has other more : ℕ) → number ≤ at_most b has other → has ≤ more → (b ≡ true → other ≤ more)
    → number ≤ more
most-within true number has other more most le own = let o : other ≤ more = own refl in omega arith
most-within false number has other more most le own = omega arith

-- an operation that a table has the number of is taken into one below it
pub within-known : (floor table : List Identity) (i : Identity) → IsWithin floor table → i.number ≤ number_in table i.site
    → IsWithin (with_operation floor i) table
within-known floor table i within has site =
    most-within (bytes_eq i.site site) (number_in (with_operation floor i) site) (number_in floor site) i.number
    (number_in table site) (number_in-most floor i site) (within site)
    (λ same. subst (λ (s : List ℕ). i.number ≤ number_in table s) ((bytes_eq-Decides i.site site).0 same) has)

within-along : (one two three : List Identity) → IsWithin one two → IsWithin two three → IsWithin one three
within-along one two three first second site = let a = first site in let b = second site in omega arith

-- an operation is taken into both
pub within-new : (floor table : List Identity) (i : Identity) → Ascends table → IsWithin floor table
    → IsWithin (with_operation floor i) (with_operation table i)
within-new floor table i ascends within =
    within-known floor (with_operation table i) i
    (within-along floor table (with_operation table i) within (more-within table i ascends)) (own-number table i)

pub raised-within : (table others : List Identity) → Ascends table → IsWithin table (raised_by table others)
raised-within table [] ascends = λ site. omega arith
raised-within table (other ∷ others) ascends =
    within-along table (with_operation table other) (raised_by (with_operation table other) others)
    (more-within table other ascends)
    (raised-within (with_operation table other) others (Ascends-with_operation table other ascends))

above-whole-by : (held : Bool) (floor before table : List Identity) (operation : Operation) (known : List Operation)
    → holds floor operation.identity ≡ held → first_gap operation.needs before ≡ None → IsWithin before table
    → IsWithin floor table → Ascends table
    → (IsWithin (with_operation before operation.identity) table → IsWhole table (above floor known))
    → IsWhole (with_operation table operation.identity) (above floor known)
    → IsWhole table (cond (not held) (operation ∷ above floor known) (above floor known))
above-whole-by true floor before table operation known held enough within below ascends known_then new_then =
    let has = holds-to table operation.identity (holds-within floor table operation.identity below held) in
    known_then (within-known before table operation.identity within has.1)
above-whole-by false floor before table operation known held enough within below ascends known_then new_then =
    (whole-within operation.needs before table within enough, new_then)

-- what is above a floor needs nothing that neither the floor nor what is before it has
whole-above : (floor before table : List Identity) (known : List Operation) → IsWhole before known → IsWithin before table
    → IsWithin floor table → Ascends table → IsWhole table (above floor known)
whole-above floor before table [] whole within below ascends = tt
whole-above floor before table (operation ∷ known) whole within below ascends =
    let i = operation.identity in
    above-whole-by (holds floor i) floor before table operation known refl whole.0 within below ascends
    (λ more. whole-above floor (with_operation before i) table known whole.1 more below ascends)
    (whole-above floor (with_operation before i) (with_operation table i) known whole.1
    (within-new before table i ascends within)
    (within-along floor table (with_operation table i) below (more-within table i ascends))
    (Ascends-with_operation table i ascends))

pub news-whole : (floor : List Identity) (known : List Operation) → Ascends floor → IsWhole [] known
    → IsWhole floor (above floor known)
news-whole floor known ascends whole =
    whole-above floor [] floor known whole (λ site. omega arith) (λ site. omega arith) ascends

-- where nothing is above a table up to a place, what is above it is after the place
pub above-behind : (table : List Identity) (place : ℕ) (known : List Operation) → above table (take place known) ≡ []
    → above table (drop place known) ≡ above table known
above-behind table place known none =
    ap (λ (l : List Operation). l ++ above table (drop place known)) (sym none)
    ∙ sym (filter-append (λ (o : Operation). not (holds table o.identity)) (take place known) (drop place known))
    ∙ ap (above table) (take-append-drop place known)

-- what a table was raised by is not above a greater one
held-by : (table other : List Identity) (known : List Operation) → HaveNextNumbers known → Ascends table
    → other ≡ raised_by table (map identity_of known) → above other known ≡ []
held-by table other [] next ascends is = refl
held-by table other (operation ∷ known) next ascends is =
    let more = with_operation table operation.identity in
    let later : above other known ≡ [] = held-by more other known next.1
    (Ascends-with_operation table operation.identity ascends) is in
    let has : operation.identity.number ≤ number_in other operation.identity.site =
    subst (λ (t : List Identity). operation.identity.number ≤ number_in t operation.identity.site) (sym is)
    (above-own (number_in more operation.identity.site) (own-number table operation.identity)
    (raised-within more (map identity_of known) (Ascends-with_operation table operation.identity ascends)
    operation.identity.site)) in
    let held : holds other operation.identity ≡ true = holds-from other operation.identity (omega (arith, next.0)) has in
    ap (λ (b : Bool). cond (not b) (operation ∷ above other known) (above other known)) held ∙ later
  where
    above-own : (middle : ℕ) {n m : ℕ} → n ≤ middle → middle ≤ m → n ≤ m
    above-own middle one two = omega arith

-- a log's table has all of it
pub none-above : (known : List Operation) → HaveNextNumbers known → above (table_of known) known ≡ []
none-above known next = held-by [] (table_of known) known next tt refl

-- some operations of a packet were looked at, all of which need no more than a table has
pub record IsOnWhole (known : List Operation) (table : List Identity) (news rest operations : List Operation) : Type 0 where
  pub on : IsOn known table news rest operations
  pub floor : List Identity
  pub within : IsWithin floor table
  pub whole : IsWhole floor rest

-- the first that is left is known
pub IsOnWhole-known : (known news rest operations : List Operation) (table : List Identity) (operation : Operation)
    → IsOnWhole known table news (operation ∷ rest) operations → holds table operation.identity ≡ true
    → IsOnWhole known table news rest operations
IsOnWhole-known known news rest operations table operation are held =
    let has = holds-to table operation.identity held in
    let there : holds (table_of (known ++ news)) operation.identity ≡ true =
    ap (λ (t : List Identity). holds t operation.identity) (sym are.on.held.same) ∙ held in
    record {
      on = record {
        held = are.on.held;
        same =
            sym (ap (λ (b : Bool). cond b (operations_after_import (known ++ news) rest)
            (unless_gap (first_gap operation.needs (table_of (known ++ news)))
            (operations_after_import ((known ++ news) ++ operation ∷ []) rest))) there) ∙ are.on.same;
      };
      floor = with_operation are.floor operation.identity;
      within = within-known are.floor table operation.identity are.within has.1;
      whole = are.whole.1;
    }

-- or new
pub IsOnWhole-new : (known news news' rest operations : List Operation) (table table' : List Identity) (operation : Operation)
    → IsOnWhole known table news (operation ∷ rest) operations → HasNextNumber operation
    → holds table operation.identity ≡ false → table' ≡ with_operation table operation.identity
    → news' ≡ news ++ operation ∷ [] → IsOnWhole known table' news' rest operations
IsOnWhole-new known news news' rest operations table table' operation are next new raises more =
    let ascends : Ascends table = subst Ascends (sym are.on.held.same) (ascends_of (known ++ news)) in
    record {
      on = IsOn-next known news news' rest operations table table' operation are.on next new
          (whole-within operation.needs are.floor table are.within are.whole.0) raises more;
      floor = with_operation are.floor operation.identity;
      within = subst (IsWithin (with_operation are.floor operation.identity)) (sym raises)
          (within-new are.floor table operation.identity ascends are.within);
      whole = are.whole.1;
    }

-- a test for a gap that found none
pub covers-none : (gap : Option Identity) → is_none gap ≡ true → gap ≡ None
covers-none None is = refl
covers-none (Some missing) is = cc is

-- unless memory ran out, what is above a table stands after a place, and needs nothing that is missing
pub ok-above : {E : Type 0} (r : Result (Vec Operation Global) E) (table : List Identity) (place : ℕ) (known : List Operation)
    → above table (take place known) ≡ [] → IfOk r (λ news. news.items ≡ above table (drop place known))
    → IfOk r (λ news. news.items ≡ above table known)
ok-above (Ok news) table place known none is = is ∙ above-behind table place known none
ok-above (Err fault) table place known none is = tt

pub ok-whole : {E : Type 0} (r : Result (Vec Operation Global) E) (table : List Identity) (known : List Operation)
    → Ascends table → IsWhole [] known → IfOk r (λ news. news.items ≡ above table known)
    → IfOk r (λ news. IsWhole table news.items)
ok-whole (Ok news) table known ascends whole is = subst (IsWhole table) (sym is) (news-whole table known ascends whole)
ok-whole (Err fault) table known ascends whole is = tt
