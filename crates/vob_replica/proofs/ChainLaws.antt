-- Where each operation follows the one before it, the last one alone needs all others.
use Rattle.std.proofs.Common.{◌≡◌, ℕ, ◌+◌, ◌-◌, ◌<◌, ◌≤◌, max, Bool, true, false, cond, Option, Some, None, List, [], ◌∷◌, ◌++◌}
use Rattle.std.proofs.Common.{length, slice_get, refl, sym, ap, ◌∙◌, subst, arith}
use Rattle.std.specs.Prelude.{◌&&◌, ◌||◌, nat_le, find, is_none}
use Rattle.std.specs.declared.cmp.Ordering.{Ordering}
use Rattle.std.specs.declared.cmp.Ordering.TheVariants.{Less, Equal, Greater}
use Rattle.std.proofs.lemmas.Bool.Decides.{nat_tests}
use Rattle.vob_replica.specs.declared.events.Identity.{Identity}
use Rattle.vob_replica.specs.declared.operations.Operation.{Operation}
use Rattle.vob_replica.specs.Logs.{HasNextNumber, HaveNextNumbers}
use Rattle.vob_replica.specs.Masters.{follows, last_behind, follows_last, is_chain_behind, is_chain}
use Rattle.vob_replica.specs.Tables.{first_gap, holds, number_in, with_operation, IsWithin}
use Rattle.vob_replica.specs.Trees.{is_same_identity, needs_all_others}
use Rattle.vob_replica.proofs.Commuting.{same-is, same-self}
use Rattle.vob_replica.proofs.HoldLaws.{holds-within, lacks-next}
use Rattle.vob_replica.proofs.LogLaws.{needs-within}
use Rattle.vob_replica.proofs.TableLaws.{order, raised_by_order, equal-same}

-- an operation and all that it needs are needed
record IsUnder (last operation : Operation) : Type 0 where
  held : holds last.needs operation.identity ≡ true
  within : IsWithin operation.needs last.needs

and-parts : (b c : Bool) → b && c ≡ true → (b ≡ true) × (c ≡ true)
and-parts true c is = (refl, is)
and-parts false c is = cc is

follows-under : (operation other : Operation) → follows operation other ≡ true → IsUnder operation other
follows-under operation other is =
    let parts = and-parts (holds operation.needs other.identity) (is_none (first_gap other.needs operation.needs)) is in
    record { held = parts.0; within = by (first_gap other.needs operation.needs) refl parts.1 }
  where
    by : (gap : Option Identity) → first_gap other.needs operation.needs ≡ gap → is_none gap ≡ true
        → IsWithin other.needs operation.needs
    by None none is = λ site. needs-within other.needs operation.needs site none
    by (Some gap) none is = cc is

under-all : (last middle operation : Operation) → IsUnder last middle → IsUnder middle operation → IsUnder last operation
under-all last middle operation one other = record {
  held = holds-within middle.needs last.needs operation.identity one.within other.held;
  within = λ site. let a = one.within site in let b = other.within site in omega (arith, a, b);
}

under-last : (first other : Operation) (others : List Operation) → is_chain_behind first (other ∷ others) ≡ true
    → IsUnder (last_behind other others) first
under-last first other [] chain =
    follows-under other first (and-parts (follows other first) true chain).0
under-last first other (next ∷ others) chain =
    let parts = and-parts (follows other first) (is_chain_behind other (next ∷ others)) chain in
    under-all (last_behind next others) other first (under-last other next others parts.1) (follows-under other first parts.0)

-- whether an operation is another or needs it
abbrev is_or_needs : Operation → Operation → Bool
is_or_needs operation other = is_same_identity other.identity operation.identity || holds operation.needs other.identity

needed : (b c : Bool) → c ≡ true → b || c ≡ true
needed true c is = refl
needed false c is = is

last-needs : (first : Operation) (others : List Operation) → is_chain_behind first others ≡ true
    → needs_all_others (first ∷ others) (last_behind first others) ≡ true
last-needs first [] chain = ap (λ (b : Bool). (b || holds first.needs first.identity) && true) (same-self first.identity)
last-needs first (other ∷ others) chain =
    let parts = and-parts (follows other first) (is_chain_behind other others) chain in
    let last = last_behind other others in
    ap (λ (b : Bool). b && needs_all_others (other ∷ others) last)
    (needed (is_same_identity first.identity last.identity) (holds last.needs first.identity)
    (under-last first other others chain).held)
    ∙ last-needs other others parts.1

-- what is needed does not need it in turn
not-back : (last operation : Operation) → HasNextNumber last → IsUnder last operation → is_or_needs operation last ≡ false
not-back last operation next under = by (is_same_identity last.identity operation.identity) (holds operation.needs last.identity)
    refl refl
  where
    lacks : holds last.needs last.identity ≡ false
    lacks = lacks-next last.needs last.identity next

    by : (b c : Bool) → is_same_identity last.identity operation.identity ≡ b → holds operation.needs last.identity ≡ c
        → b || c ≡ false
    by true c same back =
        let has : holds last.needs last.identity ≡ true = subst (λ (i : Identity). holds last.needs i ≡ true)
        (sym (same-is last.identity operation.identity same)) under.held in
        cc (has, lacks)
    by false true differs back =
        let has = holds-within operation.needs last.needs last.identity under.within back in
        cc (has, lacks)
    by false false differs back = refl

none-and : (b : Bool) → b && false ≡ false
none-and true = refl
none-and false = refl

lacks-last : (first : Operation) (others : List Operation) (operation : Operation)
    → is_or_needs operation (last_behind first others) ≡ false → needs_all_others (first ∷ others) operation ≡ false
lacks-last first [] operation lacks = ap (λ (b : Bool). b && true) lacks
lacks-last first (other ∷ others) operation lacks =
    ap (λ (b : Bool). is_or_needs operation first && b) (lacks-last other others operation lacks)
    ∙ none-and (is_or_needs operation first)

next-last : (first : Operation) (others : List Operation) → HaveNextNumbers (first ∷ others)
    → HasNextNumber (last_behind first others)
next-last first [] next = next.0
next-last first (other ∷ others) next = next-last other others next.1

find-last : (all : List Operation) (first : Operation) (others : List Operation) → is_chain_behind first others ≡ true
    → needs_all_others all (last_behind first others) ≡ true
    → ((operation : Operation) → IsUnder (last_behind first others) operation → needs_all_others all operation ≡ false)
    → find (needs_all_others all) (first ∷ others) ≡ Some (last_behind first others)
find-last all first [] chain needs lacks = ap (λ (b : Bool). cond b (Some first) None) needs
find-last all first (other ∷ others) chain needs lacks =
    let parts = and-parts (follows other first) (is_chain_behind other others) chain in
    ap (λ (b : Bool). cond b (Some first) (find (needs_all_others all) (other ∷ others)))
    (lacks first (under-last first other others chain))
    ∙ find-last all other others parts.1 needs lacks

get-last : (first : Operation) (others : List Operation) → slice_get (first ∷ others) (length others)
    ≡ Some (last_behind first others)
get-last first [] = refl
get-last first (other ∷ others) = get-last other others

last-at : (first : Operation) (others : List Operation)
    → slice_get (first ∷ others) (length (first ∷ others) - 1) ≡ Some (last_behind first others)
last-at first others =
    let same : length (first ∷ others) - 1 ≡ length others = omega arith in
    ap (slice_get (first ∷ others)) same ∙ get-last first others

-- the last one needs all others
pub last-found : (operations : List Operation) (last : Operation) → HaveNextNumbers operations → is_chain operations ≡ true
    → Some last ≡ slice_get operations (length operations - 1) → Some last ≡ find (needs_all_others operations) operations
last-found [] last next chain is = cc is
last-found (first ∷ others) last next chain is =
    is ∙ last-at first others
    ∙ sym (find-last (first ∷ others) first others chain (last-needs first others chain)
    (λ operation under. lacks-last first others operation
    (not-back (last_behind first others) operation (next-last first others next) under)))

pub none-found : (operations : List Operation) → None ≡ slice_get operations (length operations - 1)
    → None ≡ find (needs_all_others operations) operations
none-found [] is = refl
none-found (first ∷ others) is = let last = last-at first others in cc (is, last)

-- what follows the last of some
pub follows-at : (operations : List Operation) (last operation : Operation)
    → Some last ≡ slice_get operations (length operations - 1) → follows operation last ≡ follows_last operations operation
follows-at [] last operation is = cc is
follows-at (first ∷ others) last operation is =
    let at = last-at first others in
    let same : last ≡ last_behind first others = cc (is, at) in
    ap (follows operation) same

pub follows-none : (operations : List Operation) (operation : Operation)
    → None ≡ slice_get operations (length operations - 1) → true ≡ follows_last operations operation
follows-none [] operation is = refl
follows-none (first ∷ others) operation is = let last = last-at first others in cc (is, last)

and-true : (b : Bool) → b && true ≡ b
and-true true = refl
and-true false = refl

and-assoc : (b c d : Bool) → b && (c && d) ≡ (b && c) && d
and-assoc true c d = refl
and-assoc false c d = refl

chain-behind : (first : Operation) (others : List Operation) (operation : Operation)
    → is_chain_behind first (others ++ operation ∷ [])
    ≡ is_chain_behind first others && follows operation (last_behind first others)
chain-behind first [] operation = and-true (follows operation first)
chain-behind first (other ∷ others) operation =
    ap (λ (b : Bool). follows other first && b) (chain-behind other others operation)
    ∙ and-assoc (follows other first) (is_chain_behind other others) (follows operation (last_behind other others))

-- one operation more
chain-push : (operations : List Operation) (operation : Operation)
    → is_chain (operations ++ operation ∷ []) ≡ is_chain operations && follows_last operations operation
chain-push [] operation = refl
chain-push (first ∷ others) operation = chain-behind first others operation

pub chain-true : (in_turn last : Bool) (operations now : List Operation) (operation : Operation) → in_turn ≡ is_chain operations
    → operations ≡ now → in_turn ≡ true → last ≡ follows_last operations operation
    → last ≡ is_chain (now ++ operation ∷ [])
chain-true in_turn last operations now operation chain view is follows =
    let all : is_chain operations ≡ true = sym chain ∙ is in
    follows ∙ sym (chain-push operations operation ∙ ap (λ (b : Bool). b && follows_last operations operation) all)
    ∙ ap (λ (l : List Operation). is_chain (l ++ operation ∷ [])) view

pub chain-false : (in_turn : Bool) (operations now : List Operation) (operation : Operation) → in_turn ≡ is_chain operations
    → operations ≡ now → in_turn ≡ false → false ≡ is_chain (now ++ operation ∷ [])
chain-false in_turn operations now operation chain view is =
    let none : is_chain operations ≡ false = sym chain ∙ is in
    sym (chain-push operations operation ∙ ap (λ (b : Bool). b && follows_last operations operation) none)
    ∙ ap (λ (l : List Operation). is_chain (l ++ operation ∷ [])) view

-- nothing is missing, of one need and then of others
none-of : (b : Bool) (rest : Option Identity) (gap : Identity) → is_none (cond b rest (Some gap)) ≡ b && is_none rest
none-of true rest gap = refl
none-of false rest gap = refl

-- whether a need is within a table
abbrev is_within : Identity → List Identity → Bool
is_within need table = nat_le need.number (number_in table need.site)

gap-of : (need : Identity) (needs table : List Identity)
    → is_none (first_gap (need ∷ needs) table) ≡ is_within need table && is_none (first_gap needs table)
gap-of need needs table =
    none-of (is_within need table) (first_gap needs table) (record { site = need.site; number = number_in table need.site + 1 })

and-turned : (b c d : Bool) → b && (c && d) ≡ c && (b && d)
and-turned true c d = refl
and-turned false true d = refl
and-turned false false d = refl

both-within : (one other has : ℕ) → nat_le (max one other) has ≡ nat_le other has && nat_le one has
both-within one other has = grind (arith, nat_tests)

covers-by : (o : Ordering) (own entry : Identity) (others table : List Identity) → order own.site entry.site ≡ o
    → is_none (first_gap (with_operation others own) table) ≡ is_within own table && is_none (first_gap others table)
    → is_none (first_gap (raised_by_order o entry others own) table)
    ≡ is_within own table && is_none (first_gap (entry ∷ others) table)
covers-by Less own entry others table is later = gap-of own (entry ∷ others) table
covers-by Equal own entry others table is later =
    let site : own.site ≡ entry.site = equal-same own.site entry.site is in
    let both : nat_le (max entry.number own.number) (number_in table entry.site)
    ≡ nat_le own.number (number_in table own.site) && nat_le entry.number (number_in table entry.site) =
    both-within entry.number own.number (number_in table entry.site)
    ∙ ap (λ (s : List ℕ). nat_le own.number (number_in table s) && nat_le entry.number (number_in table entry.site)) (sym site)
    in
    gap-of (record { site = entry.site; number = max entry.number own.number }) others table
    ∙ ap (λ (b : Bool). b && is_none (first_gap others table)) both
    ∙ sym (and-assoc (is_within own table) (is_within entry table) (is_none (first_gap others table)))
    ∙ sym (ap (λ (b : Bool). is_within own table && b) (gap-of entry others table))
covers-by Greater own entry others table is later =
    gap-of entry (with_operation others own) table
    ∙ ap (λ (b : Bool). is_within entry table && b) later
    ∙ and-turned (is_within entry table) (is_within own table) (is_none (first_gap others table))
    ∙ sym (ap (λ (b : Bool). is_within own table && b) (gap-of entry others table))

-- a table that an operation was taken into holds no more than the two
covers-with : (others : List Identity) (own : Identity) (table : List Identity)
    → is_none (first_gap (with_operation others own) table) ≡ nat_le own.number (number_in table own.site)
    && is_none (first_gap others table)
covers-with [] own table = gap-of own [] table
covers-with (entry ∷ others) own table =
    covers-by (order own.site entry.site) own entry others table refl (covers-with others own table)

-- the same, where the own operation is needed
pub covers-own : (others : List Identity) (own : Identity) (table : List Identity) (has : ℕ)
    → has ≡ number_in table own.site → own.number ≤ has
    → is_none (first_gap others table) ≡ is_none (first_gap (with_operation others own) table)
covers-own others own table has is le =
    sym (covers-with others own table
    ∙ ap (λ (b : Bool). b && is_none (first_gap others table)) (within own.number (number_in table own.site) (omega arith)))
  where
    within : (one other : ℕ) → one ≤ other → nat_le one other ≡ true
    within one other le = grind (arith, nat_tests)

-- or is not
pub lacks-own : (others : List Identity) (own : Identity) (table : List Identity) (has : ℕ)
    → has ≡ number_in table own.site → has < own.number
    → false ≡ is_none (first_gap (with_operation others own) table)
lacks-own others own table has is lt =
    sym (covers-with others own table
    ∙ ap (λ (b : Bool). b && is_none (first_gap others table)) (above own.number (number_in table own.site) (omega arith)))
  where
    above : (one other : ℕ) → other < one → nat_le one other ≡ false
    above one other lt = grind (arith, nat_tests)
