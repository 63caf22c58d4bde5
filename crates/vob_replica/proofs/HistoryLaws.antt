-- The operations of a world in the order in which they were made, and what a site knows of them.
use Rattle.std.proofs.Common.{inl, inr, ◌≡◌, Bool, true, false, cond, None, List, [], ◌∷◌, ◌++◌, refl, sym, ap, ◌∙◌, subst}
use Rattle.std.specs.Prelude.{◌⊎◌, fold}
use Rattle.vob_replica.specs.declared.events.Identity.{Identity}
use Rattle.vob_replica.specs.declared.operations.Operation.{Operation}
use Rattle.vob_replica.specs.Tables.{first_gap, holds, table_of}
use Rattle.vob_replica.specs.Trees.{Tree, is_same_identity, trees_of, after_operation}
use Rattle.vob_replica.proofs.Commuting.{Free, FreeOf, moves, branch_of, is_change, differ-turned}
use Rattle.vob_replica.proofs.HoldLaws.{holds-within}
use Rattle.vob_replica.proofs.LogLaws.{needs-within}

-- an operation, with the branch whose mastership its maker used; of an element its own branch `main`
pub record Made : Type 0 where
  pub operation : Operation
  pub used : Identity
  pub changes : is_change operation.deed ≡ true → used ≡ branch_of operation

abbrev pub operations_of : List Made → List Operation
operations_of [] = []
operations_of (m ∷ made) = m.operation ∷ operations_of made

abbrev pub table_behind : List Made → List Identity
table_behind made = table_of (operations_of made)

abbrev pub trees_behind : List Made → List Tree
trees_behind made = trees_of (operations_of made)

-- neither affects the other, and they used the mastership of two branches
pub record AreApart (x y : Made) : Type 0 where
  pub free : Free x.operation y.operation
  pub used : is_same_identity x.used y.used ≡ false
  pub made : is_same_identity x.used y.operation.identity ≡ false

-- one was made before another: that needs it, or they are apart
pub record Precedes (x y : Made) : Type 0 where
  pub ids : is_same_identity x.operation.identity y.operation.identity ≡ false
  pub apart : holds y.operation.needs x.operation.identity ≡ false → AreApart x y

abbrev pub PrecedesAll : Made → List Made → Type 0
PrecedesAll x [] = Unit {0}
PrecedesAll x (y ∷ ys) = Precedes x y × PrecedesAll x ys

abbrev pub IsPaired : List Made → Type 0
IsPaired [] = Unit {0}
IsPaired (x ∷ xs) = PrecedesAll x xs × IsPaired xs

abbrev pub AllPrecede : List Made → Made → Type 0
AllPrecede [] y = Unit {0}
AllPrecede (x ∷ xs) y = Precedes x y × AllPrecede xs y

precedes-push : (x y : Made) (xs : List Made) → PrecedesAll x xs → Precedes x y → PrecedesAll x (xs ++ y ∷ [])
precedes-push x y [] all one = (one, tt)
precedes-push x y (z ∷ zs) all one = (all.0, precedes-push x y zs all.1 one)

pub paired-push : (xs : List Made) (y : Made) → IsPaired xs → AllPrecede xs y → IsPaired (xs ++ y ∷ [])
paired-push [] y paired all = (tt, tt)
paired-push (x ∷ xs) y paired all = (precedes-push x y xs paired.0 all.0, paired-push xs y paired.1 all.1)

-- what a table holds of them, and what it does not
abbrev pub kept : List Identity → List Made → List Operation
kept table [] = []
kept table (m ∷ made) = cond (holds table m.operation.identity) (m.operation ∷ kept table made) (kept table made)

abbrev pub left : List Identity → List Made → List Operation
left table [] = []
left table (m ∷ made) = cond (holds table m.operation.identity) (left table made) (m.operation ∷ left table made)

-- an operation was made
abbrev pub IsMade : Operation → List Made → Type 0
IsMade operation [] = ⊥
IsMade operation (m ∷ made) = (operation ≡ m.operation) ⊎ IsMade operation made

-- what a table holds needs nothing that it lacks
abbrev pub IsClosed : List Identity → List Made → Type 0
IsClosed table made = (operation : Operation) → IsMade operation made → holds table operation.identity ≡ true
    → first_gap operation.needs table ≡ None

closed-behind : (table : List Identity) (m : Made) (made : List Made) → IsClosed table (m ∷ made) → IsClosed table made
closed-behind table m made closed operation is has = closed operation (inr is) has

-- what is held does not need what is not
not-needed : (table : List Identity) (x : Identity) (y : Operation) (b : Bool) → first_gap y.needs table ≡ None
    → holds table x ≡ false → holds y.needs x ≡ b → b ≡ false
not-needed table x y true whole lacks needs =
    let has : holds table x ≡ true = holds-within y.needs table x (λ site. needs-within y.needs table site whole) needs in
    cc (has, lacks)
not-needed table x y false whole lacks needs = refl

pub apart-from : (table : List Identity) (x y : Made) → Precedes x y → holds table x.operation.identity ≡ false
    → first_gap y.operation.needs table ≡ None → AreApart x y
apart-from table x y precedes lacks whole =
    precedes.apart (not-needed table x.operation.identity y.operation (holds y.operation.needs x.operation.identity) whole lacks
    refl)

free-by : (b : Bool) (table : List Identity) (x m : Made) (made : List Made) → holds table m.operation.identity ≡ b
    → holds table x.operation.identity ≡ false → Precedes x m
    → (holds table m.operation.identity ≡ true → first_gap m.operation.needs table ≡ None) → FreeOf x.operation (kept table made)
    → FreeOf x.operation (cond b (m.operation ∷ kept table made) (kept table made))
free-by true table x m made has lacks precedes closed later = ((apart-from table x m precedes lacks (closed has)).free, later)
free-by false table x m made has lacks precedes closed later = later

-- one that is not held is free of those after it that are
free-of : (table : List Identity) (x : Made) (made : List Made) → holds table x.operation.identity ≡ false → PrecedesAll x made
    → IsClosed table made → FreeOf x.operation (kept table made)
free-of table x [] lacks precedes closed = tt
free-of table x (m ∷ made) lacks precedes closed =
    free-by (holds table m.operation.identity) table x m made refl lacks precedes.0 (closed m.operation (inl refl))
    (free-of table x made lacks precedes.1 (closed-behind table m made closed))

parts-by : (b : Bool) (table : List Identity) (trees : List Tree) (m : Made) (made : List Made)
    → (b ≡ false → FreeOf m.operation (kept table made))
    → fold after_operation (after_operation trees m.operation) (operations_of made)
    ≡ fold after_operation (fold after_operation (after_operation trees m.operation) (kept table made)) (left table made)
    → fold after_operation (after_operation trees m.operation) (operations_of made)
    ≡ fold after_operation (fold after_operation trees (cond b (m.operation ∷ kept table made) (kept table made)))
    (cond b (left table made) (m.operation ∷ left table made))
parts-by true table trees m made free later = later
parts-by false table trees m made free later =
    later ∙ ap (λ (l : List Tree). fold after_operation l (left table made))
    (moves trees m.operation (kept table made) (free refl))

-- All that was made comes to what is held, and the others after it.
pub parts : (table : List Identity) (trees : List Tree) (made : List Made) → IsPaired made → IsClosed table made
    → fold after_operation trees (operations_of made) ≡ fold after_operation (fold after_operation trees (kept table made))
    (left table made)
parts table trees [] paired closed = refl
parts table trees (m ∷ made) paired closed =
    parts-by (holds table m.operation.identity) table trees m made (λ lacks. free-of table m made lacks paired.0
    (closed-behind table m made closed))
    (parts table (after_operation trees m.operation) made paired.1 (closed-behind table m made closed))

-- others are held as before
abbrev pub HoldsSame : List Identity → List Identity → Identity → Type 0
HoldsSame table table' i = (j : Identity) → is_same_identity j i ≡ false → holds table' j ≡ holds table j

kept-cond : (table : List Identity) (m : Made) (made : List Made) (b : Bool) (rest : List Operation)
    → holds table m.operation.identity ≡ b → kept table made ≡ rest
    → kept table (m ∷ made) ≡ cond b (m.operation ∷ rest) rest
kept-cond table m made b rest is same =
    ap (λ (b : Bool). cond b (m.operation ∷ kept table made) (kept table made)) is
    ∙ ap (λ (l : List Operation). cond b (m.operation ∷ l) l) same

-- none of some has an identity
abbrev pub LacksAll : Identity → List Made → Type 0
LacksAll i [] = Unit {0}
LacksAll i (m ∷ made) = (is_same_identity m.operation.identity i ≡ false) × LacksAll i made

pub kept-same : (table table' : List Identity) (i : Identity) (made : List Made) → HoldsSame table table' i → LacksAll i made
    → kept table' made ≡ kept table made
kept-same table table' i [] same lacks = refl
kept-same table table' i (m ∷ made) same lacks =
    kept-cond table' m made (holds table m.operation.identity) (kept table made) (same m.operation.identity lacks.0)
    (kept-same table table' i made same lacks.1)

lacks-behind : (x : Made) (made : List Made) → PrecedesAll x made → LacksAll x.operation.identity made
lacks-behind x [] precedes = tt
lacks-behind x (m ∷ made) precedes = (
  differ-turned x.operation.identity m.operation.identity precedes.0.ids,
  lacks-behind x made precedes.1,
)

pub made-differs : (x : Made) (operation : Operation) (made : List Made) → PrecedesAll x made → IsMade operation made
    → is_same_identity x.operation.identity operation.identity ≡ false
made-differs x operation [] precedes is = absurd is
made-differs x operation (m ∷ made) precedes (inl same) = subst (λ (o : Operation). is_same_identity x.operation.identity
    o.identity ≡ false) (sym same) precedes.0.ids
made-differs x operation (m ∷ made) precedes (inr is) = made-differs x operation made precedes.1 is

adds-by : (b : Bool) (table table' : List Identity) (trees : List Tree) (operation : Operation) (m : Made) (made : List Made)
    → ((l : List Tree) → fold after_operation l (kept table' made) ≡ after_operation (fold after_operation l (kept table made))
    operation)
    → fold after_operation trees (cond b (m.operation ∷ kept table' made) (kept table' made))
    ≡ after_operation (fold after_operation trees (cond b (m.operation ∷ kept table made) (kept table made))) operation
adds-by true table table' trees operation m made later = later (after_operation trees m.operation)
adds-by false table table' trees operation m made later = later trees

-- One operation more is known: it comes to what it comes to after all that was known.
pub adds : (table table' : List Identity) (operation : Operation) (made : List Made) (trees : List Tree) → IsPaired made
    → IsClosed table made → IsMade operation made
    → HoldsSame table table' operation.identity → holds table operation.identity ≡ false → holds table' operation.identity ≡ true
    → fold after_operation trees (kept table' made) ≡ after_operation (fold after_operation trees (kept table made)) operation
adds table table' operation [] trees paired closed is same lacks has = absurd is
adds table table' operation (m ∷ made) trees paired closed (inl here) same lacks has =
    let lacks' : holds table m.operation.identity ≡ false = subst (λ (o : Operation). holds table o.identity ≡ false) here lacks
    in
    let has' : holds table' m.operation.identity ≡ true = subst (λ (o : Operation). holds table' o.identity ≡ true) here has in
    let same' = subst (λ (o : Operation). HoldsSame table table' o.identity) here same in
    let more : kept table' (m ∷ made) ≡ m.operation ∷ kept table made =
    kept-cond table' m made true (kept table made) has' (kept-same table table' m.operation.identity made same'
    (lacks-behind m made paired.0)) in
    let less : kept table (m ∷ made) ≡ kept table made = kept-cond table m made false (kept table made) lacks' refl in
    ap (fold after_operation trees) more
    ∙ moves trees m.operation (kept table made) (free-of table m made lacks' paired.0 (closed-behind table m made closed))
    ∙ ap (after_operation (fold after_operation trees (kept table made))) (sym here)
    ∙ sym (ap (λ (l : List Operation). after_operation (fold after_operation trees l) operation) less)
adds table table' operation (m ∷ made) trees paired closed (inr is) same lacks has =
    let held : holds table' m.operation.identity ≡ holds table m.operation.identity =
    same m.operation.identity (made-differs m operation made paired.0 is) in
    ap (λ (b : Bool). fold after_operation trees (cond b (m.operation ∷ kept table' made) (kept table' made))) held
    ∙ adds-by (holds table m.operation.identity) table table' trees operation m made
    (λ l. adds table table' operation made l paired.1 (closed-behind table m made closed) is same lacks has)
