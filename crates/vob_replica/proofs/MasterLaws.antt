-- Who uses the mastership of a branch knows all that was made by it.
use Rattle.std.proofs.Common.{inl, inr, ◌≡◌, ℕ, Bool, true, false, cond, Some, None, List, []}
use Rattle.std.proofs.Common.{◌∷◌, ◌++◌, codes, refl, sym, ap, ◌∙◌}
use Rattle.std.proofs.Common.{subst, append_assoc, append-nil, arith}
use Rattle.std.specs.Prelude.{◌⊎◌, fold}
use Rattle.vob_replica.specs.declared.events.Identity.{Identity}
use Rattle.vob_replica.specs.declared.operations.Operation.{Operation}
use Rattle.vob_replica.specs.declared.operations.SiteDeed.{SiteDeed}
use Rattle.vob_replica.specs.declared.operations.SiteDeed.TheVariants as deeds
use Rattle.vob_replica.specs.Tables.{holds, number_in, table_of}
use Rattle.vob_replica.specs.Trees.{Tree, is_same_identity, new_tree, element_of_branch, tree_at, named_tree, trees_of}
use Rattle.vob_replica.specs.Trees.{master_of, next_number, after_deed, after_operation}
use Rattle.vob_replica.proofs.Commuting.{branch_in, is_change, differ-turned, same-is, tree_at-put, tree_at-other, add_version}
use Rattle.vob_replica.proofs.Commuting.{add_master}
use Rattle.vob_replica.proofs.HoldLaws.{holds-from}
use Rattle.vob_replica.proofs.HistoryLaws.{Made, AreApart, table_behind, trees_behind, IsPaired, PrecedesAll, IsClosed, IsMade}
use Rattle.vob_replica.proofs.HistoryLaws.{kept, left, parts, apart-from}
use Rattle.vob_replica.proofs.KnowLaws.{Knows, AreNext, made-number}

-- an operation leaves a branch as it is
pub record Spares (branch : Identity) (operation : Operation) (deed : SiteDeed) : Type 0 where
  pub new : is_same_identity operation.identity branch ≡ false
  pub changes : is_change deed ≡ true → is_same_identity (branch_in deed operation.identity) branch ≡ false

spared-deed : (trees : List Tree) (operation : Operation) (deed : SiteDeed) (branch : Identity) → Spares branch operation deed
    → tree_at (after_deed trees operation deed) branch ≡ tree_at trees branch
spared-deed trees operation deeds.Element branch spares = tree_at-put (new_tree operation.identity operation.identity
    (codes "main")) trees branch spares.new
spared-deed trees operation (deeds.Branch b n name) branch spares = tree_at-put
    (new_tree operation.identity (element_of_branch trees b) name) trees branch spares.new
spared-deed trees operation (deeds.Version b n word) branch spares = tree_at-other b branch (add_version operation n word) trees
    (spares.changes refl) (λ tree. refl)
spared-deed trees operation (deeds.Master b site) branch spares = tree_at-other b branch (add_master operation) trees
    (spares.changes refl) (λ tree. refl)

abbrev pub SparesAll : Identity → List Operation → Type 0
SparesAll branch [] = Unit {0}
SparesAll branch (operation ∷ others) = Spares branch operation operation.deed × SparesAll branch others

pub spared : (trees : List Tree) (operations : List Operation) (branch : Identity) → SparesAll branch operations
    → tree_at (fold after_operation trees operations) branch ≡ tree_at trees branch
spared trees [] branch spares = refl
spared trees (operation ∷ others) branch spares =
    spared (after_operation trees operation) others branch spares.1 ∙ spared-deed trees operation operation.deed branch spares.0

-- no operation that is not held used the mastership of a branch
abbrev pub Unused : List Identity → Identity → List Made → Type 0
Unused table branch [] = Unit {0}
Unused table branch (m ∷ made) = (holds table m.operation.identity ≡ false → is_same_identity m.used branch ≡ false)
    × Unused table branch made

new-by : (b : Bool) (table : List Identity) (branch identity : Identity) → is_same_identity identity branch ≡ b
    → holds table branch ≡ true → holds table identity ≡ false → b ≡ false
new-by true table branch identity same has lacks =
    let gone : holds table branch ≡ false = subst (λ (i : Identity). holds table i ≡ false) (same-is identity branch same) lacks
    in
    cc (has, gone)
new-by false table branch identity differs has lacks = refl

-- what is not held is not the branch that is
pub lacks-differs : (table : List Identity) (branch identity : Identity) → holds table branch ≡ true
    → holds table identity ≡ false → is_same_identity identity branch ≡ false
lacks-differs table branch identity has lacks = new-by (is_same_identity identity branch) table branch identity refl has lacks

spares-made : (m : Made) (branch : Identity) → is_same_identity m.operation.identity branch ≡ false
    → is_same_identity m.used branch ≡ false → Spares branch m.operation m.operation.deed
spares-made m branch new unused = record {
  new = new;
  changes = λ is. subst (λ (i : Identity). is_same_identity i branch ≡ false)
      (m.changes is) unused;
}

left-by : (b : Bool) (table : List Identity) (branch : Identity) (m : Made) (made : List Made)
    → holds table m.operation.identity ≡ b → holds table branch ≡ true
    → (holds table m.operation.identity ≡ false → is_same_identity m.used branch ≡ false) → SparesAll branch (left table made)
    → SparesAll branch (cond b (left table made) (m.operation ∷ left table made))
left-by true table branch m made is has unused later = later
left-by false table branch m made is has unused later = (
  spares-made m branch
      (lacks-differs table branch m.operation.identity has is) (unused is),
  later,
)

pub left-spares : (table : List Identity) (branch : Identity) (made : List Made) → holds table branch ≡ true
    → Unused table branch made → SparesAll branch (left table made)
left-spares table branch [] has unused = tt
left-spares table branch (m ∷ made) has unused =
    left-by (holds table m.operation.identity) table branch m made refl has unused.0 (left-spares table branch made has unused.1)

kept-by : (b : Bool) (table : List Identity) (branch : Identity) (x m : Made) (made : List Made)
    → holds table m.operation.identity ≡ b → x.used ≡ branch → (b ≡ true → AreApart x m)
    → SparesAll branch (kept table made) → SparesAll branch (cond b (m.operation ∷ kept table made) (kept table made))
kept-by true table branch x m made is same apart later =
    let both = apart refl in
    let new : is_same_identity m.operation.identity branch ≡ false = subst
    (λ (i : Identity). is_same_identity m.operation.identity i ≡ false) same
    (differ-turned x.used m.operation.identity both.made) in
    let unused : is_same_identity m.used branch ≡ false = subst (λ (i : Identity). is_same_identity m.used i ≡ false) same
    (differ-turned x.used m.used both.used) in
    (spares-made m branch new unused, later)
kept-by false table branch x m made is same apart later = later

-- where one that is not held used the mastership, none after it that is held did
kept-spares : (table : List Identity) (branch : Identity) (x : Made) (made : List Made) → holds table x.operation.identity ≡ false
    → x.used ≡ branch → PrecedesAll x made → IsClosed table made
    → SparesAll branch (kept table made)
kept-spares table branch x [] lacks same precedes closed = tt
kept-spares table branch x (m ∷ made) lacks same precedes closed =
    kept-by (holds table m.operation.identity) table branch x m made refl same
    (λ has. apart-from table x m precedes.0 lacks (closed m.operation (inl refl) has))
    (kept-spares table branch x made lacks same precedes.1 (λ o is. closed o (inr is)))

-- a version has the next number of its branch
abbrev pub NumberIs : SiteDeed → Tree → Type 0
NumberIs (deeds.Version branch number word) tree = number ≡ next_number tree
NumberIs _ tree = Unit {0}

-- The maker of an operation was the master of the branch that it used, as all before it tells, and made the next version there.
pub record IsMaster (before : List Made) (m : Made) : Type 0 where
  pub tree : Tree
  pub found : tree_at (trees_behind before) m.used ≡ Some tree
  pub master : master_of tree ≡ m.operation.identity.site
  pub number : NumberIs m.operation.deed tree

-- Or it made the branch that it used.
pub record IsOwn (m : Made) : Type 0 where
  pub own : m.used ≡ m.operation.identity
  pub new : is_change m.operation.deed ≡ false

-- what the element of a new branch is, and that no branch of it has the name
abbrev pub LabelIs : List Tree → SiteDeed → Identity → Identity → Type 0
LabelIs trees deeds.Element own used = used ≡ own
LabelIs trees (deeds.Branch branch number name) own used = used ≡ element_of_branch trees branch
LabelIs trees _ own used = Unit {0}

abbrev pub NameIs : List Tree → SiteDeed → Identity → Type 0
NameIs trees deeds.Element used = named_tree trees used (codes "main") ≡ None
NameIs trees (deeds.Branch branch number name) used = named_tree trees used name ≡ None
NameIs trees _ used = Unit {0}

pub record IsLegal (before : List Made) (m : Made) : Type 0 where
  pub cause : IsOwn m ⊎ IsMaster before m
  pub label : LabelIs (trees_behind before) m.operation.deed m.operation.identity m.used
  pub name : NameIs (trees_behind before) m.operation.deed m.used

abbrev pub AreLegal : List Made → List Made → Type 0
AreLegal before [] = Unit {0}
AreLegal before (m ∷ made) = IsLegal before m × AreLegal (before ++ m ∷ []) made

pub legal-push : (before made : List Made) (m : Made) → AreLegal before made → IsLegal (before ++ made) m
    → AreLegal before (made ++ m ∷ [])
legal-push before [] m legal is = (subst (λ (l : List Made). IsLegal l m) (append-nil before) is, tt)
legal-push before (x ∷ made) m legal is = (
  legal.0,
  legal-push (before ++ x ∷ []) made m legal.1 (subst (λ (l : List Made). IsLegal l m)
      (sym (append_assoc before (x ∷ []) made)) is),
)

kept-append : (table : List Identity) (before made : List Made) → kept table (before ++ made) ≡ kept table before
    ++ kept table made
kept-append table [] made = refl
kept-append table (m ∷ before) made = by (holds table m.operation.identity) (kept-append table before made)
  where
    by : (b : Bool) → kept table (before ++ made) ≡ kept table before ++ kept table made
        → cond b (m.operation ∷ kept table (before ++ made)) (kept table (before ++ made))
        ≡ cond b (m.operation ∷ kept table before) (kept table before) ++ kept table made
    by true later = ap (λ (l : List Operation). m.operation ∷ l) later
    by false later = later

fold-append : (trees : List Tree) (one other : List Operation) → fold after_operation trees (one ++ other)
    ≡ fold after_operation (fold after_operation trees one) other
fold-append trees [] other = refl
fold-append trees (first ∷ one) other = fold-append (after_operation trees first) one other

paired-first : (before made : List Made) → IsPaired (before ++ made) → IsPaired before
paired-first [] made paired = tt
paired-first (m ∷ before) made paired = (first m before paired.0, paired-first before made paired.1)
  where
    first : (m : Made) (before : List Made) → PrecedesAll m (before ++ made) → PrecedesAll m before
    first m [] all = tt
    first m (x ∷ before) all = (all.0, first m before all.1)

paired-last : (before made : List Made) → IsPaired (before ++ made) → IsPaired made
paired-last [] made paired = paired
paired-last (m ∷ before) made paired = paired-last before made paired.1

made-before : (operation : Operation) (before made : List Made) → IsMade operation before → IsMade operation (before ++ made)
made-before operation [] made is = absurd is
made-before operation (m ∷ before) made (inl here) = inl here
made-before operation (m ∷ before) made (inr is) = inr (made-before operation before made is)

made-behind : (operation : Operation) (before made : List Made) → IsMade operation made → IsMade operation (before ++ made)
made-behind operation [] made is = is
made-behind operation (m ∷ before) made is = inr (made-behind operation before made is)

-- a site that holds itself master of a branch, as it knows it
module _ (all : List Made) (known : List Operation) (knows : Knows all known) (nexts : AreNext all) (name : List ℕ)
    (own : number_in (table_of known) name ≡ number_in (table_behind all) name)
    (branch : Identity) (tree : Tree) (found : tree_at (trees_of known) branch ≡ Some tree) (master : master_of tree ≡ name) where
  abbrev table : List Identity
  table = table_of known

  has : holds table branch ≡ true
  has = knows.held branch tree found

  -- what one that used the branch unknown to the site would tell
  module _ (before : List Made) (x : Made) (made : List Made) (is : all ≡ before ++ x ∷ made)
      (paired : IsPaired (before ++ x ∷ made)) (unused : Unused table branch before)
      (lacks : holds table x.operation.identity ≡ false) (same : x.used ≡ branch) where
    closed : IsClosed table (before ++ x ∷ made)
    closed = subst (IsClosed table) is knows.closed

    is_made : IsMade x.operation all
    is_made = subst (IsMade x.operation) (sym is) (made-behind x.operation before (x ∷ made) (inl refl))

    behind-it : PrecedesAll x made
    behind-it = (paired-last before (x ∷ made) paired).0

    at-before : tree_at (trees_behind before) branch ≡ tree_at (trees_of (kept table before)) branch
    at-before =
        ap (λ (l : List Tree). tree_at l branch)
        (parts table [] before (paired-first before (x ∷ made) paired) (λ o was. closed o (made-before o before (x ∷ made) was)))
        ∙ spared (trees_of (kept table before)) (left table before) branch (left-spares table branch before has unused)

    kept-is : kept table all ≡ kept table before ++ kept table made
    kept-is =
        ap (kept table) is ∙ kept-append table before (x ∷ made)
        ∙ ap (λ (b : Bool). kept table before ++ cond b (x.operation ∷ kept table made) (kept table made)) lacks

    at-site : tree_at (trees_of known) branch ≡ tree_at (trees_of (kept table before)) branch
    at-site =
        ap (λ (l : List Tree). tree_at l branch) (knows.trees ∙ ap trees_of kept-is
        ∙ fold-append [] (kept table before) (kept table made))
        ∙ spared (trees_of (kept table before)) (kept table made) branch
        (kept-spares table branch x made lacks same behind-it (λ o was. closed o (made-behind o before (x ∷ made) (inr was))))

    -- its maker is the site itself, which knows all that it made
    own-knows : x.operation.identity.site ≡ name → holds table x.operation.identity ≡ true
    own-knows at =
        let next = nexts x.operation is_made in
        let most = made-number x.operation all is_made in
        let has : number_in table x.operation.identity.site ≡ number_in (table_behind all) x.operation.identity.site =
        ap (number_in table) at ∙ own ∙ ap (number_in (table_behind all)) (sym at) in
        holds-from table x.operation.identity (omega (arith, next)) (omega (arith, most, has))

    none-such : IsOwn x ⊎ IsMaster before x → ⊥
    none-such (inl made_it) =
        let gone : holds table branch ≡ false = subst (λ (i : Identity). holds table i ≡ false) (sym made_it.own ∙ same) lacks in
        absurd (cc (has, gone))
    none-such (inr legal) =
        let there : tree_at (trees_behind before) branch ≡ Some legal.tree =
        subst (λ (i : Identity). tree_at (trees_behind before) i ≡ Some legal.tree) same legal.found in
        let trees : legal.tree ≡ tree = some-is (sym there ∙ at-before ∙ sym at-site ∙ found) in
        let site : x.operation.identity.site ≡ name = sym legal.master ∙ ap master_of trees ∙ master in
        let knows_it = own-knows site in
        absurd (cc (knows_it, lacks))
      where
        some-is : {a b : Tree} → Some a ≡ Some b → a ≡ b
        some-is is = cc is

  unused-at : (b : Bool) (before : List Made) (x : Made) (made : List Made) → all ≡ before ++ x ∷ made
      → IsPaired (before ++ x ∷ made) → Unused table branch before
      → holds table x.operation.identity ≡ false → IsLegal before x → is_same_identity x.used branch ≡ b → b ≡ false
  unused-at true before x made is paired unused lacks legal same = absurd
      (none-such before x made is paired unused lacks (same-is x.used branch same) legal.cause)
  unused-at false before x made is paired unused lacks legal same = refl

  unused-push : (before : List Made) (x : Made) → Unused table branch before
      → (holds table x.operation.identity ≡ false → is_same_identity x.used branch ≡ false)
      → Unused table branch (before ++ x ∷ [])
  unused-push [] x unused one = (one, tt)
  unused-push (m ∷ before) x unused one = (unused.0, unused-push before x unused.1 one)

  unused-from : (before made : List Made) → all ≡ before ++ made → IsPaired (before ++ made) → AreLegal before made
      → Unused table branch before → Unused table branch made
  unused-from before [] is paired legal unused = tt
  unused-from before (x ∷ made) is paired legal unused =
      let one : holds table x.operation.identity ≡ false → is_same_identity x.used branch ≡ false =
      λ lacks. unused-at (is_same_identity x.used branch) before x made is paired unused lacks legal.0 refl in
      let along : before ++ x ∷ made ≡ (before ++ x ∷ []) ++ made = sym (append_assoc before (x ∷ []) made) in (
        one,
        unused-from (before ++ x ∷ []) made (is ∙ along) (subst IsPaired along paired) legal.1
            (unused-push before x unused one),
      )

  -- it knows all that used its mastership
  pub unused : IsPaired all → AreLegal [] all → Unused table branch all
  unused paired legal = unused-from [] all refl paired legal tt

  -- so it knows the branch as it is
  pub branch-is : IsPaired all → AreLegal [] all → tree_at (trees_behind all) branch ≡ Some tree
  branch-is paired legal =
      ap (λ (l : List Tree). tree_at l branch) (parts table [] all paired knows.closed)
      ∙ spared (trees_of (kept table all)) (left table all) branch (left-spares table branch all has (unused paired legal))
      ∙ ap (λ (l : List Tree). tree_at l branch) (sym knows.trees) ∙ found
