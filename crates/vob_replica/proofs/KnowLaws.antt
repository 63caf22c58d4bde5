-- What a site knows of all that was made.
use Rattle.std.proofs.Common.{inl, inr, ◌≡◌, ℕ, ◌+◌, ◌≤◌, Bool, true, false, cond, Option, Some, None, Ok, List, [], ◌∷◌, ◌++◌}
use Rattle.std.proofs.Common.{codes, map, refl, sym, ap, ◌∙◌, subst, arith}
use Rattle.std.specs.Prelude.{◌⊎◌, ◌&&◌, nat_le, nat_lt, fold, not}
use Rattle.std.proofs.lemmas.Bool.Decides.{nat_tests}
use Rattle.std.proofs.lemmas.Slice.Eq.{bytes_eq-Decides}
use Rattle.vob_replica.proofs.TableLaws.{Ascends-with_operation}
use Rattle.std.specs.Option.{option_map}
use Rattle.std.specs.Str.{bytes_eq}
use Rattle.vob_replica.specs.declared.events.Identity.{Identity}
use Rattle.vob_replica.specs.declared.operations.Operation.{Operation}
use Rattle.vob_replica.specs.declared.operations.SiteDeed.{SiteDeed}
use Rattle.vob_replica.specs.declared.operations.SiteDeed.TheVariants as deeds
use Rattle.vob_replica.specs.Laws.{IsIn}
use Rattle.vob_replica.specs.Logs.{HasNextNumber}
use Rattle.vob_replica.specs.Replicas.{above, operations_after_import, unless_gap}
use Rattle.vob_replica.specs.Tables.{first_gap, holds, number_in, with_operation, table_of, Ascends}
use Rattle.vob_replica.specs.Trees.{Tree, is_same_identity, new_tree, element_of_branch, with_branch_changed, tree_at, trees_of}
use Rattle.vob_replica.specs.Trees.{after_deed, after_operation}
use Rattle.vob_replica.proofs.Commuting.{differ-turned, same-is, tree_at-put, tree_at-other, tree_at-changed, add_version}
use Rattle.vob_replica.proofs.Commuting.{add_master}
use Rattle.vob_replica.proofs.BranchLaws.{KeepsIdentity}
use Rattle.vob_replica.specs.Tables.{IsWithin}
use Rattle.vob_replica.proofs.HoldLaws.{holds-within, holds-other, holds-own, lacks-next, whole-within, more-within}
use Rattle.vob_replica.proofs.HoldLaws.{other-number, own-number, next-number}
use Rattle.vob_replica.proofs.HistoryLaws.{Made, operations_of, table_behind, trees_behind, IsPaired, IsClosed, IsMade, kept}
use Rattle.vob_replica.proofs.HistoryLaws.{adds, made-differs, HoldsSame}
use Rattle.vob_replica.proofs.ImportLaws.{ascends_of}
use Rattle.vob_replica.proofs.LogLaws.{table_of-push, needs-within}
use Rattle.vob_replica.proofs.ReplicaLaws.{trees_of-push}

-- each of some was made
abbrev pub AreMade : List Operation → List Made → Type 0
AreMade [] made = Unit {0}
AreMade (operation ∷ others) made = IsMade operation made × AreMade others made

-- Some operations are a part of all that was made: where one is known, so is what it needs, and their branches are those of the
-- same operations in the order in which they were made.
pub record Knows (made : List Made) (known : List Operation) : Type 0 where
  pub trees : trees_of known ≡ trees_of (kept (table_of known) made)
  pub are : AreMade known made
  pub all : (operation : Operation) → IsMade operation made → holds (table_of known) operation.identity ≡ true
      → IsIn operation known
  pub closed : IsClosed (table_of known) made
  pub within : IsWithin (table_of known) (table_behind made)
  pub held : (branch : Identity) (tree : Tree) → tree_at (trees_of known) branch ≡ Some tree
      → holds (table_of known) branch ≡ true

-- a table that more operations are taken into
abbrev table_from : List Identity → List Made → List Identity
table_from table [] = table
table_from table (m ∷ made) = table_from (with_operation table m.operation.identity) made

from-is : (table : List Identity) (made : List Made) → fold with_operation table
    (map (λ (o : Operation). o.identity) (operations_of made)) ≡ table_from table made
from-is table [] = refl
from-is table (m ∷ made) = from-is (with_operation table m.operation.identity) made

ascends-more : (table : List Identity) (i : Identity) → Ascends table → Ascends (with_operation table i)
ascends-more table i ascends = Ascends-with_operation table i ascends

from-within : (table : List Identity) (made : List Made) (site : List ℕ) → Ascends table
    → number_in table site ≤ number_in (table_from table made) site
from-within table [] site ascends = omega arith
from-within table (m ∷ made) site ascends =
    let first = more-within table m.operation.identity ascends site in
    let later = from-within (with_operation table m.operation.identity) made site
    (ascends-more table m.operation.identity ascends) in
    omega (arith, first, later)

from-number : (table : List Identity) (operation : Operation) (made : List Made) → Ascends table → IsMade operation made
    → operation.identity.number ≤ number_in (table_from table made) operation.identity.site
from-number table operation [] ascends is = absurd is
from-number table operation (m ∷ made) ascends (inl here) =
    let own = own-number table m.operation.identity in
    let later = from-within (with_operation table m.operation.identity) made m.operation.identity.site
    (ascends-more table m.operation.identity ascends) in
    subst (λ (o : Operation). o.identity.number ≤ number_in (table_from table (m ∷ made)) o.identity.site) (sym here)
    (omega (arith, own, later))
from-number table operation (m ∷ made) ascends (inr is) = from-number (with_operation table m.operation.identity) operation made
    (ascends-more table m.operation.identity ascends) is

-- the table of all that was made has each of them
pub made-number : (operation : Operation) (made : List Made) → IsMade operation made
    → operation.identity.number ≤ number_in (table_behind made) operation.identity.site
made-number operation made is =
    subst (λ (t : List Identity). operation.identity.number ≤ number_in t operation.identity.site) (sym (from-is [] made))
    (from-number [] operation made tt is)

operations-push : (made : List Made) (m : Made) → operations_of (made ++ m ∷ []) ≡ operations_of made ++ m.operation ∷ []
operations-push [] m = refl
operations-push (x ∷ made) m = ap (λ (l : List Operation). x.operation ∷ l) (operations-push made m)

-- one more is made
pub table_behind-push : (made : List Made) (m : Made) → table_behind (made ++ m ∷ [])
    ≡ with_operation (table_behind made) m.operation.identity
table_behind-push made m = ap table_of (operations-push made m) ∙ table_of-push (operations_of made) m.operation

pub trees_behind-push : (made : List Made) (m : Made) → trees_behind (made ++ m ∷ [])
    ≡ after_operation (trees_behind made) m.operation
trees_behind-push made m = ap trees_of (operations-push made m) ∙ trees_of-push (operations_of made) m.operation

pub behind-within : (made : List Made) (m : Made) → IsWithin (table_behind made) (table_behind (made ++ m ∷ []))
behind-within made m site =
    subst (λ (t : List Identity). number_in (table_behind made) site ≤ number_in t site) (sym (table_behind-push made m))
    (more-within (table_behind made) m.operation.identity (ascends_of (operations_of made)) site)

pub made-push : (operation : Operation) (made : List Made) (m : Made) → IsMade operation made → IsMade operation (made ++ m ∷ [])
made-push operation [] m is = absurd is
made-push operation (x ∷ made) m (inl here) = inl here
made-push operation (x ∷ made) m (inr is) = inr (made-push operation made m is)

pub made-last : (made : List Made) (m : Made) → IsMade m.operation (made ++ m ∷ [])
made-last [] m = inl refl
made-last (x ∷ made) m = inr (made-last made m)

pub made-split : (operation : Operation) (made : List Made) (m : Made) → IsMade operation (made ++ m ∷ []) → IsMade operation made
    ⊎ (operation ≡ m.operation)
made-split operation [] m (inl here) = inr here
made-split operation [] m (inr is) = absurd is
made-split operation (x ∷ made) m (inl here) = inl (inl here)
made-split operation (x ∷ made) m (inr is) = deeper (made-split operation made m is)
  where
    deeper : IsMade operation made ⊎ (operation ≡ m.operation) → IsMade operation (x ∷ made) ⊎ (operation ≡ m.operation)
    deeper (inl is) = inl (inr is)
    deeper (inr last) = inr last

-- each identity was made once
pub once : (one other : Operation) (made : List Made) → IsPaired made → IsMade one made → IsMade other made
    → is_same_identity one.identity other.identity ≡ true → one ≡ other
once one other [] paired is also same = absurd is
once one other (m ∷ made) paired (inl here) (inl there) same = here ∙ sym there
once one other (m ∷ made) paired (inl here) (inr also) same =
    let differs = made-differs m other made paired.0 also in
    let same' : is_same_identity m.operation.identity other.identity ≡ true =
    subst (λ (o : Operation). is_same_identity o.identity other.identity ≡ true) here same in
    absurd (cc (same', differs))
once one other (m ∷ made) paired (inr is) (inl there) same =
    let differs = differ-turned m.operation.identity one.identity (made-differs m one made paired.0 is) in
    let same' : is_same_identity one.identity m.operation.identity ≡ true =
    subst (λ (o : Operation). is_same_identity one.identity o.identity ≡ true) there same in
    absurd (cc (same', differs))
once one other (m ∷ made) paired (inr is) (inr also) same = once one other made paired.1 is also same

in-push : (operation : Operation) (known : List Operation) (last : Operation) → IsIn operation known
    → IsIn operation (known ++ last ∷ [])
in-push operation [] last is = absurd is
in-push operation (first ∷ known) last (inl here) = inl here
in-push operation (first ∷ known) last (inr is) = inr (in-push operation known last is)

in-last : (known : List Operation) (last : Operation) → IsIn last (known ++ last ∷ [])
in-last [] last = inl refl
in-last (first ∷ known) last = inr (in-last known last)

are-push : (known : List Operation) (last : Operation) (made : List Made) → AreMade known made → IsMade last made
    → AreMade (known ++ last ∷ []) made
are-push [] last made are is = (is, tt)
are-push (first ∷ known) last made are is = (are.0, are-push known last made are.1 is)

some-changed : (found : Option Tree) (f : Tree → Tree) (tree : Tree) → option_map f found ≡ Some tree → found ≡ None → ⊥
some-changed None f tree is none = cc is
some-changed (Some t) f tree is none = cc none

-- a branch that is there
abbrev pub IsThere : Option Tree → Type 0
IsThere None = ⊥
IsThere (Some tree) = Unit {0}

pub there-some : (found : Option Tree) (tree : Tree) → found ≡ Some tree → IsThere found
there-some None tree is = cc is
there-some (Some t) tree is = tt

pub some-there : {P : Type 0} (found : Option Tree) → IsThere found → ((tree : Tree) → found ≡ Some tree → P) → P
some-there None there then = absurd there
some-there (Some tree) there then = then tree refl

there-changed : (found : Option Tree) (f : Tree → Tree) → IsThere (option_map f found) → IsThere found
there-changed None f there = there
there-changed (Some tree) f there = tt

back-change : (b : Bool) (c branch : Identity) (f : Tree → Tree) (trees : List Tree) → is_same_identity c branch ≡ b
    → KeepsIdentity f
    → IsThere (tree_at (with_branch_changed c f trees) branch) → IsThere (tree_at trees branch)
back-change true c branch f trees same keeps there =
    there-changed (tree_at trees branch) f
    (subst IsThere (tree_at-changed branch f trees keeps) (subst (λ (i : Identity). IsThere
    (tree_at (with_branch_changed i f trees) branch)) (same-is c branch same) there))
back-change false c branch f trees differs keeps there = subst IsThere (tree_at-other c branch f trees differs keeps) there

pub back-deed : (trees : List Tree) (operation : Operation) (deed : SiteDeed) (branch : Identity)
    → is_same_identity operation.identity branch ≡ false
    → IsThere (tree_at (after_deed trees operation deed) branch) → IsThere (tree_at trees branch)
back-deed trees operation deeds.Element branch differs there = subst IsThere
    (tree_at-put (new_tree operation.identity operation.identity (codes "main")) trees branch differs) there
back-deed trees operation (deeds.Branch b n name) branch differs there =
    subst IsThere (tree_at-put (new_tree operation.identity (element_of_branch trees b) name) trees branch differs) there
back-deed trees operation (deeds.Version b n word) branch differs there =
    back-change (is_same_identity b branch) b branch (add_version operation n word) trees refl (λ tree. refl) there
back-deed trees operation (deeds.Master b site) branch differs there =
    back-change (is_same_identity b branch) b branch (add_master operation) trees refl (λ tree. refl) there

-- one operation more is known
module _ (made : List Made) (known : List Operation) (knows : Knows made known) (paired : IsPaired made) (operation : Operation)
    (is : IsMade operation made)
    (next : operation.identity.number ≡ number_in (table_of known) operation.identity.site + 1)
    (whole : first_gap operation.needs (table_of known) ≡ None) where
  abbrev now : List Operation
  now = known ++ operation ∷ []

  abbrev table : List Identity
  table = table_of known

  abbrev more : List Identity
  more = with_operation (table_of known) operation.identity

  ascends : Ascends table
  ascends = ascends_of known

  others : HoldsSame table more operation.identity
  others j differs = holds-other table operation.identity j ascends next differs

  push : table_of now ≡ more
  push = table_of-push known operation

  more-trees : trees_of now ≡ trees_of (kept more made)
  more-trees =
      trees_of-push known operation ∙ ap (λ (l : List Tree). after_operation l operation) knows.trees
      ∙ sym (adds table more operation made [] paired knows.closed is others (lacks-next table operation.identity next)
      (holds-own table operation.identity next))

  all-by : (b : Bool) (o : Operation) → is_same_identity o.identity operation.identity ≡ b → IsMade o made
      → holds more o.identity ≡ true → IsIn o now
  all-by true o same also has = subst (λ (x : Operation). IsIn x now) (sym (once o operation made paired also is same))
      (in-last known operation)
  all-by false o differs also has = in-push o known operation (knows.all o also (sym (others o.identity differs) ∙ has))

  closed-by : (b : Bool) (o : Operation) → is_same_identity o.identity operation.identity ≡ b → IsMade o made
      → holds more o.identity ≡ true → first_gap o.needs table ≡ None
  closed-by true o same also has = subst (λ (x : Operation). first_gap x.needs table ≡ None)
      (sym (once o operation made paired also is same)) whole
  closed-by false o differs also has = knows.closed o also (sym (others o.identity differs) ∙ has)

  within-by : (b : Bool) (site : List ℕ) → bytes_eq operation.identity.site site ≡ b
      → number_in more site ≤ number_in (table_behind made) site
  within-by true site same =
      let name : operation.identity.site ≡ site = (bytes_eq-Decides operation.identity.site site).0 same in
      let own = next-number table operation.identity next in
      let has = made-number operation made is in
      subst (λ (s : List ℕ). number_in more s ≤ number_in (table_behind made) s) name (omega (arith, own, has))
  within-by false site differs =
      let same = other-number table operation.identity site ascends differs in
      let le = knows.within site in
      omega (arith, same, le)

  held-by : (b : Bool) (branch : Identity) (tree : Tree) → is_same_identity operation.identity branch ≡ b
      → tree_at (after_operation (trees_of known) operation) branch ≡ Some tree → holds more branch ≡ true
  held-by true branch tree same found = subst (λ (i : Identity). holds more i ≡ true) (same-is operation.identity branch same)
      (holds-own table operation.identity next)
  held-by false branch tree differs found =
      some-there (tree_at (trees_of known) branch)
      (back-deed (trees_of known) operation operation.deed branch differs
      (there-some (tree_at (after_operation (trees_of known) operation) branch) tree found))
      (λ before was. holds-within table more branch (more-within table operation.identity ascends) (knows.held branch before was))

  more-knows : Knows made now
  more-knows = record {
    trees = more-trees ∙ ap (λ (t : List Identity). trees_of (kept t made)) (sym push);
    are = are-push known operation made knows.are is;
    all = λ o also has. all-by (is_same_identity o.identity operation.identity) o refl also
        (ap (λ (t : List Identity). holds t o.identity) (sym push) ∙ has);
    closed = λ o also has.
        subst (λ (t : List Identity). first_gap o.needs t ≡ None) (sym push)
        (whole-within o.needs table more (more-within table operation.identity ascends)
        (closed-by (is_same_identity o.identity operation.identity) o refl also
        (ap (λ (t : List Identity). holds t o.identity) (sym push) ∙ has)));
    within = λ site. subst (λ (t : List Identity). number_in t site ≤ number_in (table_behind made) site) (sym push)
        (within-by (bytes_eq operation.identity.site site) site refl);
    held = λ branch tree found.
        ap (λ (t : List Identity). holds t branch) push
        ∙ held-by (is_same_identity operation.identity branch) branch tree refl
        (subst (λ (l : List Tree). tree_at l branch ≡ Some tree) (trees_of-push known operation) found);
  }

pub knows-more : (made : List Made) (known : List Operation) (operation : Operation) → Knows made known → IsPaired made
    → IsMade operation made
    → operation.identity.number ≡ number_in (table_of known) operation.identity.site + 1
    → first_gap operation.needs (table_of known) ≡ None
    → Knows made (known ++ operation ∷ [])
knows-more made known operation knows paired is next whole = more-knows made known knows paired operation is next whole

kept-push : (table : List Identity) (made : List Made) (m : Made) → holds table m.operation.identity ≡ false
    → kept table (made ++ m ∷ []) ≡ kept table made
kept-push table [] m lacks = ap (λ (b : Bool). cond b (m.operation ∷ []) []) lacks
kept-push table (x ∷ made) m lacks = ap (λ (l : List Operation). cond (holds table x.operation.identity) (x.operation ∷ l) l)
    (kept-push table made m lacks)

are-made-push : (known : List Operation) (made : List Made) (m : Made) → AreMade known made → AreMade known (made ++ m ∷ [])
are-made-push [] made m are = tt
are-made-push (first ∷ known) made m are = (made-push first made m are.0, are-made-push known made m are.1)

-- one more is made, which is not known
pub knows-still : (made : List Made) (m : Made) (known : List Operation) → Knows made known
    → holds (table_of known) m.operation.identity ≡ false → Knows (made ++ m ∷ []) known
knows-still made m known knows lacks = record {
  trees = knows.trees ∙ ap trees_of (sym (kept-push (table_of known) made m lacks));
  are = are-made-push known made m knows.are;
  all = λ o is has. all-of o has (made-split o made m is);
  closed = λ o is has. closed-of o has (made-split o made m is);
  within = λ site. let one = knows.within site in let two = behind-within made m site in omega (arith, one, two);
  held = knows.held;
}
  where
    all-of : (o : Operation) → holds (table_of known) o.identity ≡ true → IsMade o made ⊎ (o ≡ m.operation) → IsIn o known
    all-of o has (inl is) = knows.all o is has
    all-of o has (inr last) = let gone : holds (table_of known) o.identity ≡ false =
        ap (λ (x : Operation). holds (table_of known) x.identity) last ∙ lacks in absurd (cc (has, gone))

    closed-of : (o : Operation) → holds (table_of known) o.identity ≡ true → IsMade o made ⊎ (o ≡ m.operation)
        → first_gap o.needs (table_of known) ≡ None
    closed-of o has (inl is) = knows.closed o is has
    closed-of o has (inr last) = let gone : holds (table_of known) o.identity ≡ false =
        ap (λ (x : Operation). holds (table_of known) x.identity) last ∙ lacks in absurd (cc (has, gone))

-- each of what was made has the number after what it needs of its maker
abbrev pub AreNext : List Made → Type 0
AreNext made = (operation : Operation) → IsMade operation made → HasNextNumber operation

next-by : (number had has : ℕ) → number ≡ had + 1 → had ≤ has → nat_lt 0 number && nat_le number has ≡ false → number ≡ has + 1
next-by number had has next le lacks = grind (arith, nat_tests)

-- the operations of a packet are added
pub knows-import : (made : List Made) (known operations after : List Operation) → Knows made known → IsPaired made → AreNext made
    → AreMade operations made
    → operations_after_import known operations ≡ Ok after → Knows made after
knows-import made known [] after knows paired nexts are is = let same : known ≡ after = cc is in subst (Knows made) same knows
knows-import made known (operation ∷ operations) after knows paired nexts are is =
    by (holds (table_of known) operation.identity) (first_gap operation.needs (table_of known)) refl refl is
    (knows-import made known operations after knows paired nexts are.1)
    (λ knows'. knows-import made (known ++ operation ∷ []) operations after knows' paired nexts are.1)
  where
    by : (b : Bool) (gap : Option Identity) → holds (table_of known) operation.identity ≡ b
        → first_gap operation.needs (table_of known) ≡ gap
        → cond b (operations_after_import known operations) (unless_gap gap
        (operations_after_import (known ++ operation ∷ []) operations)) ≡ Ok after
        → (operations_after_import known operations ≡ Ok after → Knows made after)
        → (Knows made (known ++ operation ∷ []) → operations_after_import (known ++ operation ∷ []) operations ≡ Ok after
        → Knows made after)
        → Knows made after
    by true gap has none is skipped taken = skipped is
    by false (Some missing) has none is skipped taken = cc is
    by false None lacks none is skipped taken =
        let le = needs-within operation.needs (table_of known) operation.identity.site none in
        let next = next-by operation.identity.number (number_in operation.needs operation.identity.site)
        (number_in (table_of known) operation.identity.site) (nexts operation are.0) le lacks in
        taken (knows-more made known operation knows paired are.0 next none) is

above-by : (b : Bool) (operation : Operation) (others : List Operation) (made : List Made) → IsMade operation made
    → AreMade others made → AreMade (cond b (operation ∷ others) others) made
above-by true operation others made is are = (is, are)
above-by false operation others made is are = are

-- what is put into a packet was made
pub are-above : (table : List Identity) (known : List Operation) (made : List Made) → AreMade known made
    → AreMade (above table known) made
are-above table [] made are = tt
are-above table (operation ∷ known) made are =
    above-by (not (holds table operation.identity)) operation (above table known) made are.0 (are-above table known made are.1)
