-- A site makes a change: what was made, and what each site knows of it.
use Rattle.std.proofs.Common.{inl, inr, ◌≡◌, ℕ, ◌+◌, Bool, true, false, cond, Option, Some, None, List, [], ◌∷◌, ◌++◌, codes}
use Rattle.std.proofs.Common.{refl, sym, ap, ◌∙◌, subst, arith}
use Rattle.std.specs.Prelude.{◌⊎◌, ◌&&◌}
use Rattle.std.specs.Option.{option_map, option_map_or}
use Rattle.std.specs.Str.{bytes_eq}
use Rattle.std.proofs.lemmas.Slice.Eq.{bytes_eq-Decides}
use Rattle.vob_replica.specs.declared.events.Identity.{Identity}
use Rattle.vob_replica.specs.declared.operations.Change.{Change}
use Rattle.vob_replica.specs.declared.operations.Change.TheVariants as changes
use Rattle.vob_replica.specs.declared.operations.Operation.{Operation}
use Rattle.vob_replica.specs.declared.operations.SiteFault.{SiteFault}
use Rattle.vob_replica.specs.declared.operations.SiteFault.TheVariants.{NoBranch, NotMaster, BranchExists}
use Rattle.vob_replica.specs.Logs.{HasNextNumber}
use Rattle.vob_replica.specs.Replicas.{Site, change_fault, site_deed_of, operation_by, site_made, either_fault, master_fault}
use Rattle.vob_replica.specs.Replicas.{version_fault, branch_name_fault, branch_fault}
use Rattle.vob_replica.specs.Tables.{holds, number_in, with_operation, table_of}
use Rattle.vob_replica.specs.Trees.{Tree, is_same_identity, element_of_branch, tree_at, named_tree, trees_of, master_of}
use Rattle.vob_replica.specs.Trees.{next_number}
use Rattle.vob_replica.specs.World.{with_site}
use Rattle.vob_replica.proofs.Commuting.{same-is, same-self, branch_of, branch_in, is_change, differ-turned}
use Rattle.vob_replica.specs.Tables.{IsWithin}
use Rattle.vob_replica.proofs.HoldLaws.{holds-within, holds-own, lacks-next, lacks-from, more-within, other-number}
use Rattle.vob_replica.proofs.HoldLaws.{next-number}
use Rattle.vob_replica.proofs.HistoryLaws.{trees_behind, Made, Precedes, AllPrecede, IsPaired, IsMade}
use Rattle.vob_replica.proofs.HistoryLaws.{table_behind, operations_of, paired-push}
use Rattle.vob_replica.proofs.GrowthLaws.{Labels, Labelled, labelled, grown, known-there, none-named, named-true, behind-none}
use Rattle.vob_replica.proofs.ImportLaws.{ascends_of}
use Rattle.vob_replica.proofs.KnowLaws.{there-some, some-there, Knows, AreNext, knows-more, knows-still, made-last}
use Rattle.vob_replica.proofs.KnowLaws.{made-split, table_behind-push}
use Rattle.vob_replica.proofs.LogLaws.{table_of-push}
use Rattle.vob_replica.proofs.MasterLaws.{NumberIs, LabelIs, NameIs, IsOwn, IsMaster, Unused}
use Rattle.vob_replica.proofs.MasterLaws.{IsLegal, AreLegal, legal-push, lacks-differs}
use Rattle.vob_replica.proofs.MasterLaws.{unused, branch-is}
use Rattle.vob_replica.proofs.ReplicaLaws.{first_gap-own}

-- the branch whose mastership a change uses
abbrev pub used_for : List Tree → Change → Identity → Identity
used_for trees changes.Element own = own
used_for trees (changes.Branch branch number name) own = element_of_branch trees branch
used_for trees (changes.Version branch word) own = branch
used_for trees (changes.Master branch to) own = branch

pub used-changes : (trees : List Tree) (change : Change) (own : Identity) → is_change (site_deed_of trees change) ≡ true
    → used_for trees change own ≡ branch_in (site_deed_of trees change) own
used-changes trees changes.Element own is = cc is
used-changes trees (changes.Branch branch number name) own is = cc is
used-changes trees (changes.Version branch word) own is = refl
used-changes trees (changes.Master branch to) own is = refl

-- a site of this name holds itself master of a branch
pub record HoldsBranch (trees : List Tree) (name : List ℕ) (branch : Identity) : Type 0 where
  pub tree : Tree
  pub found : tree_at trees branch ≡ Some tree
  pub master : master_of tree ≡ name

at-branch : {P : Type 0} (found : Option Tree) (wrong : Tree → Option SiteFault) (fault : SiteFault)
    → option_map_or wrong found (Some fault) ≡ None
    → ((tree : Tree) → found ≡ Some tree → wrong tree ≡ None → P) → P
at-branch None wrong fault none then = cc none
at-branch (Some tree) wrong fault none then = then tree refl none

master-by : (b : Bool) (fault : SiteFault) (rest : Option SiteFault) → either_fault (cond b None (Some fault)) rest ≡ None
    → b ≡ true
master-by true fault rest none = refl
master-by false fault rest none = cc none

master-is : (name : List ℕ) (tree : Tree) (rest : Option SiteFault) → either_fault (master_fault name tree) rest ≡ None
    → master_of tree ≡ name
master-is name tree rest none = (bytes_eq-Decides (master_of tree) name).0
    (master-by (bytes_eq (master_of tree) name) (NotMaster (master_of tree)) rest none)

alone : (name : List ℕ) (tree : Tree) → master_fault name tree ≡ None → either_fault (master_fault name tree) None ≡ None
alone name tree none = ap (λ (f : Option SiteFault). either_fault f None) none

-- a change makes an element
pub record MakesElement (trees : List Tree) (change : Change) (made_by : Identity) : Type 0 where
  pub own : used_for trees change made_by ≡ made_by
  pub new : is_change (site_deed_of trees change) ≡ false

-- a change that is not refused uses what its site holds, or makes an element
may-use : (name : List ℕ) (trees : List Tree) (change : Change) (own : Identity) → change_fault name trees change ≡ None
    → MakesElement trees change own ⊎ HoldsBranch trees name (used_for trees change own)
may-use name trees changes.Element own none = inl (record { own = refl; new = refl })
may-use name trees (changes.Branch branch number label) own none =
    at-branch (tree_at trees branch)
    (λ (tree : Tree). branch_fault trees tree.element (λ (main : Tree). either_fault (master_fault name main)
    (either_fault (version_fault tree number) (branch_name_fault trees tree.element label))))
    (NoBranch branch) none
    (λ tree found wrong.
    at-branch (tree_at trees tree.element) (λ (main : Tree). either_fault (master_fault name main)
    (either_fault (version_fault tree number) (branch_name_fault trees tree.element label)))
    (NoBranch tree.element) wrong
    (λ main there right.
    let element : tree.element ≡ element_of_branch trees branch = sym (ap
    (λ (f : Option Tree). option_map_or (λ (t : Tree). t.element) f branch) found) in
    inr (subst (HoldsBranch trees name) element
    (record {
      tree = main;
      found = there;
      master = master-is name main
          (either_fault (version_fault tree number) (branch_name_fault trees tree.element label)) right;
    }))))
may-use name trees (changes.Version branch word) own none =
    at-branch (tree_at trees branch) (master_fault name) (NoBranch branch) none
    (λ tree found right. inr (record { tree = tree; found = found; master = master-is name tree None (alone name tree right) }))
may-use name trees (changes.Master branch to) own none =
    at-branch (tree_at trees branch) (master_fault name) (NoBranch branch) none
    (λ tree found right. inr (record { tree = tree; found = found; master = master-is name tree None (alone name tree right) }))

-- a version has the next number of its branch, as its site knows it
number-now : (trees : List Tree) (change : Change) (own : Identity) (tree : Tree)
    → tree_at trees (used_for trees change own) ≡ Some tree → NumberIs (site_deed_of trees change) tree
number-now trees changes.Element own tree found = tt
number-now trees (changes.Branch branch number name) own tree found = tt
number-now trees (changes.Version branch word) own tree found = ap (λ (f : Option Tree). option_map_or next_number f 0) found
number-now trees (changes.Master branch to) own tree found = tt

first-true : (one other : Bool) → one && other ≡ true → one ≡ true
first-true true other is = refl
first-true false other is = cc is

second-true : (one other : Bool) → one && other ≡ true → other ≡ true
second-true true other is = is
second-true false other is = cc is

last-fault : (one two three : Option SiteFault) → either_fault one (either_fault two three) ≡ None → three ≡ None
last-fault (Some fault) two three none = cc none
last-fault None (Some fault) three none = cc none
last-fault None None three none = none

unmapped : (found : Option Tree) → option_map (λ (t : Tree). BranchExists t.identity) found ≡ None → found ≡ None
unmapped None none = refl
unmapped (Some t) none = cc none

-- the branch that it is about is known
about-known : (made : List Made) (known : List Operation) (name : List ℕ) (change : Change) (own : Identity) → Knows made known
    → change_fault name (trees_of known) change ≡ None
    → (branch_in (site_deed_of (trees_of known) change) own ≡ own) ⊎ (holds (table_of known)
    (branch_in (site_deed_of (trees_of known) change) own) ≡ true)
about-known made known name changes.Element own knows none = inl refl
about-known made known name (changes.Branch branch number label) own knows none =
    at-branch (tree_at (trees_of known) branch)
    (λ (tree : Tree). branch_fault (trees_of known) tree.element (λ (main : Tree). either_fault (master_fault name main)
    (either_fault (version_fault tree number) (branch_name_fault (trees_of known) tree.element label))))
    (NoBranch branch) none (λ tree found wrong. inr (knows.held branch tree found))
about-known made known name (changes.Version branch word) own knows none =
    at-branch (tree_at (trees_of known) branch) (master_fault name) (NoBranch branch) none
    (λ tree found wrong. inr (knows.held branch tree found))
about-known made known name (changes.Master branch to) own knows none =
    at-branch (tree_at (trees_of known) branch) (master_fault name) (NoBranch branch) none
    (λ tree found wrong. inr (knows.held branch tree found))

-- what each operation names was made
pub record IsHeld (table : List Identity) (m : Made) : Type 0 where
  pub own : holds table m.operation.identity ≡ true
  pub about : holds table (branch_of m.operation) ≡ true
  pub used : holds table m.used ≡ true

abbrev pub AreHeld : List Identity → List Made → Type 0
AreHeld table [] = Unit {0}
AreHeld table (m ∷ made) = IsHeld table m × AreHeld table made

held-within : (table other : List Identity) (made : List Made) → IsWithin table other → AreHeld table made → AreHeld other made
held-within table other [] within held = tt
held-within table other (m ∷ made) within held = (
  record {
    own = holds-within table other m.operation.identity within held.0.own;
    about = holds-within table other (branch_of m.operation) within held.0.about;
    used = holds-within table other m.used within held.0.used;
  },
  held-within table other made within held.1,
)

held-push : (table : List Identity) (made : List Made) (m : Made) → AreHeld table made → IsHeld table m
    → AreHeld table (made ++ m ∷ [])
held-push table [] m held is = (is, tt)
held-push table (x ∷ made) m held is = (held.0, held-push table made m held.1 is)

-- what made a branch is held, and used its element
label-held : (table : List Identity) (branch element : Identity) (made : List Made) → AreHeld table made
    → Labels branch element made → holds table element ≡ true
label-held table branch element [] held labels = absurd labels
label-held table branch element (m ∷ made) held (inl here) = subst (λ (i : Identity). holds table i ≡ true) here.1 held.0.used
label-held table branch element (m ∷ made) held (inr labels) = label-held table branch element made held.1 labels

label-used : (table : List Identity) (branch element other : Identity) (made : List Made) → Unused table other made
    → Labels branch element made → holds table branch ≡ false → is_same_identity element other ≡ false
label-used table branch element other [] unused labels lacks = absurd labels
label-used table branch element other (m ∷ made) unused (inl here) lacks =
    subst (λ (i : Identity). is_same_identity i other ≡ false) here.1 (unused.0
    (subst (λ (i : Identity). holds table i ≡ false) (sym here.0) lacks))
label-used table branch element other (m ∷ made) unused (inr labels) lacks =
    label-used table branch element other made unused.1 labels lacks

unused-new : (table other : List Identity) (new : Identity) (made : List Made) → AreHeld other made → holds other new ≡ false
    → Unused table new made
unused-new table other new [] held lacks = tt
unused-new table other new (x ∷ made) held lacks = (
  (λ _. differ-turned new x.used
      (lacks-differs other x.used new held.0.used lacks)),
  unused-new table other new made held.1 lacks,
)

some-is : {t u : Tree} → Some t ≡ Some u → t ≡ u
some-is is = cc is

-- a site
pub record IsSite (made : List Made) (site : Site) : Type 0 where
  pub knows : Knows made site.known
  pub own : number_in (table_of site.known) site.name ≡ number_in (table_behind made) site.name

abbrev pub AreSites : List Made → List Site → Type 0
AreSites made [] = Unit {0}
AreSites made (site ∷ sites) = IsSite made site × AreSites made sites

-- no site has a name
abbrev pub HasNone : List ℕ → List Site → Type 0
HasNone name [] = Unit {0}
HasNone name (site ∷ sites) = (bytes_eq site.name name ≡ false) × HasNone name sites

-- each name is that of one site
abbrev pub HaveOwnNames : List Site → Type 0
HaveOwnNames [] = Unit {0}
HaveOwnNames (site ∷ sites) = HasNone site.name sites × HaveOwnNames sites

-- all that was made in a world
pub record IsMadeSo (made : List Made) : Type 0 where
  pub paired : IsPaired made
  pub legal : AreLegal [] made
  pub next : AreNext made
  pub held : AreHeld (table_behind made) made

module _ (made : List Made) (is : IsMadeSo made) (site : Site) (known : IsSite made site) (change : Change)
    (none : change_fault site.name (trees_of site.known) change ≡ None) where
  abbrev operation : Operation
  operation = operation_by site change

  abbrev new : Identity
  new = operation.identity

  abbrev trees : List Tree
  trees = trees_of site.known

  abbrev table : List Identity
  table = table_of site.known

  abbrev all : List Identity
  all = table_behind made

  abbrev pub made_now : Made
  made_now = record { operation = operation; used = used_for trees change new; changes = used-changes trees change new }

  abbrev pub then : List Made
  then = made ++ made_now ∷ []

  next-all : new.number ≡ number_in all site.name + 1
  next-all = ap (λ (n : ℕ). n + 1) known.own

  lacks-all : holds all new ≡ false
  lacks-all = lacks-next all new next-all

  lacks : holds table new ≡ false
  lacks = lacks-next table new refl

  unused-now : Unused table made_now.used made
  unused-now = by (may-use site.name trees change new none)
    where
      by : MakesElement trees change new ⊎ HoldsBranch trees site.name made_now.used → Unused table made_now.used made
      by (inl makes) = subst (λ (i : Identity). Unused table i made) (sym makes.own)
          (unused-new table all new made is.held lacks-all)
      by (inr holds) =
          unused made site.known known.knows is.next site.name known.own made_now.used holds.tree holds.found holds.master
          is.paired is.legal

  precede : (xs : List Made) → AreHeld all xs → Unused table made_now.used xs → AllPrecede xs made_now
  precede [] held unused = tt
  precede (x ∷ xs) held unused = (one x held.0 unused.0, precede xs held.1 unused.1)
    where
      one : (x : Made) → IsHeld all x → (holds table x.operation.identity ≡ false → is_same_identity x.used made_now.used ≡ false)
          → Precedes x made_now
      one x held unused =
          let ids : is_same_identity x.operation.identity new ≡ false =
          differ-turned new x.operation.identity (lacks-differs all x.operation.identity new held.own lacks-all) in
          record {
            ids = ids;
            apart = λ gone.
                let from : is_same_identity (branch_of operation) x.operation.identity ≡ false =
                about (about-known made site.known site.name change new known.knows none) ids gone in
                record {
                  free = record {
                    ids = ids;
                    onto = differ-turned new (branch_of x.operation) (lacks-differs all (branch_of x.operation) new held.about
                        lacks-all);
                    from = from;
                    changes = λ one other.
                        subst (λ (i : Identity). is_same_identity i (branch_of operation) ≡ false) (x.changes one)
                        (subst (λ (i : Identity). is_same_identity x.used i ≡ false) (made_now.changes other) (unused gone));
                  };
                  used = unused gone;
                  made = differ-turned new x.used (lacks-differs all x.used new held.used lacks-all);
                };
          }
        where
          about : (branch_of operation ≡ new) ⊎ (holds table (branch_of operation) ≡ true)
              → is_same_identity x.operation.identity new ≡ false → holds table x.operation.identity ≡ false
              → is_same_identity (branch_of operation) x.operation.identity ≡ false
          about (inl own) ids gone = subst (λ (i : Identity). is_same_identity i x.operation.identity ≡ false) (sym own)
              (differ-turned x.operation.identity new ids)
          about (inr has) ids gone = differ-turned x.operation.identity (branch_of operation)
              (lacks-differs table (branch_of operation) x.operation.identity has gone)

  paired-now : IsPaired then
  paired-now = paired-push made made_now is.paired (precede made is.held unused-now)

  cause-now : IsOwn made_now ⊎ IsMaster made made_now
  cause-now = by (may-use site.name trees change new none)
    where
      by : MakesElement trees change new ⊎ HoldsBranch trees site.name made_now.used → IsOwn made_now ⊎ IsMaster made made_now
      by (inl makes) = inl (record { own = makes.own; new = makes.new })
      by (inr holds) = inr (record {
        tree = holds.tree;
        found = branch-is made site.known known.knows is.next site.name known.own made_now.used holds.tree holds.found
            holds.master is.paired is.legal;
        master = holds.master;
        number = number-now trees change new holds.tree holds.found;
      })

  labels : Labelled made
  labels = labelled made is.legal

  -- no branch of a new element is there
  none-new : (branch : Identity) (tree : Tree) → tree_at (trees_behind made) branch ≡ Some tree → tree.element ≡ new → ⊥
  none-new branch tree found same =
      let has = label-held all branch tree.element made is.held (labels branch tree found) in
      let gone : holds all tree.element ≡ false = subst (λ (i : Identity). holds all i ≡ false) (sym same) lacks-all in
      cc (has, gone)

  -- no branch of an element has a name that the site does not know there, where it holds the element
  none-there : (element : Identity) (name : List ℕ) → Unused table element made → named_tree trees element name ≡ None
      → (branch : Identity) (tree : Tree) → tree_at (trees_behind made) branch ≡ Some tree → tree.element ≡ element
      → tree.name ≡ name → ⊥
  none-there element name unused none branch tree found same named = by (holds table branch) refl
    where
      by : (b : Bool) → holds table branch ≡ b → ⊥
      by false lacks =
          let differs = label-used table branch tree.element element made unused (labels branch tree found) lacks in
          let same' : is_same_identity tree.element element ≡ true = ap (λ (i : Identity). is_same_identity i element) same
          ∙ same-self element in
          cc (same', differs)
      by true has =
          some-there (tree_at trees branch) (known-there made site.known branch known.knows is.paired has
          (there-some (tree_at (trees_behind made) branch) tree found))
          (λ was there.
          let grows = grown made site.known branch was known.knows is.paired there in
          let same-tree : grows.now ≡ tree = some-is (sym grows.found ∙ found) in
          let differs : is_same_identity was.element element && bytes_eq was.name name ≡ false =
          none-named (λ (t : Tree). is_same_identity t.element element && bytes_eq t.name name) trees branch was none there in
          let is-so = named-true element name was (sym grows.element ∙ ap (λ (t : Tree). t.element) same-tree
          ∙ same) (sym grows.name ∙ ap (λ (t : Tree). t.name) same-tree ∙ named) in
          cc (is-so, differs))

  legal-by : (change' : Change) → change ≡ change' → LabelIs (trees_behind made) (site_deed_of trees change') new
      (used_for trees change' new)
  legal-by changes.Element this = refl
  legal-by (changes.Branch branch number label) this =
      at-branch (tree_at trees branch)
      (λ (tree : Tree). branch_fault trees tree.element (λ (main : Tree). either_fault (master_fault site.name main)
      (either_fault (version_fault tree number) (branch_name_fault trees tree.element label))))
      (NoBranch branch) (subst (λ (c : Change). change_fault site.name trees c ≡ None) this none)
      (λ tree found wrong.
      let grows = grown made site.known branch tree known.knows is.paired found in
      ap (λ (f : Option Tree). option_map_or (λ (t : Tree). t.element) f branch) found ∙ sym grows.element
      ∙ sym (ap (λ (f : Option Tree). option_map_or (λ (t : Tree). t.element) f branch) grows.found))
  legal-by (changes.Version branch word) this = tt
  legal-by (changes.Master branch to) this = tt

  name-by : (change' : Change) → change ≡ change' → NameIs (trees_behind made) (site_deed_of trees change')
      (used_for trees change' new)
  name-by changes.Element this =
      behind-none made (λ (t : Tree). is_same_identity t.element new && bytes_eq t.name (codes "main"))
      (λ branch tree found named. none-new branch tree found (same-is tree.element new
      (first-true (is_same_identity tree.element new) (bytes_eq tree.name (codes "main")) named)))
  name-by (changes.Branch branch number label) this =
      behind-none made (λ (t : Tree). is_same_identity t.element (element_of_branch trees branch) && bytes_eq t.name label)
      (λ other tree found named.
      none-there (element_of_branch trees branch) label
      (subst (λ (c : Change). Unused table (used_for trees c new) made) this unused-now) nothing other tree found
      (same-is tree.element (element_of_branch trees branch) (first-true
      (is_same_identity tree.element (element_of_branch trees branch)) (bytes_eq tree.name label) named))
      ((bytes_eq-Decides tree.name label).0 (second-true (is_same_identity tree.element (element_of_branch trees branch))
      (bytes_eq tree.name label) named)))
    where
      nothing : named_tree trees (element_of_branch trees branch) label ≡ None
      nothing =
          at-branch (tree_at trees branch)
          (λ (tree : Tree). branch_fault trees tree.element (λ (main : Tree). either_fault (master_fault site.name main)
          (either_fault (version_fault tree number) (branch_name_fault trees tree.element label))))
          (NoBranch branch) (subst (λ (c : Change). change_fault site.name trees c ≡ None) this none)
          (λ tree found wrong.
          at-branch (tree_at trees tree.element) (λ (main : Tree). either_fault (master_fault site.name main)
          (either_fault (version_fault tree number) (branch_name_fault trees tree.element label)))
          (NoBranch tree.element) wrong
          (λ main there right.
          let element : tree.element ≡ element_of_branch trees branch =
          sym (ap (λ (f : Option Tree). option_map_or (λ (t : Tree). t.element) f branch) found) in
          subst (λ (e : Identity). named_tree trees e label ≡ None) element
          (unmapped (named_tree trees tree.element label) (last-fault (master_fault site.name main) (version_fault tree number)
          (branch_name_fault trees tree.element label) right))))
  name-by (changes.Version branch word) this = tt
  name-by (changes.Master branch to) this = tt

  legal-now : IsLegal made made_now
  legal-now = record { cause = cause-now; label = legal-by change refl; name = name-by change refl }

  next-now : AreNext then
  next-now o was = by (made-split o made made_now was)
    where
      by : IsMade o made ⊎ (o ≡ operation) → HasNextNumber o
      by (inl before) = is.next o before
      by (inr last) = subst HasNextNumber (sym last) refl

  abbrev all_now : List Identity
  all_now = with_operation all new

  all-now : table_behind then ≡ all_now
  all-now = table_behind-push made made_now

  own-now : holds all_now new ≡ true
  own-now = holds-own all new next-all

  grows : IsWithin table all_now
  grows at =
      let one = known.knows.within at in
      let two = more-within all new (ascends_of (operations_of made)) at in
      omega (arith, one, two)

  held-now : IsHeld all_now made_now
  held-now = record {
    own = own-now;
    about = by_about (about-known made site.known site.name change new known.knows none);
    used = by_used (may-use site.name trees change new none);
  }
    where
      by_about : (branch_of operation ≡ new) ⊎ (holds table (branch_of operation) ≡ true)
          → holds all_now (branch_of operation) ≡ true
      by_about (inl own) = subst (λ (i : Identity). holds all_now i ≡ true) (sym own) own-now
      by_about (inr has) = holds-within table all_now (branch_of operation) grows has

      by_used : MakesElement trees change new ⊎ HoldsBranch trees site.name made_now.used → holds all_now made_now.used ≡ true
      by_used (inl makes) = subst (λ (i : Identity). holds all_now i ≡ true) (sym makes.own) own-now
      by_used (inr has) = holds-within table all_now made_now.used grows (known.knows.held made_now.used has.tree has.found)

  -- all that was made then
  pub made-so : IsMadeSo then
  made-so = record {
    paired = paired-now;
    legal = legal-push [] made made_now is.legal legal-now;
    next = next-now;
    held = subst (λ (t : List Identity). AreHeld t then) (sym all-now)
        (held-push all_now made made_now (held-within all all_now made (more-within all new (ascends_of (operations_of made)))
        is.held) held-now);
  }

  -- the site then
  pub site-now : IsSite then (site_made site change)
  site-now = record {
    knows = knows-more then site.known operation (knows-still made made_now site.known known.knows lacks) paired-now
        (made-last made made_now) refl
        (first_gap-own table (ascends_of site.known));
    own =
        ap (λ (t : List Identity). number_in t site.name) (table_of-push site.known operation) ∙ next-number table new refl
        ∙ next-all-own ∙ ap (λ (t : List Identity). number_in t site.name) (sym all-now);
  }
    where
      next-all-own : new.number ≡ number_in all_now site.name
      next-all-own = sym (next-number all new next-all)

  -- another site
  pub other-now : (other : Site) → bytes_eq other.name site.name ≡ false → IsSite made other → IsSite then other
  other-now other differs still = record {
    knows = knows-still made made_now other.known still.knows lacks-other;
    own = still.own ∙ sym (other-number all new other.name (ascends_of (operations_of made)) turned)
        ∙ ap (λ (t : List Identity). number_in t other.name) (sym all-now);
  }
    where
      lacks-other : holds (table_of other.known) new ≡ false
      lacks-other = let le = still.knows.within site.name in lacks-from (table_of other.known) new (omega (arith, le, next-all))

      turn : (b : Bool) → bytes_eq site.name other.name ≡ b → b ≡ false
      turn true same =
          let back : bytes_eq other.name site.name ≡ true = (bytes_eq-Decides other.name site.name).1
          (sym ((bytes_eq-Decides site.name other.name).0 same)) in
          cc (back, differs)
      turn false is = refl

      turned : bytes_eq site.name other.name ≡ false
      turned = turn (bytes_eq site.name other.name) refl

  others-now : (sites : List Site) → HasNone site.name sites → AreSites made sites → AreSites then sites
  others-now [] none are = tt
  others-now (other ∷ sites) none are = (other-now other none.0 are.0, others-now sites none.1 are.1)

  pub sites-now : (sites : List Site) → HaveOwnNames sites → AreSites made sites
      → AreSites then (with_site (site_made site change) sites)
  sites-now [] apart are = tt
  sites-now (other ∷ sites) apart are = by (bytes_eq other.name site.name) refl (sites-now sites apart.1 are.1)
    where
      by : (b : Bool) → bytes_eq other.name site.name ≡ b → AreSites then (with_site (site_made site change) sites)
          → AreSites then (cond b (site_made site change ∷ sites) (other ∷ with_site (site_made site change) sites))
      by true same later =
          let is : other.name ≡ site.name = (bytes_eq-Decides other.name site.name).0 same in
          (site-now, others-now sites (subst (λ (n : List ℕ). HasNone n sites) is apart.0) are.1)
      by false differs later = (other-now other differs are.0, later)
