-- A branch that a site knows stands among all branches, with no fewer versions; and who numbers and names there are once.
use Rattle.std.proofs.Common.{inl, inr, ◌≡◌, ℕ, ◌+◌, ◌<◌, Bool, true, false, cond, Option, Some, None, List, [], ◌∷◌, ◌++◌}
use Rattle.std.proofs.Common.{codes, length, refl, sym, ap, ◌∙◌, subst, append_assoc, append-nil, arith}
use Rattle.std.specs.Prelude.{◌⊎◌, ◌&&◌, nat_lt, fold, find}
use Rattle.std.specs.Option.{option_map}
use Rattle.std.specs.Str.{bytes_eq}
use Rattle.std.specs.declared.cmp.Ordering.TheVariants.{Less}
use Rattle.std.proofs.lemmas.Bool.Decides.{nat_tests}
use Rattle.std.proofs.lemmas.Slice.Eq.{bytes_eq-Decides}
use Rattle.vob_replica.specs.declared.events.Identity.{Identity}
use Rattle.vob_replica.specs.declared.operations.Operation.{Operation}
use Rattle.vob_replica.specs.declared.operations.SiteDeed.{SiteDeed}
use Rattle.vob_replica.specs.declared.operations.SiteDeed.TheVariants as deeds
use Rattle.vob_replica.specs.Branches.{IsBeforeBranches, IsInOrder}
use Rattle.vob_replica.specs.Laws.{HasVersion}
use Rattle.vob_replica.specs.Tables.{holds, table_of}
use Rattle.vob_replica.specs.Trees.{Tree, VersionMade, is_same_identity, identity_cmp, new_tree, element_of_branch}
use Rattle.vob_replica.specs.Trees.{with_version_put, with_tree, with_branch_changed, tree_at, named_tree, next_number, trees_of}
use Rattle.vob_replica.specs.Trees.{after_deed, after_operation}
use Rattle.vob_replica.proofs.BranchLaws.{KeepsIdentity, IsInOrder-after_deed, differs-below}
use Rattle.vob_replica.proofs.Commuting.{branch_in, is_change, same-is, same-self, tree_at-put, tree_at-own}
use Rattle.vob_replica.proofs.Commuting.{tree_at-other, tree_at-changed, add_version, add_master}
use Rattle.vob_replica.proofs.HistoryLaws.{Made, operations_of, trees_behind, IsPaired, left, parts}
use Rattle.vob_replica.proofs.KnowLaws.{Knows, IsThere, back-deed, trees_behind-push}
use Rattle.vob_replica.proofs.MasterLaws.{NumberIs, LabelIs, NameIs, IsOwn, IsMaster, IsLegal, AreLegal, lacks-differs}

-- a branch with no fewer versions
pub record Grown (trees : List Tree) (branch : Identity) (tree : Tree) : Type 0 where
  pub now : Tree
  pub found : tree_at trees branch ≡ Some now
  pub element : now.element ≡ tree.element
  pub name : now.name ≡ tree.name
  pub versions : (version : VersionMade) → HasVersion version tree.versions → HasVersion version now.versions

has-with : (version new : VersionMade) (versions : List VersionMade) → HasVersion version versions
    → HasVersion version (with_version_put new versions)
has-with version new [] has = absurd has
has-with version new (first ∷ versions) (inl here) = by (nat_lt new.number first.number)
  where
    by : (b : Bool) → HasVersion version (cond b (new ∷ first ∷ versions) (first ∷ with_version_put new versions))
    by true = inr (inl here)
    by false = inl here
has-with version new (first ∷ versions) (inr has) = by (nat_lt new.number first.number) (has-with version new versions has)
  where
    by : (b : Bool) → HasVersion version (with_version_put new versions)
        → HasVersion version (cond b (new ∷ first ∷ versions) (first ∷ with_version_put new versions))
    by true later = inr (inr has)
    by false later = inr later

grown-same : (trees : List Tree) (branch : Identity) (tree : Tree) → tree_at trees branch ≡ Some tree → Grown trees branch tree
grown-same trees branch tree found = record {
  now = tree;
  found = found;
  element = refl;
  name = refl;
  versions = λ version has. has;
}

grown-change : (b : Bool) (trees : List Tree) (c branch : Identity) (f : Tree → Tree) (tree : Tree)
    → is_same_identity c branch ≡ b → KeepsIdentity f → (f tree).element ≡ tree.element → (f tree).name ≡ tree.name
    → ((version : VersionMade) → HasVersion version tree.versions → HasVersion version (f tree).versions)
    → tree_at trees branch ≡ Some tree → Grown (with_branch_changed c f trees) branch tree
grown-change true trees c branch f tree same keeps element name versions found = record {
  now = f tree;
  found = subst (λ (i : Identity). tree_at (with_branch_changed i f trees) branch ≡ Some (f tree)) (sym (same-is c branch same))
      (tree_at-changed branch f trees keeps ∙ ap (option_map f) found);
  element = element;
  name = name;
  versions = versions;
}
grown-change false trees c branch f tree differs keeps element name versions found =
    grown-same (with_branch_changed c f trees) branch tree (tree_at-other c branch f trees differs keeps ∙ found)

pub grown-deed : (trees : List Tree) (operation : Operation) (deed : SiteDeed) (branch : Identity) (tree : Tree)
    → is_same_identity operation.identity branch ≡ false → tree_at trees branch ≡ Some tree
    → Grown (after_deed trees operation deed) branch tree
grown-deed trees operation deeds.Element branch tree new found =
    grown-same (after_deed trees operation deeds.Element) branch tree (tree_at-put
    (new_tree operation.identity operation.identity (codes "main")) trees branch new ∙ found)
grown-deed trees operation (deeds.Branch b n name) branch tree new found =
    grown-same (after_deed trees operation (deeds.Branch b n name)) branch tree
    (tree_at-put (new_tree operation.identity (element_of_branch trees b) name) trees branch new ∙ found)
grown-deed trees operation (deeds.Version b n word) branch tree new found =
    grown-change (is_same_identity b branch) trees b branch (add_version operation n word) tree refl (λ t. refl) refl refl
    (λ version has. has-with version (record { number = n; identity = operation.identity; word = word }) tree.versions has) found
grown-deed trees operation (deeds.Master b site) branch tree new found =
    grown-change (is_same_identity b branch) trees b branch (add_master operation) tree refl (λ t. refl) refl refl
    (λ version has. has) found

-- none of some made a branch
abbrev pub NewAll : Identity → List Operation → Type 0
NewAll branch [] = Unit {0}
NewAll branch (operation ∷ others) = (is_same_identity operation.identity branch ≡ false) × NewAll branch others

grown-all : (trees : List Tree) (operations : List Operation) (branch : Identity) (tree : Tree) → NewAll branch operations
    → tree_at trees branch ≡ Some tree → Grown (fold after_operation trees operations) branch tree
grown-all trees [] branch tree new found = grown-same trees branch tree found
grown-all trees (operation ∷ others) branch tree new found =
    let first = grown-deed trees operation operation.deed branch tree new.0 found in
    let later = grown-all (after_operation trees operation) others branch first.now new.1 first.found in
    record {
      now = later.now;
      found = later.found;
      element = later.element ∙ first.element;
      name = later.name ∙ first.name;
      versions = λ version has. later.versions version (first.versions version has);
    }

back-all : (trees : List Tree) (operations : List Operation) (branch : Identity) → NewAll branch operations
    → IsThere (tree_at (fold after_operation trees operations) branch) → IsThere (tree_at trees branch)
back-all trees [] branch new there = there
back-all trees (operation ∷ others) branch new there =
    back-deed trees operation operation.deed branch new.0 (back-all (after_operation trees operation) others branch new.1 there)

new-by : (b : Bool) (table : List Identity) (branch : Identity) (m : Made) (made : List Made)
    → holds table m.operation.identity ≡ b → holds table branch ≡ true → NewAll branch (left table made)
    → NewAll branch (cond b (left table made) (m.operation ∷ left table made))
new-by true table branch m made is has later = later
new-by false table branch m made is has later = (lacks-differs table branch m.operation.identity has is, later)

left-new : (table : List Identity) (branch : Identity) (made : List Made) → holds table branch ≡ true
    → NewAll branch (left table made)
left-new table branch [] has = tt
left-new table branch (m ∷ made) has = new-by (holds table m.operation.identity) table branch m made refl has
    (left-new table branch made has)

-- all branches come to what a site knows, and the others after it
behind-site : (made : List Made) (known : List Operation) → Knows made known → IsPaired made
    → trees_behind made ≡ fold after_operation (trees_of known) (left (table_of known) made)
behind-site made known knows paired =
    parts (table_of known) [] made paired knows.closed ∙ ap (λ (l : List Tree). fold after_operation l
    (left (table_of known) made)) (sym knows.trees)

-- a branch that a site knows stands among all
pub grown : (made : List Made) (known : List Operation) (branch : Identity) (tree : Tree) → Knows made known → IsPaired made
    → tree_at (trees_of known) branch ≡ Some tree → Grown (trees_behind made) branch tree
grown made known branch tree knows paired found =
    subst (λ (l : List Tree). Grown l branch tree) (sym (behind-site made known knows paired))
    (grown-all (trees_of known) (left (table_of known) made) branch tree
    (left-new (table_of known) branch made (knows.held branch tree found)) found)

-- a branch that stands among all is known where its number is
pub known-there : (made : List Made) (known : List Operation) (branch : Identity) → Knows made known → IsPaired made
    → holds (table_of known) branch ≡ true → IsThere (tree_at (trees_behind made) branch)
    → IsThere (tree_at (trees_of known) branch)
known-there made known branch knows paired has there =
    back-all (trees_of known) (left (table_of known) made) branch (left-new (table_of known) branch made has)
    (subst (λ (l : List Tree). IsThere (tree_at l branch)) (behind-site made known knows paired) there)

-- versions are numbered one by one
abbrev CountsFrom : ℕ → List VersionMade → Type 0
CountsFrom count [] = Unit {0}
CountsFrom count (version ∷ versions) = (version.number ≡ count + 1) × CountsFrom (count + 1) versions

counts-with : (count : ℕ) (version : VersionMade) (versions : List VersionMade) → CountsFrom count versions
    → version.number ≡ count + length versions + 1 → CountsFrom count (with_version_put version versions)
counts-with count version [] counts next = (omega (arith, next), tt)
counts-with count version (first ∷ versions) counts next =
    let more : version.number ≡ count + 1 + length versions + 1 = omega (arith, next) in
    let behind : nat_lt version.number first.number ≡ false = below version.number first.number (length versions) counts.0 more in
    let later = counts-with (count + 1) version versions counts.1 more in
    subst (λ (b : Bool). CountsFrom count (cond b (version ∷ first ∷ versions) (first ∷ with_version_put version versions)))
    (sym behind) (counts.0, later)
  where
    below : (number other n : ℕ) → other ≡ count + 1 → number ≡ count + 1 + n + 1 → nat_lt number other ≡ false
    below number other n is more = grind (arith, nat_tests)

counts-above : (count : ℕ) (version : VersionMade) (versions : List VersionMade) → CountsFrom count versions
    → HasVersion version versions → count < version.number
counts-above count version [] counts has = absurd has
counts-above count version (first ∷ versions) counts (inl here) = subst (λ (v : VersionMade). count < v.number) (sym here)
    (omega (arith, counts.0))
counts-above count version (first ∷ versions) counts (inr has) = let later =
    counts-above (count + 1) version versions counts.1 has in omega (arith, later)

counts-once : (count : ℕ) (one other : VersionMade) (versions : List VersionMade) → CountsFrom count versions
    → HasVersion one versions → HasVersion other versions → one.number ≡ other.number → one ≡ other
counts-once count one other [] counts has also same = absurd has
counts-once count one other (first ∷ versions) counts (inl here) (inl there) same = here ∙ sym there
counts-once count one other (first ∷ versions) counts (inl here) (inr also) same =
    let above = counts-above (count + 1) other versions counts.1 also in
    let number : one.number ≡ count + 1 = ap (λ (v : VersionMade). v.number) here ∙ counts.0 in
    absurd (omega (arith, above, number, same))
counts-once count one other (first ∷ versions) counts (inr has) (inl there) same =
    let above = counts-above (count + 1) one versions counts.1 has in
    let number : other.number ≡ count + 1 = ap (λ (v : VersionMade). v.number) there ∙ counts.0 in
    absurd (omega (arith, above, number, same))
counts-once count one other (first ∷ versions) counts (inr has) (inr also) same =
    counts-once (count + 1) one other versions counts.1 has also same

-- all branches number their versions so
abbrev Counted : List Tree → Type 0
Counted trees = (branch : Identity) (tree : Tree) → tree_at trees branch ≡ Some tree → CountsFrom 0 tree.versions

-- where a deed makes a version, its number is the next
pub record VersionOf (trees : List Tree) (branch : Identity) (number : ℕ) : Type 0 where
  pub tree : Tree
  pub found : tree_at trees branch ≡ Some tree
  pub next : number ≡ next_number tree

abbrev VersionAt : List Tree → SiteDeed → Type 0
VersionAt trees (deeds.Version branch number word) = VersionOf trees branch number
VersionAt trees _ = Unit {0}

some-is : {t u : Tree} → Some t ≡ Some u → t ≡ u
some-is is = cc is

counted-put : (b : Bool) (t : Tree) (trees : List Tree) (branch : Identity) (tree : Tree) → is_same_identity t.identity branch ≡ b
    → t.versions ≡ [] → Counted trees
    → tree_at (with_tree t trees) branch ≡ Some tree → CountsFrom 0 tree.versions
counted-put true t trees branch tree same none counted found =
    let is : t ≡ tree = some-is (sym (tree_at-own t trees branch same) ∙ found) in
    subst (λ (l : List VersionMade). CountsFrom 0 l) (sym none ∙ ap (λ (u : Tree). u.versions) is) tt
counted-put false t trees branch tree differs none counted found = counted branch tree (sym (tree_at-put t trees branch differs)
    ∙ found)

changed-found : (found : Option Tree) (f : Tree → Tree) (tree : Tree) (P : Type 0) → option_map f found ≡ Some tree
    → ((t : Tree) → found ≡ Some t → f t ≡ tree → P) → P
changed-found None f tree P is then = cc is
changed-found (Some t) f tree P is then = then t refl (some-is is)

counted-change : (b : Bool) (c branch : Identity) (f : Tree → Tree) (trees : List Tree) (tree : Tree)
    → is_same_identity c branch ≡ b → KeepsIdentity f → Counted trees
    → ((t : Tree) → tree_at trees c ≡ Some t → CountsFrom 0 t.versions → CountsFrom 0 (f t).versions)
    → tree_at (with_branch_changed c f trees) branch ≡ Some tree → CountsFrom 0 tree.versions
counted-change true c branch f trees tree same keeps counted more found =
    let is : c ≡ branch = same-is c branch same in
    changed-found (tree_at trees c) f tree (CountsFrom 0 tree.versions)
    (sym (tree_at-changed c f trees keeps) ∙ subst (λ (i : Identity). tree_at (with_branch_changed c f trees) i ≡ Some tree)
    (sym is) found)
    (λ t was becomes. subst (λ (u : Tree). CountsFrom 0 u.versions) becomes (more t was (counted c t was)))
counted-change false c branch f trees tree differs keeps counted more found =
    counted branch tree (sym (tree_at-other c branch f trees differs keeps) ∙ found)

counted-deed : (trees : List Tree) (operation : Operation) (deed : SiteDeed) → Counted trees → VersionAt trees deed
    → Counted (after_deed trees operation deed)
counted-deed trees operation deeds.Element counted at branch tree found =
    counted-put (is_same_identity operation.identity branch) (new_tree operation.identity operation.identity (codes "main")) trees
    branch tree refl refl counted found
counted-deed trees operation (deeds.Branch b n name) counted at branch tree found =
    counted-put (is_same_identity operation.identity branch) (new_tree operation.identity (element_of_branch trees b) name) trees
    branch tree refl refl counted found
counted-deed trees operation (deeds.Version b n word) counted at branch tree found =
    counted-change (is_same_identity b branch) b branch (add_version operation n word) trees tree refl (λ t. refl) counted
    (λ t was counts.
    let same : at.tree ≡ t = some-is (sym at.found ∙ was) in
    let next : n ≡ length t.versions + 1 = at.next ∙ ap next_number same in
    counts-with 0 (record { number = n; identity = operation.identity; word = word }) t.versions counts (omega (arith, next)))
    found
counted-deed trees operation (deeds.Master b site) counted at branch tree found =
    counted-change (is_same_identity b branch) b branch (add_master operation) trees tree refl (λ t. refl) counted
    (λ t was counts. counts) found

-- the branch that was used, and the number there
record VersionFrom (before : List Made) (deed : SiteDeed) (used : Identity) : Type 0 where
  tree : Tree
  found : tree_at (trees_behind before) used ≡ Some tree
  number : NumberIs deed tree

version-at : (before : List Made) (deed : SiteDeed) (used own : Identity) → (is_change deed ≡ true → used ≡ branch_in deed own)
    → (is_change deed ≡ false) ⊎ VersionFrom before deed used → VersionAt (trees_behind before) deed
version-at before deeds.Element used own changes cause = tt
version-at before (deeds.Branch b n name) used own changes cause = tt
version-at before (deeds.Master b site) used own changes cause = tt
version-at before (deeds.Version b n word) used own changes (inl none) = cc none
version-at before (deeds.Version b n word) used own changes (inr from) = record {
  tree = from.tree;
  found = subst (λ (i : Identity). tree_at (trees_behind before) i ≡ Some from.tree) (changes refl) from.found;
  next = from.number;
}

counted-one : (before : List Made) (m : Made) → IsLegal before m → Counted (trees_behind before)
    → Counted (trees_behind (before ++ m ∷ []))
counted-one before m legal counted =
    subst Counted (sym (trees_behind-push before m))
    (counted-deed (trees_behind before) m.operation m.operation.deed counted
    (version-at before m.operation.deed m.used m.operation.identity m.changes (by legal.cause)))
  where
    by : IsOwn m ⊎ IsMaster before m → (is_change m.operation.deed ≡ false) ⊎ VersionFrom before m.operation.deed m.used
    by (inl own) = inl own.new
    by (inr master) = inr (record { tree = master.tree; found = master.found; number = master.number })

counted-from : (before made : List Made) → AreLegal before made → Counted (trees_behind before)
    → Counted (trees_behind (before ++ made))
counted-from before [] legal counted = subst (λ (l : List Made). Counted (trees_behind l)) (sym (append-nil before)) counted
counted-from before (m ∷ made) legal counted =
    subst (λ (l : List Made). Counted (trees_behind l)) (append_assoc before (m ∷ []) made)
    (counted-from (before ++ m ∷ []) made legal.1 (counted-one before m legal.0 counted))

-- each number of a branch was made once
pub version-once : (made : List Made) → AreLegal [] made → (branch : Identity) (tree : Tree) (one other : VersionMade)
    → tree_at (trees_behind made) branch ≡ Some tree
    → HasVersion one tree.versions → HasVersion other tree.versions → one.number ≡ other.number → one ≡ other
version-once made legal branch tree one other found has also same =
    counts-once 0 one other tree.versions (counted-from [] made legal (λ b t none. cc none) branch tree found) has also same

-- which operation made a branch of an element
abbrev pub Labels : Identity → Identity → List Made → Type 0
Labels branch element [] = ⊥
Labels branch element (m ∷ made) = ((m.operation.identity ≡ branch) × (m.used ≡ element)) ⊎ Labels branch element made

abbrev pub Labelled : List Made → Type 0
Labelled made = (branch : Identity) (tree : Tree) → tree_at (trees_behind made) branch ≡ Some tree
    → Labels branch tree.element made

labels-push : (branch element : Identity) (made : List Made) (m : Made) → Labels branch element made
    → Labels branch element (made ++ m ∷ [])
labels-push branch element [] m labels = absurd labels
labels-push branch element (x ∷ made) m (inl here) = inl here
labels-push branch element (x ∷ made) m (inr labels) = inr (labels-push branch element made m labels)

labels-last : (branch element : Identity) (made : List Made) (m : Made) → m.operation.identity ≡ branch → m.used ≡ element
    → Labels branch element (made ++ m ∷ [])
labels-last branch element [] m is used = inl (is, used)
labels-last branch element (x ∷ made) m is used = inr (labels-last branch element made m is used)

-- a branch as it was before a change of any
record Back (trees : List Tree) (branch : Identity) (tree : Tree) : Type 0 where
  was : Tree
  found : tree_at trees branch ≡ Some was
  element : was.element ≡ tree.element
  name : was.name ≡ tree.name

back-change : (b : Bool) (c branch : Identity) (f : Tree → Tree) (trees : List Tree) (tree : Tree) → is_same_identity c branch ≡ b
    → KeepsIdentity f → ((t : Tree) → (f t).element ≡ t.element)
    → ((t : Tree) → (f t).name ≡ t.name) → tree_at (with_branch_changed c f trees) branch ≡ Some tree → Back trees branch tree
back-change true c branch f trees tree same keeps elements names found =
    let is : c ≡ branch = same-is c branch same in
    changed-found (tree_at trees branch) f tree (Back trees branch tree)
    (sym (tree_at-changed branch f trees keeps) ∙ subst (λ (i : Identity). tree_at (with_branch_changed i f trees) branch
    ≡ Some tree) is found)
    (λ t was becomes. record {
      was = t;
      found = was;
      element = sym (elements t) ∙ ap (λ (u : Tree). u.element) becomes;
      name = sym (names t) ∙ ap (λ (u : Tree). u.name) becomes;
    })
back-change false c branch f trees tree differs keeps elements names found = record {
  was = tree;
  found = sym (tree_at-other c branch f trees differs keeps) ∙ found;
  element = refl;
  name = refl;
}

-- the branch that is put, or one that was there
put-by : (b : Bool) (t : Tree) (trees : List Tree) (branch : Identity) (tree : Tree) → is_same_identity t.identity branch ≡ b
    → tree_at (with_tree t trees) branch ≡ Some tree
    → ((t.identity ≡ branch) × (t ≡ tree)) ⊎ (tree_at trees branch ≡ Some tree)
put-by true t trees branch tree same found = inl (
  same-is t.identity branch same,
  some-is (sym (tree_at-own t trees branch same)
      ∙ found),
)
put-by false t trees branch tree differs found = inr (sym (tree_at-put t trees branch differs) ∙ found)

put-or : (t : Tree) (trees : List Tree) (branch : Identity) (tree : Tree) → tree_at (with_tree t trees) branch ≡ Some tree
    → ((t.identity ≡ branch) × (t ≡ tree)) ⊎ (tree_at trees branch ≡ Some tree)
put-or t trees branch tree found = put-by (is_same_identity t.identity branch) t trees branch tree refl found

-- the branch that a deed makes
abbrev made_tree : List Tree → Operation → SiteDeed → Tree
made_tree trees operation deeds.Element = new_tree operation.identity operation.identity (codes "main")
made_tree trees operation (deeds.Branch branch number name) = new_tree operation.identity (element_of_branch trees branch) name
made_tree trees operation _ = new_tree operation.identity operation.identity []

-- a deed puts a new branch at an identity
record PutsNew (trees : List Tree) (operation : Operation) (deed : SiteDeed) (branch : Identity) (tree : Tree) : Type 0 where
  puts : is_change deed ≡ false
  here : operation.identity ≡ branch
  is : made_tree trees operation deed ≡ tree

deed-does : (trees : List Tree) (operation : Operation) (deed : SiteDeed) (branch : Identity) (tree : Tree)
    → tree_at (after_deed trees operation deed) branch ≡ Some tree
    → PutsNew trees operation deed branch tree ⊎ Back trees branch tree
deed-does trees operation deeds.Element branch tree found = by (put-or
    (new_tree operation.identity operation.identity (codes "main")) trees branch tree found)
  where
    by : ((operation.identity ≡ branch) × (new_tree operation.identity operation.identity (codes "main") ≡ tree))
        ⊎ (tree_at trees branch ≡ Some tree)
        → PutsNew trees operation deeds.Element branch tree ⊎ Back trees branch tree
    by (inl new) = inl (record { puts = refl; here = new.0; is = new.1 })
    by (inr old) = inr (record { was = tree; found = old; element = refl; name = refl })
deed-does trees operation (deeds.Branch b n name) branch tree found = by (put-or
    (new_tree operation.identity (element_of_branch trees b) name) trees branch tree found)
  where
    by : ((operation.identity ≡ branch) × (new_tree operation.identity (element_of_branch trees b) name ≡ tree))
        ⊎ (tree_at trees branch ≡ Some tree)
        → PutsNew trees operation (deeds.Branch b n name) branch tree ⊎ Back trees branch tree
    by (inl new) = inl (record { puts = refl; here = new.0; is = new.1 })
    by (inr old) = inr (record { was = tree; found = old; element = refl; name = refl })
deed-does trees operation (deeds.Version b n word) branch tree found =
    inr (back-change (is_same_identity b branch) b branch (add_version operation n word) trees tree refl (λ t. refl) (λ t. refl)
    (λ t. refl) found)
deed-does trees operation (deeds.Master b site) branch tree found =
    inr (back-change (is_same_identity b branch) b branch (add_master operation) trees tree refl (λ t. refl) (λ t. refl)
    (λ t. refl) found)

label-new : (trees : List Tree) (operation : Operation) (deed : SiteDeed) (used : Identity) → is_change deed ≡ false
    → LabelIs trees deed operation.identity used → used ≡ (made_tree trees operation deed).element
label-new trees operation deeds.Element used puts label = label
label-new trees operation (deeds.Branch b n name) used puts label = label
label-new trees operation (deeds.Version b n word) used puts label = cc puts
label-new trees operation (deeds.Master b site) used puts label = cc puts

labelled-one : (before : List Made) (m : Made) → IsLegal before m → Labelled before → Labelled (before ++ m ∷ [])
labelled-one before m legal labelled branch tree found =
    by (deed-does (trees_behind before) m.operation m.operation.deed branch tree
    (subst (λ (l : List Tree). tree_at l branch ≡ Some tree) (trees_behind-push before m) found))
  where
    by : PutsNew (trees_behind before) m.operation m.operation.deed branch tree ⊎ Back (trees_behind before) branch tree
        → Labels branch tree.element (before ++ m ∷ [])
    by (inl new) =
        labels-last branch tree.element before m new.here
        (label-new (trees_behind before) m.operation m.operation.deed m.used new.puts legal.label
        ∙ ap (λ (u : Tree). u.element) new.is)
    by (inr back) = subst (λ (e : Identity). Labels branch e (before ++ m ∷ [])) back.element
        (labels-push branch back.was.element before m (labelled branch back.was back.found))

labelled-from : (before made : List Made) → AreLegal before made → Labelled before → Labelled (before ++ made)
labelled-from before [] legal labelled = subst Labelled (sym (append-nil before)) labelled
labelled-from before (m ∷ made) legal labelled =
    subst Labelled (append_assoc before (m ∷ []) made) (labelled-from (before ++ m ∷ []) made legal.1
    (labelled-one before m legal.0 labelled))

pub labelled : (made : List Made) → AreLegal [] made → Labelled made
labelled made legal = labelled-from [] made legal (λ branch tree none. cc none)

-- none that is found has what is looked for in vain
pub none-named : (test : Tree → Bool) (trees : List Tree) (branch : Identity) (tree : Tree) → find test trees ≡ None
    → tree_at trees branch ≡ Some tree → test tree ≡ false
none-named test [] branch tree none found = cc found
none-named test (first ∷ trees) branch tree none found = by (test first) (is_same_identity first.identity branch) refl none found
    (none-named test trees branch tree)
  where
    by : (b c : Bool) → test first ≡ b → cond b (Some first) (find test trees) ≡ None
        → cond c (Some first) (tree_at trees branch) ≡ Some tree
        → (find test trees ≡ None → tree_at trees branch ≡ Some tree → test tree ≡ false) → test tree ≡ false
    by true c is none found later = cc none
    by false true is none found later = subst (λ (t : Tree). test t ≡ false) (some-is found) is
    by false false is none found later = later none found

-- a branch is among some
abbrev Stands : Tree → List Tree → Type 0
Stands tree [] = ⊥
Stands tree (first ∷ trees) = (tree ≡ first) ⊎ Stands tree trees

before-stands : (x : Identity) (tree : Tree) (trees : List Tree) → IsBeforeBranches x trees → Stands tree trees
    → identity_cmp x tree.identity ≡ Less
before-stands x tree [] before stands = absurd stands
before-stands x tree (first ∷ trees) before (inl here) = subst (λ (t : Tree). identity_cmp x t.identity ≡ Less) (sym here)
    before.0
before-stands x tree (first ∷ trees) before (inr stands) = before-stands x tree trees before.1 stands

stands-at : (tree : Tree) (trees : List Tree) → IsInOrder trees → Stands tree trees → tree_at trees tree.identity ≡ Some tree
stands-at tree [] order stands = absurd stands
stands-at tree (first ∷ trees) order (inl here) =
    subst (λ (t : Tree). tree_at (t ∷ trees) tree.identity ≡ Some tree) here
    (ap (λ (b : Bool). cond b (Some tree) (tree_at trees tree.identity)) (same-self tree.identity))
stands-at tree (first ∷ trees) order (inr stands) =
    let differs = differs-below first.identity tree.identity (before-stands first.identity tree trees order.0 stands) in
    ap (λ (b : Bool). cond b (Some first) (tree_at trees tree.identity)) differs ∙ stands-at tree trees order.1 stands

find-none : (test : Tree → Bool) (trees : List Tree) → ((tree : Tree) → Stands tree trees → test tree ≡ true → ⊥)
    → find test trees ≡ None
find-none test [] none = refl
find-none test (first ∷ trees) none = by (test first) refl (find-none test trees (λ tree stands is. none tree (inr stands) is))
  where
    by : (b : Bool) → test first ≡ b → find test trees ≡ None → cond b (Some first) (find test trees) ≡ None
    by true is later = absurd (none first (inl refl) is)
    by false is later = later

order-from : (trees : List Tree) (known : List Operation) → IsInOrder trees → IsInOrder (fold after_operation trees known)
order-from trees [] order = order
order-from trees (operation ∷ known) order = order-from (after_operation trees operation) known
    (IsInOrder-after_deed trees operation operation.deed order)

-- nothing is found, as nothing that stands there is so
pub behind-none : (made : List Made) (test : Tree → Bool) → ((branch : Identity) (tree : Tree)
    → tree_at (trees_behind made) branch ≡ Some tree → test tree ≡ true → ⊥)
    → find test (trees_behind made) ≡ None
behind-none made test none =
    find-none test (trees_behind made) (λ tree stands is. none tree.identity tree
    (stands-at tree (trees_behind made) (order-from [] (operations_of made) tt) stands) is)

-- each name of an element is that of one branch
abbrev NamedOnce : List Tree → Type 0
NamedOnce trees = (branch second : Identity) (tree also : Tree) → tree_at trees branch ≡ Some tree
    → tree_at trees second ≡ Some also
    → tree.element ≡ also.element → tree.name ≡ also.name → branch ≡ second

abbrev is_named : Identity → List ℕ → Tree → Bool
is_named element name tree = is_same_identity tree.element element && bytes_eq tree.name name

both-true : (one other : Bool) → one ≡ true → other ≡ true → one && other ≡ true
both-true true true is also = refl
both-true true false is also = cc also
both-true false other is also = cc is

pub named-true : (element : Identity) (name : List ℕ) (tree : Tree) → tree.element ≡ element → tree.name ≡ name
    → is_named element name tree ≡ true
named-true element name tree is named =
    both-true (is_same_identity tree.element element) (bytes_eq tree.name name)
    (ap (λ (i : Identity). is_same_identity i element) is ∙ same-self element)
    ((bytes_eq-Decides tree.name name).1 named)

-- where no branch of the element has the name, none is found that does
not-named : (trees : List Tree) (element : Identity) (name : List ℕ) (branch : Identity) (tree : Tree)
    → named_tree trees element name ≡ None → tree_at trees branch ≡ Some tree
    → tree.element ≡ element → tree.name ≡ name → ⊥
not-named trees element name branch tree none found is named =
    let differs : is_named element name tree ≡ false = none-named (is_named element name) trees branch tree none found in
    let same = named-true element name tree is named in
    cc (same, differs)

name-new : (trees : List Tree) (operation : Operation) (deed : SiteDeed) (used : Identity) → is_change deed ≡ false
    → LabelIs trees deed operation.identity used → NameIs trees deed used
    → named_tree trees (made_tree trees operation deed).element (made_tree trees operation deed).name ≡ None
name-new trees operation deeds.Element used puts label name = subst (λ (i : Identity). named_tree trees i (codes "main") ≡ None)
    label name
name-new trees operation (deeds.Branch b n label') used puts label name =
    subst (λ (i : Identity). named_tree trees i label' ≡ None) label name
name-new trees operation (deeds.Version b n word) used puts label name = cc puts
name-new trees operation (deeds.Master b site) used puts label name = cc puts

named-one : (before : List Made) (m : Made) → IsLegal before m → NamedOnce (trees_behind before)
    → NamedOnce (trees_behind (before ++ m ∷ []))
named-one before m legal once branch second tree also found there same named =
    by (does branch tree found) (does second also there)
  where
    does : (branch : Identity) (tree : Tree) → tree_at (trees_behind (before ++ m ∷ [])) branch ≡ Some tree
        → PutsNew (trees_behind before) m.operation m.operation.deed branch tree ⊎ Back (trees_behind before) branch tree
    does branch tree found =
        deed-does (trees_behind before) m.operation m.operation.deed branch tree
        (subst (λ (l : List Tree). tree_at l branch ≡ Some tree) (trees_behind-push before m) found)

    new-only : (one other : Identity) (t u : Tree) → PutsNew (trees_behind before) m.operation m.operation.deed one t
        → Back (trees_behind before) other u → t.element ≡ u.element → t.name ≡ u.name → ⊥
    new-only one other t u new back same named =
        let t' = made_tree (trees_behind before) m.operation m.operation.deed in
        not-named (trees_behind before) t'.element t'.name other back.was
        (name-new (trees_behind before) m.operation m.operation.deed m.used new.puts legal.label legal.name) back.found
        (back.element ∙ sym same ∙ sym (ap (λ (x : Tree). x.element) new.is))
        (back.name ∙ sym named ∙ sym (ap (λ (x : Tree). x.name) new.is))

    by : PutsNew (trees_behind before) m.operation m.operation.deed branch tree ⊎ Back (trees_behind before) branch tree
        → PutsNew (trees_behind before) m.operation m.operation.deed second also ⊎ Back (trees_behind before) second also
        → branch ≡ second
    by (inl new) (inl too) = sym new.here ∙ too.here
    by (inl new) (inr back) = absurd (new-only branch second tree also new back same named)
    by (inr back) (inl new) = absurd (new-only second branch also tree new back (sym same) (sym named))
    by (inr back) (inr also_back) =
        once branch second back.was also_back.was back.found also_back.found (back.element ∙ same
        ∙ sym also_back.element) (back.name ∙ named ∙ sym also_back.name)

named-from : (before made : List Made) → AreLegal before made → NamedOnce (trees_behind before)
    → NamedOnce (trees_behind (before ++ made))
named-from before [] legal once = subst (λ (l : List Made). NamedOnce (trees_behind l)) (sym (append-nil before)) once
named-from before (m ∷ made) legal once =
    subst (λ (l : List Made). NamedOnce (trees_behind l)) (append_assoc before (m ∷ []) made)
    (named-from (before ++ m ∷ []) made legal.1 (named-one before m legal.0 once))

pub name-once : (made : List Made) → AreLegal [] made → (branch second : Identity) (tree also : Tree)
    → tree_at (trees_behind made) branch ≡ Some tree
    → tree_at (trees_behind made) second ≡ Some also → tree.element ≡ also.element → tree.name ≡ also.name → branch ≡ second
name-once made legal = named-from [] made legal (λ branch second tree also none. cc none)
