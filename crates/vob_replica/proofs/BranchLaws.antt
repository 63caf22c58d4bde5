-- Branches in order of their identities: where one stands, how one is put or changed there.
use Rattle.std.proofs.Common.{◌≡◌, ℕ, suc, Bool, true, false, cond, eqb, Option, Some, None, List, [], ◌∷◌}
use Rattle.std.proofs.Common.{refl, sym, ap, ◌∙◌, subst, arith}
use Rattle.std.specs.Prelude.{insert, nat_le, nat_lt, not, ◌&&◌, Result, Ok, Err, OnOk, OnErr}
use Rattle.std.specs.Cmp.{IsTotalOrder}
use Rattle.std.specs.Ordering.{nat_cmp, match_ordering, ordering_reverse, ordering_then, is_eq}
use Rattle.std.specs.declared.cmp.Ordering.{Ordering}
use Rattle.std.specs.declared.cmp.Ordering.TheVariants.{Less, Equal, Greater}
use Rattle.std.specs.Cmp.Lexicographic.{slice_cmp}
use Rattle.std.specs.Str.{bytes_eq}
use Rattle.std.proofs.lemmas.Cmp.{nat_list_cmp_total, nat_cmp_total, on_total, then_total}
use Rattle.std.proofs.lemmas.Bool.Decides.{nat_tests}
use Rattle.std.proofs.lemmas.Map.Text.{is_eq-slice_cmp}
use Rattle.vob_replica.specs.declared.events.Identity.{Identity}
use Rattle.vob_replica.specs.declared.operations.Operation.{Operation}
use Rattle.vob_replica.specs.declared.operations.SiteDeed.{SiteDeed}
use Rattle.vob_replica.specs.declared.operations.SiteDeed.TheVariants as deeds
use Rattle.vob_replica.specs.Trees.{Tree, VersionMade, is_same_identity, identity_cmp, new_tree, element_of_branch}
use Rattle.vob_replica.specs.Trees.{with_version_put, with_tree, with_branch_changed, tree_at, after_deed, after_operation}
use Rattle.vob_replica.specs.Branches.{name_in, word_in, branch_made_by, version_by, version_place, with_version_by, with_master}
use Rattle.vob_replica.specs.Branches.{identity_order, IsBeforeBranches, IsInOrder}

base : IsTotalOrder identity_order
base = then_total (on_total (λ (i : Identity). i.site) nat_list_cmp_total) (on_total (λ (i : Identity). i.number) nat_cmp_total)

pub then-is : (o p : Ordering) → ordering_then o p ≡ match_ordering o Less p Greater
then-is Less p = refl
then-is Equal p = refl
then-is Greater p = refl

-- which is the order of keys
pub cmp-is : (x y : Identity) → identity_order x y ≡ identity_cmp x y
cmp-is x y = then-is (slice_cmp nat_cmp x.site y.site) (nat_cmp x.number y.number)

pub total : IsTotalOrder identity_cmp
total = record {
  antisymm = λ x y. sym (cmp-is x y) ∙ base.antisymm x y ∙ ap ordering_reverse (cmp-is y x);
  trans = λ x y z p q. sym (cmp-is x z) ∙ base.trans x y z (cmp-is x y ∙ p) (cmp-is y z ∙ q);
  congr = λ x y z p. sym (cmp-is x z) ∙ base.congr x y z (cmp-is x y ∙ p) ∙ cmp-is y z;
}

-- the order, turned round
pub turned : (x y : Identity) (o : Ordering) → identity_cmp x y ≡ o → identity_cmp y x ≡ ordering_reverse o
turned x y o is = total.antisymm y x ∙ ap ordering_reverse is

same-number : (m n : ℕ) → is_eq (nat_cmp m n) ≡ eqb m n
same-number m n = grind (arith, nat_tests)

same-by : (o : Ordering) (b : Bool) (m n : ℕ) → is_eq o ≡ b → is_eq (match_ordering o Less (nat_cmp m n) Greater) ≡ b && eqb m n
same-by Less b m n is = ap (λ (c : Bool). c && eqb m n) is
same-by Equal b m n is = same-number m n ∙ ap (λ (c : Bool). c && eqb m n) is
same-by Greater b m n is = ap (λ (c : Bool). c && eqb m n) is

-- what the order does not tell apart is the same
pub same-order : (x y : Identity) → is_same_identity x y ≡ is_eq (identity_cmp x y)
same-order x y = sym (same-by (slice_cmp nat_cmp x.site y.site) (bytes_eq x.site y.site) x.number y.number
    (is_eq-slice_cmp x.site y.site))

pub is-same : (x y : Identity) → identity_cmp x y ≡ Equal → is_same_identity x y ≡ true
is-same x y is = same-order x y ∙ ap is_eq is

pub differs-below : (x y : Identity) → identity_cmp x y ≡ Less → is_same_identity x y ≡ false
differs-below x y is = same-order x y ∙ ap is_eq is

pub differs-above : (x y : Identity) → identity_cmp x y ≡ Greater → is_same_identity x y ≡ false
differs-above x y is = same-order x y ∙ ap is_eq is

-- what stands before an identity stands before what that stands before
IsBeforeBranches-along : (x y : Identity) (trees : List Tree) → identity_cmp x y ≡ Less → IsBeforeBranches y trees
    → IsBeforeBranches x trees
IsBeforeBranches-along x y [] lt before = tt
IsBeforeBranches-along x y (tree ∷ trees) lt before = (
  total.trans x y tree.identity lt before.0,
  IsBeforeBranches-along x y trees lt before.1,
)

IsBeforeBranches-same : (x y : Identity) (trees : List Tree) → identity_cmp x y ≡ Equal → IsBeforeBranches y trees
    → IsBeforeBranches x trees
IsBeforeBranches-same x y [] eq before = tt
IsBeforeBranches-same x y (tree ∷ trees) eq before = (
  total.congr x y tree.identity eq
      ∙ before.0,
  IsBeforeBranches-same x y trees eq before.1,
)

-- a branch put among others, by how it stands to the first one
abbrev pub put_by : Ordering → Tree → Tree → List Tree → List Tree
put_by o tree other others = match_ordering o (tree ∷ other ∷ others) (tree ∷ others) (other ∷ with_tree tree others)

IsBeforeBranches-put_by : (o : Ordering) (x : Identity) (tree other : Tree) (others : List Tree)
    → IsBeforeBranches x (other ∷ others) → identity_cmp x tree.identity ≡ Less → IsBeforeBranches x (with_tree tree others)
    → IsBeforeBranches x (put_by o tree other others)
IsBeforeBranches-put_by Less x tree other others before lt later = (lt, before)
IsBeforeBranches-put_by Equal x tree other others before lt later = (lt, before.1)
IsBeforeBranches-put_by Greater x tree other others before lt later = (before.0, later)

IsBeforeBranches-with_tree : (x : Identity) (tree : Tree) (trees : List Tree) → IsBeforeBranches x trees
    → identity_cmp x tree.identity ≡ Less → IsBeforeBranches x (with_tree tree trees)
IsBeforeBranches-with_tree x tree [] before lt = (lt, tt)
IsBeforeBranches-with_tree x tree (other ∷ others) before lt =
    IsBeforeBranches-put_by (identity_cmp tree.identity other.identity) x tree other others before lt
    (IsBeforeBranches-with_tree x tree others before.1 lt)

IsInOrder-put_by : (o : Ordering) (tree other : Tree) (others : List Tree) → identity_cmp tree.identity other.identity ≡ o
    → IsInOrder (other ∷ others) → IsInOrder (with_tree tree others) → IsInOrder (put_by o tree other others)
IsInOrder-put_by Less tree other others is order later = (
  (
    is,
    IsBeforeBranches-along tree.identity other.identity others is
        order.0,
  ),
  order,
)
IsInOrder-put_by Equal tree other others is order later = (
  IsBeforeBranches-same tree.identity other.identity others is order.0,
  order.1,
)
IsInOrder-put_by Greater tree other others is order later =
    (IsBeforeBranches-with_tree other.identity tree others order.0 (turned tree.identity other.identity Greater is), later)

-- branches stay in order where one is put among them
IsInOrder-with_tree : (tree : Tree) (trees : List Tree) → IsInOrder trees → IsInOrder (with_tree tree trees)
IsInOrder-with_tree tree [] order = (tt, tt)
IsInOrder-with_tree tree (other ∷ others) order =
    IsInOrder-put_by (identity_cmp tree.identity other.identity) tree other others refl order
    (IsInOrder-with_tree tree others order.1)

-- a change that leaves the identity
abbrev pub KeepsIdentity : (Tree → Tree) → Type 0
KeepsIdentity change = (tree : Tree) → (change tree).identity ≡ tree.identity

pub changed-identity : (b : Bool) (change : Tree → Tree) (tree : Tree) → KeepsIdentity change
    → (cond b (change tree) tree).identity ≡ tree.identity
changed-identity true change tree keeps = keeps tree
changed-identity false change tree keeps = refl

IsBeforeBranches-with_branch_changed : (x branch : Identity) (change : Tree → Tree) (trees : List Tree) → KeepsIdentity change
    → IsBeforeBranches x trees → IsBeforeBranches x (with_branch_changed branch change trees)
IsBeforeBranches-with_branch_changed x branch change [] keeps before = tt
IsBeforeBranches-with_branch_changed x branch change (tree ∷ trees) keeps before = (
  ap (identity_cmp x) (changed-identity (is_same_identity tree.identity branch) change tree keeps)
      ∙ before.0,
  IsBeforeBranches-with_branch_changed x branch change trees keeps before.1,
)

-- branches stay in order where one is changed
IsInOrder-with_branch_changed : (branch : Identity) (change : Tree → Tree) (trees : List Tree) → KeepsIdentity change
    → IsInOrder trees → IsInOrder (with_branch_changed branch change trees)
IsInOrder-with_branch_changed branch change [] keeps order = tt
IsInOrder-with_branch_changed branch change (tree ∷ trees) keeps order = (
  subst (λ (i : Identity). IsBeforeBranches i (with_branch_changed branch change trees))
      (sym (changed-identity (is_same_identity tree.identity branch) change tree keeps))
      (IsBeforeBranches-with_branch_changed tree.identity branch change trees keeps order.0),
  IsInOrder-with_branch_changed branch change trees keeps order.1,
)

pub IsInOrder-after_deed : (trees : List Tree) (operation : Operation) (deed : SiteDeed) → IsInOrder trees
    → IsInOrder (after_deed trees operation deed)
IsInOrder-after_deed trees operation deeds.Element order = IsInOrder-with_tree _ trees order
IsInOrder-after_deed trees operation (deeds.Branch branch number name) order = IsInOrder-with_tree _ trees order
IsInOrder-after_deed trees operation (deeds.Version branch number word) order =
    IsInOrder-with_branch_changed branch _ trees (λ tree. refl) order
IsInOrder-after_deed trees operation (deeds.Master branch site) order =
    IsInOrder-with_branch_changed branch _ trees (λ tree. refl) order

-- branches stay in order whether there was memory or not
pub order-after : {T E : Type 0} (r : Result T E) (old new : List Tree) (operation : Operation) → IsInOrder old
    → OnOk r (new ≡ after_operation old operation) → OnErr r (new ≡ old) → IsInOrder new
order-after (Ok x) old new operation order ok err = subst IsInOrder (sym ok)
    (IsInOrder-after_deed old operation operation.deed order)
order-after (Err e) old new operation order ok err = subst IsInOrder (sym err) order

-- a change of a branch
abbrev pub changed : (Tree → Tree) → Bool → Tree → Tree
changed change b tree = cond b (change tree) tree

-- where none has the identity, none is changed
pub with_branch_changed-none : (branch : Identity) (change : Tree → Tree) (trees : List Tree) → IsBeforeBranches branch trees
    → with_branch_changed branch change trees ≡ trees
with_branch_changed-none branch change [] before = refl
with_branch_changed-none branch change (tree ∷ trees) before =
    let differs = differs-above tree.identity branch (turned branch tree.identity Less before.0) in
    ap (λ (b : Bool). changed change b tree ∷ with_branch_changed branch change trees) differs
    ∙ ap (λ (l : List Tree). tree ∷ l) (with_branch_changed-none branch change trees before.1)

-- a branch that is looked for
abbrev found_by : Bool → Tree → Option Tree → Option Tree
found_by b tree found = cond b (Some tree) found

tree_at-none : (branch : Identity) (trees : List Tree) → IsBeforeBranches branch trees → tree_at trees branch ≡ None
tree_at-none branch [] before = refl
tree_at-none branch (tree ∷ trees) before =
    let differs = differs-above tree.identity branch (turned branch tree.identity Less before.0) in
    ap (λ (b : Bool). found_by b tree (tree_at trees branch)) differs ∙ tree_at-none branch trees before.1

-- what one operation more does, by its deed
pub after-element : (trees : List Tree) (operation made : Operation) (element : Identity) → operation.deed ≡ deeds.Element
    → made ≡ operation → element ≡ operation.identity
    → with_tree (branch_made_by made element [] []) trees ≡ after_operation trees operation
after-element trees operation made element is same own =
    ap (λ (o : Operation). with_tree (branch_made_by o element [] []) trees) same
    ∙ ap (λ (e : Identity). with_tree (branch_made_by operation e [] []) trees) own
    ∙ ap (λ (n : List ℕ). with_tree (new_tree operation.identity operation.identity n) trees) (ap name_in is)
    ∙ sym (ap (after_deed trees operation) is)

pub after-branch : (trees : List Tree) (operation made : Operation) (element branch : Identity) (number : ℕ) (name : List ℕ)
    → operation.deed ≡ deeds.Branch branch number name
    → made ≡ operation → element ≡ element_of_branch trees branch → with_tree (branch_made_by made element [] []) trees
    ≡ after_operation trees operation
after-branch trees operation made element branch number name is same own =
    ap (λ (o : Operation). with_tree (branch_made_by o element [] []) trees) same
    ∙ ap (λ (e : Identity). with_tree (branch_made_by operation e [] []) trees) own
    ∙ ap (λ (n : List ℕ). with_tree (new_tree operation.identity (element_of_branch trees branch) n) trees) (ap name_in is)
    ∙ sym (ap (after_deed trees operation) is)

pub after-version : (trees : List Tree) (operation made : Operation) (branch : Identity) (number : ℕ) (word : List ℕ)
    → operation.deed ≡ deeds.Version branch number word
    → made ≡ operation → with_branch_changed branch (λ (tree : Tree). with_version_by tree number made) trees
    ≡ after_operation trees operation
after-version trees operation made branch number word is same =
    ap (λ (o : Operation). with_branch_changed branch (λ (tree : Tree). with_version_by tree number o) trees) same
    ∙ ap (λ (w : List ℕ). with_branch_changed branch (λ (tree : Tree). record tree
    { versions = with_version_put (record { number = number; identity = operation.identity; word = w }) tree.versions }) trees)
    (ap word_in is)
    ∙ sym (ap (after_deed trees operation) is)

pub after-master : (trees : List Tree) (operation made : Operation) (branch : Identity) (site : List ℕ)
    → operation.deed ≡ deeds.Master branch site
    → made ≡ operation → with_branch_changed branch (λ (tree : Tree). with_master tree made) trees
    ≡ after_operation trees operation
after-master trees operation made branch site is same =
    ap (λ (o : Operation). with_branch_changed branch (λ (tree : Tree). with_master tree o) trees) same
    ∙ sym (ap (after_deed trees operation) is)

-- what was put is also this
pub ok-along : {T E : Type 0} (r : Result T E) (new one other : List Tree) → OnOk r (new ≡ one) → one ≡ other
    → OnOk r (new ≡ other)
ok-along (Ok x) new one other is same = is ∙ same
ok-along (Err e) new one other is same = tt

version-by : (b : Bool) (version other : VersionMade) (others : List VersionMade)
    → with_version_put version others ≡ insert others (version_place version.number others) version
    → cond b (version ∷ other ∷ others) (other ∷ with_version_put version others)
    ≡ insert (other ∷ others) (cond (not b) (suc (version_place version.number others)) 0) version
version-by true version other others later = refl
version-by false version other others later = ap (λ (l : List VersionMade). other ∷ l) later

not-below : (one other : ℕ) → not (nat_lt one other) ≡ nat_le other one
not-below one other = grind (arith, nat_tests)

with_version_put-at : (version : VersionMade) (versions : List VersionMade)
    → with_version_put version versions ≡ insert versions (version_place version.number versions) version
with_version_put-at version [] = refl
with_version_put-at version (other ∷ others) =
    version-by (nat_lt version.number other.number) version other others (with_version_put-at version others)
    ∙ ap (λ (b : Bool). insert (other ∷ others) (cond b (suc (version_place version.number others)) 0) version)
    (not-below version.number other.number)

-- a version was put in its place
pub version-put : (versions versions' : List VersionMade) (place : ℕ) (version : VersionMade) (number : ℕ) (made : Operation)
    → versions' ≡ insert versions place version → version ≡ version_by number made → place ≡ version_place number versions
    → versions' ≡ with_version_put (version_by number made) versions
version-put versions versions' place version number made is by at =
    is ∙ ap (λ (v : VersionMade). insert versions place v) by ∙ ap (λ (p : ℕ). insert versions p (version_by number made)) at
    ∙ sym (with_version_put-at (version_by number made) versions)
