-- Which branch of an element has a name: how a name is put, and which branch it tells.
use Rattle.std.proofs.Common.{◌≡◌, ℕ, Bool, true, false, cond, Option, Some, None, Result, Ok, Err, List, [], ◌∷◌, map, refl}
use Rattle.std.proofs.Common.{sym, ap, ◌∙◌, subst}
use Rattle.std.specs.Prelude.{find, ◌&&◌, is_some, IfSome, OnOk, OnErr}
use Rattle.std.specs.BTreeMap.{get, is_at}
use Rattle.std.specs.Cmp.Lexicographic.{slice_cmp}
use Rattle.std.specs.Option.{option_map}
use Rattle.std.specs.Ordering.{nat_cmp, match_ordering, is_eq}
use Rattle.std.specs.Str.{bytes_eq}
use Rattle.std.specs.declared.cmp.Ordering.{Ordering}
use Rattle.std.specs.declared.cmp.Ordering.TheVariants.{Less, Equal, Greater}
use Rattle.std.proofs.lemmas.Map.Text.{is_eq-slice_cmp}
use Rattle.std.proofs.lemmas.Slice.Eq.{bytes_eq-Decides}
use Rattle.vob_replica.specs.declared.branch_names.BranchName.{BranchName}
use Rattle.vob_replica.specs.declared.events.Identity.{Identity}
use Rattle.vob_replica.specs.declared.operations.Operation.{Operation}
use Rattle.vob_replica.specs.BranchNames.{Names, name_order, told, is_named, IsPutIn, IsPut, TellSame, AreNamesOf}
use Rattle.vob_replica.specs.Branches.{identity_order, IsBeforeBranches, IsInOrder}
use Rattle.vob_replica.specs.Trees.{Tree, identity_cmp, is_same_identity, named_tree, tree_at, with_tree, with_branch_changed}
use Rattle.vob_replica.proofs.BranchLaws as branches
use Rattle.vob_replica.proofs.Commuting.{same-is, same-self}

both-equal : (o p : Ordering) → is_eq (match_ordering o Less p Greater) ≡ is_eq o && is_eq p
both-equal Less p = refl
both-equal Equal p = refl
both-equal Greater p = refl

-- what the order of names does not tell apart is the same
name-is : (x y : BranchName) → is_at (name_order x) y ≡ is_same_identity x.element y.element && bytes_eq x.name y.name
name-is x y =
    ap is_eq (branches.then-is (identity_order x.element y.element) (slice_cmp nat_cmp x.name y.name))
    ∙ both-equal (identity_order x.element y.element) (slice_cmp nat_cmp x.name y.name)
    ∙ ap (λ (b : Bool). b && is_eq (slice_cmp nat_cmp x.name y.name))
    (ap is_eq (branches.cmp-is x.element y.element) ∙ sym (branches.same-order x.element y.element))
    ∙ ap (λ (b : Bool). is_same_identity x.element y.element && b) (is_eq-slice_cmp x.name y.name)

-- the element and the name of a branch
abbrev key : Tree → BranchName
key tree = record { element = tree.element; name = tree.name }

told-by : (b : Bool) (made : Operation) (identity : Identity) (before : Option Operation) → made.identity ≡ identity
    → option_map (λ (o : Operation). o.identity) (cond b (Some made) before)
    ≡ cond b (Some identity) (option_map (λ (o : Operation). o.identity) before)
told-by true made identity before is = ap Some is
told-by false made identity before is = refl

none-told : (found : Option Operation) → is_some found ≡ false → option_map (λ (o : Operation). o.identity) found ≡ None
none-told None none = refl
none-told (Some made) none = cc none

-- a name that is not there was put
pub put-in : (names names' : Names) (tree : Tree) (made : Operation) (name : BranchName) → name ≡ key tree
    → made.identity ≡ tree.identity → is_some (get name_order names name) ≡ false
    → ((q : BranchName) → get name_order names' q ≡ cond (is_at (name_order name) q) (Some made) (get name_order names q))
    → IsPutIn tree names names'
put-in names names' tree made name named is none updates = record {
  new = none-told (get name_order names (key tree)) (ap (λ (n : BranchName). is_some (get name_order names n)) (sym named) ∙ none);
  found = λ element text.
      let q : BranchName = record { element = element; name = text } in
      ap (option_map (λ (o : Operation). o.identity)) (updates q)
      ∙ told-by (is_at (name_order name) q) made tree.identity (get name_order names q) is
      ∙ ap (λ (b : Bool). cond b (Some tree.identity) (told names element text))
      (ap (λ (n : BranchName). is_at (name_order n) q) named ∙ name-is (key tree) q);
}

-- the element and the name of a branch that has them
parts : (b : Bool) (element : Identity) (name : List ℕ) (tree : Tree) → is_same_identity tree.element element ≡ b
    → b && bytes_eq tree.name name ≡ true → (tree.element ≡ element) × (tree.name ≡ name)
parts true element name tree same is = (same-is tree.element element same, (bytes_eq-Decides tree.name name).0 is)
parts false element name tree same is = cc is

alone-named : (trees : List Tree) (tree : Tree) (element : Identity) (name : List ℕ)
    → named_tree trees tree.element tree.name ≡ None → is_named element name tree ≡ true
    → named_tree trees element name ≡ None
alone-named trees tree element name none is =
    let both = parts (is_same_identity tree.element element) element name tree refl is in
    ap (λ (e : Identity). named_tree trees e name) (sym both.0)
    ∙ ap (λ (n : List ℕ). named_tree trees tree.element n) (sym both.1) ∙ none

-- what is found where one more branch was put among others
find-put : (test : Tree → Bool) (trees : List Tree) (tree : Tree) → tree_at trees tree.identity ≡ None
    → (test tree ≡ true → find test trees ≡ None)
    → find test (with_tree tree trees) ≡ cond (test tree) (Some tree) (find test trees)
find-put test [] tree new alone = refl
find-put test (other ∷ others) tree new alone =
    at (identity_cmp tree.identity other.identity) refl new (λ rest single. find-put test others tree rest single)
  where
    by : (b c : Bool) → test other ≡ b → test tree ≡ c → (c ≡ true → cond b (Some other) (find test others) ≡ None)
        → ((test tree ≡ true → find test others ≡ None)
        → find test (with_tree tree others) ≡ cond (test tree) (Some tree) (find test others))
        → cond b (Some other) (find test (with_tree tree others)) ≡ cond c (Some tree) (cond b (Some other) (find test others))
    by true true is same alone later = let none = alone refl in cc none
    by true false is same alone later = refl
    by false c is same alone later =
        later (λ (also : test tree ≡ true). alone (sym same ∙ also)) ∙ ap (λ (d : Bool). cond d (Some tree) (find test others)) same

    at : (o : Ordering) → identity_cmp tree.identity other.identity ≡ o
        → cond (is_same_identity other.identity tree.identity) (Some other) (tree_at others tree.identity) ≡ None
        → (tree_at others tree.identity ≡ None → (test tree ≡ true → find test others ≡ None)
        → find test (with_tree tree others) ≡ cond (test tree) (Some tree) (find test others))
        → find test (match_ordering o (tree ∷ other ∷ others) (tree ∷ others) (other ∷ with_tree tree others))
        ≡ cond (test tree) (Some tree) (find test (other ∷ others))
    at Less is none later = refl
    at Equal is none later =
        let same : is_same_identity other.identity tree.identity ≡ true =
        branches.is-same other.identity tree.identity (branches.turned tree.identity other.identity Equal is) in
        let there = sym (ap (λ (b : Bool). cond b (Some other) (tree_at others tree.identity)) same) ∙ none in
        cc there
    at Greater is none later =
        let differs : is_same_identity other.identity tree.identity ≡ false =
        branches.differs-below other.identity tree.identity (branches.turned tree.identity other.identity Greater is) in
        let rest : tree_at others tree.identity ≡ None =
        sym (ap (λ (b : Bool). cond b (Some other) (tree_at others tree.identity)) differs) ∙ none in
        by (test other) (test tree) refl refl alone (λ single. later rest single)

-- names tell the branches with one more too
names-put : (before after : Names) (trees : List Tree) (tree : Tree) → AreNamesOf before trees
    → tree_at trees tree.identity ≡ None → IsPutIn tree before after → AreNamesOf after (with_tree tree trees)
names-put before after trees tree are fresh put element name =
    put.found element name
    ∙ by (is_named element name tree)
    ∙ sym (ap (option_map (λ (t : Tree). t.identity))
    (find-put (is_named element name) trees tree fresh (alone-named trees tree element name none)))
  where
    none-by : (found : Option Tree) → None ≡ option_map (λ (t : Tree). t.identity) found → found ≡ None
    none-by None is = refl
    none-by (Some t) is = cc is

    none : named_tree trees tree.element tree.name ≡ None
    none = none-by (named_tree trees tree.element tree.name) (sym put.new ∙ are tree.element tree.name)

    by : (b : Bool)
        → cond b (Some tree.identity) (told before element name)
        ≡ option_map (λ (t : Tree). t.identity) (cond b (Some tree) (named_tree trees element name))
    by true = refl
    by false = are element name

-- a branch by its element and its name
record Label : Type 0 where
  element : Identity
  name : List ℕ
  branch : Identity

abbrev label_of : Tree → Label
label_of tree = record { element = tree.element; name = tree.name; branch = tree.identity }

abbrev label_in : List Label → Identity → List ℕ → Option Label
label_in labels element name =
    find (λ (l : Label). is_same_identity l.element element && bytes_eq l.name name) labels

-- a change that leaves the label
abbrev pub KeepsLabel : (Tree → Tree) → Type 0
KeepsLabel change = (tree : Tree) → label_of (change tree) ≡ label_of tree

labels-changed : (branch : Identity) (change : Tree → Tree) (trees : List Tree) → KeepsLabel change
    → map label_of (with_branch_changed branch change trees) ≡ map label_of trees
labels-changed branch change [] keeps = refl
labels-changed branch change (tree ∷ trees) keeps =
    ap (λ (l : Label). l ∷ map label_of (with_branch_changed branch change trees))
    (first (is_same_identity tree.identity branch))
    ∙ ap (λ (l : List Label). label_of tree ∷ l) (labels-changed branch change trees keeps)
  where
    first : (b : Bool) → label_of (cond b (change tree) tree) ≡ label_of tree
    first true = keeps tree
    first false = refl

named-label : (trees : List Tree) (element : Identity) (name : List ℕ)
    → option_map (λ (t : Tree). t.identity) (named_tree trees element name)
    ≡ option_map (λ (l : Label). l.branch) (label_in (map label_of trees) element name)
named-label [] element name = refl
named-label (tree ∷ trees) element name = by (is_named element name tree) (named-label trees element name)
  where
    by : (b : Bool)
        → option_map (λ (t : Tree). t.identity) (named_tree trees element name)
        ≡ option_map (λ (l : Label). l.branch) (label_in (map label_of trees) element name)
        → option_map (λ (t : Tree). t.identity) (cond b (Some tree) (named_tree trees element name))
        ≡ option_map (λ (l : Label). l.branch) (cond b (Some (label_of tree)) (label_in (map label_of trees) element name))
    by true later = refl
    by false later = later

-- names tell the branches where one is changed
pub names-kept : (names : Names) (trees : List Tree) (branch : Identity) (change : Tree → Tree) → KeepsLabel change
    → AreNamesOf names trees → AreNamesOf names (with_branch_changed branch change trees)
names-kept names trees branch change keeps are element name =
    are element name ∙ named-label trees element name
    ∙ ap (λ (l : List Label). option_map (λ (l : Label). l.branch) (label_in l element name))
    (sym (labels-changed branch change trees keeps))
    ∙ sym (named-label (with_branch_changed branch change trees) element name)

before-named : (x : Identity) (trees : List Tree) (element : Identity) (name : List ℕ) (tree : Tree)
    → IsBeforeBranches x trees → named_tree trees element name ≡ Some tree → identity_cmp x tree.identity ≡ Less
before-named x [] element name tree before is = cc is
before-named x (other ∷ others) element name tree before is =
    by (is_named element name other) is (before-named x others element name tree before.1)
  where
    by : (b : Bool) → cond b (Some other) (named_tree others element name) ≡ Some tree
        → (named_tree others element name ≡ Some tree → identity_cmp x tree.identity ≡ Less)
        → identity_cmp x tree.identity ≡ Less
    by true is later = let same : other ≡ tree = cc is in
        subst (λ (t : Tree). identity_cmp x t.identity ≡ Less) same before.0
    by false is later = later is

-- a branch that has a name is found by its identity
named-there : (trees : List Tree) (element : Identity) (name : List ℕ) (tree : Tree) → IsInOrder trees
    → named_tree trees element name ≡ Some tree → tree_at trees tree.identity ≡ Some tree
named-there [] element name tree order is = cc is
named-there (other ∷ others) element name tree order is =
    by (is_named element name other) is (named-there others element name tree order.1)
  where
    by : (b : Bool) → cond b (Some other) (named_tree others element name) ≡ Some tree
        → (named_tree others element name ≡ Some tree → tree_at others tree.identity ≡ Some tree)
        → tree_at (other ∷ others) tree.identity ≡ Some tree
    by true is later =
        let same : other ≡ tree = cc is in
        subst (λ (t : Tree). tree_at (other ∷ others) t.identity ≡ Some t) same
        (ap (λ (b : Bool). cond b (Some other) (tree_at others other.identity)) (same-self other.identity))
    by false is later =
        let differs = branches.differs-below other.identity tree.identity
        (before-named other.identity others element name tree order.0 is) in
        ap (λ (b : Bool). cond b (Some other) (tree_at others tree.identity)) differs ∙ later is

-- the branch that a name tells
pub told-there : (names : Names) (trees : List Tree) (element : Identity) (name : List ℕ) (branch : Identity)
    → IsInOrder trees → AreNamesOf names trees → Some branch ≡ told names element name
    → tree_at trees branch ≡ named_tree trees element name
told-there names trees element name branch order are is = by (named_tree trees element name) refl (is ∙ are element name)
  where
    by : (found : Option Tree) → named_tree trees element name ≡ found
        → Some branch ≡ option_map (λ (t : Tree). t.identity) found → tree_at trees branch ≡ found
    by None found is = cc is
    by (Some tree) found is =
        let same : branch ≡ tree.identity = cc is in
        ap (tree_at trees) same ∙ named-there trees element name tree order found

pub told-none : (names : Names) (trees : List Tree) (element : Identity) (name : List ℕ) → AreNamesOf names trees
    → None ≡ told names element name → None ≡ named_tree trees element name
told-none names trees element name are is = by (named_tree trees element name) (is ∙ are element name)
  where
    by : (found : Option Tree) → None ≡ option_map (λ (t : Tree). t.identity) found → None ≡ found
    by None is = refl
    by (Some tree) is = cc is

-- the same, where names are kept on
pub kept-put : (before after : Option Names) (trees trees' : List Tree) (tree : Tree)
    → IfSome before (λ (n : Names). AreNamesOf n trees) → tree_at trees tree.identity ≡ None
    → IsPut tree before after → trees' ≡ with_tree tree trees → IfSome after (λ (n : Names). AreNamesOf n trees')
kept-put before None trees trees' tree are fresh put more = tt
kept-put None (Some after) trees trees' tree are fresh put more = absurd put
kept-put (Some before) (Some after) trees trees' tree are fresh put more =
    subst (AreNamesOf after) (sym more) (names-put before after trees tree are fresh put)

-- or where they tell what they told
pub kept-same : (before after : Option Names) (trees : List Tree) → IfSome before (λ (n : Names). AreNamesOf n trees)
    → TellSame before after → IfSome after (λ (n : Names). AreNamesOf n trees)
kept-same before None trees are same = tt
kept-same None (Some after) trees are same = absurd same
kept-same (Some before) (Some after) trees are same = λ element name. same element name ∙ are element name

-- or where one branch is changed, unless memory ran out
pub kept-changed : {T E : Type 0} (r : Result T E) (names : Option Names) (trees trees' : List Tree) (branch : Identity)
    (change : Tree → Tree) → KeepsLabel change → IfSome names (λ (n : Names). AreNamesOf n trees)
    → OnOk r (trees' ≡ with_branch_changed branch change trees) → OnErr r (trees' ≡ trees)
    → IfSome names (λ (n : Names). AreNamesOf n trees')
kept-changed r None trees trees' branch change keeps are ok err = tt
kept-changed (Ok x) (Some names) trees trees' branch change keeps are ok err =
    subst (AreNamesOf names) (sym ok) (names-kept names trees branch change keeps are)
kept-changed (Err e) (Some names) trees trees' branch change keeps are ok err = subst (AreNamesOf names) (sym err) are

-- a name was put, unless memory ran out
pub put-ok : {T E : Type 0} (r : Result T E) (before after : Option Names) (trees : List Tree) (tree : Tree)
    → IfSome before (λ (n : Names). AreNamesOf n trees) → tree_at trees tree.identity ≡ None
    → OnOk r (IsPut tree before after) → OnOk r (IfSome after (λ (n : Names). AreNamesOf n (with_tree tree trees)))
put-ok (Ok x) before after trees tree are fresh put = kept-put before after trees (with_tree tree trees) tree are fresh put refl
put-ok (Err e) before after trees tree are fresh put = tt

pub put-err : {T E : Type 0} (r : Result T E) (before after : Option Names) (trees : List Tree)
    → IfSome before (λ (n : Names). AreNamesOf n trees) → OnErr r (TellSame before after)
    → OnErr r (IfSome after (λ (n : Names). AreNamesOf n trees))
put-err (Ok x) before after trees are same = tt
put-err (Err e) before after trees are same = kept-same before after trees are same
