-- Two operations that do not affect one another may come in either order.
use Rattle.std.proofs.Common.{◌≡◌, ℕ, Bool, true, false, cond, eqb, Option, Some, None, List, [], ◌∷◌, ◌++◌, codes, refl, sym}
use Rattle.std.proofs.Common.{ap, ◌∙◌, subst, arith}
use Rattle.std.specs.Prelude.{◌&&◌, fold}
use Rattle.std.specs.Option.{option_map, option_map_or}
use Rattle.std.specs.Str.{bytes_eq}
use Rattle.std.specs.declared.cmp.Ordering.{Ordering}
use Rattle.std.specs.declared.cmp.Ordering.TheVariants.{Less, Equal, Greater}
use Rattle.std.proofs.lemmas.Bool.Decides.{nat_tests}
use Rattle.std.proofs.lemmas.Slice.Eq.{bytes_eq-Decides}
use Rattle.vob_replica.specs.declared.events.Identity.{Identity}
use Rattle.vob_replica.specs.declared.operations.Operation.{Operation}
use Rattle.vob_replica.specs.declared.operations.SiteDeed.{SiteDeed}
use Rattle.vob_replica.specs.declared.operations.SiteDeed.TheVariants as deeds
use Rattle.vob_replica.specs.Trees.{Tree, is_same_identity, identity_cmp, new_tree, element_of_branch, with_version_put}
use Rattle.vob_replica.specs.Trees.{with_tree, with_branch_changed, tree_at, after_deed, after_operation}
use Rattle.vob_replica.proofs.BranchLaws.{put_by, turned, total, is-same, differs-above, changed, changed-identity, KeepsIdentity}

-- what is the same is equal
same-parts : (b : Bool) (x y : Identity) → bytes_eq x.site y.site ≡ b → b && eqb x.number y.number ≡ true → x ≡ y
same-parts true x y site number =
    let sites : x.site ≡ y.site = (bytes_eq-Decides x.site y.site).0 site in
    let numbers : x.number ≡ y.number = grind (arith, nat_tests) in
    ap (λ (s : List ℕ). record { site = s; number = x.number }) sites ∙ ap (λ (n : ℕ). record { site = y.site; number = n })
    numbers
same-parts false x y site number = cc number

pub same-is : (x y : Identity) → is_same_identity x y ≡ true → x ≡ y
same-is x y same = same-parts (bytes_eq x.site y.site) x y refl same

pub same-self : (x : Identity) → is_same_identity x x ≡ true
same-self x =
    let sites : bytes_eq x.site x.site ≡ true = (bytes_eq-Decides x.site x.site).1 refl in
    let numbers : eqb x.number x.number ≡ true = grind (arith, nat_tests) in
    ap (λ (b : Bool). b && eqb x.number x.number) sites ∙ numbers

differ-by : (b : Bool) (x y : Identity) → is_same_identity y x ≡ b → is_same_identity x y ≡ false → b ≡ false
differ-by true x y same differs =
    let is : y ≡ x = same-is y x same in
    let own : is_same_identity x y ≡ true = subst (λ (i : Identity). is_same_identity x i ≡ true) (sym is) (same-self x) in
    cc (own, differs)
differ-by false x y same differs = refl

pub differ-turned : (x y : Identity) → is_same_identity x y ≡ false → is_same_identity y x ≡ false
differ-turned x y differs = differ-by (is_same_identity y x) x y refl differs

-- one that is the same as the first differs from what the first differs from
pub differs-too : (x y z : Identity) → is_same_identity x y ≡ true → is_same_identity y z ≡ false → is_same_identity x z ≡ false
differs-too x y z same differs = ap (λ (i : Identity). is_same_identity i z) (same-is x y same) ∙ differs

-- a branch put before one that stands after it, and after one that stands before it
in-front : (t u : Tree) (trees : List Tree) → identity_cmp t.identity u.identity ≡ Less → with_tree t (u ∷ trees) ≡ t ∷ u ∷ trees
in-front t u trees lt = ap (λ (o : Ordering). put_by o t u trees) lt

behind : (t u : Tree) (trees : List Tree) → identity_cmp t.identity u.identity ≡ Less
    → with_tree u (t ∷ trees) ≡ t ∷ with_tree u trees
behind t u trees lt = ap (λ (o : Ordering). put_by o u t trees) (turned t.identity u.identity Less lt)

put-as : (o : Ordering) (t other : Tree) (others : List Tree) → identity_cmp t.identity other.identity ≡ o
    → with_tree t (other ∷ others) ≡ put_by o t other others
put-as o t other others is = ap (λ (o : Ordering). put_by o t other others) is

less-by : (a b : Ordering) (t u other : Tree) (others : List Tree) → identity_cmp t.identity u.identity ≡ Less
    → identity_cmp t.identity other.identity ≡ a → identity_cmp u.identity other.identity ≡ b
    → with_tree u (with_tree t others) ≡ with_tree t (with_tree u others)
    → with_tree u (put_by a t other others) ≡ with_tree t (put_by b u other others)
less-by Less Less t u other others lt first second later =
    behind t u (other ∷ others) lt ∙ ap (λ (l : List Tree). t ∷ l) (put-as Less u other others second)
    ∙ sym (in-front t u (other ∷ others) lt)
less-by Less Equal t u other others lt first second later =
    behind t u (other ∷ others) lt ∙ ap (λ (l : List Tree). t ∷ l) (put-as Equal u other others second)
    ∙ sym (in-front t u others lt)
less-by Less Greater t u other others lt first second later =
    behind t u (other ∷ others) lt ∙ ap (λ (l : List Tree). t ∷ l) (put-as Greater u other others second)
    ∙ sym (in-front t other (with_tree u others) first)
less-by Equal Less t u other others lt first second later =
    let over : identity_cmp other.identity u.identity ≡ Less = sym (total.congr t.identity other.identity u.identity first)
    ∙ lt in
    let under : identity_cmp other.identity u.identity ≡ Greater = turned u.identity other.identity Less second in
    absurd (cc (over, under))
less-by Equal Equal t u other others lt first second later =
    let over : identity_cmp other.identity u.identity ≡ Less = sym (total.congr t.identity other.identity u.identity first)
    ∙ lt in
    let under : identity_cmp other.identity u.identity ≡ Equal = turned u.identity other.identity Equal second in
    absurd (cc (over, under))
less-by Equal Greater t u other others lt first second later =
    behind t u others lt ∙ sym (put-as Equal t other (with_tree u others) first)
less-by Greater Less t u other others lt first second later =
    let over : identity_cmp other.identity u.identity ≡ Less =
    total.trans other.identity t.identity u.identity (turned t.identity other.identity Greater first) lt in
    let under : identity_cmp other.identity u.identity ≡ Greater = turned u.identity other.identity Less second in
    absurd (cc (over, under))
less-by Greater Equal t u other others lt first second later =
    let over : identity_cmp other.identity u.identity ≡ Less =
    total.trans other.identity t.identity u.identity (turned t.identity other.identity Greater first) lt in
    let under : identity_cmp other.identity u.identity ≡ Equal = turned u.identity other.identity Equal second in
    absurd (cc (over, under))
less-by Greater Greater t u other others lt first second later =
    put-as Greater u other (with_tree t others) second ∙ ap (λ (l : List Tree). other ∷ l) later
    ∙ sym (put-as Greater t other (with_tree u others) first)

put-less : (t u : Tree) (trees : List Tree) → identity_cmp t.identity u.identity ≡ Less
    → with_tree u (with_tree t trees) ≡ with_tree t (with_tree u trees)
put-less t u [] lt = behind t u [] lt ∙ sym (in-front t u [] lt)
put-less t u (other ∷ others) lt =
    less-by (identity_cmp t.identity other.identity) (identity_cmp u.identity other.identity) t u other others lt refl refl
    (put-less t u others lt)

put-put-by : (o : Ordering) (t u : Tree) (trees : List Tree) → identity_cmp t.identity u.identity ≡ o
    → is_same_identity t.identity u.identity ≡ false
    → with_tree u (with_tree t trees) ≡ with_tree t (with_tree u trees)
put-put-by Less t u trees is differs = put-less t u trees is
put-put-by Equal t u trees is differs = let same = is-same t.identity u.identity is in absurd (cc (same, differs))
put-put-by Greater t u trees is differs = sym (put-less u t trees (turned t.identity u.identity Greater is))

-- two branches are put among others
put-put : (t u : Tree) (trees : List Tree) → is_same_identity t.identity u.identity ≡ false
    → with_tree u (with_tree t trees) ≡ with_tree t (with_tree u trees)
put-put t u trees differs = put-put-by (identity_cmp t.identity u.identity) t u trees refl differs

-- a branch as it is after a change of another
abbrev change_at : Identity → (Tree → Tree) → Tree → Tree
change_at branch change tree = changed change (is_same_identity tree.identity branch) tree

put-change-by : (o : Ordering) (t other : Tree) (others : List Tree) (branch : Identity) (change : Tree → Tree)
    → is_same_identity t.identity branch ≡ false
    → with_branch_changed branch change (with_tree t others) ≡ with_tree t (with_branch_changed branch change others)
    → with_branch_changed branch change (put_by o t other others) ≡ put_by o t (change_at branch change other)
    (with_branch_changed branch change others)
put-change-by Less t other others branch change differs later = ap (λ (b : Bool). changed change b t
    ∷ change_at branch change other ∷ with_branch_changed branch change others) differs
put-change-by Equal t other others branch change differs later = ap (λ (b : Bool). changed change b t
    ∷ with_branch_changed branch change others) differs
put-change-by Greater t other others branch change differs later = ap (λ (l : List Tree). change_at branch change other ∷ l) later

-- a branch is put among others, and another is changed
put-change : (t : Tree) (branch : Identity) (change : Tree → Tree) (trees : List Tree)
    → is_same_identity t.identity branch ≡ false → KeepsIdentity change
    → with_branch_changed branch change (with_tree t trees) ≡ with_tree t (with_branch_changed branch change trees)
put-change t branch change [] differs keeps = ap (λ (b : Bool). changed change b t ∷ []) differs
put-change t branch change (other ∷ others) differs keeps =
    put-change-by (identity_cmp t.identity other.identity) t other others branch change differs
    (put-change t branch change others differs keeps)
    ∙ sym (put-as (identity_cmp t.identity other.identity) t (change_at branch change other)
    (with_branch_changed branch change others)
    (ap (identity_cmp t.identity) (changed-identity (is_same_identity other.identity branch) change other keeps)))

two-by : (p q : Bool) (b c : Identity) (f g : Tree → Tree) (tree : Tree) → is_same_identity b c ≡ false → KeepsIdentity f
    → KeepsIdentity g
    → is_same_identity tree.identity b ≡ p → is_same_identity tree.identity c ≡ q
    → changed g (is_same_identity (changed f p tree).identity c) (changed f p tree)
    ≡ changed f (is_same_identity (changed g q tree).identity b) (changed g q tree)
two-by true true b c f g tree differs keeps holds one other = let none = differs-too tree.identity b c one differs in
    absurd (cc (none, other))
two-by true false b c f g tree differs keeps holds one other =
    ap (λ (i : Bool). changed g i (f tree)) (ap (λ (i : Identity). is_same_identity i c) (keeps tree) ∙ other)
    ∙ sym (ap (λ (i : Bool). changed f i tree) one)
two-by false true b c f g tree differs keeps holds one other =
    ap (λ (i : Bool). changed g i tree) other ∙ sym (ap (λ (i : Bool). changed f i (g tree))
    (ap (λ (i : Identity). is_same_identity i b) (holds tree) ∙ one))
two-by false false b c f g tree differs keeps holds one other = ap (λ (i : Bool). changed g i tree) other
    ∙ sym (ap (λ (i : Bool). changed f i tree) one)

-- two branches are changed
change-change : (b c : Identity) (f g : Tree → Tree) (trees : List Tree) → is_same_identity b c ≡ false → KeepsIdentity f
    → KeepsIdentity g
    → with_branch_changed c g (with_branch_changed b f trees) ≡ with_branch_changed b f (with_branch_changed c g trees)
change-change b c f g [] differs keeps holds = refl
change-change b c f g (tree ∷ trees) differs keeps holds =
    ap (λ (t : Tree). t ∷ with_branch_changed c g (with_branch_changed b f trees))
    (two-by (is_same_identity tree.identity b) (is_same_identity tree.identity c) b c f g tree differs keeps holds refl refl)
    ∙ ap (λ (l : List Tree). change_at b f (change_at c g tree) ∷ l) (change-change b c f g trees differs keeps holds)

abbrev found_by : Bool → Tree → Option Tree → Option Tree
found_by b tree found = cond b (Some tree) found

tree_at-put-by : (o : Ordering) (t other : Tree) (others : List Tree) (branch : Identity)
    → identity_cmp t.identity other.identity ≡ o → is_same_identity t.identity branch ≡ false
    → tree_at (with_tree t others) branch ≡ tree_at others branch → tree_at (put_by o t other others) branch
    ≡ tree_at (other ∷ others) branch
tree_at-put-by Less t other others branch is differs later = ap (λ (b : Bool). found_by b t (tree_at (other ∷ others) branch))
    differs
tree_at-put-by Equal t other others branch is differs later =
    let gone : is_same_identity other.identity branch ≡ false =
    ap (λ (i : Identity). is_same_identity i branch) (sym (same-is t.identity other.identity
    (is-same t.identity other.identity is))) ∙ differs in
    ap (λ (b : Bool). found_by b t (tree_at others branch)) differs ∙ sym
    (ap (λ (b : Bool). found_by b other (tree_at others branch)) gone)
tree_at-put-by Greater t other others branch is differs later = ap (found_by (is_same_identity other.identity branch) other) later

-- a branch is found as before where another is put
pub tree_at-put : (t : Tree) (trees : List Tree) (branch : Identity) → is_same_identity t.identity branch ≡ false
    → tree_at (with_tree t trees) branch ≡ tree_at trees branch
tree_at-put t [] branch differs = ap (λ (b : Bool). found_by b t None) differs
tree_at-put t (other ∷ others) branch differs =
    tree_at-put-by (identity_cmp t.identity other.identity) t other others branch refl differs
    (tree_at-put t others branch differs)

tree_at-own-by : (o : Ordering) (t other : Tree) (others : List Tree) (branch : Identity)
    → identity_cmp t.identity other.identity ≡ o → is_same_identity t.identity branch ≡ true
    → tree_at (with_tree t others) branch ≡ Some t → tree_at (put_by o t other others) branch ≡ Some t
tree_at-own-by Less t other others branch is same later = ap (λ (b : Bool). found_by b t (tree_at (other ∷ others) branch)) same
tree_at-own-by Equal t other others branch is same later = ap (λ (b : Bool). found_by b t (tree_at others branch)) same
tree_at-own-by Greater t other others branch is same later =
    let differs : is_same_identity other.identity t.identity ≡ false =
    differ-turned t.identity other.identity (differs-above t.identity other.identity is) in
    let gone : is_same_identity other.identity branch ≡ false = subst (λ (i : Identity). is_same_identity other.identity i
    ≡ false) (same-is t.identity branch same) differs in
    ap (λ (b : Bool). found_by b other (tree_at (with_tree t others) branch)) gone ∙ later

-- a branch is found where it was put
pub tree_at-own : (t : Tree) (trees : List Tree) (branch : Identity) → is_same_identity t.identity branch ≡ true
    → tree_at (with_tree t trees) branch ≡ Some t
tree_at-own t [] branch same = ap (λ (b : Bool). found_by b t None) same
tree_at-own t (other ∷ others) branch same =
    tree_at-own-by (identity_cmp t.identity other.identity) t other others branch refl same (tree_at-own t others branch same)

other-by : (p : Bool) (c branch : Identity) (f : Tree → Tree) (tree : Tree) (found : Option Tree)
    → is_same_identity c branch ≡ false → KeepsIdentity f → is_same_identity tree.identity c ≡ p
    → found_by (is_same_identity (changed f p tree).identity branch) (changed f p tree) found
    ≡ found_by (is_same_identity tree.identity branch) tree found
other-by true c branch f tree found differs keeps is =
    let gone : is_same_identity tree.identity branch ≡ false = differs-too tree.identity c branch is differs in
    ap (λ (b : Bool). found_by b (f tree) found) (ap (λ (i : Identity). is_same_identity i branch) (keeps tree) ∙ gone)
    ∙ sym (ap (λ (b : Bool). found_by b tree found) gone)
other-by false c branch f tree found differs keeps is = refl

-- a branch is found as before where another is changed
pub tree_at-other : (c branch : Identity) (f : Tree → Tree) (trees : List Tree) → is_same_identity c branch ≡ false
    → KeepsIdentity f → tree_at (with_branch_changed c f trees) branch ≡ tree_at trees branch
tree_at-other c branch f [] differs keeps = refl
tree_at-other c branch f (tree ∷ trees) differs keeps =
    ap (found_by (is_same_identity (change_at c f tree).identity branch) (change_at c f tree))
    (tree_at-other c branch f trees differs keeps)
    ∙ other-by (is_same_identity tree.identity c) c branch f tree (tree_at trees branch) differs keeps refl

own-by : (p : Bool) (branch : Identity) (f : Tree → Tree) (tree : Tree) (found : Option Tree) → KeepsIdentity f
    → is_same_identity tree.identity branch ≡ p
    → found_by (is_same_identity (changed f p tree).identity branch) (changed f p tree) (option_map f found)
    ≡ option_map f (found_by p tree found)
own-by true branch f tree found keeps is = ap (λ (b : Bool). found_by b (f tree) (option_map f found))
    (ap (λ (i : Identity). is_same_identity i branch) (keeps tree) ∙ is)
own-by false branch f tree found keeps is = ap (λ (b : Bool). found_by b tree (option_map f found)) is

-- a branch is found changed
pub tree_at-changed : (branch : Identity) (f : Tree → Tree) (trees : List Tree) → KeepsIdentity f
    → tree_at (with_branch_changed branch f trees) branch ≡ option_map f (tree_at trees branch)
tree_at-changed branch f [] keeps = refl
tree_at-changed branch f (tree ∷ trees) keeps =
    ap (found_by (is_same_identity (change_at branch f tree).identity branch) (change_at branch f tree))
    (tree_at-changed branch f trees keeps)
    ∙ own-by (is_same_identity tree.identity branch) branch f tree (tree_at trees branch) keeps refl

-- a change that leaves the element
abbrev pub KeepsElement : (Tree → Tree) → Type 0
KeepsElement change = (tree : Tree) → (change tree).element ≡ tree.element

element-put : (t : Tree) (trees : List Tree) (branch : Identity) → is_same_identity t.identity branch ≡ false
    → element_of_branch (with_tree t trees) branch ≡ element_of_branch trees branch
element-put t trees branch differs = ap (λ (found : Option Tree). option_map_or (λ (tree : Tree). tree.element) found branch)
    (tree_at-put t trees branch differs)

element-own : (found : Option Tree) (f : Tree → Tree) (branch : Identity) → KeepsElement f
    → option_map_or (λ (tree : Tree). tree.element) (option_map f found) branch
    ≡ option_map_or (λ (tree : Tree). tree.element) found branch
element-own None f branch keeps = refl
element-own (Some tree) f branch keeps = keeps tree

element-by : (b : Bool) (c branch : Identity) (f : Tree → Tree) (trees : List Tree) → is_same_identity c branch ≡ b
    → KeepsIdentity f → KeepsElement f
    → element_of_branch (with_branch_changed c f trees) branch ≡ element_of_branch trees branch
element-by true c branch f trees same keeps holds =
    ap (λ (i : Identity). element_of_branch (with_branch_changed i f trees) branch) (same-is c branch same)
    ∙ ap (λ (found : Option Tree). option_map_or (λ (tree : Tree). tree.element) found branch)
    (tree_at-changed branch f trees keeps)
    ∙ element-own (tree_at trees branch) f branch holds
element-by false c branch f trees differs keeps holds =
    ap (λ (found : Option Tree). option_map_or (λ (tree : Tree). tree.element) found branch)
    (tree_at-other c branch f trees differs keeps)

element-change : (c branch : Identity) (f : Tree → Tree) (trees : List Tree) → KeepsIdentity f → KeepsElement f
    → element_of_branch (with_branch_changed c f trees) branch ≡ element_of_branch trees branch
element-change c branch f trees keeps holds = element-by (is_same_identity c branch) c branch f trees refl keeps holds

-- the branch that an operation is about; of an element its own
abbrev pub branch_in : SiteDeed → Identity → Identity
branch_in deeds.Element own = own
branch_in (deeds.Branch branch number name) own = branch
branch_in (deeds.Version branch number word) own = branch
branch_in (deeds.Master branch site) own = branch

abbrev pub branch_of : Operation → Identity
branch_of operation = branch_in operation.deed operation.identity

-- whether a deed changes its branch
abbrev pub is_change : SiteDeed → Bool
is_change deeds.Element = false
is_change (deeds.Branch branch number name) = false
is_change (deeds.Version branch number word) = true
is_change (deeds.Master branch site) = true

-- what a deed that makes a version adds
abbrev pub add_version : Operation → ℕ → List ℕ → Tree → Tree
add_version operation number word tree =
    record tree {
      versions = with_version_put (record { number = number; identity = operation.identity; word = word })
          tree.versions;
    }

abbrev pub add_master : Operation → Tree → Tree
add_master operation tree = record tree { masters = tree.masters ++ operation ∷ [] }

-- two operations with these deeds do not affect one another
pub record AreFree (x y : Operation) (d e : SiteDeed) : Type 0 where
  pub ids : is_same_identity x.identity y.identity ≡ false
  pub onto : is_same_identity (branch_in d x.identity) y.identity ≡ false
  pub from : is_same_identity (branch_in e y.identity) x.identity ≡ false
  pub changes : is_change d ≡ true → is_change e ≡ true → is_same_identity (branch_in d x.identity) (branch_in e y.identity)
      ≡ false

commute : (trees : List Tree) (x y : Operation) (d e : SiteDeed) → AreFree x y d e
    → after_deed (after_deed trees x d) y e ≡ after_deed (after_deed trees y e) x d
commute trees x y deeds.Element deeds.Element free = put-put (new_tree x.identity x.identity (codes "main"))
    (new_tree y.identity y.identity (codes "main")) trees free.ids
commute trees x y deeds.Element (deeds.Branch c n name) free =
    let t = new_tree x.identity x.identity (codes "main") in
    ap (λ (i : Identity). with_tree (new_tree y.identity i name) (with_tree t trees))
    (element-put t trees c (differ-turned c x.identity free.from))
    ∙ put-put t (new_tree y.identity (element_of_branch trees c) name) trees free.ids
commute trees x y deeds.Element (deeds.Version c n word) free =
    put-change (new_tree x.identity x.identity (codes "main")) c (add_version y n word) trees
    (differ-turned c x.identity free.from) (λ tree. refl)
commute trees x y deeds.Element (deeds.Master c site) free =
    put-change (new_tree x.identity x.identity (codes "main")) c (add_master y) trees (differ-turned c x.identity free.from)
    (λ tree. refl)
commute trees x y (deeds.Branch b n name) deeds.Element free =
    let u = new_tree y.identity y.identity (codes "main") in
    put-put (new_tree x.identity (element_of_branch trees b) name) u trees free.ids
    ∙ sym (ap (λ (i : Identity). with_tree (new_tree x.identity i name) (with_tree u trees))
    (element-put u trees b (differ-turned b y.identity free.onto)))
commute trees x y (deeds.Branch b n name) (deeds.Branch c m other) free =
    let t = new_tree x.identity (element_of_branch trees b) name in
    let u = new_tree y.identity (element_of_branch trees c) other in
    ap (λ (i : Identity). with_tree (new_tree y.identity i other) (with_tree t trees))
    (element-put t trees c (differ-turned c x.identity free.from))
    ∙ put-put t u trees free.ids
    ∙ sym (ap (λ (i : Identity). with_tree (new_tree x.identity i name) (with_tree u trees))
    (element-put u trees b (differ-turned b y.identity free.onto)))
commute trees x y (deeds.Branch b n name) (deeds.Version c m word) free =
    put-change (new_tree x.identity (element_of_branch trees b) name) c (add_version y m word) trees
    (differ-turned c x.identity free.from) (λ tree. refl)
    ∙ sym (ap (λ (i : Identity). with_tree (new_tree x.identity i name) (with_branch_changed c (add_version y m word) trees))
    (element-change c b (add_version y m word) trees (λ tree. refl) (λ tree. refl)))
commute trees x y (deeds.Branch b n name) (deeds.Master c site) free =
    put-change (new_tree x.identity (element_of_branch trees b) name) c (add_master y) trees
    (differ-turned c x.identity free.from) (λ tree. refl)
    ∙ sym (ap (λ (i : Identity). with_tree (new_tree x.identity i name) (with_branch_changed c (add_master y) trees))
    (element-change c b (add_master y) trees (λ tree. refl) (λ tree. refl)))
commute trees x y (deeds.Version b n word) deeds.Element free =
    sym (put-change (new_tree y.identity y.identity (codes "main")) b (add_version x n word) trees
    (differ-turned b y.identity free.onto) (λ tree. refl))
commute trees x y (deeds.Version b n word) (deeds.Branch c m name) free =
    ap (λ (i : Identity). with_tree (new_tree y.identity i name) (with_branch_changed b (add_version x n word) trees))
    (element-change b c (add_version x n word) trees (λ tree. refl) (λ tree. refl))
    ∙ sym (put-change (new_tree y.identity (element_of_branch trees c) name) b (add_version x n word) trees
    (differ-turned b y.identity free.onto) (λ tree. refl))
commute trees x y (deeds.Version b n word) (deeds.Version c m other) free =
    change-change b c (add_version x n word) (add_version y m other) trees (free.changes refl refl) (λ tree. refl) (λ tree. refl)
commute trees x y (deeds.Version b n word) (deeds.Master c site) free =
    change-change b c (add_version x n word) (add_master y) trees (free.changes refl refl) (λ tree. refl) (λ tree. refl)
commute trees x y (deeds.Master b site) deeds.Element free =
    sym (put-change (new_tree y.identity y.identity (codes "main")) b (add_master x) trees (differ-turned b y.identity free.onto)
    (λ tree. refl))
commute trees x y (deeds.Master b site) (deeds.Branch c m name) free =
    ap (λ (i : Identity). with_tree (new_tree y.identity i name) (with_branch_changed b (add_master x) trees))
    (element-change b c (add_master x) trees (λ tree. refl) (λ tree. refl))
    ∙ sym (put-change (new_tree y.identity (element_of_branch trees c) name) b (add_master x) trees
    (differ-turned b y.identity free.onto) (λ tree. refl))
commute trees x y (deeds.Master b site) (deeds.Version c m other) free =
    change-change b c (add_master x) (add_version y m other) trees (free.changes refl refl) (λ tree. refl) (λ tree. refl)
commute trees x y (deeds.Master b site) (deeds.Master c other) free =
    change-change b c (add_master x) (add_master y) trees (free.changes refl refl) (λ tree. refl) (λ tree. refl)

-- two operations that are free of one another
abbrev pub Free : Operation → Operation → Type 0
Free x y = AreFree x y x.deed y.deed

pub commutes : (trees : List Tree) (x y : Operation) → Free x y → after_operation (after_operation trees x) y
    ≡ after_operation (after_operation trees y) x
commutes trees x y free = commute trees x y x.deed y.deed free

-- an operation is free of each of some
abbrev pub FreeOf : Operation → List Operation → Type 0
FreeOf x [] = Unit {0}
FreeOf x (y ∷ ys) = Free x y × FreeOf x ys

-- an operation may come after those that it is free of
pub moves : (trees : List Tree) (x : Operation) (ys : List Operation) → FreeOf x ys
    → fold after_operation (after_operation trees x) ys ≡ after_operation (fold after_operation trees ys) x
moves trees x [] free = refl
moves trees x (y ∷ ys) free =
    ap (λ (l : List Tree). fold after_operation l ys) (commutes trees x y free.0) ∙ moves (after_operation trees y) x ys free.1
