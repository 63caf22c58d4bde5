-- Branches as they are kept by identity: how one is found, put and changed.
use Rattle.std.proofs.Common.{◌≡◌, Bool, true, false, cond, Option, Some, None, Result, Ok, Err, List, [], ◌∷◌, refl, sym, ap}
use Rattle.std.proofs.Common.{◌∙◌, subst}
use Rattle.std.specs.Prelude.{OnOk, OnErr, is_some}
use Rattle.std.specs.BTreeMap.{insert_entry, is_at}
use Rattle.std.specs.Map.{values_of, lookup, set_value}
use Rattle.std.specs.Ordering.{match_ordering, ordering_reverse, is_eq}
use Rattle.std.specs.declared.cmp.Ordering.{Ordering}
use Rattle.std.specs.declared.cmp.Ordering.TheVariants.{Less, Equal, Greater}
use Rattle.vob_replica.specs.declared.events.Identity.{Identity}
use Rattle.vob_replica.specs.declared.operations.Operation.{Operation}
use Rattle.vob_replica.specs.Branches.{identity_order, IsBeforeBranches, IsInOrder, AreKeyed, AreKept}
use Rattle.vob_replica.specs.Trees.{Tree, is_same_identity, identity_cmp, tree_at, with_tree, with_branch_changed, after_operation}
use Rattle.vob_replica.proofs.BranchLaws.{KeepsIdentity, cmp-is, same-order, turned, is-same, with_branch_changed-none, order-after}
use Rattle.vob_replica.proofs.Commuting.{same-is}

abbrev Entry : Type 0
Entry = Identity × Tree

eq-turned : (o : Ordering) → is_eq (ordering_reverse o) ≡ is_eq o
eq-turned Less = refl
eq-turned Equal = refl
eq-turned Greater = refl

-- the key that is looked for
pub is-key : (x y : Identity) → is_at (identity_order x) y ≡ is_same_identity y x
is-key x y =
    ap is_eq (cmp-is x y) ∙ sym (eq-turned (identity_cmp x y)) ∙ ap is_eq (sym (turned x y (identity_cmp x y) refl))
    ∙ sym (same-order y x)

-- a branch is found by its key
pub found-in : (identity : Identity) (entries : List Entry) → AreKeyed entries
    → lookup (is_at (identity_order identity)) entries ≡ tree_at (values_of entries) identity
found-in identity [] keyed = refl
found-in identity (entry ∷ entries) keyed =
    ap (λ (b : Bool). cond b (Some entry.1) (lookup (is_at (identity_order identity)) entries))
    (is-key identity entry.0 ∙ ap (λ (i : Identity). is_same_identity i identity) keyed.0)
    ∙ ap (λ (rest : Option Tree). cond (is_same_identity entry.1.identity identity) (Some entry.1) rest)
    (found-in identity entries keyed.1)

-- how a key stands to an entry is how a branch does to its branch
stands-so : (key : Identity) (tree : Tree) (entry : Entry) → key ≡ tree.identity → entry.0 ≡ entry.1.identity
    → identity_order key entry.0 ≡ identity_cmp tree.identity entry.1.identity
stands-so key tree entry same keyed =
    cmp-is key entry.0 ∙ ap (λ (i : Identity). identity_cmp i entry.0) same ∙ ap (identity_cmp tree.identity) keyed

-- a branch is put by its key
pub put-in : (key : Identity) (tree : Tree) (entries : List Entry) → key ≡ tree.identity → AreKeyed entries
    → values_of (insert_entry identity_order entries key tree) ≡ with_tree tree (values_of entries)
put-in key tree [] same keyed = refl
put-in key tree (entry ∷ entries) same keyed =
    by (identity_order key entry.0) (put-in key tree entries same keyed.1)
    ∙ ap (λ (o : Ordering). match_ordering o (tree ∷ entry.1 ∷ values_of entries) (tree ∷ values_of entries)
    (entry.1 ∷ with_tree tree (values_of entries)))
    (stands-so key tree entry same keyed.0)
  where
    by : (o : Ordering) → values_of (insert_entry identity_order entries key tree) ≡ with_tree tree (values_of entries)
        → values_of (match_ordering o ((key, tree) ∷ entry ∷ entries) ((entry.0, tree) ∷ entries)
        (entry ∷ insert_entry identity_order entries key tree))
        ≡ match_ordering o (tree ∷ entry.1 ∷ values_of entries) (tree ∷ values_of entries)
        (entry.1 ∷ with_tree tree (values_of entries))
    by Less later = refl
    by Equal later = refl
    by Greater later = ap (λ (l : List Tree). entry.1 ∷ l) later

pub keyed-put : (key : Identity) (tree : Tree) (entries : List Entry) → key ≡ tree.identity → AreKeyed entries
    → AreKeyed (insert_entry identity_order entries key tree)
keyed-put key tree [] same keyed = (same, tt)
keyed-put key tree (entry ∷ entries) same keyed =
    by (identity_order key entry.0) refl (keyed-put key tree entries same keyed.1)
  where
    by : (o : Ordering) → identity_order key entry.0 ≡ o → AreKeyed (insert_entry identity_order entries key tree)
        → AreKeyed (match_ordering o ((key, tree) ∷ entry ∷ entries) ((entry.0, tree) ∷ entries)
        (entry ∷ insert_entry identity_order entries key tree))
    by Less is later = (same, keyed)
    by Equal is later = (
      sym (same-is key entry.0 (is-same key entry.0 (sym (cmp-is key entry.0) ∙ is))) ∙ same,
      keyed.1,
    )
    by Greater is later = (keyed.0, later)

some-is : {t u : Tree} → Some t ≡ Some u → t ≡ u
some-is is = cc is

-- a branch is changed where it stands
pub changed-in : (branch : Identity) (change : Tree → Tree) (entries : List Entry) (old new : Tree) → AreKept entries
    → lookup (is_at (identity_order branch)) entries ≡ Some old → new ≡ change old
    → values_of (set_value (is_at (identity_order branch)) entries new)
    ≡ with_branch_changed branch change (values_of entries)
changed-in branch change [] old new kept found is = cc found
changed-in branch change (entry ∷ entries) old new kept found is =
    by (is_at (identity_order branch) entry.0) key found
    (λ rest. changed-in branch change entries old new
    (record { keyed = kept.keyed.1; order = kept.order.1 }) rest is)
    ∙ ap (λ (b : Bool). cond b (change entry.1) entry.1 ∷ with_branch_changed branch change (values_of entries)) key
  where
    key : is_at (identity_order branch) entry.0 ≡ is_same_identity entry.1.identity branch
    key = is-key branch entry.0 ∙ ap (λ (i : Identity). is_same_identity i branch) kept.keyed.0

    by : (b : Bool) → b ≡ is_same_identity entry.1.identity branch
        → cond b (Some entry.1) (lookup (is_at (identity_order branch)) entries) ≡ Some old
        → (lookup (is_at (identity_order branch)) entries ≡ Some old
        → values_of (set_value (is_at (identity_order branch)) entries new)
        ≡ with_branch_changed branch change (values_of entries))
        → values_of (cond b ((entry.0, new) ∷ entries) (entry ∷ set_value (is_at (identity_order branch)) entries new))
        ≡ cond b (change entry.1) entry.1 ∷ with_branch_changed branch change (values_of entries)
    by true same here later =
        let own : entry.1.identity ≡ branch = same-is entry.1.identity branch (sym same) in
        ap (λ (t : Tree). t ∷ values_of entries) (is ∙ ap change (sym (some-is here)))
        ∙ ap (λ (l : List Tree). change entry.1 ∷ l)
        (sym (with_branch_changed-none branch change (values_of entries)
        (subst (λ (i : Identity). IsBeforeBranches i (values_of entries)) own kept.order.0)))
    by false differs there later = ap (λ (l : List Tree). entry.1 ∷ l) (later there)

pub keyed-set : (test : Identity → Bool) (entries : List Entry) (old new : Tree) → AreKeyed entries
    → lookup test entries ≡ Some old → new.identity ≡ old.identity → AreKeyed (set_value test entries new)
keyed-set test [] old new keyed found is = tt
keyed-set test (entry ∷ entries) old new keyed found is =
    by (test entry.0) found (λ rest. keyed-set test entries old new keyed.1 rest is)
  where
    by : (b : Bool) → cond b (Some entry.1) (lookup test entries) ≡ Some old
        → (lookup test entries ≡ Some old → AreKeyed (set_value test entries new))
        → AreKeyed (cond b ((entry.0, new) ∷ entries) (entry ∷ set_value test entries new))
    by true here later = (keyed.0 ∙ ap (λ (t : Tree). t.identity) (some-is here) ∙ sym is, keyed.1)
    by false there later = (keyed.0, later there)

-- a branch that is left as it is leaves all as they are
pub set-same : (test : Identity → Bool) (entries : List Entry) (old : Tree) → lookup test entries ≡ Some old
    → set_value test entries old ≡ entries
set-same test [] old found = refl
set-same test (entry ∷ entries) old found = by (test entry.0) found (set-same test entries old)
  where
    by : (b : Bool) → cond b (Some entry.1) (lookup test entries) ≡ Some old
        → (lookup test entries ≡ Some old → set_value test entries old ≡ entries)
        → cond b ((entry.0, old) ∷ entries) (entry ∷ set_value test entries old) ≡ entry ∷ entries
    by true here later = ap (λ (t : Tree). (entry.0, t) ∷ entries) (sym (some-is here))
    by false there later = ap (λ (l : List Entry). entry ∷ l) (later there)

-- where none has the identity, none is changed
pub missing-in : (branch : Identity) (change : Tree → Tree) (entries : List Entry) → AreKeyed entries
    → lookup (is_at (identity_order branch)) entries ≡ None
    → values_of entries ≡ with_branch_changed branch change (values_of entries)
missing-in branch change [] keyed none = refl
missing-in branch change (entry ∷ entries) keyed none =
    by (is_at (identity_order branch) entry.0) none (missing-in branch change entries keyed.1)
    ∙ ap (λ (b : Bool). cond b (change entry.1) entry.1 ∷ with_branch_changed branch change (values_of entries))
    (is-key branch entry.0 ∙ ap (λ (i : Identity). is_same_identity i branch) keyed.0)
  where
    by : (b : Bool) → cond b (Some entry.1) (lookup (is_at (identity_order branch)) entries) ≡ None
        → (lookup (is_at (identity_order branch)) entries ≡ None
        → values_of entries ≡ with_branch_changed branch change (values_of entries))
        → entry.1 ∷ values_of entries ≡ cond b (change entry.1) entry.1 ∷ with_branch_changed branch change (values_of entries)
    by true here later = cc here
    by false there later = ap (λ (l : List Tree). entry.1 ∷ l) (later there)

-- one was changed in place, or left where memory ran out
pub set-ok : {T E : Type 0} (r : Result T E) (branch : Identity) (change : Tree → Tree) (entries entries' : List Entry)
    (old new : Tree) → AreKept entries → lookup (is_at (identity_order branch)) entries ≡ Some old
    → entries' ≡ set_value (is_at (identity_order branch)) entries new → OnOk r (new ≡ change old)
    → OnOk r (values_of entries' ≡ with_branch_changed branch change (values_of entries))
set-ok (Ok x) branch change entries entries' old new kept found set is =
    ap values_of set ∙ changed-in branch change entries old new kept found is
set-ok (Err e) branch change entries entries' old new kept found set is = tt

pub set-err : {T E : Type 0} (r : Result T E) (branch : Identity) (entries entries' : List Entry) (old new : Tree)
    → lookup (is_at (identity_order branch)) entries ≡ Some old
    → entries' ≡ set_value (is_at (identity_order branch)) entries new → OnErr r (new ≡ old) → OnErr r (entries' ≡ entries)
set-err (Ok x) branch entries entries' old new found set is = tt
set-err (Err e) branch entries entries' old new found set is =
    set ∙ ap (set_value (is_at (identity_order branch)) entries) is ∙ set-same (is_at (identity_order branch)) entries old found

pub set-keyed : {T E : Type 0} (r : Result T E) (branch : Identity) (change : Tree → Tree) (entries entries' : List Entry)
    (old new : Tree) → KeepsIdentity change → AreKept entries → lookup (is_at (identity_order branch)) entries ≡ Some old
    → entries' ≡ set_value (is_at (identity_order branch)) entries new → OnOk r (new ≡ change old) → OnErr r (new ≡ old)
    → AreKeyed entries'
set-keyed (Ok x) branch change entries entries' old new keeps kept found set is err =
    subst AreKeyed (sym set)
    (keyed-set (is_at (identity_order branch)) entries old new kept.keyed found (ap (λ (t : Tree). t.identity) is ∙ keeps old))
set-keyed (Err e) branch change entries entries' old new keeps kept found set is err =
    subst AreKeyed (sym set)
    (keyed-set (is_at (identity_order branch)) entries old new kept.keyed found (ap (λ (t : Tree). t.identity) err))

-- what is unchanged has the same branches
pub err-values : {T E : Type 0} (r : Result T E) (entries entries' : List Entry) → OnErr r (entries' ≡ entries)
    → OnErr r (values_of entries' ≡ values_of entries)
err-values (Ok x) entries entries' same = tt
err-values (Err e) entries entries' same = ap values_of same

-- branches stay in order whether there was memory or not
pub order-of : {T E : Type 0} (r : Result T E) (entries entries' : List Entry) (operation : Operation)
    → IsInOrder (values_of entries) → OnOk r (values_of entries' ≡ after_operation (values_of entries) operation)
    → OnErr r (entries' ≡ entries) → IsInOrder (values_of entries')
order-of r entries entries' operation order ok err =
    order-after r (values_of entries) (values_of entries') operation order ok (err-values r entries entries' err)

-- whether a branch is there
pub missing-key : (identity : Identity) (tree : Tree) (entries : List Entry) → AreKeyed entries → identity ≡ tree.identity
    → is_some (lookup (is_at (identity_order identity)) entries) ≡ false → tree_at (values_of entries) tree.identity ≡ None
missing-key identity tree entries keyed same none =
    ap (tree_at (values_of entries)) (sym same) ∙ sym (found-in identity entries keyed)
    ∙ by (lookup (is_at (identity_order identity)) entries) none
  where
    by : (found : Option Tree) → is_some found ≡ false → found ≡ None
    by None gone = refl
    by (Some t) gone = cc gone
