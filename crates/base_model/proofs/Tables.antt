-- Look-ups in a table that is keyed by numbers, after a change of it.
use Rattle.std.proofs.Common.{◌≡◌, ap, sym, ◌∙◌, ℕ, false, cond, not, ◌==◌, Some, None, List, arith}
use Rattle.std.proofs.lemmas.Bool.Decides.{nat_tests}
use Rattle.std.proofs.lemmas.Cmp.{nat_cmp_total}
use Rattle.std.specs.Cmp.{unsigned_tied}
use Rattle.std.specs.Ordering.{nat_cmp, is_eq}
use Rattle.std.specs.declared.cmp.Ordering.TheVariants.{Equal}
use Rattle.std.specs.FinMap.Entries.{put, find, where_key, find-put, find-where_key}

pub find_after_put : {X : Type 0} (q k : ℕ) (x : X) (table : List (ℕ × X)) →
    find nat_cmp q (put nat_cmp k x table) ≡ cond (q == k) (Some x) (find nat_cmp q table)
find_after_put q k x table =
    find-put nat_cmp nat_cmp_total q k x table ∙ ap (λ b. cond b (Some x) (find nat_cmp q table)) (unsigned_tied q k)

pub find_put_same : {X : Type 0} (k : ℕ) (x : X) (table : List (ℕ × X)) → find nat_cmp k (put nat_cmp k x table) ≡ Some x
find_put_same k x table = find_after_put k k x table ∙ grind (arith, nat_tests)

pub find_put_other : {X : Type 0} (q k : ℕ) (x : X) (table : List (ℕ × X)) → (q == k) ≡ false →
    find nat_cmp q (put nat_cmp k x table) ≡ find nat_cmp q table
find_put_other q k x table e = find_after_put q k x table ∙ ap (λ b. cond b (Some x) (find nat_cmp q table)) e

-- numbers that tie are the same
pub tied : (q x : ℕ) → nat_cmp q x ≡ Equal → q ≡ x
tied q x e = grind (arith, nat_tests, sym (unsigned_tied q x), ap is_eq e)

-- a key that is taken out is found no more, and any other key as before
alike : (k q x : ℕ) → nat_cmp q x ≡ Equal → not (x == k) ≡ not (q == k)
alike k q x e = ap (λ y. not (y == k)) (sym (tied q x e))

pub find_without : {X : Type 0} (q k : ℕ) (table : List (ℕ × X)) →
    find nat_cmp q (where_key nat_cmp (λ key. not (key == k)) table) ≡ cond (not (q == k)) (find nat_cmp q table) None
find_without q k table = find-where_key nat_cmp (λ key. not (key == k)) q (alike k q) table
