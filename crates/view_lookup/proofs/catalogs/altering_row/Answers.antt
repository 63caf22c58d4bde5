-- The rows up to the version, and the newest of them that alters the name.
use Rattle.std.proofs.Common.{◌≡◌, ℕ, suc, ◌+◌, ◌≤◌, min, nat_lt, Bool, true, false, Option, List, refl, sym, ap, ◌∙◌, arith}
use Rattle.std.proofs.lemmas.Bool.Decides.{nat_tests}
use Rattle.base_model.specs.Closures.{greater_of}
use Rattle.base_model.specs.Rows.{Base, first_rows, size}
use Rattle.base_model.proofs.Stay.{all_rows}
use Rattle.base_rows.specs.Laws.AffectedByChanges.{altered_effect}
use Rattle.base_rows.specs.LookUps.{last_of}
use Rattle.view_lookup.specs.AlteringRows.{altered_by}
use Rattle.view_lookup.proofs.catalogs.altering_row.Goals as goal

-- the rows up to a version, however far after it lies
until : (b : Base) (v : ℕ) → first_rows (min v (size b) + 1) b ≡ first_rows (suc v) b
until b v = by (nat_lt v (size b)) refl
  where
    by : (is : Bool) → nat_lt v (size b) ≡ is → first_rows (min v (size b) + 1) b ≡ first_rows (suc v) b
    by true e =
        let same : min v (size b) + 1 ≡ suc v = grind (arith, nat_tests) in
        ap (λ t. first_rows t b) same
    by false e =
        let one : size b ≤ min v (size b) + 1 = grind (arith, nat_tests) in
        let two : size b ≤ suc v = grind (arith, nat_tests) in
        all_rows b (min v (size b) + 1) one ∙ sym (all_rows b (suc v) two)

update_by_row : (branch : ℕ) (name : List ℕ) (b first : Base) (v : ℕ) (found : Option ℕ)
    → first ≡ first_rows (min v (size b) + 1) b → found ≡ last_of (altered_effect branch name) first
    → altered_by branch name (first_rows (suc v) b) ≡ found
update_by_row branch name b first v found here is = ap (altered_by branch name) (sym (here ∙ until b v)) ∙ sym is

pub returns-in-None : goal.returns-in-None
returns-in-None c =
    let b = c.args.rows.now in
    let here : c.first_rows-rows.result ≡ first_rows (min c.args.version (size b) + 1) b = c.first_rows-rows.ensures
    ∙ ap (λ n. first_rows (n + 1) b) (c.min.ensures ∙ ap (min c.args.version) c.size.ensures.size) in
    sym (ap (greater_of c.args.branch) (update_by_row c.args.branch c.args.name.now b c.first_rows-rows.result c.args.version
    c.last.result here c.last.ensures ∙ c.in-None.is))

pub returns-in-Some : goal.returns-in-Some
returns-in-Some c =
    let b = c.args.rows.now in
    let here : c.first_rows-rows.result ≡ first_rows (min c.args.version (size b) + 1) b = c.first_rows-rows.ensures
    ∙ ap (λ n. first_rows (n + 1) b) (c.min.ensures ∙ ap (min c.args.version) c.size.ensures.size) in
    c.max.ensures ∙ sym (ap (greater_of c.args.branch) (update_by_row c.args.branch c.args.name.now b c.first_rows-rows.result
    c.args.version c.last.result here c.last.ensures ∙ c.in-Some.is))
