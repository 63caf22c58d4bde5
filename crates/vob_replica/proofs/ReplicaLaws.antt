-- A site's branches keep up with its operations, and what its calls come to.
use Rattle.std.proofs.Common.{◌≡◌, ℕ, zero, suc, ◌+◌, ◌<◌, ◌≤◌, Bool, true, false, cond, Option, Some, None, Ok, Err, List, []}
use Rattle.std.proofs.Common.{◌∷◌, ◌++◌, length, get_or, take, refl, sym, ap, ◌∙◌, subst, length-append, arith}
use Rattle.std.proofs.lemmas.List.{take_all, take-append-le}
use Rattle.std.specs.Prelude.{fold, find, nat_le}
use Rattle.std.specs.Option.{option_map_or}
use Rattle.std.specs.Ordering.{is_eq}
use Rattle.std.proofs.lemmas.Map.Text.{is_eq-slice_cmp}
use Rattle.std.proofs.lemmas.Slice.Eq.{bytes_eq-Decides}
use Rattle.std.specs.Str.{bytes_eq}
use Rattle.std.proofs.lemmas.Bool.Decides.{nat_tests}
use Rattle.vob_replica.specs.declared.events.Identity.{Identity}
use Rattle.vob_replica.specs.declared.operations.Change.{Change}
use Rattle.vob_replica.specs.declared.operations.Operation.{Operation}
use Rattle.vob_replica.specs.declared.operations.SiteFault.{SiteFault}
use Rattle.vob_replica.specs.Replicas.{Site, AreBranchesOf, change_fault, operation_of, made, made_unless}
use Rattle.vob_replica.specs.Replicas.{operations_after_import, unless_gap}
use Rattle.vob_replica.specs.Tables.{first_gap, holds, number_in, table_of, IsBeforeSites, Ascends}
use Rattle.vob_replica.specs.Trees.{Tree, trees_of, after_operation}

fold-push : (trees : List Tree) (known : List Operation) (operation : Operation)
    → fold after_operation trees (known ++ operation ∷ []) ≡ after_operation (fold after_operation trees known) operation
fold-push trees [] operation = refl
fold-push trees (first ∷ known) operation = fold-push (after_operation trees first) known operation

-- the branches of one operation more
pub trees_of-push : (known : List Operation) (operation : Operation) → trees_of (known ++ operation ∷ [])
    ≡ after_operation (trees_of known) operation
trees_of-push known operation = fold-push [] known operation

take-suc : (known : List Operation) (n : ℕ) (d : Operation) → n < length known
    → take (suc n) known ≡ take n known ++ get_or known n d ∷ []
take-suc [] n d within = absurd (omega arith)
take-suc (first ∷ known) zero d within = refl
take-suc (first ∷ known) (suc n) d within = ap (λ (l : List Operation). first ∷ l) (take-suc known n d (omega arith))

-- the branches take one operation more in
pub taken-next : (trees trees' : List Tree) (taken : ℕ) (known : List Operation) (operation : Operation)
    → AreBranchesOf trees taken known → taken < length known
    → get_or known taken operation ≡ operation → trees' ≡ after_operation trees operation → AreBranchesOf trees' (taken + 1) known
taken-next trees trees' taken known operation are within is after =
    let next : suc taken ≡ taken + 1 = omega arith in
    record {
      within = omega arith;
      same =
          after ∙ ap (λ (l : List Tree). after_operation l operation) are.same ∙ sym (trees_of-push (take taken known) operation)
          ∙ ap (λ (o : Operation). trees_of (take taken known ++ o ∷ [])) (sym is)
          ∙ ap trees_of (sym (take-suc known taken operation within))
          ∙ ap (λ (n : ℕ). trees_of (take n known)) next;
    }

-- all were added
pub taken-all : (trees : List Tree) (taken : ℕ) (known : List Operation) → AreBranchesOf trees taken known → length known ≤ taken
    → trees ≡ trees_of known
taken-all trees taken known are past = are.same ∙ ap trees_of (take_all taken known past)

-- a log grows, and the branches stay those of the first operations
pub taken-push : (trees : List Tree) (taken : ℕ) (known more : List Operation) → AreBranchesOf trees taken known
    → AreBranchesOf trees taken (known ++ more)
taken-push trees taken known more are = record {
  within = let within = are.within in omega (arith, length-append known more);
  same = are.same ∙ ap trees_of (sym (take-append-le taken known more are.within));
}

-- a packet is added, and the branches stay those of the first operations
pub taken-import : (known operations after : List Operation) (trees : List Tree) (taken : ℕ) → AreBranchesOf trees taken known
    → operations_after_import known operations ≡ Ok after
    → AreBranchesOf trees taken after
taken-import known [] after trees taken are is = let same : known ≡ after = cc is in subst (AreBranchesOf trees taken) same are
taken-import known (operation ∷ operations) after trees taken are is =
    by (holds (table_of known) operation.identity) (first_gap operation.needs (table_of known)) is
    (taken-import known operations after trees taken are)
    (taken-import (known ++ operation ∷ []) operations after trees taken (taken-push trees taken known (operation ∷ []) are))
  where
    by : (b : Bool) (gap : Option Identity) → cond b (operations_after_import known operations)
        (unless_gap gap (operations_after_import (known ++ operation ∷ []) operations)) ≡ Ok after
        → (operations_after_import known operations ≡ Ok after → AreBranchesOf trees taken after)
        → (operations_after_import (known ++ operation ∷ []) operations ≡ Ok after → AreBranchesOf trees taken after)
        → AreBranchesOf trees taken after
    by true gap is skipped more = skipped is
    by false (Some missing) is skipped more = cc is
    by false None is skipped more = more is

-- the number of an entry that was found
abbrev number_found : Option Identity → ℕ
number_found found = option_map_or (λ (entry : Identity). entry.number) found 0

abbrev gap_by : Bool → Option Identity → Identity → Option Identity
gap_by b rest gap = cond b rest (Some gap)

no_gap : (b : Bool) (rest : Option Identity) (gap : Identity) → gap_by b rest gap ≡ None → (b ≡ true) × (rest ≡ None)
no_gap true rest gap none = (refl, none)
no_gap false rest gap none = cc none

-- what is asked of a site and what it has of it
abbrev enough : ℕ → ℕ → Identity → Option Identity → Option Identity
enough number has need rest = cond (nat_le number has) rest (Some (record { site = need.site; number = has + 1 }))

first_gap-behind : (needs table : List Identity) (entry : Identity) → IsBeforeSites entry.site needs
    → first_gap needs table ≡ None → first_gap needs (entry ∷ table) ≡ None
first_gap-behind [] table entry before whole = refl
first_gap-behind (need ∷ needs) table entry before whole =
    let differs : bytes_eq entry.site need.site ≡ false = sym (is_eq-slice_cmp entry.site need.site) ∙ ap is_eq before.0 in
    let same : number_in (entry ∷ table) need.site ≡ number_in table need.site =
    ap (λ (b : Bool). number_found (cond b (Some entry) (find (λ (e : Identity). bytes_eq e.site need.site) table))) differs in
    let none = no_gap (nat_le need.number (number_in table need.site)) (first_gap needs table)
    (record { site = need.site; number = number_in table need.site + 1 }) whole in
    ap (λ (has : ℕ). enough need.number has need (first_gap needs (entry ∷ table))) same
    ∙ ap (λ (b : Bool). gap_by b (first_gap needs (entry ∷ table)) (record {
      site = need.site;
      number = number_in table need.site + 1;
    })) none.0
    ∙ first_gap-behind needs table entry before.1 none.1

-- what a site knows lacks none of its own table
pub first_gap-own : (table : List Identity) → Ascends table → first_gap table table ≡ None
first_gap-own [] ascends = refl
first_gap-own (entry ∷ others) ascends =
    let own : bytes_eq entry.site entry.site ≡ true = (bytes_eq-Decides entry.site entry.site).1 refl in
    let same : number_in (entry ∷ others) entry.site ≡ entry.number =
    ap (λ (b : Bool). number_found (cond b (Some entry) (find (λ (e : Identity). bytes_eq e.site entry.site) others))) own in
    let within : nat_le entry.number entry.number ≡ true = grind (arith, nat_tests) in
    ap (λ (has : ℕ). enough entry.number has entry (first_gap others (entry ∷ others))) same
    ∙ ap (λ (b : Bool). gap_by b (first_gap others (entry ∷ others)) (record { site = entry.site; number = entry.number + 1 }))
    within
    ∙ first_gap-behind others others entry ascends.0 (first_gap-own others ascends.1)

-- a change that is made, or refused
pub made-ok : (site after : Site) (change : Change) (trees : List Tree) (identity : Identity) → trees ≡ trees_of site.known
    → change_fault site.name trees change ≡ None
    → identity ≡ (operation_of site.name site.known trees change).identity
    → after ≡ record site { known = site.known ++ operation_of site.name site.known trees change ∷ [] }
    → made site change ≡ (Ok identity, after)
made-ok site after change trees identity are none own is =
    ap (λ (f : Option SiteFault). made_unless f site change) (ap (λ (t : List Tree). change_fault site.name t change) (sym are)
    ∙ none)
    ∙ ap (λ (i : Identity). (
      Ok i,
      record site {
        known = site.known ++ operation_of site.name site.known (trees_of site.known)
            change ∷ [];
      },
    ))
    (sym (own ∙ ap (λ (t : List Tree). (operation_of site.name site.known t change).identity) are))
    ∙ ap (λ (s : Site). (Ok identity, s)) (sym (is ∙ ap (λ (t : List Tree). record site
    { known = site.known ++ operation_of site.name site.known t change ∷ [] }) are))

pub made-refused : (site : Site) (change : Change) (trees : List Tree) (fault : SiteFault) → trees ≡ trees_of site.known
    → change_fault site.name trees change ≡ Some fault
    → made site change ≡ (Err fault, site)
made-refused site change trees fault are is =
    ap (λ (f : Option SiteFault). made_unless f site change) (ap (λ (t : List Tree). change_fault site.name t change) (sym are)
    ∙ is)
