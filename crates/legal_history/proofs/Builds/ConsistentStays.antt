-- A consistent build stays so: when a row is added, and when a unit that waits comes to what may stand.
use Rattle.std.proofs.Common.{◌≡◌, refl, ap, sym, subst, ◌∙◌, ℕ, Bool, true, false, cond, ◌==◌, Some, None, [], ◌∷◌, arith}
use Rattle.std.specs.Prelude.{is_some}
use Rattle.std.specs.Ordering.{nat_cmp}
use Rattle.std.specs.FinMap.Entries.{find}
use Rattle.cc_names.specs.Formed.{Plain}
use Rattle.cc_names.specs.declared.units.Unit.{Unit}
use Rattle.cc_names.proofs.Common.{same_number}
use Rattle.base_model.specs.Rows.{Base, size, deed_of}
use Rattle.legal_history.specs.Builds.Active.{Build, Came, came_to, is_outcome, object_of, unit_at}
use Rattle.base_model.specs.Changes.{targets_of_deed}
use Rattle.base_model.specs.Fits.{is_base}
use Rattle.legal_history.specs.Stories.Steps.{with_came}
use Rattle.legal_history.specs.Builds.Consistency.{InOrder, IsObjectOf, IsReady, IsConsistent}
use Rattle.legal_history.proofs.Stories.Goes.{comes_to}
use Rattle.base_model.proofs.Tables.{find_after_put}
use Rattle.base_model.proofs.Stay.{first_rows_stay, all_rows, row_stays}

-- an object keeps its targets when a row is added
pub is_object_stays : (row : Plain) (b : Base) (unit : Unit) (id : ℕ) → IsObjectOf b unit id → IsObjectOf (row ∷ b) unit id
is_object_stays row b unit id h = record {
  below = let low = h.below in omega arith;
  targets = ap (λ o. targets_of_deed (deed_of o)) (row_stays row b id h.below) ∙ h.targets;
}

pub consistent_row : (row : Plain) (b : Base) (build : Build) → IsConsistent b build → IsConsistent (row ∷ b) build
consistent_row row b build h = record {
  rows = let low = h.rows in omega arith;
  base = subst (λ rows. is_base rows ≡ true) (sym (first_rows_stay row b build.rows h.rows)) h.base;
  in_order = h.in_order;
  ready = h.ready;
  objects = λ n unit id is own. is_object_stays row b unit id (h.objects n unit id is own);
}

-- a build at the rows of now, of whose units none has come to anything
pub record IsBegun (b : Base) (build : Build) : Type 0 where
  pub rows : build.rows ≡ size b
  pub base : is_base b ≡ true
  pub in_order : InOrder build.units
  pub nothing : build.comes ≡ []

pub none_came : (b : Base) (build : Build) (n : ℕ) → IsBegun b build → came_to build n ≡ None
none_came b build n h = ap (λ comes. find nat_cmp n comes) h.nothing

pub begins_consistent : (b : Base) (build : Build) → IsBegun b build → IsConsistent b build
begins_consistent b build h = record {
  rows = let e = h.rows in omega arith;
  base = subst (λ rows. is_base rows ≡ true) (sym (all_rows b build.rows (let e = h.rows in omega arith))) h.base;
  in_order = h.in_order;
  ready = λ n unit is some. absurd (let none = none_came b build n h in cc);
  objects = λ n unit id is own. absurd (let none = none_came b build n h in cc);
}

-- what a unit that waits may come to: its prerequisites are over, and an object has its targets
pub record KeepsConsistent (b : Base) (build : Build) (n : ℕ) (unit : Unit) (came : Came) : Type 0 where
  pub is_unit : unit_at build n ≡ Some unit
  pub waits : is_outcome (came_to build n) ≡ false
  pub ready : IsReady build unit
  pub object : (id : ℕ) → object_of (Some came) ≡ Some id → IsObjectOf b unit id

-- one that comes to no object
pub keeps_without : (b : Base) (build : Build) (n : ℕ) (unit : Unit) (came : Came) → unit_at build n ≡ Some unit
    → is_outcome (came_to build n) ≡ false → IsReady build unit → object_of (Some came) ≡ None
    → KeepsConsistent b build n unit came
keeps_without b build n unit came is waits ready none = record {
  is_unit = is;
  waits = waits;
  ready = ready;
  object = λ id own. absurd (let clash : None ≡ Some id = sym none ∙ own in cc);
}

-- one that comes to an object
pub keeps_with : (b : Base) (build : Build) (n id : ℕ) (unit : Unit) (came : Came) → unit_at build n ≡ Some unit
    → is_outcome (came_to build n) ≡ false → IsReady build unit → object_of (Some came) ≡ Some id → IsObjectOf b unit id →
    KeepsConsistent b build n unit came
keeps_with b build n id unit came is waits ready one object = record {
  is_unit = is;
  waits = waits;
  ready = ready;
  object = λ other own. let same : Some id ≡ Some other = sym one ∙ own in let number : id ≡ other = cc in
      subst (IsObjectOf b unit) number object;
}

-- what unit m has come to then
pub came_now : (build : Build) (n m : ℕ) (came : Came) (t : Bool) → (m == n) ≡ t
    → came_to (with_came build (Some n) came) m ≡ cond t (Some came) (came_to build m)
came_now build n m came t e = find_after_put m n came build.comes ∙ ap (λ b. cond b (Some came) (came_to build m)) e

pub same_unit : (build : Build) (n m : ℕ) (unit u : Unit) → unit_at build n ≡ Some unit → (m == n) ≡ true
    → unit_at build m ≡ Some u → unit ≡ u
same_unit build n m unit u there e is = let number : m ≡ n = same_number m n e in let at_n : unit_at build n ≡ Some u =
    subst (λ k. unit_at build k ≡ Some u) number is in cc

-- a ready unit stays so
pub ready_goes : (build : Build) (n : ℕ) (came : Came) (u : Unit) → is_outcome (came_to build n) ≡ false → IsReady build u
    → IsReady (with_came build (Some n) came) u
ready_goes build n came u waits ready = λ m path among is. ap is_outcome
    ((comes_to build n came waits).outcomes m (ready m path among is)) ∙ ready m path among is

pub consistent_came : (b : Base) (build : Build) (n : ℕ) (unit : Unit) (came : Came) → IsConsistent b build
    → KeepsConsistent b build n unit came → IsConsistent b (with_came build (Some n) came)
consistent_came b build n unit came h may = record {
  rows = h.rows;
  base = h.base;
  in_order = h.in_order;
  ready = λ m u is some. ready_goes build n came u may.waits (ready_at m u is some (m == n) refl);
  objects = λ m u id is own. object_at m u id is own (m == n) refl;
}
  where
    ready_at : (m : ℕ) (u : Unit) → unit_at build m ≡ Some u → is_some (came_to (with_came build (Some n) came) m) ≡ true
        → (t : Bool) → (m == n) ≡ t → IsReady build u
    ready_at m u is some true e = subst (IsReady build) (same_unit build n m unit u may.is_unit e is) may.ready
    ready_at m u is some false e = h.ready m u is (ap is_some (sym (came_now build n m came false e)) ∙ some)

    object_at : (m : ℕ) (u : Unit) (id : ℕ) → unit_at build m ≡ Some u
        → object_of (came_to (with_came build (Some n) came) m) ≡ Some id → (t : Bool) → (m == n) ≡ t → IsObjectOf b u id
    object_at m u id is own true e = subst (λ v. IsObjectOf b v id) (same_unit build n m unit u may.is_unit e is)
        (may.object id (ap object_of (sym (came_now build n m came true e)) ∙ own))
    object_at m u id is own false e = h.objects m u id is (ap object_of (sym (came_now build n m came false e)) ∙ own)

-- a build under which the disk failed
pub consistent_faulted : (b : Base) (build : Build) → IsConsistent b build → IsConsistent b (record build { faulted = true })
consistent_faulted b build h = record {
  rows = h.rows;
  base = h.base;
  in_order = h.in_order;
  ready = h.ready;
  objects = h.objects;
}
