-- What no step may do, in general: what the worked steps with one thing wrong rest on.
use Rattle.std.proofs.Common.{◌≡◌, ap, ⊎_elim, ℕ, Bool, true, false, Some, None, Ok, List, length}
use Rattle.std.specs.Prelude.{◌||◌, is_some}
use Rattle.cc_names.specs.Formed.{Plain}
use Rattle.cc_names.specs.Versions.{is_number}
use Rattle.cc_names.specs.declared.refusals.ScriptFault.{ScriptFault}
use Rattle.cc_names.specs.declared.rows.Deed.{Deed}
use Rattle.cc_names.specs.declared.rows.Deed.TheVariants as deeds
use Rattle.cc_names.specs.declared.rows.Tag.{Tag}
use Rattle.cc_names.specs.declared.steps.UnitEnd.{UnitEnd}
use Rattle.cc_names.specs.declared.units.Unit.{Unit}
use Rattle.legal_history.specs.Builds.Active.{Build, came_to, is_outcome, unit_at, unit_with_first}
use Rattle.base_model.specs.Changes.{targets_of}
use Rattle.legal_history.specs.Builds.Choices.{here, publish_of}
use Rattle.legal_history.specs.Commands.Decisions.{Answers, Begins}
use Rattle.base_model.specs.Objects.{held_at_all}
use Rattle.legal_history.specs.Stories.States.{State, decision_for, build_by}
use Rattle.legal_history.specs.Stories.Committing.{MakesRow, RowFor}
use Rattle.legal_history.specs.Stories.Lawful.{BeginsBuild, EndsBuild}
use Rattle.legal_history.specs.Builds.UnitTurns.{Waits, Starts, Keeps, Fails, EndsEarly, Winks, Publishes}
use Rattle.legal_history.specs.Builds.Turns.{early, is_complete}

-- two things that a test tells apart are not the same
pub apart : {A : Type 0} (test : A → Bool) {a b : A} → a ≡ b → test a ≡ true → test b ≡ false → ⊥
apart test e first second = cc (ap test e)

-- a build begins with the units that are decided, at the rows that there are
pub units_are : {s : State} {tag : Tag} {rows count : ℕ} {units : List Unit} →
    decision_for s tag ≡ Some (Ok (Begins units)) → BeginsBuild s tag rows count → count ≡ length units
units_are d h = let c = h.chosen in let l = h.of_units in cc

-- a command that is answered makes no row
no_row_of : {tag : Tag} {text : List ℕ} (s : State) (row : Plain) (deed : Deed) → decision_for s tag ≡ Some (Ok (Answers text))
    → build_by s tag ≡ None →
    row.tag ≡ tag → MakesRow s row deed → ⊥
no_row_of s row (deeds.Publish view targets script entries outputs) d b of_tag h = let a = h.running.waits.active in cc
no_row_of s row (deeds.Wink view id) d b of_tag h =
    ⊎_elim (λ may. let a = may.waits.active in cc) (λ may. let a = may.waits.active in cc) h.may
no_row_of s row deed d b of_tag h = cc

pub no_row : {s : State} {tag : Tag} {text : List ℕ} → decision_for s tag ≡ Some (Ok (Answers text)) → build_by s tag ≡ None
    → RowFor s tag → ⊥
no_row {s = s} d b h = no_row_of s h.row h.row.deed d b h.of_tag h.may.made

-- what a unit may publish is what its run gives
pub published_is : {s : State} {r : Plain} {targets : List (List ℕ)} {build : Build} {n : ℕ} {unit : Unit} {deed : Deed} →
    build_by s r.tag ≡ Some build → unit_with_first build targets ≡ Some n → unit_at build n ≡ Some unit →
    publish_of s.base build n unit ≡ Some deed → Publishes s r targets → r.deed ≡ deed
published_is b p u made h =
    let same_build = h.running.waits.active in let same_unit = h.running.waits.is_unit in let place = h.place in let makes =
    h.made in cc

-- a unit with an outcome waits for none
pub no_second : {s : State} {tag : Tag} {n : ℕ} {build b : Build} {u : Unit} →
    build_by s tag ≡ Some build → is_outcome (came_to build n) ≡ true → Waits s tag n b u → ⊥
no_second active outcome h = let a = h.active in let w = h.waits in cc

pub no_second_row : {s : State} {r : Plain} {targets : List (List ℕ)} {build : Build} {n : ℕ} →
    build_by s r.tag ≡ Some build → unit_with_first build targets ≡ Some n → is_outcome (came_to build n) ≡ true →
    Publishes s r targets → ⊥
no_second_row active place outcome h =
    let a = h.running.waits.active in let p = h.place in let w = h.running.waits.waits in cc

-- a build under which the disk failed commits no row of a unit that was running
pub no_publish : {s : State} {r : Plain} {targets : List (List ℕ)} {build : Build} →
    build_by s r.tag ≡ Some build → build.faulted ≡ true → Publishes s r targets → ⊥
no_publish active faulted h = let a = h.running.waits.active in let f = h.running.faultless in cc

-- a build under which the disk failed starts nothing
pub no_start : {s : State} {tag : Tag} {n : ℕ} {build : Build} → build_by s tag ≡ Some build → build.faulted ≡ true
    → Starts s tag n → ⊥
no_start active faulted h = let a = h.open_unit.waits.active in let f = h.open_unit.faultless in cc

-- a unit that has come to anything is not started once more
pub no_second_start : {s : State} {tag : Tag} {n : ℕ} {build : Build} → build_by s tag ≡ Some build
    → is_some (came_to build n) ≡ true → Starts s tag n → ⊥
no_second_start active come h = let a = h.open_unit.waits.active in let f = h.fresh in cc

-- a build whose units are not all over, and under which the disk did not fail, does not end
pub no_end : {s : State} {tag : Tag} {build : Build} → build_by s tag ≡ Some build → (is_complete build || build.faulted) ≡ false
    → EndsBuild s tag → ⊥
no_end active over h = let a = h.active in let f = h.over in cc

-- a unit fails with the fault of its run alone
pub no_failure : {s : State} {tag : Tag} {n : ℕ} {fault : ScriptFault} {build : Build} {unit : Unit} {outputs : List (List ℕ)} →
    build_by s tag ≡ Some build → unit_at build n ≡ Some unit → (here s.base build n unit).result ≡ Ok outputs
    → Fails s tag n fault → ⊥
no_failure active is_unit ran h =
    let a = h.running.waits.active in let u = h.running.waits.is_unit in let f = h.fails in cc

-- a unit that is to be run does not end without a run
pub no_early_end : {s : State} {tag : Tag} {n : ℕ} {outcome : UnitEnd} {build : Build} {unit : Unit} →
    build_by s tag ≡ Some build → unit_at build n ≡ Some unit → early s.base build unit ≡ None → EndsEarly s tag n outcome → ⊥
no_early_end active is_unit runs h = let a = h.waits.active in let u = h.waits.is_unit in let e = h.ends in cc

-- a unit keeps nothing where its view holds nothing
pub no_keep : {s : State} {tag : Tag} {n id : ℕ} {build : Build} {unit : Unit} →
    build_by s tag ≡ Some build → unit_at build n ≡ Some unit → held_at_all s.base build.view unit.targets ≡ None
    → Keeps s tag n id → ⊥
no_keep active is_unit lacks h =
    let a = h.open_unit.waits.active in let u = h.open_unit.waits.is_unit in let k = h.holds in cc

-- a view does not wink in what it holds
pub no_wink_by : {s : State} {r : Plain} {view : List ℕ} {id n : ℕ} {build : Build} {unit : Unit} →
    build_by s r.tag ≡ Some build → unit_with_first build (targets_of s.base id) ≡ Some n → unit_at build n ≡ Some unit →
    is_number id (held_at_all s.base build.view unit.targets) ≡ true → (h : Winks s r view id) → Waits s r.tag h.n h.build h.unit
    → ⊥
no_wink_by active place is_unit holds h waits =
    let a = waits.active in let u = waits.is_unit in let p = h.place in let l = h.lacks in cc

pub no_wink : {s : State} {r : Plain} {view : List ℕ} {id n : ℕ} {build : Build} {unit : Unit} →
    build_by s r.tag ≡ Some build → unit_with_first build (targets_of s.base id) ≡ Some n → unit_at build n ≡ Some unit →
    is_number id (held_at_all s.base build.view unit.targets) ≡ true → Winks s r view id → ⊥
no_wink active place is_unit holds h =
    ⊎_elim (λ may. no_wink_by active place is_unit holds h may.waits) (λ may. no_wink_by active place is_unit holds h may.waits)
    h.may
