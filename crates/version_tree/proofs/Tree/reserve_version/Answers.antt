-- room for one more version on the branch at a place
use Rattle.std.proofs.Common.{◌≡◌, ℕ, ◌<◌, Bool, List, eqb, ltb, length, get_or, map, reverse, set, slice_get, true, None, vec_len}
use Rattle.std.proofs.Common.{vec_capacity, refl, sym, ap, ◌∙◌, arith, rules}
use mathlib.Core.Bool.{false≢true}
use Rattle.std.specs.List.{list_any}
use Rattle.std.specs.Prelude.{find}
use Rattle.std.proofs.lemmas.List.{get_or_default}
use Rattle.std.proofs.lemmas.Bool.Decides.{nat_tests}
use Rattle.std.proofs.lemmas.Grind.{common_steps}
use Rattle.cc_names.specs.Falling.{Falls}
use Rattle.cc_names.specs.Versions.{latest}
use Rattle.version_tree.specs.TreeFields.{InStep, ready_branches, row_of_branch}
use Rattle.version_tree.specs.declared.branches.Branch.{Branch}
use Rattle.version_tree.specs.declared.changes.Made.{Made}
use Rattle.version_tree.proofs.Steps.{row_there, room_made, set_ready, latest_nowhere}
use Rattle.version_tree.proofs.Readiness.{has_room, room_keeps}
use Rattle.version_tree.proofs.Tree.reserve_version.Goals as goal

module _ (items : List Branch) (place : ℕ) (on : Branch) (within : place < length items) (there : get_or items place on ≡ on) where
  at : (d : Branch) → get_or items place d ≡ on
  at d = get_or_default items place d on within ∙ there

  row_on : (branch : ℕ) → Falls (map row_of_branch (reverse items))
      → slice_get items place ≡ find (λ x. eqb x.row branch) items → on.row ≡ branch
  row_on branch fall found = rw (at on) at (row_there items branch place fall within found on)

  -- the branch with more room takes its place
  roomier : (made : List Made) (b : Branch) (branch : ℕ) → InStep made (reverse items)
      → slice_get items place ≡ find (λ x. eqb x.row branch) items
      → b.row ≡ on.row → b.moment ≡ on.moment → b.later.items ≡ on.later.items → InStep made (reverse (set items place b))
  roomier made b branch step found row moment later = room_made made items place b branch step within found
      (row ∙ row_on branch step.branches_fall found) (λ d. moment ∙ ap (λ (x : Branch). x.moment) (sym (at d)))
      (λ d. later ∙ ap (λ (x : Branch). x.later.items) (sym (at d)))

  -- no branch has less room
  stays : (b : Branch) → b.row ≡ on.row → (has_room on ≡ true → has_room b ≡ true) → (q : ℕ)
      → list_any (λ b. eqb b q) (ready_branches items) ≡ true
      → list_any (λ b. eqb b q) (ready_branches (set items place b)) ≡ true
  stays b row more q is = room_keeps q items place b within (λ d. row ∙ ap (λ (x : Branch). x.row) (sym (at d)))
      (λ d room. more (rw (at d) at room)) is

-- the branch keeps its versions
pub invariant_of-self : goal.invariant_of-self
invariant_of-self c =
    let on = c.index_mut-on.result.now in
    let b : Branch = record { row = on.row; moment = on.moment; later = c.reserve.new.self } in
    roomier c.self.inside.branches.items c.in-Some.place on (search rules) (search rules) (reverse c.self.inside.made.items) b
    c.args.branch c.self.invariant (search rules) refl refl c.reserve.ensures.items

pub invariant_of-self-in_err-reserve : goal.invariant_of-self-in_err-reserve
invariant_of-self-in_err-reserve c =
    let on = c.index_mut-on.result.now in
    let b : Branch = record { row = on.row; moment = on.moment; later = c.reserve.new.self } in
    roomier c.self.inside.branches.items c.in-Some.place on (search rules) (search rules) (reverse c.self.inside.made.items) b
    c.args.branch c.self.invariant (search rules) refl refl c.reserve.ensures.items

pub returns-in_err-reserve-clause-stay : goal.returns-in_err-reserve-clause-stay
returns-in_err-reserve-clause-stay c =
    let on = c.index_mut-on.result.now in
    let b : Branch = record { row = on.row; moment = on.moment; later = c.reserve.new.self } in
    rw (← c.self.view_is) (stays c.self.inside.branches.items c.in-Some.place on (search rules) (search rules) b refl
    (λ roomy. grind (arith, nat_tests, roomy, c.reserve.ensures.len, c.reserve.ensures.capacity)))

pub returns-in_ok-reserve-clause-stay : goal.returns-in_ok-reserve-clause-stay
returns-in_ok-reserve-clause-stay c =
    let on = c.index_mut-on.result.now in
    let b : Branch = record { row = on.row; moment = on.moment; later = c.reserve.new.self } in
    rw (← c.self.view_is) (stays c.self.inside.branches.items c.in-Some.place on (search rules) (search rules) b refl
    (λ roomy. grind (arith, nat_tests, roomy, c.reserve.ensures.len, c.reserve.ensures.capacity)))

-- it has room
pub returns-in_ok-reserve-clause-ready : goal.returns-in_ok-reserve-clause-ready
returns-in_ok-reserve-clause-ready c =
    let items = c.self.inside.branches.items in
    let on = c.index_mut-on.result.now in
    let b : Branch = record { row = on.row; moment = on.moment; later = c.reserve.new.self } in
    let within : c.in-Some.place < length items = search rules in
    let row : on.row ≡ c.args.branch = row_on items c.in-Some.place on within (search rules) c.args.branch
    c.self.invariant.branches_fall (search rules) in
    let room : ltb (vec_len c.reserve.new.self) (vec_capacity c.reserve.new.self) ≡ true =
    grind (arith, nat_tests, common_steps, c.reserve.ensures.ok, c.in_ok-reserve.was) in
    λ there_is. set_ready items c.in-Some.place b c.args.branch within row room

-- there is no such branch
pub returns-in_default-clause-ready : goal.returns-in_default-clause-ready
returns-in_default-clause-ready c =
    let items = c.self.inside.branches.items in
    let missed : find (λ b. eqb b.row c.args.branch) items ≡ None = search rules in
    let nowhere : latest c.args.self.now.changes c.args.branch None ≡ None =
    rw (← c.self.view_is) (latest_nowhere (reverse c.self.inside.made.items) items c.args.branch c.self.invariant missed) in
    λ there_is. absurd (false≢true (rw nowhere at there_is))
