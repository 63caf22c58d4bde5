-- The search finds the place of the element, where it has one.
use Rattle.std.proofs.Common.{◌≡◌, ◌<◌, ◌≤◌, ◌==◌, length, get_or, nat_lt, false, is_some, Some, sym, ap, ◌∙◌, arith, rules}
use Rattle.std.proofs.lemmas.Bool.{ltb-true}
use Rattle.std.proofs.lemmas.Bool.Decides.{nat_tests}
use Rattle.cc_names.specs.Formed.{element_of}
use Rattle.cc_names.specs.declared.rows.Placed.{Placed}
use Rattle.view_lookup.proofs.PlacedFinds.{find_another, find_here, find_none}
use Rattle.view_lookup.proofs.history.placed_on.Goals as goal
use Rattle.view_lookup.proofs.history.placed_on.Goals.{in_default-via-in-Some+else-one-element, in_default-via-in_default}

pub returns-in-Some : goal.returns-in-Some
returns-in-Some c =
    let placed = c.args.placed.now in
    let i = c.count_before.result in
    let one = c.in-Some.one.now in
    let within : i < length placed = search rules in
    let there : get_or placed i one ≡ one = search rules in
    let same : element_of (get_or placed i one) ≡ c.args.element = ap element_of there ∙ c.if-one-element.true in
    ap Some (sym there)
    ∙ sym (find_here placed c.requires c.args.element i c.count_before.ensures.before one within same)

-- it has none
pub returns-in_default : goal.returns-in_default
returns-in_default c = elim c.in_default.branch [
  | in_default-via-in-Some+else-one-element w ↦
      let placed = c.args.placed.now in
      let i = c.count_before.result in
      let one = w.in-Some.one.now in
      let within : i < length placed = ltb-true i (length placed) (sym w.in-Some.ensures.lookup.0) in
      let there : get_or placed i one ≡ one = sym w.in-Some.ensures.lookup.1 in
      let other : (one.element == c.args.element) ≡ false = grind (arith, nat_tests, w.if-one-element.false) in
      sym (find_another placed c.requires c.args.element i c.count_before.ensures.before one within
      (ap (λ (at : Placed). at.element == c.args.element) there ∙ other))
  | in_default-via-in_default w ↦
      let beyond : nat_lt c.count_before.result (length c.args.placed.now) ≡ false = sym c.get.ensures.lookup.0
      ∙ ap is_some w.in_default.is in
      let past : length c.args.placed.now ≤ c.count_before.result = grind (arith, nat_tests) in
      sym (find_none c.args.placed.now c.requires c.args.element c.count_before.result c.count_before.ensures.before past)
]
