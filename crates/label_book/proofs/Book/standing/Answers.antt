-- A label that stands on a version of the element has an entry there, and so is among the element's labels.
use Rattle.std.proofs.Common.{◌≡◌, ℕ, Bool, true, false, List, Option, None, Some, Result, Ok, Err, map, refl, ap, ◌∙◌}
use Rattle.std.specs.Prelude.{IfOk}
use Rattle.std.specs.List.{list_all, list_any}
use Rattle.cc_names.specs.Labels.{holder, labels_of_first_rows}
use Rattle.label_book.specs.BookFields.{BookInStep}
use Rattle.label_book.specs.Holding.{MovesByPlace, all_changes, all_held, is_pair}
use Rattle.label_book.specs.Listed.{LabelLists, labels_listed}
use Rattle.label_book.specs.Standings.{AreStanding, is_placement, placements, plain, stands}
use Rattle.label_book.specs.declared.element_labels.Standing.{Standing}
use Rattle.label_book.proofs.Added.{holder_nowhere}
use Rattle.label_book.proofs.StandingLabels.{all_stand, any_found, listed_as, no_place}
use Rattle.label_book.proofs.Book.standing.Goals as goal

module _ (names : List (List ℕ)) (entries : List MovesByPlace) (lists : LabelLists) (step : BookInStep names entries lists)
    (rows e : ℕ) where
  abbrev holder_of : List ℕ → Option ℕ
  holder_of l = holder (labels_of_first_rows rows (all_changes (all_held names entries))) l e

  is_found : (l : List ℕ) (version : ℕ) → holder_of l ≡ Some version
      → list_any (is_placement l version) (placements names holder_of (labels_listed lists e)) ≡ true
  is_found l version is = by (list_any (is_pair l e) (all_held names entries)) refl
    where
      by : (any : Bool) → list_any (is_pair l e) (all_held names entries) ≡ any
          → list_any (is_placement l version) (placements names holder_of (labels_listed lists e)) ≡ true
      by true any =
          let there = listed_as names lists l e entries step.named step.listed any in
          any_found holder_of l version is names there.place there.named (labels_listed lists e) there.listed
      by false none =
          let nowhere : holder_of l ≡ None = holder_nowhere (all_held names entries) l e rows (no_place l e names entries none) in
          absurd (cc)

  are_standing : (found : List Standing) → map plain found ≡ placements names holder_of (labels_listed lists e)
      → AreStanding holder_of found
  are_standing found is = record {
    stand = ap (list_all (stands holder_of)) is ∙ all_stand holder_of names (labels_listed lists e);
    all = λ l version stands. ap (list_any (is_placement l version)) is ∙ is_found l version stands;
  }

carried : {X Y : Type 0} {P Q : X → Type 0} (result : Result X Y) → ((x : X) → P x → Q x) → IfOk result P → IfOk result Q
carried (Ok x) more is = more x is
carried (Err y) more is = tt

pub returns : goal.returns
returns c =
    let names = c.self.inside.labels.keys in
    let entries = c.self.inside.moves.entries in
    let lists = c.self.inside.lists.entries in
    let holds = holder_of names entries lists c.self.invariant c.args.rows c.args.element in
    rw (← c.self.view_is)
    (carried c.standing_at.result
    (λ found is. are_standing names entries lists c.self.invariant c.args.rows c.args.element found.items
    (is ∙ ap (placements names holds) c.labels_listed-places.ensures))
    (rw (← c.self.view_is) at c.standing_at.ensures))
