-- The labels that the book has on the element at these rows.
use Rattle.std.proofs.Common.{◌≡◌, ℕ, ◌&&◌, List, [], ◌∷◌, Option, Result, Ok, Err, map, refl, sym, ap, ap₂, ◌∙◌}
use Rattle.std.specs.List.{list_all}
use Rattle.std.specs.Prelude.{IfOk}
use Rattle.cc_names.specs.Labels.{holder, labels_of_first_rows}
use Rattle.cc_names.specs.Versions.{is_number}
use Rattle.base_model.specs.Changes.{labels}
use Rattle.label_book.specs.Standings.{AreStanding, Placement, plain, stands}
use Rattle.label_book.specs.declared.element_labels.Standing.{Standing}
use Rattle.base_rows.proofs.labels.standing_labels.Goals as goal

module _ (one two : List ℕ → Option ℕ) (agree : (l : List ℕ) → one l ≡ two l) where
  same_stand : (found : List Placement) → list_all (stands one) found ≡ list_all (stands two) found
  same_stand [] = refl
  same_stand (placement ∷ found) = ap₂ (λ here rest. here && rest) (ap (is_number placement.1) (agree placement.0))
      (same_stand found)

  same_labels : (found : List Standing) → AreStanding one found → AreStanding two found
  same_labels found are = record {
    stand = sym (same_stand (map plain found)) ∙ are.stand;
    all = λ l version is. are.all l version (agree l ∙ is);
  }

carried : {X Y : Type 0} {P Q : X → Type 0} (result : Result X Y) → ((x : X) → P x → Q x) → IfOk result P → IfOk result Q
carried (Ok x) more is = more x is
carried (Err y) more is = tt

pub returns : goal.returns
returns c =
    let e = c.args.element in
    let changes = c.labels.result.now.changes in
    let before : List ℕ → Option ℕ = λ l. holder (labels_of_first_rows c.size.result changes) l e in
    let after : List ℕ → Option ℕ = λ l. holder (labels c.args.rows.now) l e in
    carried c.standing.result
    (λ found are. same_labels before after
    (λ l. ap (λ n. holder (labels_of_first_rows n changes) l e) c.size.ensures.size ∙ c.labels.ensures l e) found.items are)
    c.standing.ensures
