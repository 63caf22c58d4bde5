use Rattle.std.proofs.Common.{◌≡◌, ◌++◌, ℕ, List, drop, map}
use Rattle.cc_names.specs.Labels.{holder, labels_of_first_rows}
use Rattle.label_book.specs.Standings.{placements, plain}
use Rattle.label_book.proofs.Book.standing_at.Given as goal

-- with those that are left they come to all
abbrev pub invariant-loop-place : goal.invariant-loop-place
invariant-loop-place l =
    let held = λ (label : List ℕ). holder (labels_of_first_rows l.rows l.self.changes) label l.element in
    map plain l.found.items ++ placements l.labels.keys held (drop l.place-index l.places)
    ≡ placements l.labels.keys held l.places
