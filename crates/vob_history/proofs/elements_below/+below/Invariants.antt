use Rattle.std.proofs.Common.{◌≡◌, ℕ, ◌+◌, ◌*◌, ◌-◌, List}
use Rattle.std.specs.BTreeMap.{get}
use Rattle.std.specs.Cmp.Lexicographic.{slice_cmp}
use Rattle.std.specs.List.{list_any}
use Rattle.std.specs.Ordering.{nat_cmp}
use Rattle.vob_history.specs.ElementsBelow.{seen_where}
use Rattle.vob_history.proofs.ElementsBelow.{lies_named}
use Rattle.vob_history.proofs.elements_below.+below.Given as goal

abbrev pub decreases-add_elements : goal.decreases-add_elements
decreases-add_elements l = 2 * l.depth

abbrev pub decreases-add_named : goal.decreases-add_named
decreases-add_named l = 2 * l.depth + 1

-- what is found with what lies below the names that are left
abbrev pub invariant-add_elements-loop-name : goal.invariant-add_elements-loop-name
invariant-add_elements-loop-name l =
    (q : List ℕ) → seen_where (list_any (lies_named l.rows l.view (l.depth - 1) l.path q) l.name-iterator) l.rows l.view q
    (get (slice_cmp nat_cmp) l.found q)
    ≡ seen_where (list_any (lies_named l.rows l.view (l.depth - 1) l.path q) l.initial.name-iterator) l.rows l.view q
    (get (slice_cmp nat_cmp) l.initial.found q)
