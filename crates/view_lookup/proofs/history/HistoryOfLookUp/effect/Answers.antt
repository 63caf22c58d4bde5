-- A row puts a label on versions in the order of their elements.
use Rattle.std.proofs.Common.{List, map, sym, subst}
use Rattle.std.specs.List.Sorted.{IsStrictlySortedBy}
use Rattle.std.specs.Ordering.{nat_cmp}
use Rattle.cc_names.specs.Formed.{IsDeedFormed, element_of}
use Rattle.cc_names.specs.declared.rows.Placed.{Placed}
use Rattle.view_lookup.proofs.history.HistoryOfLookUp.effect.Goals as goal

pub is_placed_on-is_in_history-requires : goal.is_placed_on-is_in_history-requires
is_placed_on-is_in_history-requires c =
    subst (λ (placed : List Placed). IsStrictlySortedBy nat_cmp (map element_of placed)) (sym c.as_slice.ensures)
    (subst IsDeedFormed c.in-Labels.is c.requires).3
