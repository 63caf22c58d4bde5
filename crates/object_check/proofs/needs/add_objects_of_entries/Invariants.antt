use Rattle.std.proofs.Common.{◌≡◌, ◌||◌, ℕ, drop}
use Rattle.std.specs.BTreeSet.{contains}
use Rattle.std.specs.Ordering.{nat_cmp}
use Rattle.object_check.specs.Needed.{name_object}
use Rattle.object_check.proofs.needs.add_objects_of_entries.Given as goal

-- the objects of the entries that are left, and those that were added
abbrev pub invariant-loop-entry : goal.invariant-loop-entry
invariant-loop-entry l =
    (id : ℕ) → (name_object l.rows (drop l.entry-index l.entries) id || contains nat_cmp l.needed id)
    ≡ (name_object l.rows l.entries id || contains nat_cmp l.initial.needed id)
