use Rattle.std.proofs.Common.{◌≡◌, ◌++◌, take}
use Rattle.cc_names.proofs.copies.push_copies.Given as goal

abbrev pub invariant-loop-item : goal.invariant-loop-item
invariant-loop-item g l = l.onto.items ≡ l.initial.onto.items ++ take l.item-index l.items
