use Rattle.std.proofs.Common.{◌≡◌, suc, ◌++◌, drop}
use Rattle.checkout_desk.specs.Dues.{due_from}
use Rattle.checkout_desk.proofs.scrubs.due_objects.Given as goal

-- what was found, and then what is due among the rows that are left
abbrev pub invariant-loop-row : goal.invariant-loop-row
invariant-loop-row l = record {
  number : l.number ≡ l.row-index;
  found : l.objects.items ++ due_from l.rows l.moment l.age (suc l.number) (drop l.row-index l.all)
      ≡ due_from l.rows l.moment l.age 1 l.all;
}
