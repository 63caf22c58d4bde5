use Rattle.std.proofs.Common.{◌≡◌, drop}
use Rattle.vob_replica.specs.Tables.{raised_by, Ascends, IsWithin}
use Rattle.vob_replica.proofs.tables.Table.raise_all.Given as goal

abbrev pub invariant-loop-other : goal.invariant-loop-other
invariant-loop-other l = record {
  same : raised_by l.self (drop l.other-index l.others) ≡ raised_by l.initial.self l.others;
  risen : IsWithin l.initial.self l.self;
  ascends : Ascends l.self;
}
