-- No targets differ.
use Rattle.std.proofs.Common.{[], arith, bytes_eq, rules}
use Rattle.std.proofs.lemmas.Grind.{common_steps}
use Rattle.std.specs.List.{IsDistinct}
use Rattle.base_rows.proofs.objects.targets_of.Goals as goal

none_differ : IsDistinct bytes_eq []
unfolding IsDistinct
none_differ = tt

pub returns-in-None-clause-distinct : goal.returns-in-None-clause-distinct
returns-in-None-clause-distinct c = none_differ

pub returns-in_default : goal.returns-in_default
returns-in_default c = record {
  targets = first_of (search rules, grind (arith, common_steps));
  below = tt;
  distinct = none_differ;
}
