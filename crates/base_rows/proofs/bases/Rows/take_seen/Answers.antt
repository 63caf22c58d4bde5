-- What is left of the views is what they see.
use Rattle.std.proofs.Common.{reverse}
use Rattle.base_rows.proofs.bases.Rows.take_seen.Goals as goal

pub invariant_of-self : goal.invariant_of-self
invariant_of-self c = record {
  fitting = c.self.invariant.fitting;
  marks = c.self.invariant.marks;
  trees = c.self.invariant.trees;
  labelled = c.self.invariant.labelled;
  specs = c.self.invariant.specs;
  listed = c.self.invariant.listed;
  ordered = c.self.invariant.ordered;
  seen = c.take_seen.ensures.left (reverse c.self.inside.rows.items) c.self.invariant.seen;
}
