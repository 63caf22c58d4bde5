-- What is kept of the view is what it sees in the first rows.
use Rattle.std.proofs.Common.{reverse, ap, sym, subst}
use Rattle.base_model.specs.Rows.{Base}
use Rattle.base_rows.specs.SeenFiles.{AreSeen}
use Rattle.base_rows.specs.Shown.{Shown}
use Rattle.base_rows.proofs.bases.Rows.keep_seen.Goals as goal

pub invariant_of-self : goal.invariant_of-self
invariant_of-self c = record {
  fitting = c.self.invariant.fitting;
  marks = c.self.invariant.marks;
  trees = c.self.invariant.trees;
  labelled = c.self.invariant.labelled;
  specs = c.self.invariant.specs;
  listed = c.self.invariant.listed;
  ordered = c.self.invariant.ordered;
  seen = c.put_seen.ensures (reverse c.self.inside.rows.items) c.self.invariant.seen
      (subst (λ (b : Base). AreSeen b c.args.seen.0 c.args.seen.1) (sym (ap (λ (shown : Shown). shown.base) c.self.view_is))
      c.requires);
}
