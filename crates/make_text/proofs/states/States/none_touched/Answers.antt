use Rattle.std.specs.BTreeMap.{get}
use Rattle.std.specs.Ordering.{nat_cmp}
use Rattle.make_text.proofs.StateLemmas.{none_touched, empty_known}
use Rattle.make_text.proofs.states.States.none_touched.Goals as goal

pub returns : goal.returns
returns c = none_touched (get nat_cmp c.new.result) 0 c.args.count (empty_known c.new.result c.new.ensures.empty)
