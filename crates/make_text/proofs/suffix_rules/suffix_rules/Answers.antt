use Rattle.std.proofs.Common.{◌≡◌, ap, ◌∙◌}
use Rattle.make_text.specs.declared.suffix_order.Side.TheVariants.{From, To}
use Rattle.make_text.specs.SuffixOrder.{in_order}
use Rattle.make_text.proofs.OrderLemmas.{rules_in_order}
use Rattle.make_text.proofs.suffix_rules.suffix_rules.Goals as goal

pub returns : goal.returns
returns c =
    rw (
      c.in_ok-ordered.ensures,
      c.in_ok-by_second.ensures,
      c.in_ok-placed.ensures,
      c.len-count.ensures.count,
      rules_in_order c.args.suffixes.now c.args.rules.now c.len-count.ensures.suffixes c.len-count.ensures.apart,
    ) at c.without_places.ensures
