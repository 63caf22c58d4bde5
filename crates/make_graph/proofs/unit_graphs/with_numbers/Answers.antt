use Rattle.std.proofs.Common.{ap, subst, ◌∙◌, List, length, map, rules}
use Rattle.std.specs.HashMap.{get}
use Rattle.std.specs.List.{filter_map, range_with_len}
use Rattle.std.specs.Str.{bytes_eq}
use Rattle.cc_names.specs.declared.units.Unit.{Unit}
use Rattle.make_graph.specs.NumberSets.{AreClosures}
use Rattle.make_graph.specs.Waits.{unit_of, dependants_of}
use Rattle.make_graph.proofs.MakerLemmas.{found_makers}
use Rattle.make_graph.proofs.unit_graphs.with_numbers.Goals as goal

pub invariant_of-result : goal.invariant_of-result
invariant_of-result c =
    let found = get bytes_eq c.in_ok-numbers.numbers in
    record {
      few = search rules;
      knows = search rules;
      made_by =
          c.in_ok-makers.ensures
          ∙ (ap (λ (units : List Unit). map (λ (unit : Unit). filter_map found unit.prerequisites) units)
          c.as_slice-2.ensures.value
          ∙ found_makers c.args.units.items found (λ path. c.in_ok-numbers.ensures path
          ∙ ap (λ (units : List Unit). unit_of units path) c.as_slice.ensures.value));
      wait =
          c.in_ok-dependants.ensures
          ∙ ap (λ (units : List Unit). map (dependants_of units) (range_with_len 0 (length units))) c.as_slice-3.ensures.value;
      stand = subst (λ (units : List Unit). AreClosures units c.in_ok-closures.closures.items) c.as_slice-5.ensures.value
          c.in_ok-closures.ensures;
    }
