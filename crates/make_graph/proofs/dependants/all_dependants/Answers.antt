use Rattle.std.proofs.Common.{◌≡◌, ℕ, ap, subst, ◌∙◌, ◌++◌, [], List, length, take, drop, get_or, arith}
use Rattle.std.proofs.lemmas.List.{length-map, take_at}
use Rattle.std.proofs.lemmas.List.FromFn.{fill_by_all}
use Rattle.cc_names.specs.declared.units.Unit.{Unit}
use Rattle.make_graph.specs.Dependants.{NamesDependant}
use Rattle.make_graph.specs.Waits.{dependants_of, is_in, makers_of}
use Rattle.make_graph.proofs.DependantLemmas.{dependants_before, dependants_more}
use Rattle.make_graph.proofs.CachedLemmas.{maker_at}
use Rattle.make_graph.proofs.dependants.all_dependants.Goals as goal

pub loop-unit-preserved : goal.loop-unit-preserved
loop-unit-preserved c =
    let units = c.args._units.now in
    let makers = c.args.makers.now in
    let unit = c.loop-unit.unit in
    let all = c.loop-unit.all.items in
    let new = c.name_all.new.all in
    let names : NamesDependant (is_in c.as_slice.result.now) unit all new =
    subst (λ (l : List (List ℕ)). NamesDependant (is_in c.as_slice.result.now) unit l new) c.as_mut_slice.ensures.value
    c.in_ok-name_all.ensures in
    let size : length new ≡ length all = names.size in
    let kept : take c.loop-unit.all.len (new ++ drop (length new) all) ≡ new =
    take_at new (drop (length new) all) c.loop-unit.all.len (omega arith) in
    let made = c.as_slice.ensures ∙ maker_at units makers unit c.index-makers-unit.result c.requires.makers c.loop-unit-test.true
    c.index-makers-unit.is in
    record {
      size = ap length kept ∙ (size ∙ c.loop-unit.invariant.size);
      lists = λ m h.
          ap (λ (l : List (List ℕ)). get_or l m []) kept
          ∙ dependants_more units unit c.as_slice.result.now all new made c.loop-unit.invariant.lists names m
          (omega (arith, h, ap length kept, size));
    }

pub returns : goal.returns
returns c =
    let units = c.args._units.now in
    let all = c.loop-unit.all.items in
    let makers : length c.args.makers.now ≡ length units = ap length c.requires.makers
    ∙ length-map units (λ (unit : Unit). makers_of units unit.prerequisites) in
    let size : length all ≡ length units = c.loop-unit.invariant.size ∙ makers in
    let end : c.loop-unit.unit ≡ length units = omega arith in
    fill_by_all (dependants_of units) all (length units) [] size
    (λ m h. c.loop-unit.invariant.lists m (omega (arith, h, size)) ∙ ap (λ k. dependants_before units k m) end)
