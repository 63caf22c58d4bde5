use Rattle.std.proofs.Common.{◌≡◌, ℕ, ◌<◌, ap, ◌∙◌, List, [], length, get_or, arith, zero-add}
use Rattle.std.proofs.lemmas.List.{get_or_default}
use Rattle.std.proofs.lemmas.List.FromFn.{length-map-range_with_len, get_or-map-range_with_len}
use Rattle.cc_names.specs.declared.units.Unit.{Unit}
use Rattle.make_graph.specs.Waits.{dependants_of}
use Rattle.make_graph.proofs.unit_graphs.Graph.dependants.Goals as goal

pub index-requires : goal.index-requires
index-requires c =
    let units = c.self.inside.units.items in
    omega (
      arith,
      c.requires,
      ap length c.self.view_is,
      ap length c.self.invariant.wait,
      length-map-range_with_len (dependants_of units) 0 (length units),
    )

pub returns : goal.returns
returns c =
    let units = c.self.inside.units.items in
    let lists = c.self.inside.dependants.items in
    let within : c.args.unit < length units = omega (arith, c.requires, ap length c.self.view_is) in
    let held : length lists ≡ length units = ap length c.self.invariant.wait
    ∙ length-map-range_with_len (dependants_of units) 0 (length units) in
    c.as_slice.ensures
    ∙ (c.index.ensures
    ∙ (get_or_default lists c.args.unit c.index.result.now [] (omega (arith, held, within))
    ∙ (ap (λ (l : List (List ℕ)). get_or l c.args.unit []) c.self.invariant.wait
    ∙ (get_or-map-range_with_len (dependants_of units) 0 (length units) c.args.unit c.args.unit [] within (zero-add c.args.unit)
    ∙ ap (λ (u : List Unit). dependants_of u c.args.unit) c.self.view_is))))
