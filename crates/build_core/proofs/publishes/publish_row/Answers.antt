-- The row of the unit's publish.
use Rattle.std.proofs.Common.{rules, ◌≡◌, Some, ap, subst}
use Rattle.cc_names.specs.Formed.{IsDeedFormed}
use Rattle.cc_names.specs.declared.rows.Deed.TheVariants as deeds
use Rattle.legal_history.specs.Builds.Active.{unit_at}
use Rattle.build_core.proofs.RunsPublished.{at_index, deed_of_run, published_formed, row_published}
use Rattle.build_core.proofs.publishes.publish_row.Goals as goal

pub of-requires : goal.of-requires
of-requires c =
    let build = c.args.build.now in
    let unit = c.index-units-unit.result in
    let is : unit_at build c.args.unit ≡ Some unit = at_index build.units c.args.unit unit c.requires.unit
    (cc (c.index-units-unit.is, c.units.ensures)) in
    let same : deed_of_run build unit c.in_ok-found.found.entries c.args.outputs
    ≡ deeds.Publish c.in_ok-copy.field-0 c.in_ok-copy-2.field-0 c.in_ok-from_bytes.field-0 c.in_ok-entries.entries
    c.args.outputs =
    cc (
      c.in_ok-copy.ensures.copy,
      c.view.ensures,
      c.in_ok-copy-2.ensures,
      c.in_ok-from_bytes.ensures,
      c.script_text.ensures,
      c.in_ok-entries.ensures,
    ) in
    record {
      tag = search rules;
      moment = c.requires.moment;
      deed = subst IsDeedFormed same (published_formed c.args.rows.now build c.args.unit unit c.args.outputs c.args.reads.now
          c.in_ok-found.found.entries c.size.ensures.base (c.requires.formed unit is) (c.requires.ran unit is)
          (c.in_ok-found.ensures unit is));
    }

pub returns : goal.returns
returns c = λ it is.
    let build = c.args.build.now in
    let unit = c.index-units-unit.result in
    let found = c.in_ok-found.found.entries in
    let at : unit_at build c.args.unit ≡ Some unit = at_index build.units c.args.unit unit c.requires.unit
    (cc (c.index-units-unit.is, c.units.ensures)) in
    let same : unit ≡ it = cc in
    let deed : deeds.Publish c.in_ok-copy.field-0 c.in_ok-copy-2.field-0 c.in_ok-from_bytes.field-0 c.in_ok-entries.entries
    c.args.outputs ≡ deed_of_run build unit found c.args.outputs =
    cc (
      c.in_ok-copy.ensures.copy,
      c.view.ensures,
      c.in_ok-copy-2.ensures,
      c.in_ok-from_bytes.ensures,
      c.script_text.ensures,
      c.in_ok-entries.ensures,
    ) in
    row_published c.args.rows.now build c.args.unit it c.args.moment c.args.outputs c.args.reads.now found c.of.result
    (c.requires.ran it is) (c.in_ok-found.ensures it is)
    (cc (c.of.ensures, c.tag.ensures, deed, ap (λ u. deed_of_run build u found c.args.outputs) same))
