use Rattle.std.proofs.Common.{◌+◌, ap, ◌∙◌, drop, sym}
use Rattle.std.specs.HashMap.{get}
use Rattle.std.specs.Str.{bytes_eq}
use Rattle.make_text.specs.Numbered.{with_numbers, number_or}
use Rattle.make_text.proofs.NumberLemmas.{numbered_more}
use Rattle.make_text.proofs.numbers.number_all.Goals as goal

pub loop-index-preserved : goal.loop-index-preserved
loop-index-preserved g c = λ path.
    let i = c.loop-index.index in
    let items = c.args.items.now in
    let targets = g.X.Makes.targets in
    let had = get bytes_eq c.loop-index.numbers path in
    ap (number_or targets (i + 1) path (drop (i + 1) items)) (c.in_ok-number_paths.ensures path
    ∙ ap (λ ps. with_numbers i ps path had) c.targets.ensures)
    ∙ numbered_more targets i path c.index-items-index.result items had _ c.loop-index-test.true (sym c.index-items-index.is)
    (c.loop-index.invariant path)
