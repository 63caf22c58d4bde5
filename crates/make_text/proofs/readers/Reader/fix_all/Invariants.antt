use Rattle.std.proofs.Common.{◌≡◌, drop}
use Rattle.make_grammar.specs.Grammar.{with_overrides}
use Rattle.make_text.proofs.readers.Reader.fix_all.Given as goal

abbrev pub invariant-loop-fixed : goal.invariant-loop-fixed
invariant-loop-fixed l =
    with_overrides l.file.value (drop l.fixed-index l.overrides) l.reader ≡ with_overrides l.file.value l.overrides l.fn.self
