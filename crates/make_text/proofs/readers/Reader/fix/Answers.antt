use Rattle.make_text.specs.Readers.{KeepsScripted}
use Rattle.make_grammar.specs.Statements.{macro_fault}
use Rattle.make_text.proofs.ReaderLemmas.{made_keeps}
use Rattle.make_text.proofs.readers.Reader.fix.Goals as goal

pub invariant_of-self : goal.invariant_of-self
invariant_of-self c =
    made_keeps c.fix.new.self _ c.args.file.now.value 0 (macro_fault c.args.fixed.now.name c.args.fixed.now.value)
    (KeepsScripted c.self.inside.scripted.keys) c.in-Ok.ensures c.self.invariant
