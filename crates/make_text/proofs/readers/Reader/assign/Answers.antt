use Rattle.make_text.specs.Readers.{KeepsScripted}
use Rattle.make_grammar.specs.Statements.{macro_fault}
use Rattle.make_text.proofs.ReaderLemmas.{made_keeps}
use Rattle.make_text.proofs.readers.Reader.assign.Goals as goal

pub invariant_of-self : goal.invariant_of-self
invariant_of-self c =
    made_keeps c.assign.new.self _ c.args.file.now.value c.args.line (macro_fault c.args.name.now c.args.value.now)
    (KeepsScripted c.self.inside.scripted.keys) c.in-Ok.ensures c.self.invariant
