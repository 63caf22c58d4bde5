use Rattle.std.proofs.Common.{ap, ◌∙◌, option_copied}
use Rattle.make_grammar.specs.Contents.{unless_too_long, expansion}
use Rattle.make_grammar.specs.Macros.{expansion_of}
use Rattle.make_grammar.specs.Statements.{macros_of}
use Rattle.make_text.proofs.contents.Makefile.expand.Goals as goal

pub returns : goal.returns
returns c =
    c.answer_expansion.ensures _ c.in_ok-expand.ensures
    ∙ (ap (λ a. unless_too_long (expansion_of (macros_of c.self.inside.macros) a c.args.script.now))
    c.automatic_of-automatic.ensures
    ∙ ap (λ m. expansion m c.args.script.now c.args.target.now (option_copied c.args.first) c.args.stem.now) c.self.view_is)
