use Rattle.std.proofs.Common.{ap, ◌∙◌}
use Rattle.make_grammar.specs.Statements.{has_fixed}
use Rattle.make_text.proofs.MacroLemmas.{is_fixed_in, fixed_of}
use Rattle.make_text.proofs.macros.MacroTable.has_fixed.Goals as goal

pub returns-in-Some : goal.returns-in-Some
returns-in-Some c =
    ap is_fixed_in c.in-Some.ensures.value
    ∙ fixed_of c.self.inside.defined.entries c.args.name.now
    ∙ ap (λ m. has_fixed m c.args.name.now) c.self.view_is

pub returns-in-None : goal.returns-in-None
returns-in-None c =
    ap is_fixed_in c.in-None.ensures.value
    ∙ fixed_of c.self.inside.defined.entries c.args.name.now
    ∙ ap (λ m. has_fixed m c.args.name.now) c.self.view_is
