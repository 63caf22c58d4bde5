use Rattle.std.proofs.Common.{ap, ◌∙◌, sym, not, ◌&&◌}
use Rattle.make_text.specs.MacroEntries.{definition_in, definitions_in}
use Rattle.make_grammar.specs.Statements.{has_fixed, with_definition}
use Rattle.make_text.proofs.MacroLemmas.{kept, added}
use Rattle.make_text.proofs.macros.MacroTable.define.Goals as goal

pub returns-then-keeps : goal.returns-then-keeps
returns-then-keeps c = kept (definition_in (c.args.name, c.args.defined)) c.args.self.now (sym c.if-keeps.ensures)

pub returns : goal.returns
returns c =
    ap definitions_in c.in_ok-insert.ensures.entries
    ∙ added c.self.inside.defined.entries c.args.name c.args.defined (ap
    (λ m. not c.args.defined.is_fixed && has_fixed m c.args.name) c.self.view_is ∙ sym c.if-keeps.ensures)
    ∙ ap (with_definition (definition_in (c.args.name, c.args.defined))) c.self.view_is
