use Rattle.std.proofs.Common.{ap, ◌∙◌, subst, sym}
use Rattle.make_text.specs.Runs.{HasNamesApart}
use Rattle.make_grammar.specs.Statements.{macros_of}
use Rattle.make_text.proofs.MacroLemmas.{names_apart, macros_of_entries}
use Rattle.make_text.proofs.macros.MacroTable.len.Goals as goal

pub returns-clause-apart : goal.returns-clause-apart
returns-clause-apart c =
    subst HasNamesApart (sym (macros_of_entries c.self.inside.defined.entries) ∙ ap macros_of c.self.view_is)
    (names_apart c.self.inside.defined.entries c.len.ensures.unique)
