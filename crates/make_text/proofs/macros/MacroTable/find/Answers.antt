use Rattle.std.proofs.Common.{ap, ◌∙◌, map, subst, sym}
use Rattle.std.specs.List.{position}
use Rattle.std.specs.Str.{bytes_eq}
use Rattle.make_text.specs.Runs.{IsMacroFound}
use Rattle.make_grammar.specs.Statements.{macros_of}
use Rattle.make_text.proofs.MacroLemmas.{found, macros_of_entries}
use Rattle.make_text.proofs.macros.MacroTable.find.Goals as goal

pub returns : goal.returns
returns c =
    let at = c.get_index_of.ensures.index in
    subst (λ m. IsMacroFound m c.args.name.now c.get_index_of.result) (sym (macros_of_entries c.self.inside.defined.entries)
    ∙ ap macros_of c.self.view_is)
    (found c.self.inside.defined.entries c.args.name.now c.get_index_of.result
    (at ∙ ap (λ k. position (bytes_eq k) (map (λ e. e.0) c.self.inside.defined.entries)) c.in_ok-name.ensures))
