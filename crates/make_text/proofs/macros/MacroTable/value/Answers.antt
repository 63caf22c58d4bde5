use Rattle.std.proofs.Common.{◌≡◌, ap, ◌∙◌, subst, sym}
use Rattle.make_text.specs.Runs.{macro_at}
use Rattle.make_grammar.specs.Statements.{macros_of}
use Rattle.make_text.proofs.MacroLemmas.{macros_of_entries, value_at}
use Rattle.make_text.proofs.macros.MacroTable.value.Goals as goal

pub returns : goal.returns
returns c =
    subst (λ m. c.as_bytes.result.now ≡ (macro_at m c.args.index).value) (sym (macros_of_entries c.self.inside.defined.entries)
    ∙ ap macros_of c.self.view_is)
    (c.as_bytes.ensures ∙ sym (value_at c.self.inside.defined.entries c.args.index (
      c.in-Some.field-0-0.now,
      c.in-Some.defined.now,
    ) (sym c.in-Some.ensures.entry)))
