use Rattle.std.proofs.Common.{ap, ◌∙◌, subst, sym}
use Rattle.std.specs.List.{IsDistinct, list_all}
use Rattle.std.specs.Str.{bytes_eq}
use Rattle.make_grammar.specs.Statements.{is_suffix}
use Rattle.make_text.proofs.suffixes.Suffixes.len.Goals as goal

pub returns-clause-apart : goal.returns-clause-apart
returns-clause-apart c = subst (IsDistinct bytes_eq) c.self.view_is c.len.ensures.unique

pub returns-clause-suffixes : goal.returns-clause-suffixes
returns-clause-suffixes c = ap (list_all is_suffix) (sym c.self.view_is) ∙ c.self.invariant
