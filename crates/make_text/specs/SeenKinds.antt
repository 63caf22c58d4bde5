-- The kind of a line as contracts see it, and how it is found byte by byte.
use Rattle.std.specs.Prelude.{ℕ, List, ◌++◌, reverse}
use Rattle.make_grammar.specs.LogicalLines.{past_blanks}
use Rattle.make_grammar.specs.LineKinds.{Kind, Blank, Include, Assignment, Rule, Unclosed, Neither}
use Rattle.make_text.specs.declared.line_kinds.Kind as lent
use Rattle.make_text.specs.declared.line_kinds.Kind.TheVariants as variants

-- a kind by the bytes that it lends
abbrev pub kind_of_lent : lent.Kind → Kind
kind_of_lent variants.Blank = Blank
kind_of_lent (variants.Include behind) = Include behind.now
kind_of_lent (variants.Assignment before behind) = Assignment before.now behind.now
kind_of_lent (variants.Rule before behind) = Rule before.now behind.now
kind_of_lent variants.Unclosed = Unclosed
kind_of_lent variants.Neither = Neither

-- bytes before what stands before the `=` or `:`
abbrev pub onto : List ℕ → Kind → Kind
onto bytes (Assignment before behind) = Assignment (bytes ++ before) behind
onto bytes (Rule before behind) = Rule (bytes ++ before) behind
onto bytes kind = kind

-- bytes without the blanks at their end
abbrev pub past_end_blanks : List ℕ → List ℕ
past_end_blanks bytes = reverse (past_blanks (reverse bytes))
