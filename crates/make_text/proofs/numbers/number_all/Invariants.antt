use Rattle.std.proofs.Common.{◌≡◌, ℕ, List, drop}
use Rattle.std.specs.HashMap.{get}
use Rattle.std.specs.Str.{bytes_eq}
use Rattle.make_grammar.specs.Numbers.{number_from}
use Rattle.make_text.specs.Numbered.{number_or}
use Rattle.make_text.proofs.numbers.number_all.Given as goal

abbrev pub invariant-loop-index : goal.invariant-loop-index
invariant-loop-index g l =
    (path : List ℕ) → number_or g.X.Makes.targets l.index path (drop l.index l.items) (get bytes_eq l.numbers path)
    ≡ number_from g.X.Makes.targets 0 path l.items
