use Rattle.std.proofs.Common.{◌≡◌, ℕ, List, drop}
use Rattle.std.specs.HashMap.{get}
use Rattle.std.specs.Str.{bytes_eq}
use Rattle.make_text.specs.Numbered.{with_numbers}
use Rattle.make_text.proofs.numbers.number_paths.Given as goal

abbrev pub invariant-loop-path : goal.invariant-loop-path
invariant-loop-path l =
    (other : List ℕ) →
    with_numbers l.number (drop l.path-index l.paths) other (get bytes_eq l.numbers other)
    ≡ with_numbers l.number l.paths other (get bytes_eq l.initial.numbers other)
