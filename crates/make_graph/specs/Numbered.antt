-- What the rules of a makefile make, by their numbers.
use Rattle.std.specs.Prelude.{◌≡◌, ℕ, List}
use Rattle.std.specs.declared.random_state.RandomState.{RandomState}
use Rattle.std.specs.HashMap.{HashMap, get}
use Rattle.std.specs.Str.{bytes_eq}
use Rattle.make_grammar.specs.Contents.{Contents}
use Rattle.make_grammar.specs.Numbers.{number_from}
use Rattle.make_grammar.specs.Units.{targets_of}

-- the map has the number of each target of a rule
abbrev pub KnowsRules : HashMap (List ℕ) ℕ RandomState → Contents → Type 0
KnowsRules numbers make = (path : List ℕ) → get bytes_eq numbers path ≡ number_from targets_of 0 path make.rules
