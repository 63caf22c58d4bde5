-- That a run depends on the files at its reads alone.
use Rattle.std.specs.Prelude.{◌≡◌, ℕ, List}
use Rattle.std.specs.List.{AllByRecursion}
use Rattle.cc_names.specs.Files.{Files}
use Rattle.script_grammar.specs.Run.{run}

-- two files have the same text, or both none, at each of these paths
pub record Agree (one other : Files) (paths : List (List ℕ)) : Type 0 where
  pub at : AllByRecursion (λ path. one path ≡ other path) paths

-- The law of the frame: where two files agree at the reads of a run over the one, its run over the other is equal.
pub record IsFramed (script : List ℕ) (targets : List (List ℕ)) : Type 0 where
  pub equal : (one other : Files) → Agree one other (run script targets one).reads
      → run script targets one ≡ run script targets other
