-- What the code's own record of how far a run has come stands for.
use Rattle.std.specs.Prelude.{◌≡◌, ℕ, List}
use Rattle.std.specs.List.{list_any}
use Rattle.std.specs.Str.{bytes_eq}
use Rattle.script_grammar.specs.Parts.{own_of}
use Rattle.script_grammar.specs.Run.{State}
use Rattle.build_script.specs.declared.progress.Progress.{Progress}

-- a run by the code's record of it
abbrev pub run_state : Progress → State
run_state progress = record { own = own_of progress.written; probes = progress.probes }

-- the same paths are among these as among those
pub record HoldsEach (paths targets : List (List ℕ)) : Type 0 where
  pub same : (path : List ℕ) → list_any (λ target. bytes_eq target path) paths ≡ list_any (λ target. bytes_eq target path) targets
