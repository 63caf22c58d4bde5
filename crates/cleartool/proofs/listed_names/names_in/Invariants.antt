use Rattle.std.proofs.Common.{◌≡◌, ℕ, true, false, List}
use Rattle.base_model.specs.Closures.{is_path_among}
use Rattle.view_lookup.specs.GivenNames.{was_named}
use Rattle.cleartool.specs.Listed.{lies_in}
use Rattle.cleartool.proofs.listed_names.names_in.Given as goal

-- the names that were given are there, and those of the paths that are not left
abbrev pub invariant-loop-path : goal.invariant-loop-path
invariant-loop-path l = record {
  given : (name : List ℕ) → was_named l.element name l.rows ≡ true → is_path_among name l.names.keys ≡ true;
  own : (path name : List ℕ) → is_path_among path l.initial.path-iterator ≡ true → is_path_among path l.path-iterator ≡ false
      → lies_in l.directory name path ≡ true → is_path_among name l.names.keys ≡ true;
}
