use Rattle.std.proofs.Common.{◌≡◌, ◌++◌, drop}
use Rattle.std.specs.Prelude.{fold}
use Rattle.std.specs.Hash.{u64}
use Rattle.std.specs.Hash.DefaultHasher.{write}
use Rattle.std.specs.RandomState.{initial_hasher}
use Rattle.base_rows.specs.NumberKeys.{path_writes}
use Rattle.base_rows.proofs.number_keys.key_by_paths.Given as goal

-- what is left to write is that of the paths that are left
abbrev pub invariant-loop-path : goal.invariant-loop-path
invariant-loop-path l =
    fold write l.hasher (path_writes (drop l.path-index l.paths)) ≡ fold write (initial_hasher l.fn.hashing)
    (u64 l.number ++ path_writes l.paths)
