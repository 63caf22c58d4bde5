-- None of the first targets is the path.
use Rattle.std.proofs.Common.{◌≡◌, false, take}
use Rattle.base_model.specs.Closures.{is_path_among}
use Rattle.base_rows.proofs.objects.first_place.Given as goal

abbrev pub invariant-loop-place : goal.invariant-loop-place
invariant-loop-place l = is_path_among l.path (take l.place l.targets) ≡ false
