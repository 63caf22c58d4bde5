use Rattle.std.proofs.Common.{◌≡◌, ◌+◌, length}
use Rattle.std.specs.List.{slice_split}
use Rattle.cc_names.specs.Paths.{first_fault, is_slash}
use Rattle.cc_names.proofs.paths.first_fault.Given as goal

abbrev pub invariant-rest : goal.invariant-rest
invariant-rest l =
    record {
      place : l.place + length l.rest ≡ length l.fn.bytes;
      fault : first_fault 0 (slice_split is_slash l.fn.bytes) ≡ first_fault l.place (slice_split is_slash l.rest);
    }

abbrev pub decreases-rest : goal.decreases-rest
decreases-rest l = length l.rest
