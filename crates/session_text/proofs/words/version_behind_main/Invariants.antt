use Rattle.std.proofs.Common.{◌≡◌, [], length}
use Rattle.std.specs.List.{slice_split}
use Rattle.cc_names.specs.Paths.{is_slash}
use Rattle.session_text.specs.Words.{version_behind_main}
use Rattle.session_text.proofs.words.version_behind_main.Given as goal

abbrev pub invariant-branches : goal.invariant-branches
invariant-branches l =
    version_behind_main (slice_split is_slash l.fn.bytes) [] ≡ version_behind_main (slice_split is_slash l.rest) l.branches.items

abbrev pub decreases-branches : goal.decreases-branches
decreases-branches l = length l.rest
