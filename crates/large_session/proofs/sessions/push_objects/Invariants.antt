use Rattle.std.proofs.Common.{◌≡◌, ◌++◌, take}
use Rattle.std.specs.List.{flat_map}
use Rattle.large_session.specs.LargeSession.{wanted_name}
use Rattle.large_session.proofs.sessions.push_objects.Given as goal

abbrev pub invariant-loop-file : goal.invariant-loop-file
invariant-loop-file l = l.text.items ≡ l.fn.text.items ++ flat_map wanted_name (take l.file-index l.files)
