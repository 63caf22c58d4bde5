use Rattle.std.proofs.Common.{◌≡◌, ◌++◌, take}
use Rattle.std.specs.List.{flat_map}
use Rattle.large_session.specs.LargeSession.{made_source}
use Rattle.large_session.proofs.sessions.push_made_sources.Given as goal

abbrev pub invariant-loop-file : goal.invariant-loop-file
invariant-loop-file l = l.text.items ≡ l.fn.text.items ++ flat_map made_source (take l.file-index l.files)
