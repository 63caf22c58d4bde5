-- What the command of a row is answered, by what became of the row.
use Rattle.std.specs.Prelude.{ℕ, Option, List}
use Rattle.cc_names.specs.declared.occasions.Done.{Done}
use Rattle.cc_names.specs.declared.occasions.Done.TheVariants as dones
use Rattle.cc_names.specs.declared.replies.Reply.{Reply}
use Rattle.cc_names.specs.declared.replies.Reply.TheVariants as replies
use Rattle.base_core.specs.Story.Replying.{row_reply}
use Rattle.story_log.specs.declared.logs.Appended.{Appended}
use Rattle.story_log.specs.declared.logs.Appended.TheVariants as appends

-- what the command of a row that was to be committed is replied, where its version has this name, or it counts so many things
abbrev pub append_reply : Appended → Option (List ℕ) → Option ℕ → Reply
append_reply appends.Committed name count = row_reply name count
append_reply appends.Faulted name count = replies.DiskFault

-- what became of the command of that row
abbrev pub append_done : Appended → Done
append_done appends.Committed = dones.Committed
append_done appends.Faulted = dones.Faulted
