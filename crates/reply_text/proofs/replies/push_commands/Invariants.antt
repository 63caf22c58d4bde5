use Rattle.std.proofs.Common.{◌≡◌, ◌≤◌, ◌+◌, ◌++◌, length}
use Rattle.reply_text.specs.Replies.{lines_from}
use Rattle.reply_text.proofs.replies.push_commands.Given as goal

abbrev pub invariant-loop-word : goal.invariant-loop-word
invariant-loop-word l = record {
  lines : l.initial.text.items ++ lines_from l.phase 1 l.words l.replies ≡ l.text.items
      ++ lines_from l.phase l.number l.left l.answers;
  within : l.number + length l.left ≤ length l.words + 1;
}

abbrev pub decreases-loop-word : goal.decreases-loop-word
decreases-loop-word l = length l.left
