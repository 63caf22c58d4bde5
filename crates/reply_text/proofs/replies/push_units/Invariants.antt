use Rattle.std.proofs.Common.{◌≡◌, ◌++◌, length}
use Rattle.std.specs.List.{flat_map}
use Rattle.reply_text.specs.Replies.{unit_line}
use Rattle.reply_text.proofs.replies.push_units.Given as goal

abbrev pub invariant-loop-unit : goal.invariant-loop-unit
invariant-loop-unit l = l.initial.text.items ++ flat_map unit_line l.units ≡ l.text.items ++ flat_map unit_line l.rest

abbrev pub decreases-loop-unit : goal.decreases-loop-unit
decreases-loop-unit l = length l.rest
