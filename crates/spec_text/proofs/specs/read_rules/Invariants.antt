use Rattle.std.proofs.Common.{◌≡◌, ◌+◌, ◌≤◌, length}
use Rattle.base_model.specs.ConfigSpecs.Specs.{rules_of}
use Rattle.spec_text.proofs.Rest.{rest_of}
use Rattle.spec_text.proofs.specs.read_rules.Given as goal

-- the rules are those so far and those of the lines that are left; each line took a byte
abbrev pub invariant-loop-bytes : goal.invariant-loop-bytes
invariant-loop-bytes l =
    (rules_of l.text ≡ rest_of l.reader l.lines (l.number + 1)) × (l.number + length l.lines ≤ length l.text)

abbrev pub decreases-loop-bytes : goal.decreases-loop-bytes
decreases-loop-bytes l = length l.lines
