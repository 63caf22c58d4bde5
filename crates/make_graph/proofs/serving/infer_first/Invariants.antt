use Rattle.std.proofs.Common.{◌≡◌, ◌-◌, ◌<◌, drop, length}
use Rattle.make_grammar.specs.Serving.{first_inference}
use Rattle.make_graph.specs.Suffixes.{suffix_key, rule_at}
use Rattle.make_graph.proofs.serving.infer_first.Given as goal

abbrev pub invariant-loop-place : goal.invariant-loop-place
invariant-loop-place g l = record {
  serves : first_inference l.make (g.E.Exists.is_file l.files) l.path (drop l.place l.suffixes.rules.now)
      ≡ first_inference l.make (g.E.Exists.is_file l.files) l.path l.suffixes.rules.now;
  keyed : l.place < length l.suffixes.rules.now → suffix_key l.suffixes.by_suffix (rule_at l.suffixes.rules.now l.place).to
      ≡ suffix_key l.suffixes.by_suffix l.path;
}

abbrev pub decreases-loop-place : goal.decreases-loop-place
decreases-loop-place g l = length l.suffixes.rules.now - l.place
