use Rattle.std.proofs.Common.{◌≡◌, flat_map, fold, drop}
use Rattle.make_text.specs.Gathering.{HasPut}
use Rattle.make_text.specs.Joining.{rules_of}
use Rattle.make_grammar.specs.Serving.{prerequisites_of}
use Rattle.make_grammar.specs.WordPaths.{with_path_once, each_once}
use Rattle.make_text.proofs.gathering.gather.Given as goal

abbrev pub invariant-loop-rule : goal.invariant-loop-rule
invariant-loop-rule l =
    record {
      goes : fold with_path_once l.gathered.paths.keys (flat_map prerequisites_of (rules_of l.lines (drop l.rule-index l.rules)))
          ≡ each_once (flat_map prerequisites_of (rules_of l.lines l.rules));
      put : HasPut l.lines l.gathered.marks.items l.gathered.paths.keys;
    }
