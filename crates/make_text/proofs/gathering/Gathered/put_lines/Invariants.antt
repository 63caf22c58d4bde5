use Rattle.std.proofs.Common.{◌≡◌, flat_map, fold, drop}
use Rattle.make_text.specs.Gathering.{prerequisites_at, HasPut}
use Rattle.make_grammar.specs.WordPaths.{with_path_once}
use Rattle.make_text.proofs.gathering.Gathered.put_lines.Given as goal

abbrev pub invariant-loop-number : goal.invariant-loop-number
invariant-loop-number l =
    record {
      goes : fold with_path_once l.self.paths.keys (flat_map (prerequisites_at l.lines) (drop l.number-index l.numbers))
          ≡ fold with_path_once l.fn.self.paths.keys (flat_map (prerequisites_at l.lines) l.numbers);
      put : HasPut l.lines l.self.marks.items l.self.paths.keys;
    }
