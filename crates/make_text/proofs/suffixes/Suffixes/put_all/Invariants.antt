use Rattle.std.proofs.Common.{◌≡◌, true, fold, drop}
use Rattle.std.specs.List.{list_all}
use Rattle.make_grammar.specs.Statements.{is_suffix}
use Rattle.make_grammar.specs.WordPaths.{with_path_once}
use Rattle.make_text.proofs.suffixes.Suffixes.put_all.Given as goal

abbrev pub invariant-loop-suffix : goal.invariant-loop-suffix
invariant-loop-suffix l =
    record {
      puts : fold with_path_once l.self (drop l.suffix-index l.suffixes) ≡ fold with_path_once l.fn.self l.suffixes;
      all : list_all is_suffix (drop l.suffix-index l.suffixes) ≡ true;
    }
