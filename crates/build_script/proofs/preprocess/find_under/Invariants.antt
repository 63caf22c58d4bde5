use Rattle.std.proofs.Common.{Ok, ◌≤◌, drop}
use Rattle.std.specs.List.{filter_map}
use Rattle.script_grammar.specs.Includes.{under}
use Rattle.script_grammar.specs.Parts.{Performed, own_of}
use Rattle.script_grammar.specs.Run.{probe_of}
use Rattle.build_script.proofs.preprocess.find_under.Given as goal

abbrev pub invariant-loop-directory : goal.invariant-loop-directory
invariant-loop-directory g l = record {
  went : Performed g.F.Files.stands g.F.Files.broken g.F.Files.follows l.initial.reads.keys
      (probe_of (own_of l.making.written.now) l.path (filter_map (under l.path) l.directories) l.initial.probes)
      (λ (u : Unit {0}). probe_of (own_of l.making.written.now) l.path
      (filter_map (under l.path) (drop l.directory-index l.directories)) l.probes) (Ok tt) l.reads.keys l.initial.files
      l.files;
  counted : l.initial.probes ≤ l.probes;
}
