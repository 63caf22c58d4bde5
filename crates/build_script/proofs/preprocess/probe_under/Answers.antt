use Rattle.std.proofs.Common.{◌≡◌, ℕ, Option, Some, None, List, sym, ap, ◌∙◌}
use Rattle.std.specs.List.{filter_map}
use Rattle.script_grammar.specs.Includes.{under}
use Rattle.build_script.proofs.preprocess.probe_under.Goals as goal

pub returns-clause-went : goal.returns-clause-went
returns-clause-went g c more =
    let here : under c.args.path.now c.args.directory.now ≡ Some c.in-Some.place = sym c.in_ok-place.ensures ∙ c.in-Some.is in
    rw here (c.probe.ensures.went (filter_map (under c.args.path.now) more))
