use Rattle.std.proofs.Common.{◌≡◌, ◌+◌, true, arith}
use Rattle.std.specs.Prelude.{nat_lt}
use Rattle.std.proofs.lemmas.Bool.{lt-ltb}
use Rattle.script_grammar.specs.Parts.{own_of}
use Rattle.script_grammar.specs.Run.{found_or, probe_of, probe_limit}
use Rattle.script_grammar.proofs.CarriedLemmas.{carried_as, seen_then, carried_lifted}
use Rattle.build_script.proofs.preprocess.probe.Goals as goal

pub returns-clause-went : goal.returns-clause-went
returns-clause-went g c more =
    let low : nat_lt c.args.probes.now probe_limit ≡ true = lt-ltb _ _ (omega arith) in
    let own = own_of c.args.making.written.now in
    rw low (carried_as (seen_then (own c.args.place.now) c.args.place.now
    (found_or (probe_of own c.args.include.now more (c.args.probes.now + 1)) (c.args.probes.now + 1)))
    (carried_lifted (found_or (probe_of own c.args.include.now more (c.args.probes.now + 1)) (c.args.probes.now + 1))
    c.see.ensures))
