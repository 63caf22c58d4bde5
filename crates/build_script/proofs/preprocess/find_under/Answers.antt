use Rattle.std.proofs.Common.{◌+◌, ℕ, List, drop, refl, sym, ap, arith}
use Rattle.std.specs.List.{filter_map}
use Rattle.std.proofs.lemmas.List.{drop_all}
use Rattle.std.proofs.lemmas.Result.{err_from_is_err_and}
use Rattle.script_grammar.specs.Includes.{under}
use Rattle.build_script.specs.Making.{found_with}
use Rattle.script_grammar.specs.Parts.{gives, own_of}
use Rattle.script_grammar.specs.Run.{probe_of}
use Rattle.script_grammar.proofs.CarriedLemmas.{carried_on, carried_as, carried_pure, carried_ended, carried_passed}
use Rattle.build_script.proofs.RunLemmas.{item_at}
use Rattle.build_script.proofs.preprocess.find_under.Goals as goal

pub returns-in_err-found-clause-went : goal.returns-in_err-found-clause-went
returns-in_err-found-clause-went g c =
    let p = err_from_is_err_and c.from_residual.result c.from_residual.ensures.1 in
    let cut = item_at c.args.directories.now c.loop-directory.directory-index c.directory-item.result c.directory-item.is
    c.loop-directory-test.true in
    let looks = λ (directories : List (List ℕ)). probe_of (own_of c.args.making.written.now) c.args.path.now
    (filter_map (under c.args.path.now) directories) c.loop-directory.probes in
    rw (p.1, p.2) (carried_on g.met.F.Files.transitive c.loop-directory.invariant.went
    (carried_ended (gives (found_with c.probe_under.new.probes))
    (carried_as (ap looks (sym cut)) (c.in_err-found.ensures.went (drop (c.loop-directory.directory-index + 1)
    c.args.directories.now)))))

pub returns-in-Some-clause-went : goal.returns-in-Some-clause-went
returns-in-Some-clause-went g c =
    let cut = item_at c.args.directories.now c.loop-directory.directory-index c.directory-item.result c.directory-item.is
    c.loop-directory-test.true in
    let looks = λ (directories : List (List ℕ)). probe_of (own_of c.args.making.written.now) c.args.path.now
    (filter_map (under c.args.path.now) directories) c.loop-directory.probes in
    let found = rw c.in-Some.is at (c.in_ok-found.ensures.went (drop (c.loop-directory.directory-index + 1)
    c.args.directories.now)) in
    carried_on g.met.F.Files.transitive c.loop-directory.invariant.went
    (carried_passed (gives (found_with c.probe_under.new.probes)) c.in-Some.text refl (carried_as (ap looks (sym cut)) found))

pub loop-directory-preserved : goal.loop-directory-preserved
loop-directory-preserved g c =
    let cut = item_at c.args.directories.now c.loop-directory.directory-index c.directory-item.result c.directory-item.is
    c.loop-directory-test.true in
    let own = own_of c.args.making.written.now in
    let looks = λ (directories : List (List ℕ)). probe_of own c.args.path.now (filter_map (under c.args.path.now) directories)
    c.loop-directory.probes in
    let behind = drop (c.loop-directory.directory-index + 1) c.args.directories.now in
    let missed = rw c.in_default.is at (c.in_ok-found.ensures.went behind) in
    record {
      went = carried_on g.met.F.Files.transitive c.loop-directory.invariant.went
          (carried_passed (λ (u : Unit {0}). probe_of own c.args.path.now (filter_map (under c.args.path.now) behind)
          c.probe_under.new.probes) tt refl (carried_as (ap looks (sym cut)) missed));
      counted = omega (arith, c.loop-directory.invariant.counted, c.in_ok-found.ensures.counted);
    }

pub returns-clause-went : goal.returns-clause-went
returns-clause-went g c =
    let looks = λ (directories : List (List ℕ)). probe_of (own_of c.args.making.written.now) c.args.path.now
    (filter_map (under c.args.path.now) directories) c.loop-directory.probes in
    let none = drop_all c.loop-directory.directory-index c.args.directories.now c.loop-directory-test.false in
    carried_on g.met.F.Files.transitive c.loop-directory.invariant.went
    (carried_as (ap looks (sym none)) (carried_pure g.met.F.Files.reflexive
    (c.absent.ensures c.loop-directory.probes)))
