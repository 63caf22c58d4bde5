use Rattle.std.proofs.lemmas.Result.{err_from_is_err_and}
use Rattle.script_grammar.specs.Parts.{own_of, gives}
use Rattle.script_grammar.specs.Run.{Done, present}
use Rattle.script_grammar.proofs.CarriedLemmas.{carried_then, carried_failed, carried_as, carried_pure, seen_then}
use Rattle.build_script.proofs.making.needed_text.Goals as goal

pub returns-in_err-found : goal.returns-in_err-found
returns-in_err-found g c =
    let p = err_from_is_err_and c.from_residual.result c.from_residual.ensures.1 in
    rw (p.1, p.2) (carried_as (seen_then (own_of c.args.making.written.now c.args.path.now) c.args.path.now
    (λ found. Done (present c.args.path.now found)))
    (carried_failed (λ found. Done (present c.args.path.now found)) (gives (λ text. text)) c.in_err-found.ensures))

pub returns : goal.returns
returns g c =
    carried_as (seen_then (own_of c.args.making.written.now c.args.path.now) c.args.path.now
    (λ found. Done (present c.args.path.now found)))
    (carried_then g.met.F.Files.transitive (λ found. Done (present c.args.path.now found)) c.in_ok-found.ensures
    (carried_pure g.met.F.Files.reflexive c.present.ensures))
