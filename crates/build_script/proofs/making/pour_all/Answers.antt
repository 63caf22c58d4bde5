use Rattle.std.proofs.Common.{◌+◌, ℕ, List, map, drop, ap}
use Rattle.std.proofs.lemmas.Result.{err_from_is_err_and}
use Rattle.build_script.specs.MadeOf.{made_of}
use Rattle.build_script.specs.Making.{form_of, output_by_parts}
use Rattle.script_grammar.specs.Parts.{own_of}
use Rattle.script_grammar.specs.Run.{TextOf, with_parts}
use Rattle.script_grammar.proofs.CarriedLemmas.{carried_step, carried_halt}
use Rattle.build_script.proofs.RunLemmas.{item_at}
use Rattle.build_script.proofs.making.pour_all.Goals as goal

pub returns-in_err-pour : goal.returns-in_err-pour
returns-in_err-pour g c =
    let p = err_from_is_err_and c.from_residual.result c.from_residual.ensures.1 in
    let put = λ (paths : List (List ℕ)). map (λ (path : List ℕ). TextOf (form_of c.args.form path) path) paths in
    let parts = λ (paths : List (List ℕ)). with_parts (own_of c.args.making.written.now)
    (output_by_parts c.args.making.path.now c.args.making.before) (put paths) in
    let cut = item_at c.args.paths.now c.loop-path.path-index c.path-item.result c.path-item.is c.loop-path-test.true in
    rw (p.1, p.2) (carried_halt g.met.F.Files.transitive (parts (drop (c.loop-path.path-index + 1) c.args.paths.now)) _
    c.loop-path.invariant
    (ap (λ (paths : List (List ℕ)). parts paths (made_of c.loop-path.made)) cut) c.in_err-pour.ensures)

pub loop-path-preserved : goal.loop-path-preserved
loop-path-preserved g c =
    let put = λ (paths : List (List ℕ)). map (λ (path : List ℕ). TextOf (form_of c.args.form path) path) paths in
    let parts = λ (paths : List (List ℕ)). with_parts (own_of c.args.making.written.now)
    (output_by_parts c.args.making.path.now c.args.making.before) (put paths) in
    let cut = item_at c.args.paths.now c.loop-path.path-index c.path-item.result c.path-item.is c.loop-path-test.true in
    carried_step g.met.F.Files.transitive (parts (drop (c.loop-path.path-index + 1) c.args.paths.now)) c.loop-path.invariant
    (ap (λ (paths : List (List ℕ)). parts paths (made_of c.loop-path.made)) cut) c.in_ok-pour.ensures
