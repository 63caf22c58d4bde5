use Rattle.std.proofs.lemmas.Result.{err_from_is_err_and}
use Rattle.build_script.specs.MadeOf.{made_of}
use Rattle.build_script.specs.Making.{form_of, output_by_parts}
use Rattle.script_grammar.specs.Run.{Done, with_output}
use Rattle.script_grammar.proofs.CarriedLemmas.{carried_then, carried_failed, carried_pure}
use Rattle.build_script.proofs.making.pour.Goals as goal

pub returns-in_err-text : goal.returns-in_err-text
returns-in_err-text g c =
    let p = err_from_is_err_and c.from_residual.result c.from_residual.ensures.1 in
    rw (p.1, p.2) (carried_failed (λ text. Done (with_output (output_by_parts c.args.making.path.now c.args.making.before)
    (form_of c.args.form c.args.path.now text) (made_of c.args.made.now))) _ c.in_err-text.ensures)

pub returns : goal.returns
returns g c =
    carried_then g.met.F.Files.transitive (λ text. Done (with_output (output_by_parts c.args.making.path.now c.args.making.before)
    (form_of c.args.form c.args.path.now text) (made_of c.args.made.now))) c.in_ok-text.ensures
    (carried_pure g.met.F.Files.reflexive (rw c.as_bytes.ensures at c.say_as.ensures))
