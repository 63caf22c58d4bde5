use Rattle.std.proofs.Common.{List, ℕ}
use Rattle.std.proofs.lemmas.Result.{err_from_is_err_and}
use Rattle.build_script.specs.MadeOf.{made_of}
use Rattle.build_script.specs.Making.{output_by_parts, preprocessing}
use Rattle.script_grammar.specs.Parts.{own_of}
use Rattle.script_grammar.specs.Run.{preprocessed_text, depth_limit}
use Rattle.script_grammar.proofs.CarriedLemmas.{carried_then, carried_failed}
use Rattle.build_script.proofs.preprocess.preprocess.Goals as goal

pub returns-in_err-text : goal.returns-in_err-text
returns-in_err-text g c =
    let p = err_from_is_err_and c.from_residual.result c.from_residual.ensures.1 in
    let pp = preprocessing (own_of c.args.making.written.now) c.args.directories.now
    (output_by_parts c.args.making.path.now c.args.making.before) in
    rw (p.1, p.2) (carried_failed (λ (text : List ℕ). preprocessed_text depth_limit pp text (made_of c.args.made.now)) _
    c.in_err-text.ensures)

pub returns : goal.returns
returns g c =
    let pp = preprocessing (own_of c.args.making.written.now) c.args.directories.now
    (output_by_parts c.args.making.path.now c.args.making.before) in
    carried_then g.met.F.Files.transitive (λ (text : List ℕ). preprocessed_text depth_limit pp text (made_of c.args.made.now))
    c.in_ok-text.ensures c.replace_includes.ensures
