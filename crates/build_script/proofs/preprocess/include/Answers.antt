use Rattle.std.proofs.Common.{◌≡◌, ◌+◌, ◌-◌, suc, arith}
use Rattle.build_script.specs.Making.{output_by_parts, preprocessing, made_by_parts}
use Rattle.script_grammar.specs.Parts.{own_of}
use Rattle.script_grammar.specs.Run.{Found, preprocessed_text, depth_limit}
use Rattle.script_grammar.proofs.CarriedLemmas.{carried_lifted}
use Rattle.build_script.proofs.preprocess.include.Goals as goal

pub returns-clause-went : goal.returns-clause-went
returns-clause-went g c bytes =
    let levels : depth_limit - c.args.inside ≡ suc (depth_limit - (c.args.inside + 1)) = omega arith in
    let pp = preprocessing (own_of c.args.making.written.now) c.args.directories.now
    (output_by_parts c.args.making.path.now c.args.making.before) in
    rw levels (carried_lifted (λ (found : Found). preprocessed_text (depth_limit - (c.args.inside + 1)) pp found.text
    (made_by_parts bytes found.probes)) c.find_included.ensures.went)
