use Rattle.std.proofs.Common.{◌≡◌, ℕ, List, [], ◌∷◌, ◌++◌, refl, sym, ap, ◌∙◌}
use Rattle.std.proofs.lemmas.Result.{err_from_is_err_and}
use Rattle.build_script.specs.MadeOf.{made_of}
use Rattle.build_script.specs.Making.{output_by_parts, preprocessing, resumed_making}
use Rattle.build_script.specs.OpenTexts.{rests_of}
use Rattle.script_grammar.specs.Parts.{gives, own_of}
use Rattle.script_grammar.specs.Run.{preprocessed_text, depth_limit}
use Rattle.script_grammar.proofs.CarriedLemmas.{carried_on, carried_as, carried_here, and_then-done, carried_ended}
use Rattle.build_script.proofs.IncludeLemmas.{rests_pushed}
use Rattle.build_script.proofs.preprocess.replace_includes.Goals as goal

pub loop-innermost-init : goal.loop-innermost-init
loop-innermost-init g c =
    let pp = preprocessing (own_of c.args.making.written.now) c.args.directories.now
    (output_by_parts c.args.making.path.now c.args.making.before) in
    let made = made_of c.args.made.now in
    let rests : rests_of c.put_back.new.inside.items ≡ c.args.text ∷ [] = c.in_ok-put_back.ensures.rests
    ∙ rw (c.of.ensures, c.new-inside.ensures.items) refl in
    carried_as (ap (λ (rests : List (List ℕ)). resumed_making pp rests made) rests
    ∙ and_then-done (preprocessed_text depth_limit pp c.args.text made))
    (carried_here g.met.F.Files.reflexive (λ (u : Unit {0}). resumed_making pp (rests_of c.put_back.new.inside.items)
    made) tt)

pub loop-innermost-preserved : goal.loop-innermost-preserved
loop-innermost-preserved g c =
    let pp = preprocessing (own_of c.args.making.written.now) c.args.directories.now
    (output_by_parts c.args.making.path.now c.args.making.before) in
    let cut : c.loop-innermost.inside.items ≡ c.pop.new.self.items ++ c.in-Some.innermost ∷ [] = c.in-Some.ensures.items in
    let rests = ap rests_of cut ∙ rests_pushed c.pop.new.self.items c.in-Some.innermost in
    carried_on g.met.F.Files.transitive c.loop-innermost.invariant
    (carried_as (ap (λ (rests : List (List ℕ)). resumed_making pp rests (made_of c.loop-innermost.made)) (sym rests))
    c.in_ok-step.ensures.went)

pub returns-in_err-step : goal.returns-in_err-step
returns-in_err-step g c =
    let p = err_from_is_err_and c.from_residual-in_err-step.result c.from_residual-in_err-step.ensures.1 in
    let pp = preprocessing (own_of c.args.making.written.now) c.args.directories.now
    (output_by_parts c.args.making.path.now c.args.making.before) in
    let cut : c.loop-innermost.inside.items ≡ c.pop.new.self.items ++ c.in-Some.innermost ∷ [] = c.in-Some.ensures.items in
    let rests = ap rests_of cut ∙ rests_pushed c.pop.new.self.items c.in-Some.innermost in
    rw (p.1, p.2) (carried_on g.met.F.Files.transitive c.loop-innermost.invariant
    (carried_ended (gives (λ (u : Unit {0}). made_of c.step.new.made))
    (carried_as (ap (λ (rests : List (List ℕ)). resumed_making pp rests (made_of c.loop-innermost.made)) (sym rests))
    c.in_err-step.ensures.went)))
