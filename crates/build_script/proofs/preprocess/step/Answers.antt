use Rattle.std.proofs.Common.{◌≡◌, ◌+◌, ◌-◌, ℕ, suc, Some, None, List, ◌∷◌, length, sym, ap, ◌∙◌, arith}
use Rattle.std.proofs.lemmas.Result.{err_from_is_err_and}
use Rattle.script_grammar.specs.Includes.{include_of}
use Rattle.build_script.specs.MadeOf.{made_of}
use Rattle.build_script.specs.Making.{output_by_parts, resumed_making, includes, preprocessing, made_by_parts}
use Rattle.build_script.specs.OpenTexts.{rest_of, rests_of}
use Rattle.script_grammar.specs.Parts.{own_of}
use Rattle.script_grammar.specs.Run.{and_then, unless_fault, preprocessed_text, depth_limit}
use Rattle.script_grammar.proofs.CarriedLemmas.{carried_as, carried_here, carried_then, carried_failed, carried_given_up}
use Rattle.script_grammar.proofs.CarriedLemmas.{carried_unsaid}
use Rattle.build_script.proofs.IncludeLemmas.{lines_behind, rests_length, resumed_making-with_output}
use Rattle.build_script.proofs.IncludeLemmas.{resumed_making-unsaid, resumed_making-included_text}
use Rattle.build_script.proofs.preprocess.step.Goals as goal

pub returns-in_err-say-clause-went : goal.returns-in_err-say-clause-went
returns-in_err-say-clause-went g c =
    let p = err_from_is_err_and c.from_residual-in_err-say.result c.from_residual-in_err-say.ensures.1 in
    let pp = preprocessing (own_of c.args.making.written.now) c.args.directories.now
    (output_by_parts c.args.making.path.now c.args.making.before) in
    let made = made_of c.args.made.now in
    let lines = rw c.rest.ensures at c.in-Some.ensures.lines in
    let plain : include_of c.in-Some.line.now ≡ None = sym c.in_ok-path.ensures ∙ c.in_default-2.is in
    rw (p.1, p.2) (carried_unsaid g.met.F.Files.reflexive (λ (u : Unit {0}). made_of c.say.new.made) _
    (λ fault unsaid. resumed_making-unsaid pp (rest_of c.args.innermost) c.in-Some.line.now c.in-Some.field-0-1.now
    (rests_of c.args.inside.now.items) made fault lines plain unsaid)
    c.in_err-say.ensures)

pub returns-in_default-2-clause-went : goal.returns-in_default-2-clause-went
returns-in_default-2-clause-went g c =
    let pp = preprocessing (own_of c.args.making.written.now) c.args.directories.now
    (output_by_parts c.args.making.path.now c.args.making.before) in
    let below = rests_of c.args.inside.now.items in
    let made = made_of c.args.made.now in
    let after = made_of c.say.new.made in
    let lines = lines_behind _ _ _ _ (rw c.rest.ensures at c.in-Some.ensures.lines) (rw c.rest.ensures at c.in-Some.ensures.whole)
    c.past.ensures in
    let plain : include_of c.in-Some.line.now ≡ None = sym c.in_ok-path.ensures ∙ c.in_default-2.is in
    let goes = resumed_making-with_output pp (rest_of c.args.innermost) c.in-Some.line.now (rest_of c.past.result) below made
    after lines plain c.in_ok-say.ensures in
    carried_as (sym (goes ∙ ap (λ (rests : List (List ℕ)). resumed_making pp rests after) (sym c.in_ok-put_back.ensures.rests)))
    (carried_here g.met.F.Files.reflexive (λ (u : Unit {0}). resumed_making pp (rests_of c.put_back.new.inside.items)
    after) tt)

pub returns-in_err-text-clause-went : goal.returns-in_err-text-clause-went
returns-in_err-text-clause-went g c =
    let p = err_from_is_err_and c.from_residual-in_err-text.result c.from_residual-in_err-text.ensures.1 in
    let pp = preprocessing (own_of c.args.making.written.now) c.args.directories.now
    (output_by_parts c.args.making.path.now c.args.making.before) in
    let below = rests_of c.args.inside.now.items in
    let made = made_of c.args.made.now in
    let behind = c.in-Some.field-0-1.now in
    let lines = rw c.rest.ensures at c.in-Some.ensures.lines in
    let is : include_of c.in-Some.line.now ≡ Some c.in-Some-2.path = sym c.in_ok-path.ensures ∙ c.in-Some-2.is in
    let levels : c.len.result ≡ length below = omega (
      arith,
      c.len.ensures,
      c.args.inside.now.ok.0,
      rests_length c.args.inside.now.items,
    ) in
    let more = resumed_making pp (behind ∷ below) in
    let goes = resumed_making-included_text pp (rest_of c.args.innermost) c.in-Some.line.now behind c.in-Some-2.path below made
    lines is in
    rw (p.1, p.2) (carried_as (ap (λ (n : ℕ). and_then (includes (depth_limit - n) pp c.in-Some-2.path made) (unless_fault more))
    levels ∙ sym goes)
    (carried_failed more _ (c.in_err-text.ensures.went c.args.made.now.bytes.items)))

pub returns-in_err-enter-clause-went : goal.returns-in_err-enter-clause-went
returns-in_err-enter-clause-went g c =
    let p = err_from_is_err_and c.from_residual-in_err-enter.result c.from_residual-in_err-enter.ensures.1 in
    let pp = preprocessing (own_of c.args.making.written.now) c.args.directories.now
    (output_by_parts c.args.making.path.now c.args.making.before) in
    let below = rests_of c.args.inside.now.items in
    let made = made_of c.args.made.now in
    let behind = c.in-Some.field-0-1.now in
    let lines = rw c.rest.ensures at c.in-Some.ensures.lines in
    let is : include_of c.in-Some.line.now ≡ Some c.in-Some-2.path = sym c.in_ok-path.ensures ∙ c.in-Some-2.is in
    let levels : c.len.result ≡ length below = omega (
      arith,
      c.len.ensures,
      c.args.inside.now.ok.0,
      rests_length c.args.inside.now.items,
    ) in
    let more = resumed_making pp (behind ∷ below) in
    let goes = resumed_making-included_text pp (rest_of c.args.innermost) c.in-Some.line.now behind c.in-Some-2.path below made
    lines is in
    rw (p.1, p.2) (carried_as (ap (λ (n : ℕ). and_then (includes (depth_limit - n) pp c.in-Some-2.path made) (unless_fault more))
    levels ∙ sym goes)
    (carried_then g.met.F.Files.transitive more (c.in_ok-text.ensures.went c.args.made.now.bytes.items)
    (carried_given_up g.met.F.Files.reflexive)))

pub returns-clause-went : goal.returns-clause-went
returns-clause-went g c =
    let pp = preprocessing (own_of c.args.making.written.now) c.args.directories.now
    (output_by_parts c.args.making.path.now c.args.making.before) in
    let below = rests_of c.args.inside.now.items in
    let made = made_of c.args.made.now in
    let after = made_by_parts c.args.made.now.bytes.items c.include.new.probes in
    let past = rest_of c.past-2.result in
    let lines = lines_behind _ _ _ _ (rw c.rest.ensures at c.in-Some.ensures.lines) (rw c.rest.ensures at c.in-Some.ensures.whole)
    c.past-2.ensures in
    let is : include_of c.in-Some.line.now ≡ Some c.in-Some-2.path = sym c.in_ok-path.ensures ∙ c.in-Some-2.is in
    let levels : c.len.result ≡ length below = omega (
      arith,
      c.len.ensures,
      c.args.inside.now.ok.0,
      rests_length c.args.inside.now.items,
    ) in
    let deeper : suc (length below) ≡ c.len.result + 1 = omega (arith, levels) in
    let more = resumed_making pp (past ∷ below) in
    let goes = resumed_making-included_text pp (rest_of c.args.innermost) c.in-Some.line.now past c.in-Some-2.path below made
    lines is in
    let enters = ap (λ (rests : List (List ℕ)). resumed_making pp rests after) c.in_ok-enter.ensures.rests
    ∙ ap (λ (n : ℕ). and_then (preprocessed_text (depth_limit - n) pp c.in_ok-text.text after) (unless_fault more)) deeper in
    carried_as (ap (λ (n : ℕ). and_then (includes (depth_limit - n) pp c.in-Some-2.path made) (unless_fault more)) levels
    ∙ sym goes)
    (carried_then g.met.F.Files.transitive more (c.in_ok-text.ensures.went c.args.made.now.bytes.items)
    (carried_as enters (carried_here g.met.F.Files.reflexive (λ (u : Unit {0}). resumed_making pp
    (rests_of c.enter.new.inside.items) after) tt)))
