use Rattle.std.proofs.Common.{◌+◌, ◌-◌, ◌++◌, ℕ, List, length, take, drop, sym, ap, ◌∙◌}
use Rattle.std.proofs.lemmas.Result.{err_from_is_err_and}
use Rattle.cc_names.proofs.Common.{rest_is_whole}
use Rattle.script_grammar.specs.Forms.{replaced_behind}
use Rattle.build_script.specs.MadeOf.{made_of}
use Rattle.build_script.specs.Making.{output_by_parts}
use Rattle.script_grammar.specs.Run.{with_output}
use Rattle.build_script.proofs.FormLemmas.{with_replaced-at, with_replaced-none}
use Rattle.build_script.proofs.SaidLemmas.{gave_prefix, gave_rest}
use Rattle.build_script.proofs.making.say_replaced.Goals as goal

pub returns-in_err-say : goal.returns-in_err-say
returns-in_err-say c =
    let p = err_from_is_err_and c.from_residual.result c.from_residual.ensures.1 in
    let output = output_by_parts c.args.making.path.now c.args.making.before in
    let rest = c.loop-place.rest.now in
    let after = c.args.to.now ++ replaced_behind c.args.from.now c.args.to.now 0
    (drop (c.in-Some.place + length c.args.from.now) rest) in
    let whole = c.loop-place.invariant.with_output ∙ ap (λ (l : List ℕ). with_output output l (made_of c.loop-place.made))
    (with_replaced-at c.args.from.now c.args.to.now rest c.in-Some.place c.loop-place.invariant.filled
    (rw c.new-finder.ensures at c.in-Some.ensures)) in
    rw (p.1, p.2) (gave_prefix {X = Unit {0}} {Y = Unit {0}} output (take c.in-Some.place rest) after (made_of c.loop-place.made)
    _ (λ u. made_of c.loop-place.made) (λ u. made_of c.loop-place.made) _ whole c.in_err-say.ensures)

pub returns-in_err-say-2 : goal.returns-in_err-say-2
returns-in_err-say-2 c =
    let p = err_from_is_err_and c.from_residual-in_err-say-2.result c.from_residual-in_err-say-2.ensures.1 in
    let output = output_by_parts c.args.making.path.now c.args.making.before in
    let rest = c.loop-place.rest.now in
    let more = replaced_behind c.args.from.now c.args.to.now 0 (drop (c.in-Some.place + length c.args.from.now) rest) in
    let whole = c.loop-place.invariant.with_output ∙ ap (λ (l : List ℕ). with_output output l (made_of c.loop-place.made))
    (with_replaced-at c.args.from.now c.args.to.now rest c.in-Some.place c.loop-place.invariant.filled
    (rw c.new-finder.ensures at c.in-Some.ensures)) in
    let then = gave_rest output (take c.in-Some.place rest) (c.args.to.now ++ more) (made_of c.loop-place.made)
    (made_of c.say-in-Some.new.made) _ whole c.in_ok-say.ensures in
    rw (p.1, p.2) (gave_prefix {X = Unit {0}} {Y = Unit {0}} output c.args.to.now more (made_of c.say-in-Some.new.made) _
    (λ u. made_of c.loop-place.made) (λ u. made_of c.loop-place.made) _ then c.in_err-say-2.ensures)

pub loop-place-preserved : goal.loop-place-preserved
loop-place-preserved c =
    let output = output_by_parts c.args.making.path.now c.args.making.before in
    let rest = c.loop-place.rest.now in
    let more = replaced_behind c.args.from.now c.args.to.now 0 (drop (c.in-Some.place + length c.args.from.now) rest) in
    let whole = c.loop-place.invariant.with_output ∙ ap (λ (l : List ℕ). with_output output l (made_of c.loop-place.made))
    (with_replaced-at c.args.from.now c.args.to.now rest c.in-Some.place c.loop-place.invariant.filled
    (rw c.new-finder.ensures at c.in-Some.ensures)) in
    let then = gave_rest output (take c.in-Some.place rest) (c.args.to.now ++ more) (made_of c.loop-place.made)
    (made_of c.say-in-Some.new.made) _ whole c.in_ok-say.ensures in
    record {
      with_output = gave_rest output c.args.to.now more (made_of c.say-in-Some.new.made) (made_of c.say-in-Some-2.new.made) _ then
          c.in_ok-say-2.ensures
          ∙ ap (λ (l : List ℕ). with_output output (replaced_behind c.args.from.now c.args.to.now 0 l)
          (made_of c.say-in-Some-2.new.made)) (sym (rest_is_whole (c.in-Some.place + length c.args.from.now) rest));
      filled = c.loop-place.invariant.filled;
    }

pub returns : goal.returns
returns c = rw (c.loop-place.invariant.with_output ∙ ap (λ (l : List ℕ). with_output
    (output_by_parts c.args.making.path.now c.args.making.before) l (made_of c.loop-place.made))
    (with_replaced-none c.args.from.now c.args.to.now c.loop-place.rest.now c.loop-place.invariant.filled
    (rw c.new-finder.ensures at c.in_default.ensures))) c.say-2.ensures
