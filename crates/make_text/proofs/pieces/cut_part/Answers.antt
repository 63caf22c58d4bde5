use Rattle.std.proofs.Common.{◌≡◌, Some, ◌∙◌, sym, ap, arith, length-drop}
use Rattle.std.proofs.lemmas.List.{take_rest}
use Rattle.std.specs.List.{position}
use Rattle.make_grammar.specs.Lines.{is_dollar}
use Rattle.make_text.proofs.PieceLemmas.{plain_all, plain_to, dollar_first}
use Rattle.make_text.proofs.pieces.cut_part.Goals as goal

pub returns-in-None : goal.returns-in-None
returns-in-None c = record { pieces = plain_all c.args.text.now (sym c.in-None.ensures.place); shorter = c.requires }

pub returns-in-Some-eq0 : goal.returns-in-Some-eq0
returns-in-Some-eq0 c =
    let text = c.args.text.now in
    let rest = take_rest text 1 in
    let cut = rw rest at c.cut_reference.ensures in
    let at : position is_dollar text ≡ Some 0 = sym c.in-Some-eq0.ensures.place ∙ ap Some c.in-Some-eq0.field-0-test in
    record { pieces = dollar_first text at ∙ cut.pieces; shorter = omega (arith, length-drop 1 text, cut.shorter, c.requires) }

pub returns-in-Some : goal.returns-in-Some
returns-in-Some c =
    let text = c.args.text.now in
    let rest = take_rest text c.in-Some.end in
    record {
      pieces = rw rest (plain_to text c.in-Some.end (sym c.in-Some.ensures.place));
      shorter = rw rest (omega (arith, length-drop c.in-Some.end text, c.in-Some.ensures.within, c.in-Some.end-test.1));
    }
